-- Read part (READPART-1 to READPART-7): its refusals in order,
-- what it answers, and what it leaves in the three lent tables.
use Rattle.std.specs.Prelude.{ℕ, Bool, not, ◌&&◌, List, [], ◌∷◌, leb, length, ℤ, pos, Result}
use Rattle.mesh.specs.Operation.{Answer, Finding, Condition, whole, after, Operation, Does}
use Rattle.mesh.specs.Refusals.{Told, refusal, numbered, tell}
use Rattle.mesh.specs.declared.Refusal.{Refusal}
use Rattle.file_formats.specs.PartFile.{Part, mesh_counts, part_of}
use Rattle.file_formats.specs.WholeFiles.{form, held_or}
use Rattle.read_part.specs.declared.PartCounts.{PartCounts}

-- ---- three tables, as a part has them

-- the three as a record
abbrev pub part : List ℤ → List ℕ → List ℤ → Part
part coords corners heights = record { coords = coords; corners = corners; heights = heights }

-- how many entries each has
pub record PartSizes : Type 0 where
  pub coords : ℕ
  pub corners : ℕ
  pub heights : ℕ

-- the three lengths as a record
abbrev pub part_sizes : ℕ → ℕ → ℕ → PartSizes
part_sizes coords corners heights = record { coords = coords; corners = corners; heights = heights }

-- those of three tables
abbrev pub part_sizes_of : Part → PartSizes
part_sizes_of p = part_sizes (length p.coords) (length p.corners) (length p.heights)

-- ---- 9

-- tables of t entries have room for n
unfoldable pub read_part_room_for : PartSizes → PartSizes → Bool
read_part_room_for n t = leb n.coords t.coords && leb n.corners t.corners && leb n.heights t.heights

-- 9: a table has fewer entries than the file has numbers for it, that is three
-- for each vertex or triangle and one for each height, place 0 (READPART-6)
abbrev pub no_part_room : Part → PartSizes → Condition Told
no_part_room p t = whole (refusal 9) (not (read_part_room_for (part_sizes_of p) t))

-- ---- Read part as a whole

-- the part in a file; where the bytes are no part file an empty one, which decides nothing, as 13 comes first
abbrev pub part_in : List ℕ → Part
part_in file = held_or (part [] [] []) (part_of file)

-- its refusals in order, for tables of so many entries (READPART-4); 13 is of form alone (READPART-5)
abbrev pub part_tests : List ℕ → PartSizes → List (Condition Told)
part_tests file t = form file (part_of file) ∷ no_part_room (part_in file) t ∷ []

-- the counts of vertices, triangles and heights (READPART-2)
abbrev pub part_counts : Part → ℕ × ℕ × ℕ
part_counts p = ((mesh_counts p).0, (mesh_counts p).1, length p.heights)

-- the part in the first entries of the tables (READPART-1), unused entries
-- as before (READPART-3); after a refusal all as before (READPART-7)
abbrev pub fills_part : Part → Part → Finding Told → Part
fills_part p t f =
    part
    (after (numbered []) f p.coords 0 (pos 0) t.coords)
    (after (numbered []) f p.corners 0 0 t.corners)
    (after (numbered []) f p.heights 0 (pos 0) t.heights)

-- Read part of a file and three tables
abbrev pub part_reading : List ℕ × Part → Operation Told (ℕ × ℕ × ℕ) Part
part_reading = λ (file, t). record {
  refusals = part_tests file (part_sizes_of t);
  values = part_counts (part_in file);
  leaves = fills_part (part_in file) t;
}

-- what its answer says
abbrev pub tell_read_part : Result PartCounts Refusal → Answer Told (ℕ × ℕ × ℕ)
tell_read_part = tell (λ c. (c.vertices, c.triangles, c.heights))

-- the contract of Read part
abbrev pub ReadsPart : List ℕ → Part → Result PartCounts Refusal → Part → Type 0
ReadsPart file t result t' = Does part_reading tell_read_part (file, t) result t'
