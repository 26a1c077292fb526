-- What the steps of the listing program ask of their tables, and what they find of a part and of its file.
use Rattle.std.specs.Prelude.{ℕ, ◌*◌, ◌≤◌, ◌≡◌, cond, List, [], ◌∷◌, eqb, length, take, Result, Ok, Err}
use Rattle.laws.specs.Tables.{overwrite}
use Rattle.mesh.specs.Operation.{Finding, refuses, fine, verdict, Operation, answer_of}
use Rattle.mesh.specs.Refusals.{Told, refusal, told_of}
use Rattle.mesh.specs.declared.Refusal.{Refusal}
use Rattle.check_pairing.specs.Partners.{pairing_of}
use Rattle.cut.specs.Cut.{Lengths}
use Rattle.cut.specs.Outlines.{Long}
use Rattle.file_formats.specs.PartFile.{Part, part_of}
use Rattle.file_formats.specs.WholeFiles.{form}
use Rattle.read_part.specs.Parts.{part, PartSizes, part_sizes, part_in}
use Rattle.read_part.specs.declared.PartCounts.{PartCounts}
use Rattle.list_lines.specs.Limits.{held_entries}
use Rattle.list_lines.specs.Lines.{listing}
use Rattle.list_part.specs.Listing.{paired_part, long_input, part_refusals, refusals_of, bytes_of}

-- ---- the program's tables

-- the entries of those that a part is read into
abbrev pub held_sizes : PartSizes
held_sizes = part_sizes held_entries held_entries held_entries

-- those of Check have so many, and those of Cut have room for so many corners
pub record ListingTables (pairing order : ℕ) (l : Lengths) : Type 0 where
  pub pairing_size : pairing ≡ held_entries
  pub order_size : order ≡ held_entries
  pub long : Long held_entries l

-- ---- a part

-- what the tests of a part find, and the pairing where they find nothing
pub record PartTested (p : Part) (pairing : List ℕ) (f : Finding Told) (pairing' : List ℕ) : Type 0 where
  pub is : f ≡ verdict (part_refusals p)
  pub pairs : f ≡ fine → pairing' ≡ overwrite (pairing_of p.corners) pairing

-- the program where the file's refusals are passed
abbrev pub listing_part : Part → Operation Told (List ℕ) Unit
listing_part p = record { refusals = part_refusals p; values = listing (paired_part p) p.heights; leaves = λ f. tt }

-- what is written of a part
unfoldable pub part_listed : Part → List ℕ
part_listed p = bytes_of (answer_of (listing_part p))

-- ---- a part that was read

-- v vertices, t triangles and k heights in front of three tables
abbrev pub front_of : ℕ → ℕ → ℕ → Part → Part
front_of v t k p = part (take (3 * v) p.coords) (take (3 * t) p.corners) (take k p.heights)

-- the file's refusals are passed, and this is its part
pub record PartRead (input : List ℕ) (v t k : ℕ) (tables : Part) : Type 0 where
  pub opens : verdict (long_input input ∷ form input (part_of input) ∷ []) ≡ fine
  pub coords_there : 3 * v ≤ length tables.coords
  pub corners_there : 3 * t ≤ length tables.corners
  pub heights_there : k ≤ length tables.heights
  pub is : front_of v t k tables ≡ part_in input

-- a table of Read part that is too short means that a part is beyond the limits: for 9 it is 1 that is answered
unfoldable pub limited : Told → Told
limited r = cond (eqb r.number 9) (refusal 1 0) r

-- what reading answers
unfoldable pub Takes : List ℕ → Result PartCounts Refusal → Part → Type 0
Takes input (Ok c) tables = PartRead input c.vertices c.triangles c.heights tables
Takes input (Err r) tables = verdict (refusals_of input) ≡ refuses (told_of r)
