-- Where the tables of a part file stand, and what its two passes ask and answer.
use Rattle.std.specs.Prelude.{ℕ, ◌*◌, ◌≤◌, ◌≡◌, List, [], length, drop, Result, Ok, Err}
use Rattle.file_formats.specs.Formats.{Parse, parsed, refused, Format, holds, broken}
use Rattle.file_formats.specs.PartFile.{Part, signed_run, plain_run, counts_format, part_of}
use Rattle.file_formats.specs.declared.Broken.{Broken}
use Rattle.read_part.specs.declared.unchecked.FileRun.{FileRun}
use Rattle.read_part.specs.declared.unchecked.Layout.{Layout}

-- ---- runs

-- the values that were parsed; it is asked of runs that stand in the file (`TablesStand`), so the empty list decides nothing
abbrev pub values : {A : Type 0} → Parse (List A) → List A
values (parsed xs rest) = xs
values (refused rest) = []

-- the values of a run
unfoldable pub values_of : {A : Type 0} → (ℕ → Format (List A)) → List ℕ → FileRun → List A
values_of F file run = values ((F run.count).parse (drop run.at file))

-- a run is as it should be
pub record TablesStand {A : Type 0} (F : ℕ → Format (List A)) (file : List ℕ) (run : FileRun) : Type 0 where
  pub rest : List ℕ
  pub parses : (F run.count).parse (drop run.at file) ≡ parsed (values_of F file run) rest

-- and a table has room for it
pub record FitsTable {A : Type 0} (F : ℕ → Format (List A)) (file : List ℕ) (run : FileRun) (table : List A) : Type 0 where
  pub stands : TablesStand F file run
  pub room : run.count ≤ length table

-- ---- the first pass

-- the counts were read, and the coordinates start at a position
pub record CountsStand (file : List ℕ) (coords corners at : ℕ) : Type 0 where
  pub vertices : ℕ
  pub triangles : ℕ
  pub coords_are : coords ≡ 3 * vertices
  pub corners_are : corners ≡ 3 * triangles
  pub inside : at ≤ length file
  pub parses : counts_format.parse file ≡ parsed (vertices, triangles) (drop at file)

-- coordinates and corners were passed, and the heights start at a position
pub record Tabled (file : List ℕ) (coords corners : FileRun) (at : ℕ) : Type 0 where
  pub counted : CountsStand file coords.count corners.count coords.at
  pub coords_parse : (signed_run coords.count).parse (drop coords.at file) ≡ parsed (values_of signed_run file coords) (drop corners.at file)
  pub corners_parse : (plain_run corners.count).parse (drop corners.at file) ≡ parsed (values_of plain_run file corners) (drop at file)
  pub inside : at ≤ length file

-- the part whose tables stand so
abbrev pub part_at : List ℕ → Layout → Part
part_at file l = record
    { coords = values_of signed_run file l.coords; corners = values_of plain_run file l.corners; heights = values_of signed_run file l.heights }

-- the whole file was passed
pub record Laid (file : List ℕ) (l : Layout) : Type 0 where
  pub coords_stand : TablesStand signed_run file l.coords
  pub corners_stand : TablesStand plain_run file l.corners
  pub heights_stand : TablesStand signed_run file l.heights
  pub is : part_of file ≡ holds (part_at file l)

-- what the first pass answers
unfoldable pub Finds : List ℕ → Result Layout Broken → Type 0
Finds file (Ok l) = Laid file l
Finds file (Err b) = part_of file ≡ broken b.at
