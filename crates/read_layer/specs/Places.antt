-- Where a layer stands in a file, and what filling the tables from there needs and does.
use Rattle.std.specs.Prelude.{ℕ, ◌+◌, ◌*◌, ◌-◌, ◌<◌, ◌≤◌, ◌≡◌, List, [], length, drop, ℤ, Result, Ok, Err, Option, Some, None}
use Rattle.std.proofs.lemmas.List.Edits.{sets}
use Rattle.mesh.specs.Operation.{refuses, fine, verdict}
use Rattle.mesh.specs.Refusals.{told_of}
use Rattle.mesh.specs.declared.Refusal.{Refusal}
use Rattle.mesh.specs.declared.Refusal.TheVariants.{File, Unclean}
use Rattle.cleaning.specs.declared.Profile.{Profile}
use Rattle.cleaning.specs.declared.Profile.TheVariants.{Full, Clean}
use Rattle.polygons.specs.Flat.{FlatLayer, numbers_of, holding}
use Rattle.file_formats.specs.Formats.{Parse, parsed, refused, sequence}
use Rattle.file_formats.specs.Numbers.{Word}
use Rattle.file_formats.specs.LayerFile.{Point, Layer, point_format, origin, latest, contour_list, layer_format_in, height_of}
use Rattle.file_formats.specs.LayerRules.{point_total}
use Rattle.file_formats.specs.Positions.{breaks_at, extent_at, ParsedAt}
use Rattle.file_formats.specs.declared.Broken.{Broken}
use Rattle.file_check.specs.Answers.{told_at, final}
use Rattle.read_layer.specs.Reading.{layers_in, layer_at, Entries, reading_tests}
use Rattle.read_layer.specs.declared.LayerPlace.{LayerPlace}

-- a place is that of a layer
pub record LayerStands (file : List ℕ) (l : Layer) (p : LayerPlace) : Type 0 where
  pub height : p.height ≡ l.height
  pub word : Word l.height
  pub contours : p.contours ≡ length l.contours
  pub points : p.points ≡ point_total l.contours
  pub inside : p.at ≤ length file
  pub next : ℕ
  pub stands : ParsedAt contour_list file p.at l.contours next

-- the last n layers of a file of the profile, from a position on, the first of which lies above low
abbrev pub last_layers : Profile → ℕ → ℤ → List ℕ → ℕ → Parse (List Layer)
last_layers p n low file at = (final (sequence (layer_format_in p) height_of n low)).parse (drop at file)

-- what a search for layer i answers, where the layers of the file are parsed so
abbrev pub Searched : List ℕ → ℕ → Parse (List Layer) → Result (Option LayerPlace) Broken → Type 0
Searched file i (refused r) s = s ≡ Err (breaks_at (length file - length r))
Searched file i (parsed ls r) (Ok (Some p)) = (i < length ls) × LayerStands file (layer_at ls i) p
Searched file i (parsed ls r) (Ok None) = length ls ≤ i
Searched file i (parsed ls r) (Err b) = ⊥

-- what is refused of a file that breaks at e in a profile, where its layers are parsed so in the full one: 13, or 18 if they are layers there
abbrev pub broken_told : Profile → List ℕ → Parse (List Layer) → ℕ → Refusal
broken_told Full file d e = File e
broken_told Clean file (refused r) e = File (length file - length r)
broken_told Clean file (parsed ls r) e = Unclean e

-- the layer that is to be read, for tables of so many entries
pub record Ready (p : Profile) (file : List ℕ) (i : ℕ) (n : Entries) (count : ℕ) (l : LayerPlace) : Type 0 where
  pub passed : verdict (reading_tests p file i n) ≡ fine
  pub counted : count ≡ length (layers_in file)
  pub place : LayerStands file (layer_at (layers_in file) i) l
  pub points_long : 2 * point_total (layer_at (layers_in file) i).contours ≤ n.points
  pub ends_long : length (layer_at (layers_in file) i).contours ≤ n.ends

-- what the tests of a call answer
abbrev pub Located : Profile → List ℕ → ℕ → Entries → Result (ℕ × LayerPlace) Refusal → Type 0
Located p file i n (Ok found) = Ready p file i n found.0 found.1
Located p file i n (Err r) = verdict (reading_tests p file i n) ≡ refuses (told_of r)

-- ---- filling

-- n points from a position on; they stand there wherever it is asked (`FillPoints`), so the empty list decides nothing
abbrev pub points_from : ℕ → List ℕ → ℕ → List Point
points_from n = told_at (λ ps next. ps) (λ q. []) (sequence point_format latest n origin)

-- the contours of a layer from a position on, likewise (`FillLayer`)
abbrev pub contours_from : List ℕ → ℕ → List (List Point)
contours_from = told_at (λ cs next. cs) (λ q. []) contour_list

-- n points stand there, and the table has room for them from an entry on
pub record FillPoints (file : List ℕ) (at n : ℕ) (points : List ℤ) (from : ℕ) : Type 0 where
  pub inside : at ≤ length file
  pub ps : List Point
  pub next : ℕ
  pub stands : ParsedAt (sequence point_format latest n origin) file at ps next
  pub room : from + 2 * n ≤ length points

-- they were written, and stand up to r
pub record FilledPoints (file : List ℕ) (at n : ℕ) (points : List ℤ) (from r : ℕ) (points' : List ℤ) : Type 0 where
  pub next : Ok r ≡ extent_at (sequence point_format latest n origin) file at
  pub table : points' ≡ sets points from (numbers_of (points_from n file at))

-- contours stand there, and the tables have room for them
pub record FillLayer (file : List ℕ) (at : ℕ) (t : FlatLayer) : Type 0 where
  pub inside : at ≤ length file
  pub cs : List (List Point)
  pub next : ℕ
  pub stands : ParsedAt contour_list file at cs next
  pub points_long : 2 * point_total cs ≤ length t.points
  pub ends_long : length cs ≤ length t.ends

-- they were written
abbrev pub filled_layer : List ℕ → ℕ → FlatLayer → FlatLayer
filled_layer file at = holding (contours_from file at)
