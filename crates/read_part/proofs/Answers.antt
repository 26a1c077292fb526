-- Read part put together: its answer and the three tables at each return.
use Prim.Native.Nat.{ℕ, ◌/◌, ◌≤◌}
use mathlib.Core.Path.{◌≡◌, refl, sym, ap, ◌∙◌, subst}
use mathlib.Core.Bool.{Bool, true, false}
use mathlib.Core.List.{List}
use Rattle.std.specs.Prelude.{Result, Ok, Err}
use native.Mathlib.Omega.{arith}
use lib.ListN.{length, drop}
use lib.IntN.{ℤ}
use Rattle.laws.specs.Tables.{overwrite}
use Rattle.mesh.specs.Operation.{gives, fine}
use Rattle.mesh.specs.OperationLaws.{does_refuse, does_give}
use Rattle.mesh.specs.Refusals.{refusal}
use Rattle.mesh.specs.declared.Refusal.{Refusal}
use Rattle.mesh.specs.declared.Refusal.TheVariants.{Room, File}
use Rattle.file_formats.specs.Formats.{alike, stay, broken}
use Rattle.file_formats.specs.Numbers.{largest_word, number, signed}
use Rattle.file_formats.specs.PartFile.{Part, signed_run, plain_run, part_of}
use Rattle.file_formats.specs.SequenceLaws.{parsed_length}
use Rattle.file_formats.specs.declared.Broken.{Broken}
use Rattle.read_part.specs.declared.unchecked.FileRun.{FileRun}
use Rattle.read_part.specs.declared.unchecked.Layout.{Layout}
use Rattle.read_part.specs.declared.PartCounts.{PartCounts}
use Rattle.read_part.specs.Layouts.{values_of, TablesStand, FitsTable, part_at, Laid, Finds}
use Rattle.read_part.specs.Parts.{part, PartSizes, part_sizes, part_sizes_of, read_part_room_for, part_in, part_counts, fills_part, tell_read_part, ReadsPart}
use Rattle.read_part.proofs.PartLaws.{room_parts, held_part, broken_verdict, short_verdict, fine_verdict, fills_fine, refused_keeps}

-- ---- the tables have the part_sizes that were counted

module _ {file : List ℕ} {run : FileRun} where
  signed_size : TablesStand signed_run file run → length (values_of signed_run file run) ≡ run.count
  unfolding signed_run
  signed_size s = parsed_length (alike (signed largest_word)) stay run.count tt (drop run.at file) (values_of signed_run file run) s.rest s.parses

  plain_size : TablesStand plain_run file run → length (values_of plain_run file run) ≡ run.count
  unfolding plain_run
  plain_size s = parsed_length (alike (number largest_word)) stay run.count tt (drop run.at file) (values_of plain_run file run) s.rest s.parses

-- ---- what the first pass found

module _ (file : List ℕ) {f : Result Layout Broken} (s : Finds file f) where
  pub found_whole : {l : Layout} → f ≡ Ok l → Laid file l
  unfolding Finds
  found_whole e = subst (Finds file) e s

  pub found_broken : {b : Broken} → f ≡ Err b → part_of file ≡ broken b.at
  unfolding Finds
  found_broken e = subst (Finds file) e s

-- ---- room for the part is room for each of its tables

-- what was counted
abbrev pub counted_sizes : Layout → PartSizes
counted_sizes l = part_sizes l.coords.count l.corners.count l.heights.count

module _ {file : List ℕ} {l : Layout} (k : Laid file l) (t : PartSizes) {fits : Bool}
    (r : fits ≡ read_part_room_for (counted_sizes l) t) (e : fits ≡ true) where
  room : (l.coords.count ≤ t.coords) × (l.corners.count ≤ t.corners) × (l.heights.count ≤ t.heights)
  room = room_parts (counted_sizes l) t (sym r ∙ e)

  pub coords_fit : (table : List ℤ) → t.coords ≡ length table → FitsTable signed_run file l.coords table
  coords_fit table h = record { stands = k.coords_stand; room = omega (arith, room.0) }

  pub corners_fit : (table : List ℕ) → t.corners ≡ length table → FitsTable plain_run file l.corners table
  corners_fit table h = record { stands = k.corners_stand; room = omega (arith, room.1) }

  pub heights_fit : (table : List ℤ) → t.heights ≡ length table → FitsTable signed_run file l.heights table
  heights_fit table h = record { stands = k.heights_stand; room = omega (arith, room.2) }

-- ---- the three returns

-- what was counted is what the part has
module _ {file : List ℕ} {l : Layout} (k : Laid file l) where
  same_sizes : part_sizes_of (part_at file l) ≡ counted_sizes l
  same_sizes = λ i. part_sizes (signed_size k.coords_stand i) (plain_size k.corners_stand i) (signed_size k.heights_stand i)

  same_room : (t : PartSizes) {fits : Bool} → fits ≡ read_part_room_for (counted_sizes l) t → read_part_room_for (part_sizes_of (part_at file l)) t ≡ fits
  same_room t r = ap (λ (n : PartSizes). read_part_room_for n t) same_sizes ∙ sym r

module _ {file : List ℕ} {t : Part} where
  pub reads_broken : {place : ℕ} → part_of file ≡ broken place → {met : Result PartCounts Refusal} → met ≡ Err (File place) → ReadsPart file t met t
  reads_broken {place} e is =
      does_refuse refl (broken_verdict file (part_sizes_of t) e) (ap tell_read_part is) (refused_keeps (part_in file) t (refusal 13 place))

  module _ {l : Layout} (k : Laid file l) {fits : Bool} (r : fits ≡ read_part_room_for (counted_sizes l) (part_sizes_of t)) where
    pub reads_short : fits ≡ false → ReadsPart file t (Err (Room 0)) t
    reads_short f =
        does_refuse refl (short_verdict file (part_sizes_of t) k.is (same_room k (part_sizes_of t) r ∙ f)) refl (refused_keeps (part_in file) t (refusal 9 0))

    pub reads_filled : {t' : Part} → fits ≡ true
        → t'.coords ≡ overwrite (part_at file l).coords t.coords
        → t'.corners ≡ overwrite (part_at file l).corners t.corners
        → t'.heights ≡ overwrite (part_at file l).heights t.heights
        → ReadsPart file t (Ok (record { vertices = l.coords.count / 3; triangles = l.corners.count / 3; heights = l.heights.count })) t'
    reads_filled e a b c =
        let is : part_at file l ≡ part_in file = sym (held_part file k.is) in
        does_give refl (fine_verdict file (part_sizes_of t) k.is (same_room k (part_sizes_of t) r ∙ e))
        ((λ i. gives ((sym (same_sizes k) i).coords / 3, (sym (same_sizes k) i).corners / 3, (sym (same_sizes k) i).heights))
        ∙ (λ i. gives (part_counts (is i))))
        ((λ i. part (a i) (b i) (c i)) ∙ fills_fine (part_at file l) t ∙ (λ i. fills_part (is i) t fine))
