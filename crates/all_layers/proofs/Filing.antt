-- All layers as a whole: its tests in turn, the work tables, and what each return leaves.
use Prim.Native.Nat.{ℕ, ◌*◌, ◌≤◌, ◌<◌}
use Rattle.std.specs.Prelude.{Result, Err}
use mathlib.Core.Path.{◌≡◌, refl, sym, ap, ◌∙◌, subst}
use mathlib.Core.Bool.{Bool, true, false, not, ◌&&◌}
use mathlib.Core.List.{List, [], ◌∷◌, ◌++◌, map}
use native.Mathlib.Omega.{arith}
use borrow.Author.Tests.{le-leb, lt-leb, le-ltb, lt-ltb}
use lib.Dec.{ltb, leb}
use lib.ListN.{length, get_or, replicate}
use lib.IntN.{ℤ, pos}
use mathlib.Core.Logic.{⊎_elim}
use Rattle.laws.specs.Booleans.{split_lt}
use Rattle.laws.specs.Integers.{mag_le}
use Rattle.laws.specs.Tables.{overwrite}
use Rattle.mesh.specs.Meshes.{OrderedMesh}
use Rattle.mesh.specs.Operation.{gives, refuses, Finding, fine, Condition, whole, test, ◌then◌, verdict, after}
use Rattle.mesh.specs.OperationLaws.{join_stop, join_next, verdict_one, verdict_stop, verdict_next, refused_every}
use Rattle.mesh.specs.OperationLaws.{whole_refused, whole_fine, after_kept, does_refuse}
use Rattle.mesh.specs.Refusals.{Told, refusal, numbered, told_of}
use Rattle.mesh.specs.Tests.{size, orders}
use Rattle.mesh.specs.declared.Refusal.{Refusal}
use Rattle.mesh_tables.specs.MeshTests.{content_tests, opening_tests}
use Rattle.cleaning.specs.declared.Profile.{Profile}
use Rattle.cut.specs.Cut.{Lengths, lengths_of, cut_room_for}
use Rattle.sweep.specs.Operations.{unless_refused}
use Rattle.file_formats.specs.LayerFile.{most_layers}
use Rattle.all_heights.specs.Heights.{heights_taken, too_many_heights, falling_height}
use Rattle.all_heights.specs.HeightLaws.{falling_taken}
use Rattle.all_heights.specs.Taking.{base_z, Takable}
use Rattle.all_heights.proofs.DefaultLaws.{takable}
use Rattle.all_sweep.specs.AllLayers.{cut_file, swept_file, climbed, WorkTables, work, work_room_for, work_room, work_after}
use Rattle.all_sweep.specs.AllLayers.{layers_tests, used_at, short_output, filing, tell_all_layers, Files}
use Rattle.all_sweep.specs.Works.{Works, Zeroed, taken_heights, PutsFile}
use Rattle.all_sweep.specs.Sweeps.{LayersTested}
use Rattle.all_sweep.specs.CutLayerLaws.{spent_zeros}
use Rattle.all_sweep.specs.ClimbLaws.{swept_is_cut, used_never}
use Rattle.all_sweep.specs.LayersLaws.{FileTested, file_tested}

-- ---- the tests

-- 9: Cut's tables, and then the ring table
module _ (n : ℕ) (l : Lengths) (ring : ℕ) {b : Bool} (e : b ≡ cut_room_for n l) where
  pub room_short : b ≡ false → b ≡ work_room_for n l ring
  unfolding work_room_for
  room_short h = h ∙ ap (λ (c : Bool). c && leb n ring) (sym h ∙ e)

  pub room_long : b ≡ true → leb n ring ≡ work_room_for n l ring
  unfolding work_room_for
  room_long h = ap (λ (c : Bool). c && leb n ring) (sym h ∙ e)

-- 1, 9, 2, 3, 4 and 7; then 8 and 12
module _ (m : OrderedMesh) (heights : List ℤ) (l : Lengths) (ring : ℕ) where
  abbrev first : List (Condition Told)
  first =
      size m.paired.mesh ∷ too_many_heights m.paired.mesh.coords heights ∷ work_room (length m.paired.mesh.corners) l ring ∷ content_tests m.paired

  abbrev rest : List (Condition Told)
  rest = orders m.paired.mesh.coords m.order ∷ falling_height (heights_taken m.paired.mesh.coords heights) ∷ []

  many : (n : ℕ) → not (leb n most_layers) ≡ ltb most_layers n
  many n = ⊎_elim (λ (h : most_layers < n). ap not (lt-leb n most_layers h) ∙ sym (lt-ltb most_layers n h))
      (λ (h : n ≤ most_layers). ap not (le-leb n most_layers h) ∙ sym (le-ltb most_layers n h)) (split_lt most_layers n)

  module _ {few room : Bool} (ef : few ≡ leb (length (heights_taken m.paired.mesh.coords heights)) most_layers)
      (er : room ≡ work_room_for (length m.paired.mesh.corners) l ring) {f : Finding Told} (e : f ≡ verdict (opening_tests m.paired few room)) where
    opened : f ≡ verdict first
    opened =
        e ∙ (λ i. verdict (size m.paired.mesh ∷ whole (refusal 1) ((ap not ef ∙ many (length (heights_taken m.paired.mesh.coords heights))) i) ∷ whole
        (refusal 9) (not (er i)) ∷ content_tests m.paired))

    pub opening_refused : {r : Told} → f ≡ refuses r → f ≡ verdict (layers_tests m heights l ring)
    opening_refused h = join_stop first rest opened h

    module _ (h : f ≡ fine) {g : Finding Told} (o : g ≡ test (orders m.paired.mesh.coords m.order)) where
      pub order_refused : {r : Told} → g ≡ refuses r → g ≡ verdict (layers_tests m heights l ring)
      order_refused q = join_next first rest opened h (verdict_stop _ _ o q)

      pub heights_tested : g ≡ fine → {k : Finding Told} → k ≡ test (falling_height heights) → k ≡ verdict (layers_tests m heights l ring)
      heights_tested q t =
          let last = t ∙ sym (falling_taken m.paired.mesh.coords heights) ∙ verdict_one _ in
          join_next first rest opened h (verdict_next _ _ o q last)

-- each height taken can be had by its number
pub layers_tested : {m : OrderedMesh} {heights : List ℤ} {w : WorkTables} {low : ℤ} {count : ℕ} → FileTested m heights w
    → low ≡ base_z m.paired.mesh.coords heights → count ≡ length (heights_taken m.paired.mesh.coords heights)
    → LayersTested m.paired (taken_heights low heights count) w
layers_tested {m} {heights} t a b =
    let coords = m.paired.mesh.coords in
    record {
      right = t.right;
      long = t.long;
      ring_long = t.ring_long;
      listed = record {
        low_is = a;
        count_is = b;
        few = omega (arith, t.few);
        rises = t.rises;
        each = λ k l. subst (λ (z : ℤ). Takable z heights k) (sym a)
            (takable coords heights k (λ i h. omega (arith, mag_le (get_or coords i (pos 0)), t.right.inside i h)) (omega arith));
      };
    }

-- ---- the work tables

module _ (n : ℕ) (w : WorkTables) where
  -- a refusal by a test leaves them
  work_kept : (r : Told) → numbered (16 ∷ 14 ∷ []) r ≡ false → w ≡ work_after n w (refuses r)
  work_kept r e =
      let clears = numbered (16 ∷ 14 ∷ []) in
      λ i. work
      (after_kept clears (replicate n 0) n 0 w.cut.names r e i)
      (after_kept clears (replicate (2 * n) (pos 0)) (2 * n) (pos 0) w.cut.points r e i)
      (after_kept clears (replicate n 0) n 0 w.cut.ends r e i)
      (after_kept clears (replicate n 0) n 0 w.cut.marks r e i)
      (after_kept clears (replicate n 0) n 0 w.ring r e i)

  -- success and 14 leave the same
  work_either : (b : Bool) → work_after n w fine ≡ work_after n w (verdict (whole (refusal 14) b ∷ []))
  unfolding after
  work_either true = ap (work_after n w) (whole_refused (refusal 14) true refl ∙ verdict_one _)
  work_either false = ap (work_after n w) (whole_fine (refusal 14) false refl ∙ verdict_one _)

pub work_zeroed : {n : ℕ} {w w' : WorkTables} → w'.cut.names ≡ overwrite (replicate n 0) w.cut.names
    → w'.cut.points ≡ overwrite (replicate (2 * n) (pos 0)) w.cut.points → w'.cut.ends ≡ overwrite (replicate n 0) w.cut.ends
    → w'.cut.marks ≡ overwrite (replicate n 0) w.cut.marks → w'.ring ≡ overwrite (replicate n 0) w.ring → Zeroed n w w'
unfolding after
work_zeroed a b c d e = record { is = λ i. work (a i) (b i) (c i) (d i) (e i) }

-- zeros hide what a pass has left in them
pub works_zeroed : {n : ℕ} {w w₁ w₂ : WorkTables} → Works n w w₁ → Zeroed n w₁ w₂ → Zeroed n w w₂
unfolding after
works_zeroed a z =
    record {
      is = z.is ∙ (λ i. work
          (spent_zeros 0 a.names_spent i)
          (spent_zeros (pos 0) a.points_spent i)
          (spent_zeros 0 a.ends_spent i)
          (spent_zeros 0 a.marks_spent i)
          (spent_zeros 0 a.ring_spent i));
    }

-- ---- All layers

module _ (p : Profile) (m : OrderedMesh) (heights : List ℤ) (w : WorkTables) (output : List ℕ) {f : Finding Told}
    (is : f ≡ verdict (layers_tests m heights (lengths_of w.cut) (length w.ring))) where
  abbrev tests : List (Condition Told)
  tests = layers_tests m heights (lengths_of w.cut) (length w.ring)

  abbrev hs : List ℤ
  hs = heights_taken m.paired.mesh.coords heights

  abbrev sixteens : List (Condition Told)
  sixteens = map used_at (climbed m w.ring hs)

  abbrev fourteen : List (Condition Told)
  fourteen = short_output (length output) (swept_file p m w.ring hs) ∷ []

  -- a test refuses
  other : {r : Told} → f ≡ refuses r → numbered (16 ∷ 14 ∷ []) r ≡ false
  other {r} e =
      let no : (i : ℕ) → false ≡ false = λ i. refl in
      refused_every (λ q. numbered (16 ∷ 14 ∷ []) q ≡ false) tests r (no, (no, (no, (no, (no, (no, (no, (no, (no, tt))))))))) (sym is ∙ e)

  pub files_refused : {r : Refusal} {result : Result ℕ Refusal} → result ≡ Err r → f ≡ refuses (told_of r) → Files p m heights w output result w output
  unfolding unless_refused
  files_refused {r} q e =
      let n = length m.paired.mesh.corners in
      does_refuse (join_stop tests (sixteens ++ fourteen) is e) e (ap tell_all_layers q) (λ i. (work_kept n w (told_of r) (other e) i, output))

  -- none does
  module _ (e : f ≡ fine) where
    pub files_tested : FileTested m heights w
    files_tested = file_tested m heights w (sym is ∙ e)

    same_file : swept_file p m w.ring hs ≡ cut_file p m.paired hs
    same_file = let t = files_tested in swept_is_cut m w.ring t.right t.ranked t.ring_long p hs t.rises

    -- only 14 is left
    last : verdict fourteen ≡ verdict (tests ++ (sixteens ++ fourteen))
    last =
        let t = files_tested in
        join_next tests (sixteens ++ fourteen) is e
        (join_next sixteens fourteen (sym (used_never m w.ring t.right t.ranked t.ring_long hs t.rises)) refl refl)

    pub files_put : {result : Result ℕ Refusal} {output' : List ℕ} {w₁ w' : WorkTables}
        → PutsFile (cut_file p m.paired (heights_taken m.paired.mesh.coords heights)) output result output'
        → Works (length m.paired.mesh.corners) w w₁ → Zeroed (length m.paired.mesh.corners) w₁ w' → Files p m heights w output result w' output'
    files_put {result} {output'} put s z =
        let n = length m.paired.mesh.corners in
        let file = swept_file p m w.ring hs in
        let q : PutsFile file output result output' = subst (λ (l : List ℕ). PutsFile l output result output') (sym same_file) put in
        let zeros = (works_zeroed s z).is ∙ work_either n w (ltb (length output) (length file)) in
        record {
          answers = q.answers ∙ ap (λ (v : Finding Told). v then gives (length file)) last;
          leaves = (λ i. (zeros i, q.leaves i)) ∙ ap (filing (p, m, heights, w, output)).leaves last;
        }
