-- The longest that a layer file can be: added up over the heights, and not less than the file.
use Prim.Native.Nat.{ℕ, zero, suc, ◌+◌, ◌*◌, ◌^◌, ◌≤◌, ◌<◌}
use mathlib.Core.Path.{◌≡◌, sym, ap, ◌∙◌, subst}
use mathlib.Core.List.{map}
use native.Mathlib.Omega.{arith}
use native.Mathlib.Numerals.{add-one}
use lib.ListN.{length, take}
use lib.IntN.{ℤ}
use Rattle.laws.specs.Count.{count as tally}
use Rattle.mesh.specs.Meshes.{PairedMesh}
use Rattle.cleaning.specs.declared.Profile.{Profile}
use Rattle.section.specs.Section.{Right}
use Rattle.file_formats.specs.Numbers.{encode_number, zigzag, Word}
use Rattle.file_formats.specs.NumberLaws.{word_bytes, number_bytes, word_sent}
use Rattle.all_heights.specs.Heights.{heights_taken}
use Rattle.file_write.specs.Written.{layer_bytes, total_of}
use Rattle.all_active.specs.Lists.{active_at}
use Rattle.all_active.specs.Totals.{sum_to, CrossingTotal}
use Rattle.all_sweep.specs.Works.{TakenHeights, taken_at, ListedHeights, taken_file}
use Rattle.all_sweep.specs.CutLayerLaws.{cut_in, layer_bound}
use Rattle.all_sweep.specs.PassLaws.{total_next, total_all}
use Rattle.all_output.specs.Bounds.{longest_file}

-- ---- added up

pub height_measured : (h : ℤ) {u n : ℕ} → Word h → u ≡ zigzag h → n ≡ length (encode_number u) → (n ≡ length (encode_number (zigzag h))) × (n ≤ 5)
height_measured h w e is =
    let m = is ∙ ap (λ (k : ℕ). length (encode_number k)) e in
    (m, omega (arith, m, word_bytes (zigzag h) (omega (arith, word_sent h w))))

-- the first k heights are counted
pub record Bounding (t : TakenHeights) (crossings k total : ℕ) : Type 0 where
  pub upto : k ≤ t.count
  pub sum : total ≡ length (encode_number t.count) + 10 * crossings + sum_to k (λ i. length (encode_number (zigzag (taken_at t i))) + 3)
  pub few : total ≤ 10 + 10 * crossings + 8 * k

module _ {t : TakenHeights} {crossings : ℕ} where
  pub bounding_start : {n : ℕ} → t.count < 2 ^ 64 → n ≡ length (encode_number t.count) → Bounding t crossings 0 (n + 10 * crossings)
  unfolding sum_to
  bounding_start fits e = record { upto = omega arith; sum = omega arith; few = omega (arith, number_bytes t.count fits) }

  pub bounding_next : {k total n : ℕ} {h : ℤ} → Bounding t crossings k total → k < t.count → h ≡ taken_at t k → n ≡ length (encode_number (zigzag h)) → n ≤ 5
      → Bounding t crossings (k + 1) (total + (n + 3))
  unfolding sum_to
  bounding_next {k} {total} {n} {h} b l eh en few =
      subst (λ (i : ℕ). Bounding t crossings i (total + (n + 3))) (sym (add-one k))
      (record { upto = l; sum = omega (arith, b.sum, ap (λ (z : ℤ). length (encode_number (zigzag z))) eh); few = omega (arith, b.few) })

pub bounding_end : {t : TakenHeights} {crossings k total : ℕ} → Bounding t crossings k total → t.count ≤ k → total ≡ longest_file t crossings
unfolding longest_file
bounding_end {t} {crossings} {k} b l =
    let e : k ≡ t.count = omega (arith, b.upto) in
    b.sum ∙ (λ x. length (encode_number t.count) + 10 * crossings + sum_to (e x) (λ j. length (encode_number (zigzag (taken_at t j))) + 3))

-- ---- not less than the file, in either profile

module _ (p : Profile) (m : PairedMesh) (right : Right m) {t : TakenHeights} (listed : ListedHeights m.mesh.coords t) where
  layers_bound : (k : ℕ) → k ≤ t.count
      → total_of (λ l. length (layer_bytes l)) (map (cut_in p m) (take k (heights_taken m.mesh.coords t.heights)))
      ≤ sum_to k (λ i. length (encode_number (zigzag (taken_at t i))) + 3)
      + 10 * sum_to k (λ i. tally (length m.mesh.corners) (active_at m.mesh.coords m.mesh.corners (taken_at t i)))
  unfolding sum_to total_of
  layers_bound zero l = omega arith
  layers_bound (suc k) l = omega (arith, total_next p m listed {k = k} l, layer_bound m right (taken_at t k) p, layers_bound k (omega arith))

  pub file_bound : {crossings bound : ℕ} → CrossingTotal m.mesh.coords m.mesh.corners (taken_at t) t.count crossings → bound ≡ longest_file t crossings
      → length (taken_file p m t) ≤ bound
  unfolding longest_file
  file_bound c e = omega (arith, e, total_all p m listed {k = t.count} (omega arith), layers_bound t.count (omega arith), c.most)
