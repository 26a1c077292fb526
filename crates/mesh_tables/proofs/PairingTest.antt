-- A pairing is right where every corner is paired with a corner that starts where it ends and is paired back.
use Prim.Native.Nat.{ℕ, zero, suc, ◌+◌, ◌*◌, ◌%◌, ◌<◌, ◌≤◌}
use mathlib.Core.Path.{◌≡◌, refl, sym, ap, ◌∙◌, subst}
use mathlib.Core.Bool.{false, not}
use mathlib.Core.List.{List}
use mathlib.Core.Logic.{⊎_elim}
use native.Mathlib.Omega.{arith}
use lib.ListN.{length, get_or}
use Rattle.laws.specs.Booleans.{split_lt}
use Rattle.mesh.specs.Corners.{triangle_count, next_corner, start_of, end_of}
use Rattle.mesh.specs.Tests.{WholeTriangles, pair_of, unpaired}
use Rattle.mesh.specs.TestLaws.{reverse_of, Paired, paired_at_of}
use Rattle.mesh_tables.specs.Meeting.{MeetsVertex, Thrice, Met}

module _ (corners pairing : List ℕ) where
  -- one triangle more
  pub met_more : (t : ℕ) → Met corners pairing t → t < triangle_count corners → Thrice corners pairing t → Met corners pairing (t + 1)
  met_more t m l s = record { upto = omega arith; meets = λ c h. ⊎_elim (λ k. m.meets c k) (λ k. by c h k (c % 3) refl) (split_lt c (3 * t)) }
    where
      at : {i j c : ℕ} → i ≡ c → j ≡ next_corner c → MeetsVertex corners pairing i (get_or corners j 0) → MeetsVertex corners pairing c (end_of corners c)
      at {i} {j} {c} e f p =
          subst (λ (k : ℕ). MeetsVertex corners pairing c (get_or corners k 0)) f (subst (λ (k : ℕ). MeetsVertex corners pairing k (get_or corners j 0)) e p)

      by : (c : ℕ) → c < 3 * (t + 1) → 3 * t ≤ c → (k : ℕ) → c % 3 ≡ k → MeetsVertex corners pairing c (end_of corners c)
      by c h g zero e = at (omega arith) (omega arith) s.first
      by c h g (suc zero) e = at (omega arith) (omega arith) s.second
      by c h g (suc (suc k)) e = at (omega arith) (omega arith) s.third

  -- the other half of a corner's test is its partner's
  pub met_paired : ((c : ℕ) → c < length corners → MeetsVertex corners pairing c (end_of corners c)) → length corners ≤ length pairing
      → (c : ℕ) → c < length corners → Paired corners pairing c
  met_paired h w c l =
      let p = h c l in
      let q = h (pair_of pairing c) p.corner in
      record {
        there = omega arith;
        corner = p.corner;
        turned = reverse_of corners c (pair_of pairing c) p.start (sym q.start ∙ ap (start_of corners) p.back);
        back_there = omega (arith, p.corner);
        back = p.back;
      }

  pub met_all : WholeTriangles (length corners) → length corners ≤ length pairing → (t : ℕ) → triangle_count corners ≤ t → Met corners pairing t
      → (c : ℕ) → c < length corners → unpaired corners pairing c ≡ false
  met_all w f t g m c l = ap not (paired_at_of corners pairing c (met_paired (λ i k. m.meets i (omega (arith, w.threes))) f c l))
