-- Seeking: the corners passed over have no link.
use Prim.Native.Nat.{ℕ, ◌+◌, ◌≤◌}
use mathlib.Core.Path.{◌≡◌, sym, ap, ◌∙◌}
use mathlib.Core.Logic.{⊎_elim}
use mathlib.Core.List.{List}
use native.Mathlib.Omega.{arith}
use lib.ListN.{get_or}
use Rattle.laws.specs.Booleans.{split_lt}
use Rattle.section.specs.Section.{no_corner}
use Rattle.cut_trace.specs.Walks.{NoLinks, Sought}

pub one_none : (links : List ℕ) (d : ℕ) → get_or links d 0 ≡ no_corner → NoLinks links d (d + 1)
one_none links d e i h k = let q : d ≡ i = omega arith in ap (λ (j : ℕ). get_or links j 0) (sym q) ∙ e

module _ {n : ℕ} {links : List ℕ} {c : ℕ} where
  pub sought_none : c ≤ n → Sought n links c c
  sought_none l = record { onward = omega arith; upto = l; none = λ i h k. absurd (omega (arith, h, k)) }

  pub sought_more : {d : ℕ} → Sought n links c d → (e : ℕ) → d ≤ e → e ≤ n → NoLinks links d e → Sought n links c e
  sought_more {d} s e l m f =
      record {
        onward = omega (arith, s.onward);
        upto = m;
        none = λ i h k. ⊎_elim (λ b. s.none i h b) (λ b. f i b k) (split_lt i d);
      }
