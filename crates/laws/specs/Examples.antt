-- Small tests of the laws: identities and values that are proved in place. Nothing cites them.
use Rattle.std.specs.Prelude.{◌≡◌, refl, [], ◌∷◌, ◌+◌, ltb, ℤ, pos, ◌+ℤ◌, ◌-ℤ◌, ◌*ℤ◌, ◌≤ℤ◌}
use Rattle.std.proofs.Common.{arith}
use Rattle.laws.specs.Least.{least}
use Rattle.laws.specs.Count.{count}
use Rattle.laws.specs.Tables.{tabulate, overwrite}
use Rattle.laws.specs.Ring.{x, #, ◌⊕◌, ◌⊖◌, ◌⊗◌, ring}
use Rattle.laws.specs.Linear.{le_by}

-- the least number above 2, and none above 9 below 5
least_found : least 5 (λ i. ltb 2 i) ≡ 3
unfolding least
least_found = refl

least_missing : least 5 (λ i. ltb 9 i) ≡ 5
unfolding least
least_missing = refl

count_found : count 10 (λ i. ltb i 4) ≡ 4
unfolding count
count_found = refl

kept_behind : overwrite (tabulate 2 (λ i. i + 7)) (1 ∷ 2 ∷ 3 ∷ []) ≡ 7 ∷ 8 ∷ 3 ∷ []
unfolding overwrite tabulate
kept_behind = refl

squares : (a b : ℤ) → (a +ℤ b) *ℤ (a -ℤ b) ≡ a *ℤ a -ℤ b *ℤ b
squares a b = ring (a ∷ b ∷ []) ((x 0 ⊕ x 1) ⊗ (x 0 ⊖ x 1)) (x 0 ⊗ x 0 ⊖ x 1 ⊗ x 1) tt

-- the shoelace sum of two points does not change when both are moved along the line through them
shear : (a b c d : ℤ) → (a +ℤ c) *ℤ d -ℤ c *ℤ (b +ℤ d) ≡ a *ℤ d -ℤ c *ℤ b
shear a b c d = ring (a ∷ b ∷ c ∷ d ∷ []) ((x 0 ⊕ x 2) ⊗ x 3 ⊖ x 2 ⊗ (x 1 ⊕ x 3)) (x 0 ⊗ x 3 ⊖ x 2 ⊗ x 1) tt

one_less : (a : ℤ) → (a -ℤ pos 1) ≤ℤ a
one_less a = le_by (a ∷ []) (x 0 ⊖ # (pos 1)) (x 0) (omega arith)
