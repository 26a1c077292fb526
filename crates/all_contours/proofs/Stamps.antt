-- Laws of stamping entries.
use Prim.Native.Nat.{ℕ, ◌<◌}
use mathlib.Core.Path.{◌≡◌, refl, ap, ◌∙◌}
use mathlib.Core.Bool.{Bool, true, false, ◌||◌}
use mathlib.Core.List.{List, [], ◌∷◌, ◌++◌}
use native.Mathlib.Omega.{arith}
use borrow.Author.Tests.{eqb-true, eq-eqb}
use lib.Dec.{eqb}
use lib.ListN.{length, get_or, set, length-set}
use lib.Seq.{get_or-set_same, get_or-set_other}
use Rattle.laws.specs.Booleans.{clash, or_parts}
use Rattle.section.specs.Contours.{member}
use Rattle.all_contours.specs.Rounds.{stamped}

module _ (s : ℕ) where
  pub length_stamped : (marks cs : List ℕ) → length (stamped s marks cs) ≡ length marks
  length_stamped marks [] = refl
  length_stamped marks (c ∷ cs) = length_stamped (set marks c s) cs ∙ length-set marks c s

  pub stamped_join : (marks xs ys : List ℕ) → stamped s marks (xs ++ ys) ≡ stamped s (stamped s marks xs) ys
  stamped_join marks [] ys = refl
  stamped_join marks (x ∷ xs) ys = stamped_join (set marks x s) xs ys

  -- an entry is the stamp where the corner is among these, and else as before
  pub stamped_other : (cs marks : List ℕ) (x : ℕ) → member x cs ≡ false → get_or (stamped s marks cs) x 0 ≡ get_or marks x 0
  unfolding member
  stamped_other [] marks x e = refl
  stamped_other (c ∷ cs) marks x e =
      let p = or_parts (eqb x c) (member x cs) e in
      stamped_other cs (set marks c s) x p.1 ∙ get_or-set_other marks c x s 0 (λ q. clash (eq-eqb x c q) p.0)

  stamped_kept : (cs marks : List ℕ) (x : ℕ) → x < length marks → get_or marks x 0 ≡ s → get_or (stamped s marks cs) x 0 ≡ s
  stamped_kept [] marks x h e = e
  stamped_kept (c ∷ cs) marks x h e = stamped_kept cs (set marks c s) x (omega (arith, length-set marks c s)) (by (eqb x c) refl)
    where
      by : (b : Bool) → eqb x c ≡ b → get_or (set marks c s) x 0 ≡ s
      by true q = ap (λ (j : ℕ). get_or (set marks c s) j 0) (eqb-true x c q) ∙ get_or-set_same marks c s 0 (let z = eqb-true x c q in omega arith)
      by false q = get_or-set_other marks c x s 0 (λ z. clash (eq-eqb x c z) q) ∙ e

  pub stamped_same : (cs marks : List ℕ) (x : ℕ) → x < length marks → member x cs ≡ true → get_or (stamped s marks cs) x 0 ≡ s
  unfolding member
  stamped_same [] marks x h e = absurd (clash e refl)
  stamped_same (c ∷ cs) marks x h e = by (eqb x c) refl e (stamped_same cs (set marks c s) x (omega (arith, length-set marks c s)))
    where
      by : (b : Bool) → eqb x c ≡ b → (b || member x cs) ≡ true → (member x cs ≡ true → get_or (stamped s (set marks c s) cs) x 0 ≡ s)
          → get_or (stamped s (set marks c s) cs) x 0 ≡ s
      by true q z k =
          let y = eqb-true x c q in
          stamped_kept cs (set marks c s) x (omega (arith, length-set marks c s))
          (ap (λ (j : ℕ). get_or (set marks c s) j 0) y ∙ get_or-set_same marks c s 0 (omega arith))
      by false q z k = k z
