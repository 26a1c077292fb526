-- Laws of striking links out.
use Prim.Native.Nat.{ℕ, ◌<◌}
use mathlib.Core.Path.{◌≡◌, refl, ap, ◌∙◌}
use mathlib.Core.Bool.{Bool, true, false, ◌||◌}
use mathlib.Core.List.{List, [], ◌∷◌, ◌++◌}
use native.Mathlib.Omega.{arith}
use borrow.Author.Tests.{eqb-true, eq-eqb}
use lib.Dec.{eqb}
use lib.ListN.{length, get_or, set, drop, length-set}
use lib.Seq.{drop-set-lt, get_or-set_same, get_or-set_other}
use Rattle.laws.specs.Booleans.{clash, or_parts, or_left, or_right}
use Rattle.section.specs.Section.{no_corner}
use Rattle.section.specs.Contours.{member}
use Rattle.cut_trace.specs.Walks.{strike}

pub length_strike : (links cs : List ℕ) → length (strike links cs) ≡ length links
length_strike links [] = refl
length_strike links (c ∷ cs) = length_strike (set links c no_corner) cs ∙ length-set links c no_corner

pub strike_join : (links xs ys : List ℕ) → strike links (xs ++ ys) ≡ strike (strike links xs) ys
strike_join links [] ys = refl
strike_join links (x ∷ xs) ys = strike_join (set links x no_corner) xs ys

-- a link is struck out where the corner is among these, and else as before
pub strike_other : (cs links : List ℕ) (x : ℕ) → member x cs ≡ false → get_or (strike links cs) x 0 ≡ get_or links x 0
unfolding member
strike_other [] links x e = refl
strike_other (c ∷ cs) links x e =
    let p = or_parts (eqb x c) (member x cs) e in
    strike_other cs (set links c no_corner) x p.1 ∙ get_or-set_other links c x no_corner 0 (λ q. clash (eq-eqb x c q) p.0)

strike_kept : (cs links : List ℕ) (x : ℕ) → x < length links → get_or links x 0 ≡ no_corner → get_or (strike links cs) x 0 ≡ no_corner
strike_kept [] links x h e = e
strike_kept (c ∷ cs) links x h e = strike_kept cs (set links c no_corner) x (omega (arith, length-set links c no_corner)) (by (eqb x c) refl)
  where
    by : (b : Bool) → eqb x c ≡ b → get_or (set links c no_corner) x 0 ≡ no_corner
    by true q =
        ap (λ (j : ℕ). get_or (set links c no_corner) j 0) (eqb-true x c q)
        ∙ get_or-set_same links c no_corner 0 (let z = eqb-true x c q in omega arith)
    by false q = get_or-set_other links c x no_corner 0 (λ z. clash (eq-eqb x c z) q) ∙ e

pub strike_same : (cs links : List ℕ) (x : ℕ) → x < length links → member x cs ≡ true → get_or (strike links cs) x 0 ≡ no_corner
unfolding member
strike_same [] links x h e = absurd (clash e refl)
strike_same (c ∷ cs) links x h e = by (eqb x c) refl e (strike_same cs (set links c no_corner) x (omega (arith, length-set links c no_corner)))
  where
    by : (b : Bool) → eqb x c ≡ b → (b || member x cs) ≡ true
        → (member x cs ≡ true → get_or (strike (set links c no_corner) cs) x 0 ≡ no_corner) → get_or (strike (set links c no_corner) cs) x 0 ≡ no_corner
    by true q z k =
        let y = eqb-true x c q in
        strike_kept cs (set links c no_corner) x (omega (arith, length-set links c no_corner))
        (ap (λ (j : ℕ). get_or (set links c no_corner) j 0) y ∙ get_or-set_same links c no_corner 0 (omega arith))
    by false q z k = k z

-- nothing from n on is struck out
pub strike_behind : (cs links : List ℕ) (n : ℕ) → ((x : ℕ) → member x cs ≡ true → x < n) → drop n (strike links cs) ≡ drop n links
unfolding member
strike_behind [] links n h = refl
strike_behind (c ∷ cs) links n h =
    strike_behind cs (set links c no_corner) n (λ x e. h x (or_right (eqb x c) (member x cs) e))
    ∙ drop-set-lt n links c no_corner (h c (or_left (eqb c c) (member c cs) (eq-eqb c c refl)))
