-- Laws of the number of different points: the first and those that are not the first; the first two steps of cleaning keep it; fewer than three are
-- two points, used again and again.
use Rattle.std.specs.Prelude.{◌≡◌, refl, Bool, true, false, ◌||◌, List, [], ◌∷◌, ℕ, suc, ◌+◌, ◌≤◌, ◌<◌, leb, length}
use Rattle.std.proofs.Common.{sym, ◌∙◌, ⊎_elim, arith}
use Rattle.std.proofs.Math.Path.{ap}
use Rattle.std.proofs.Math.Bool.{cond}
use Rattle.laws.specs.Booleans.{or_left}
use Rattle.polygons.specs.Flat.{Point}
use Rattle.cleaning.specs.Cleaning.{same_point, unrepeated, trimmed, neat, among, variety, fewest_different, kept}
use Rattle.cleaning.specs.Tests.{others}
use Rattle.cleaning.specs.PointLaws.{decide, same_is, same_eq, same_turned, unrepeated_same, unrepeated_new, Trims, goes, stays, trims}

-- ---- the points that are not p

module _ (p q : Point) (c : List Point) where
  pub others_same : same_point p q ≡ true → others p (q ∷ c) ≡ others p c
  unfolding others
  others_same e = ap (λ (b : Bool). cond b (others p c) (q ∷ others p c)) e

  pub others_new : same_point p q ≡ false → others p (q ∷ c) ≡ q ∷ others p c
  unfolding others
  others_new e = ap (λ (b : Bool). cond b (others p c) (q ∷ others p c)) e

  among_same : same_point p q ≡ true → among p (q ∷ c) ≡ true
  unfolding among
  among_same e = or_left (same_point p q) (among p c) e

  among_new : same_point p q ≡ false → among p (q ∷ c) ≡ among p c
  unfolding among
  among_new e = ap (λ (b : Bool). b || among p c) e

-- a point that is not p is among them as before
among_others : (p q : Point) → same_point p q ≡ false → (c : List Point) → among q (others p c) ≡ among q c
unfolding among others
among_others p q e [] = refl
among_others p q e (r ∷ c) =
    ⊎_elim
    (λ s. ap (among q) (others_same p r c s) ∙ among_others p q e c ∙ sym (among_new q r c (ap (same_point q) (sym (same_is p r s)) ∙ same_turned p q e)))
    (λ s. ap (among q) (others_new p r c s) ∙ ap (λ (b : Bool). same_point q r || b) (among_others p q e c))
    (decide (same_point p r))

-- one more where p is among the points
abbrev more : Bool → ℕ → ℕ
more a n = cond a n (1 + n)

variety_others : (p : Point) (c : List Point) → more (among p c) (variety c) ≡ 1 + variety (others p c)
unfolding variety among others
variety_others p [] = refl
variety_others p (q ∷ c) = ⊎_elim (again (variety_others p c)) (other (variety_others p c)) (decide (same_point p q))
  where
    again : more (among p c) (variety c) ≡ 1 + variety (others p c) → same_point p q ≡ true
        → more (among p (q ∷ c)) (variety (q ∷ c)) ≡ 1 + variety (others p (q ∷ c))
    again h s =
        ap (λ (b : Bool). more b (variety (q ∷ c))) (among_same p q c s)
        ∙ ap (λ (r : Point). variety (r ∷ c)) (sym (same_is p q s))
        ∙ h
        ∙ ap (λ (d : List Point). 1 + variety d) (sym (others_same p q c s))

    -- two counts, one after the other, either way round
    turned : (a b : Bool) (n m : ℕ) → more a n ≡ 1 + m → more a (more b n) ≡ 1 + more b m
    turned a true n m h = h
    turned true false n m h = omega arith
    turned false false n m h = omega arith

    other : more (among p c) (variety c) ≡ 1 + variety (others p c) → same_point p q ≡ false
        → more (among p (q ∷ c)) (variety (q ∷ c)) ≡ 1 + variety (others p (q ∷ c))
    other h s =
        ap (λ (b : Bool). more b (variety (q ∷ c))) (among_new p q c s)
        ∙ turned (among p c) (among q c) (variety c) (variety (others p c)) h
        ∙ ap (λ (b : Bool). 1 + more b (variety (others p c))) (sym (among_others p q s c))
        ∙ ap (λ (d : List Point). 1 + variety d) (sym (others_new p q c s))

-- the first, and those that are not the first
pub variety_first : (p : Point) (c : List Point) → variety (p ∷ c) ≡ 1 + variety (others p c)
unfolding variety
variety_first p c = variety_others p c

pub variety_none : variety [] ≡ 0
unfolding variety
variety_none = refl

none_variety : (c : List Point) → variety c ≡ 0 → c ≡ []
none_variety [] e = refl
none_variety (p ∷ c) e = absurd (omega (arith, variety_first p c))

pub variety_length : (c : List Point) → variety c ≤ length c
unfolding variety
variety_length [] = omega arith
variety_length (p ∷ c) = by (among p c) (variety_length c)
  where
    by : (a : Bool) → variety c ≤ length c → more a (variety c) ≤ suc (length c)
    by true h = omega arith
    by false h = omega arith

-- ---- the first two steps of cleaning

others_trimmed : (p : Point) (c : List Point) → others p (trimmed p c) ≡ others p c
unfolding trimmed others
others_trimmed p [] = refl
others_trimmed p (q ∷ c) = by (others_trimmed p c) (trims p q c)
  where
    by : others p (trimmed p c) ≡ others p c → Trims p q c → others p (trimmed p (q ∷ c)) ≡ others p (q ∷ c)
    by h (goes n s z) = ap (others p) (z ∙ sym n) ∙ h ∙ sym (others_same p q c s)
    by h (stays u z) = ap (others p) z ∙ ap (λ (d : List Point). cond (same_point p q) d (q ∷ d)) h

among_unrepeated : (r p : Point) (c : List Point) → among r (p ∷ unrepeated p c) ≡ among r (p ∷ c)
unfolding among unrepeated
among_unrepeated r p [] = refl
among_unrepeated r p (q ∷ c) =
    ⊎_elim
    (λ s. ap (λ (d : List Point). among r (p ∷ d)) (unrepeated_same p q c s) ∙ among_unrepeated r p c
    ∙ again (same_point r p) (same_point r q) (ap (same_point r) (same_is p q s)))
    (λ s. ap (λ (d : List Point). among r (p ∷ d)) (unrepeated_new p q c s) ∙ ap (λ (b : Bool). same_point r p || b) (among_unrepeated r q c))
    (decide (same_point p q))
  where
    again : (a b : Bool) → a ≡ b → (a || among r c) ≡ (a || (b || among r c))
    again true b e = refl
    again false b e = ap (λ (d : Bool). d || among r c) e

variety_unrepeated : (p : Point) (c : List Point) → variety (p ∷ unrepeated p c) ≡ variety (p ∷ c)
unfolding variety unrepeated
variety_unrepeated p [] = refl
variety_unrepeated p (q ∷ c) =
    ⊎_elim
    (λ s. ap (λ (d : List Point). variety (p ∷ d)) (unrepeated_same p q c s) ∙ variety_unrepeated p c ∙ ap (λ (r : Point). variety (r ∷ c)) (same_is p q s)
    ∙ ap (λ (b : Bool). more b (variety (q ∷ c))) (sym (among_same p q c s)))
    (λ s. ap (λ (d : List Point). variety (p ∷ d)) (unrepeated_new p q c s)
    ∙ (λ i. more (among_unrepeated p q c i) (variety_unrepeated q c i)))
    (decide (same_point p q))

-- they keep the number of different points
pub variety_neat : (c : List Point) → variety (neat c) ≡ variety c
unfolding neat
variety_neat [] = refl
variety_neat (p ∷ c) =
    variety_first p (trimmed p (unrepeated p c))
    ∙ ap (λ (d : List Point). 1 + variety d) (others_trimmed p (unrepeated p c))
    ∙ sym (variety_first p (unrepeated p c))
    ∙ variety_unrepeated p c

-- so whether a contour is kept shows in the contour as it was
pub kept_is : (c : List Point) → kept c ≡ leb fewest_different (variety c)
unfolding kept
kept_is c = ap (leb fewest_different) (variety_neat c)

-- ---- fewer than three

-- every point is p or another one
pub record Two (p : Point) (c : List Point) : Type 0 where
  pub other : Point
  pub only : others other (others p c) ≡ []

pub two_points : (p : Point) (c : List Point) → variety (p ∷ c) < fewest_different → Two p c
unfolding others
two_points p c h = by (others p c) refl
  where
    by : (d : List Point) → others p c ≡ d → Two p c
    by [] e = record { other = p; only = ap (others p) e }
    by (q ∷ d) e =
        let n : others q d ≡ [] = none_variety (others q d) (omega (arith, variety_first p c, ap variety e, variety_first q d)) in
        record { other = q; only = ap (others q) e ∙ others_same q q d (same_eq refl) ∙ n }
