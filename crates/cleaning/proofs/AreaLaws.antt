-- Laws of areas: cleaning changes no contour's, and one that it drops has area 0; so the sum of a layer's areas stays (CLEAN-12).
use Rattle.std.specs.Prelude.{◌≡◌, refl, true, false, List, [], ◌∷◌, ◌⊎◌, ◌<◌, ℤ, pos, ◌+ℤ◌}
use Rattle.std.proofs.Common.{sym, ap, ◌∙◌, inl, inr, ⊎_elim, leb-false}
use Rattle.std.proofs.Math.IntN.{+ℤ_idl, +ℤ_idr}
use Rattle.laws.specs.Ring.{ring, x, #, ◌⊕◌, ◌⊖◌, ◌⊗◌}
use Rattle.polygons.specs.Flat.{Point}
use Rattle.polygons.specs.ContourAreas.{cross_points, area_from, contour_area, layer_area}
use Rattle.cleaning.specs.Cleaning.{same_point, unrepeated, trimmed, neat, variety, fewest_different, kept, cleaned}
use Rattle.cleaning.specs.Tests.{others}
use Rattle.cleaning.specs.PointLaws.{decide, cons_apart, same_is, unrepeated_same, unrepeated_new, Trims, goes, stays, trims}
use Rattle.cleaning.proofs.CleaningLaws.{cleaned_kept, cleaned_dropped}
use Rattle.cleaning.proofs.VarietyLaws.{others_same, others_new, two_points, kept_is}

-- ---- cross_points products

cross_self : (p : Point) → cross_points p p ≡ pos 0
unfolding cross_points
cross_self p = ring (p.x ∷ p.y ∷ []) (x 0 ⊗ x 1 ⊖ x 0 ⊗ x 1) (# (pos 0)) tt

cross_back : (p q : Point) → cross_points p q +ℤ cross_points q p ≡ pos 0
unfolding cross_points
cross_back p q = ring (p.x ∷ p.y ∷ q.x ∷ q.y ∷ []) ((x 0 ⊗ x 3 ⊖ x 2 ⊗ x 1) ⊕ (x 2 ⊗ x 1 ⊖ x 0 ⊗ x 3)) (# (pos 0)) tt

-- to a point and on from one that is equal
cross_same : (p q : Point) (z : ℤ) → p ≡ q → cross_points p q +ℤ z ≡ z
cross_same p q z e = ap (λ (r : Point). cross_points p r +ℤ z) (sym e) ∙ ap (λ (n : ℤ). n +ℤ z) (cross_self p) ∙ +ℤ_idl z

-- ---- the first two steps of cleaning

area_unrepeated : (first p : Point) (c : List Point) → area_from first p (unrepeated p c) ≡ area_from first p c
unfolding area_from unrepeated
area_unrepeated first p [] = refl
area_unrepeated first p (q ∷ c) =
    ⊎_elim
    (λ s. let e = same_is p q s in
    ap (area_from first p) (unrepeated_same p q c s) ∙ area_unrepeated first p c ∙ ap (λ (r : Point). area_from first r c) e
    ∙ sym (cross_same p q (area_from first q c) e))
    (λ s. ap (area_from first p) (unrepeated_new p q c s) ∙ ap (λ (z : ℤ). cross_points p q +ℤ z) (area_unrepeated first q c))
    (decide (same_point p q))

area_trimmed : (first p : Point) (c : List Point) → area_from first p (trimmed first c) ≡ area_from first p c
unfolding area_from trimmed
area_trimmed first p [] = refl
area_trimmed first p (q ∷ c) = by (area_trimmed first q c) (trims first q c)
  where
    by : area_from first q (trimmed first c) ≡ area_from first q c → Trims first q c
        → area_from first p (trimmed first (q ∷ c)) ≡ cross_points p q +ℤ area_from first q c
    by h (goes n s z) =
        let e : first ≡ q = same_is first q s in
        let end : cross_points q first ≡ area_from first q c = ap (area_from first q) (sym n) ∙ h in
        ap (area_from first p) z
        ∙ sym (+ℤ_idr (cross_points p first))
        ∙ (λ i. cross_points p (e i) +ℤ (sym (cross_self q) ∙ ap (cross_points q) (sym e) ∙ end) i)
    by h (stays u z) = ap (area_from first p) z ∙ ap (λ (n : ℤ). cross_points p q +ℤ n) h

-- they change no area
pub area_neat : (c : List Point) → contour_area (neat c) ≡ contour_area c
unfolding contour_area neat
area_neat [] = refl
area_neat (p ∷ c) = area_trimmed p p (unrepeated p c) ∙ area_unrepeated p p c

-- ---- fewer than three different points

-- along p and q alone, from a point s to p
area_two : (p q s : Point) (c : List Point) → others q (others p c) ≡ [] → (s ≡ p) ⊎ (s ≡ q) → area_from p s c ≡ cross_points s p
unfolding area_from others
area_two p q s [] e h = refl
area_two p q s (r ∷ c) e h = by (decide (same_point p r)) (decide (same_point q r)) (area_two p q r c)
  where
    at_p : r ≡ p → cross_points s r +ℤ cross_points r p ≡ cross_points s p
    at_p m = (λ i. cross_points s (m i) +ℤ (ap (λ (t : Point). cross_points t p) m ∙ cross_self p) i) ∙ +ℤ_idr (cross_points s p)

    at_q : r ≡ q → (s ≡ p) ⊎ (s ≡ q) → cross_points s r +ℤ cross_points r p ≡ cross_points s p
    at_q m (inl n) = (λ i. cross_points (n i) r +ℤ cross_points r p) ∙ cross_back p r ∙ sym (cross_self p) ∙ ap (λ (t : Point). cross_points t p) (sym n)
    at_q m (inr n) = cross_same s r (cross_points r p) (n ∙ sym m) ∙ ap (λ (t : Point). cross_points t p) (m ∙ sym n)

    by : (same_point p r ≡ true) ⊎ (same_point p r ≡ false) → (same_point q r ≡ true) ⊎ (same_point q r ≡ false)
        → (others q (others p c) ≡ [] → (r ≡ p) ⊎ (r ≡ q) → area_from p r c ≡ cross_points r p) → cross_points s r +ℤ area_from p r c ≡ cross_points s p
    by (inl a) b rest =
        let m = sym (same_is p r a) in
        ap (λ (z : ℤ). cross_points s r +ℤ z) (rest (ap (others q) (sym (others_same p r c a)) ∙ e) (inl m)) ∙ at_p m
    by (inr a) (inl b) rest =
        let m = sym (same_is q r b) in
        let o = sym (others_same q r (others p c) b) ∙ ap (others q) (sym (others_new p r c a)) ∙ e in
        ap (λ (z : ℤ). cross_points s r +ℤ z) (rest o (inr m)) ∙ at_q m h
    by (inr a) (inr b) rest =
        absurd (cons_apart (sym (others_new q r (others p c) b) ∙ ap (others q) (sym (others_new p r c a)) ∙ e))

area_few : (c : List Point) → variety c < fewest_different → contour_area c ≡ pos 0
unfolding contour_area
area_few [] h = refl
area_few (p ∷ c) h = let t = two_points p c h in area_two p t.other p c t.only (inl refl) ∙ cross_self p

-- a contour that is dropped has area 0
pub area_dropped : (c : List Point) → kept c ≡ false → contour_area c ≡ pos 0
area_dropped c e = area_few c (leb-false fewest_different (variety c) (sym (kept_is c) ∙ e))

-- ---- a layer: the sum of its areas stays

pub area_cleaned : (cs : List (List Point)) → layer_area (cleaned cs) ≡ layer_area cs
unfolding layer_area cleaned
area_cleaned [] = refl
area_cleaned (c ∷ cs) =
    ⊎_elim (λ e. ap layer_area (cleaned_kept c cs e) ∙ (λ i. area_neat c i +ℤ area_cleaned cs i))
    (λ e. ap layer_area (cleaned_dropped c cs e) ∙ area_cleaned cs ∙ sym (+ℤ_idl (layer_area cs)) ∙ ap (λ (z : ℤ). z +ℤ layer_area cs) (sym (area_dropped c e)))
    (decide (kept c))
