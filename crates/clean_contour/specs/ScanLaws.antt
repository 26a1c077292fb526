-- Laws that a pass over a contour needs: a third point is found or not; from the end backward; and the first two steps of cleaning in either order.
use Rattle.std.specs.Prelude.{◌≡◌, Bool, true, false, ◌||◌, ◌⊎◌, ◌+◌, leb}
use Rattle.std.proofs.Math.Path.{refl, sym, ap}
use Rattle.std.proofs.Common.{◌∙◌, inl, inr, arith, le-leb}
use Rattle.std.proofs.Math.Bool.{cond}
use mathlib.Core.List.{List, [], ◌∷◌, ◌++◌}
use Rattle.std.proofs.Math.Logic.{⊎_elim}
use Rattle.std.proofs.lemmas.Bool.{lt-leb}
use Rattle.laws.specs.Booleans.{clash, or_parts}
use Rattle.polygons.specs.Flat.{Point}
use Rattle.cleaning.specs.Cleaning.{same_point, unrepeated, trimmed, kept_before, neat, variety, fewest_different}
use Rattle.cleaning.specs.Tests.{others}
use Rattle.clean_contour.specs.Parts.{beyond}
use Rattle.cleaning.specs.PointLaws.{decide, cons_apart, same_is, unrepeated_same, unrepeated_new, Trims, goes, stays, trims}
use Rattle.cleaning.proofs.VarietyLaws.{others_same, others_new, variety_first, variety_none}

-- ---- the first point that is neither of two

module _ (p q : Point) where
  pub beyond_either : (r : Point) (c : List Point) → (same_point p r || same_point q r) ≡ true → beyond p q (r ∷ c) ≡ beyond p q c
  unfolding beyond
  beyond_either r c e = ap (λ (b : Bool). cond b (beyond p q c) (r ∷ c)) e

  pub beyond_neither : (r : Point) (c : List Point) → (same_point p r || same_point q r) ≡ false → beyond p q (r ∷ c) ≡ r ∷ c
  unfolding beyond
  beyond_neither r c e = ap (λ (b : Bool). cond b (beyond p q c) (r ∷ c)) e

  pub beyond_none : beyond p q [] ≡ []
  unfolding beyond
  beyond_none = refl

  others_either : (r : Point) (c : List Point) → (same_point p r || same_point q r) ≡ true → others q (others p (r ∷ c)) ≡ others q (others p c)
  others_either r c e = by (decide (same_point p r)) (decide (same_point q r))
    where
      by : (same_point p r ≡ true) ⊎ (same_point p r ≡ false) → (same_point q r ≡ true) ⊎ (same_point q r ≡ false)
          → others q (others p (r ∷ c)) ≡ others q (others p c)
      by (inl a) b = ap (others q) (others_same p r c a)
      by (inr a) (inl b) = ap (others q) (others_new p r c a) ∙ others_same q r (others p c) b
      by (inr a) (inr b) = absurd (clash e (ap (λ (s : Bool). s || same_point q r) a ∙ b))

  others_beyond : (c : List Point) → others q (others p (beyond p q c)) ≡ others q (others p c)
  unfolding beyond
  others_beyond [] = refl
  others_beyond (r ∷ c) =
      ⊎_elim (λ e. ap (λ (d : List Point). others q (others p d)) (beyond_either r c e) ∙ others_beyond c ∙ sym (others_either r c e))
      (λ e. ap (λ (d : List Point). others q (others p d)) (beyond_neither r c e))
      (decide (same_point p r || same_point q r))

  beyond_head : (c : List Point) (r : Point) (d : List Point) → beyond p q c ≡ r ∷ d → (same_point p r || same_point q r) ≡ false
  unfolding beyond
  beyond_head [] r d e = absurd (cons_apart (sym e))
  beyond_head (s ∷ c) r d e =
      ⊎_elim (λ h. beyond_head c r d (sym (beyond_either s c h) ∙ e))
      (λ h. let z : s ∷ c ≡ r ∷ d = sym (beyond_neither s c h) ∙ e in let m : s ≡ r = cc in ap (λ (t : Point). same_point p t || same_point q t) (sym m) ∙ h)
      (decide (same_point p s || same_point q s))

others_twice : (p : Point) (c : List Point) → others p (others p c) ≡ others p c
unfolding others
others_twice p [] = refl
others_twice p (q ∷ c) =
    ⊎_elim (λ s. ap (others p) (others_same p q c s) ∙ others_twice p c ∙ sym (others_same p q c s))
    (λ s. ap (others p) (others_new p q c s) ∙ others_new p q (others p c) s ∙ ap (λ (d : List Point). q ∷ d) (others_twice p c) ∙ sym (others_new p q c s))
    (decide (same_point p q))

-- ---- whether a contour has three different points

module _ (p : Point) (c : List Point) where
  others_found : others p c ≡ others p (beyond p p c)
  others_found = sym (others_twice p c) ∙ sym (others_beyond p p c) ∙ others_twice p (beyond p p c)

  -- no second
  pub three_one : beyond p p c ≡ [] → false ≡ leb fewest_different (variety (p ∷ c))
  unfolding others
  three_one e =
      let n : variety (others p c) ≡ 0 = ap variety (others_found ∙ ap (others p) e) ∙ variety_none in
      sym (lt-leb fewest_different (variety (p ∷ c)) (omega (arith, variety_first p c)))

  module _ (q : Point) (d : List Point) (e : beyond p p c ≡ q ∷ d) where
    count : variety (p ∷ c) ≡ 2 + variety (others q (others p (beyond p q d)))
    count =
        let s = (or_parts (same_point p q) (same_point p q) (beyond_head p p c q d e)).0 in
        let o : variety (others p c) ≡ variety (q ∷ others p d) = ap variety (others_found ∙ ap (others p) e ∙ others_new p q d s) in
        let b : variety (others q (others p (beyond p q d))) ≡ variety (others q (others p d)) = ap variety (others_beyond p q d) in
        omega (arith, variety_first p c, variety_first q (others p d))

    -- no third
    pub three_two : beyond p q d ≡ [] → false ≡ leb fewest_different (variety (p ∷ c))
    unfolding others
    three_two f =
        let n : variety (others q (others p (beyond p q d))) ≡ 0 = ap (λ (l : List Point). variety (others q (others p l))) f ∙ variety_none in
        sym (lt-leb fewest_different (variety (p ∷ c)) (omega (arith, count)))

    -- a third
    pub three_found : (r : Point) (l : List Point) → beyond p q d ≡ r ∷ l → true ≡ leb fewest_different (variety (p ∷ c))
    three_found r l f =
        let h = or_parts (same_point p r) (same_point q r) (beyond_head p q d r l f) in
        let o = ap (λ (m : List Point). others q (others p m)) f ∙ ap (others q) (others_new p r l h.0) ∙ others_new q r (others p l) h.1 in
        sym (le-leb fewest_different (variety (p ∷ c)) (omega (arith, count, ap variety o, variety_first r (others q (others p l)))))

-- ---- from the end backward

module _ (p q : Point) where
  pub trimmed_last : (c : List Point) → same_point p q ≡ true → trimmed p (c ++ (q ∷ [])) ≡ trimmed p c
  unfolding trimmed
  trimmed_last [] e = ap (λ (b : Bool). cond b [] (q ∷ [])) e
  trimmed_last (r ∷ c) e = ap (kept_before p r) (trimmed_last c e)

  pub trimmed_stop : (c : List Point) → same_point p q ≡ false → trimmed p (c ++ (q ∷ [])) ≡ c ++ (q ∷ [])
  unfolding trimmed
  trimmed_stop [] e = ap (λ (b : Bool). cond b [] (q ∷ [])) e
  trimmed_stop (r ∷ c) e = ap (kept_before p r) (trimmed_stop c e) ∙ some c
    where
      some : (c : List Point) → kept_before p r (c ++ (q ∷ [])) ≡ r ∷ (c ++ (q ∷ []))
      some [] = refl
      some (s ∷ c) = refl

-- ---- the first two steps of cleaning, in either order

trimmed_twice : (p : Point) (c : List Point) → trimmed p (trimmed p c) ≡ trimmed p c
unfolding trimmed
trimmed_twice p [] = refl
trimmed_twice p (q ∷ c) = by (trimmed_twice p c) (trims p q c) (trims p q (trimmed p c))
  where
    by : trimmed p (trimmed p c) ≡ trimmed p c → Trims p q c → Trims p q (trimmed p c) → trimmed p (trimmed p (q ∷ c)) ≡ trimmed p (q ∷ c)
    by h (goes n s z) t = ap (trimmed p) z ∙ sym z
    by h (stays u z) (goes n s y) = absurd (u s (sym h ∙ n))
    by h (stays u z) (stays v y) = ap (trimmed p) z ∙ y ∙ ap (λ (d : List Point). q ∷ d) h ∙ sym z

-- nothing but p
unrepeated_none : (p : Point) (c : List Point) → unrepeated p c ≡ [] → trimmed p c ≡ []
unfolding unrepeated trimmed
unrepeated_none p [] e = refl
unrepeated_none p (q ∷ c) e =
    ⊎_elim (λ s. by s (unrepeated_none p c (sym (unrepeated_same p q c s) ∙ e)) (trims p q c)) (λ s. absurd (cons_apart (sym (unrepeated_new p q c s) ∙ e)))
    (decide (same_point p q))
  where
    by : same_point p q ≡ true → trimmed p c ≡ [] → Trims p q c → trimmed p (q ∷ c) ≡ []
    by s n (goes m t z) = z
    by s n (stays u z) = absurd (u s n)

-- at a point r after q, if they may be exchanged after it
module _ (p q r : Point) (c : List Point) (h : trimmed p (unrepeated q c) ≡ unrepeated q (trimmed p c))
    (k : trimmed p (unrepeated r c) ≡ unrepeated r (trimmed p c)) where
  exchange_same : same_point q r ≡ true → Trims p r c → trimmed p (unrepeated q c) ≡ unrepeated q (trimmed p (r ∷ c))
  unfolding unrepeated
  exchange_same s (goes n t z) = h ∙ ap (unrepeated q) (n ∙ sym z)
  exchange_same s (stays u z) = h ∙ sym (unrepeated_same q r (trimmed p c) s) ∙ ap (unrepeated q) (sym z)

  exchange_new : same_point q r ≡ false → Trims p r c → Trims p r (unrepeated r c) → trimmed p (r ∷ unrepeated r c) ≡ unrepeated q (trimmed p (r ∷ c))
  unfolding unrepeated
  exchange_new s (goes n t z) (goes m v y) = y ∙ sym (ap (unrepeated q) z)
  exchange_new s (goes n t z) (stays u y) = absurd (u t (k ∙ ap (unrepeated r) n))
  exchange_new s (stays u z) (stays v y) = y ∙ ap (λ (d : List Point). r ∷ d) k ∙ sym (unrepeated_new q r (trimmed p c) s) ∙ ap (unrepeated q) (sym z)
  exchange_new s (stays u z) (goes m t y) =
      let e = ap (λ (o : Point). unrepeated o (trimmed p c)) (same_is p r t) ∙ sym k ∙ m in
      absurd (u t (sym (trimmed_twice p c) ∙ unrepeated_none p (trimmed p c) e))

exchange : (p q : Point) (c : List Point) → trimmed p (unrepeated q c) ≡ unrepeated q (trimmed p c)
unfolding trimmed unrepeated
exchange p q [] = refl
exchange p q (r ∷ c) =
    ⊎_elim (λ s. ap (trimmed p) (unrepeated_same q r c s) ∙ exchange_same p q r c (exchange p q c) (exchange p r c) s (trims p r c))
    (λ s. ap (trimmed p) (unrepeated_new q r c s) ∙ exchange_new p q r c (exchange p q c) (exchange p r c) s (trims p r c) (trims p r (unrepeated r c)))
    (decide (same_point q r))

pub neat_is : (p : Point) (c : List Point) → p ∷ unrepeated p (trimmed p c) ≡ neat (p ∷ c)
unfolding neat
neat_is p c = ap (λ (d : List Point). p ∷ d) (sym (exchange p p c))
