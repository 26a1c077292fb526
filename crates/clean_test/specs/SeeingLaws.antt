-- Point by point it is found whether a contour is clean.
use Rattle.std.specs.Prelude.{ℕ, ◌+◌, ◌≡◌, Bool, true, false, ◌&&◌, ◌||◌, List, [], ◌∷◌, ◌⊎◌, leb}
use Rattle.std.proofs.Math.Path.{refl, ap}
use Rattle.std.proofs.Common.{sym, ◌∙◌, inl, inr, arith, le-leb, leb-true, leb-false}
use Rattle.std.proofs.Math.Bool.{not, cond}
use Rattle.std.proofs.lemmas.Bool.{lt-leb}
use Rattle.polygons.specs.Flat.{Point}
use Rattle.cleaning.specs.Cleaning.{same_point, variety, fewest_different, is_clean}
use Rattle.cleaning.specs.Tests.{others, apart, looks_clean}
use Rattle.cleaning.specs.PointLaws.{decide, same_is, same_refl}
use Rattle.cleaning.proofs.VarietyLaws.{others_same, others_new, variety_first, variety_none}
use Rattle.cleaning.proofs.CleaningLaws.{looks_clean_lem}
use Rattle.clean_test.specs.Seeing.{seen, unseen, seeing, seen_clean, seen_all}

-- ---- one step, by what was seen

module _ (f l p q : Point) (b : Bool) where
  first_step : seeing unseen p q ≡ seen 1 q q true
  unfolding seeing
  first_step = refl

  three_step : seeing (seen 3 f l b) p q ≡ seen 3 f l (b && not (same_point p q))
  unfolding seeing
  three_step = refl

  -- q is one of the two, or a third
  two_old : (same_point f q || same_point l q) ≡ true → seeing (seen 2 f l b) p q ≡ seen 2 f l (b && not (same_point p q))
  unfolding seeing
  two_old e = ap (λ (k : Bool). cond k (seen 2 f l (b && not (same_point p q))) (seen 3 f q (b && not (same_point p q)))) e

  two_new : (same_point f q || same_point l q) ≡ false → seeing (seen 2 f l b) p q ≡ seen 3 f q (b && not (same_point p q))
  unfolding seeing
  two_new e = ap (λ (k : Bool). cond k (seen 2 f l (b && not (same_point p q))) (seen 3 f q (b && not (same_point p q)))) e

  -- q is the first, or a second
  one_old : (same_point f q || same_point f q) ≡ true → seeing (seen 1 f f b) p q ≡ seen 1 f f (b && not (same_point p q))
  unfolding seeing
  one_old e = ap (λ (k : Bool). cond k (seen 1 f f (b && not (same_point p q))) (seen 2 f q (b && not (same_point p q)))) e

  one_new : (same_point f q || same_point f q) ≡ false → seeing (seen 1 f f b) p q ≡ seen 2 f q (b && not (same_point p q))
  unfolding seeing
  one_new e = ap (λ (k : Bool). cond k (seen 1 f f (b && not (same_point p q))) (seen 2 f q (b && not (same_point p q)))) e

-- ---- all points that follow p

-- the neighbours' test goes through
again : (b x y t : Bool) → (((b && x) && y) && t) ≡ ((b && (x && y)) && t)
again true x y t = refl
again false x y t = refl

all_three : (f l p : Point) (b : Bool) (c : List Point) → seen_all (seen 3 f l b) p c ≡ (b && apart f p c)
unfolding seen_all seen_clean apart
all_three f l p b [] = refl
all_three f l p b (q ∷ c) = ap (λ s. seen_all s q c) (three_step f l p q b) ∙ all_three f l q (b && not (same_point p q)) c ∙ by b
  where
    by : (b : Bool) → ((b && not (same_point p q)) && apart f q c) ≡ (b && (not (same_point p q) && apart f q c))
    by true = refl
    by false = refl

-- there is a point
some : List Point → Bool
some [] = false
some (p ∷ c) = true

all_two : (f l p : Point) (b : Bool) (c : List Point) → seen_all (seen 2 f l b) p c ≡ ((b && apart f p c) && some (others l (others f c)))
unfolding seen_all seen_clean apart others some
all_two f l p b [] = by (b && not (same_point f p))
  where
    by : (x : Bool) → false ≡ (x && false)
    by true = refl
    by false = refl
all_two f l p b (q ∷ c) = by (all_two f l q (b && not (same_point p q)) c) (decide (same_point f q)) (decide (same_point l q))
  where
    by : seen_all (seen 2 f l (b && not (same_point p q))) q c ≡ (((b && not (same_point p q)) && apart f q c) && some (others l (others f c)))
        → (same_point f q ≡ true) ⊎ (same_point f q ≡ false) → (same_point l q ≡ true) ⊎ (same_point l q ≡ false)
        → seen_all (seeing (seen 2 f l b) p q) q c ≡ ((b && apart f p (q ∷ c)) && some (others l (others f (q ∷ c))))
    by rest (inl a) h =
        let known : (same_point f q || same_point l q) ≡ true = ap (λ (k : Bool). k || same_point l q) a in
        ap (λ s. seen_all s q c) (two_old f l p q b known) ∙ rest
        ∙ again b (not (same_point p q)) (apart f q c) (some (others l (others f c)))
        ∙ ap (λ (d : List Point). (b && apart f p (q ∷ c)) && some (others l d)) (sym (others_same f q c a))
    by rest (inr a) (inl h) =
        let known : (same_point f q || same_point l q) ≡ true = ap (λ (k : Bool). k || same_point l q) a ∙ h in
        ap (λ s. seen_all s q c) (two_old f l p q b known) ∙ rest
        ∙ again b (not (same_point p q)) (apart f q c) (some (others l (others f c)))
        ∙ ap (λ (d : List Point). (b && apart f p (q ∷ c)) && some d) (sym (others_same l q (others f c) h) ∙ ap (others l) (sym (others_new f q c a)))
    by rest (inr a) (inr h) =
        let other : (same_point f q || same_point l q) ≡ false = ap (λ (k : Bool). k || same_point l q) a ∙ h in
        ap (λ s. seen_all s q c) (two_new f l p q b other) ∙ all_three f q q (b && not (same_point p q)) c ∙ end b (not (same_point p q)) (apart f q c)
        ∙ ap (λ (d : List Point). (b && apart f p (q ∷ c)) && some d) (sym (others_new l q (others f c) h) ∙ ap (others l) (sym (others_new f q c a)))
      where
        end : (b x y : Bool) → ((b && x) && y) ≡ ((b && (x && y)) && true)
        end true true true = refl
        end true true false = refl
        end true false y = refl
        end false x y = refl

-- as many as there are points, where there is one
some_variety : (c : List Point) → some c ≡ leb 1 (variety c)
unfolding some
some_variety [] = sym (lt-leb 1 (variety []) (omega (arith, variety_none)))
some_variety (p ∷ c) = sym (le-leb 1 (variety (p ∷ c)) (omega (arith, variety_first p c)))

leb_more : (k m : ℕ) → k ≡ 2 + m → leb 1 m ≡ leb 3 k
leb_more k m e = by (leb 1 m) refl
  where
    by : (b : Bool) → leb 1 m ≡ b → b ≡ leb 3 k
    by true t = sym (le-leb 3 k (omega (arith, leb-true 1 m t)))
    by false t = sym (lt-leb 3 k (omega (arith, leb-false 1 m t)))

all_one : (f p : Point) (b : Bool) (c : List Point) → seen_all (seen 1 f f b) p c ≡ ((b && apart f p c) && leb fewest_different (variety (f ∷ c)))
unfolding seen_all seen_clean apart others
all_one f p b [] =
    by (b && not (same_point f p))
    ∙ ap (λ (t : Bool). (b && not (same_point f p)) && t) (sym (lt-leb 3 (variety (f ∷ [])) (omega (arith, variety_first f [], none))))
  where
    by : (x : Bool) → false ≡ (x && false)
    by true = refl
    by false = refl

    none : variety (others f []) ≡ 0
    none = variety_none
all_one f p b (q ∷ c) = by (all_one f q (b && not (same_point p q)) c) (decide (same_point f q))
  where
    by : seen_all (seen 1 f f (b && not (same_point p q))) q c ≡ (((b && not (same_point p q)) && apart f q c) && leb fewest_different (variety (f ∷ c)))
        → (same_point f q ≡ true) ⊎ (same_point f q ≡ false)
        → seen_all (seeing (seen 1 f f b) p q) q c ≡ ((b && apart f p (q ∷ c)) && leb fewest_different (variety (f ∷ q ∷ c)))
    by rest (inl a) =
        let n : variety (f ∷ c) ≡ variety (f ∷ q ∷ c) = omega (arith, variety_first f c, variety_first f (q ∷ c), ap variety (others_same f q c a)) in
        ap (λ s. seen_all s q c) (one_old f f p q b (ap (λ (k : Bool). k || k) a)) ∙ rest
        ∙ again b (not (same_point p q)) (apart f q c) (leb fewest_different (variety (f ∷ c)))
        ∙ ap (λ (k : ℕ). (b && apart f p (q ∷ c)) && leb fewest_different k) n
    by rest (inr a) =
        let n : variety (f ∷ q ∷ c) ≡ 2 + variety (others q (others f c)) =
        omega (arith, variety_first f (q ∷ c), ap variety (others_new f q c a), variety_first q (others f c)) in
        ap (λ s. seen_all s q c) (one_new f f p q b (ap (λ (k : Bool). k || k) a)) ∙ all_two f q q (b && not (same_point p q)) c
        ∙ again b (not (same_point p q)) (apart f q c) (some (others q (others f c)))
        ∙ ap (λ (t : Bool). (b && apart f p (q ∷ c)) && t)
        (some_variety (others q (others f c)) ∙ leb_more (variety (f ∷ q ∷ c)) (variety (others q (others f c))) n)

-- from the first point on, whatever is said to come before it
looks : (p : Point) (c : List Point) → seen_all unseen p c ≡ looks_clean c
unfolding seen_all seen_clean looks_clean
looks p [] = refl
looks p (q ∷ c) = ap (λ s. seen_all s q c) (first_step q q p q true) ∙ all_one q q true c

pub seen_clean_lem : (p : Point) (c : List Point) → seen_all unseen p c ≡ is_clean c
seen_clean_lem p c = looks p c ∙ looks_clean_lem c
