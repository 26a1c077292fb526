-- Laws of cleaning: what it leaves is clean, what is clean it leaves as it is, and so twice is once (CLEAN-11).
use Rattle.std.specs.Prelude.{◌≡◌, refl, Bool, true, false, not, cond, List, [], ◌∷◌, ◌↔◌, leb}
use Rattle.std.proofs.Common.{sym, ap, ◌∙◌, subst, ⊎_elim, arith, leb-true}
use Rattle.std.proofs.lemmas.Bool.{not-true}
use Rattle.laws.specs.Booleans.{clash, is_false, same_test, and_parts, and_of, not_of}
use Rattle.polygons.specs.Flat.{Point, Each}
use Rattle.cleaning.specs.Cleaning.{same_point, unrepeated, trimmed, neat, among, variety, fewest_different, kept, cleaned, same_points, is_clean}
use Rattle.cleaning.specs.Tests.{apart, looks_clean}
use Rattle.cleaning.specs.PointLaws.{decide, same_is, same_refl, unrepeated_same, unrepeated_new, Trims, goes, stays, trims}

-- ---- what is left of a contour is clean

-- no neighbours after p are equal, unless all are gone and p is the first again
abbrev Apart : Point → Point → List Point → Type 0
Apart first p c = (same_point first p ≡ true → trimmed first c ≡ [] → ⊥) → apart first p (trimmed first c) ≡ true

apart_next : (first p q : Point) (c : List Point) → same_point p q ≡ false → Apart first q c → Apart first p (q ∷ c)
unfolding apart
apart_next first p q c s rest h = by (trims first q c)
  where
    by : Trims first q c → apart first p (trimmed first (q ∷ c)) ≡ true
    by (goes n t z) = ap (apart first p) z ∙ not_of (is_false (same_point first p) (λ u. h u z))
    by (stays u z) = ap (apart first p) z ∙ and_of (not_of s) (rest u)

trimmed_apart : (first p : Point) (c : List Point) → Apart first p (unrepeated p c)
unfolding apart unrepeated trimmed
trimmed_apart first p [] = λ h. not_of (is_false (same_point first p) (λ e. h e refl))
trimmed_apart first p (q ∷ c) =
    ⊎_elim (λ s. subst (Apart first p) (sym (unrepeated_same p q c s)) (trimmed_apart first p c))
    (λ s. subst (Apart first p) (sym (unrepeated_new p q c s)) (apart_next first p q (unrepeated q c) s (trimmed_apart first q c)))
    (decide (same_point p q))

variety_one : (p : Point) → variety (p ∷ []) ≡ 1
unfolding variety among
variety_one p = refl

neat_looks : (c : List Point) → kept c ≡ true → looks_clean (neat c) ≡ true
unfolding kept neat looks_clean variety
neat_looks [] e = absurd (clash e refl)
neat_looks (p ∷ c) e = and_of (trimmed_apart p p c (λ t n. few n)) e
  where
    few : trimmed p (unrepeated p c) ≡ [] → ⊥
    few n = omega (arith, leb-true fewest_different (variety (neat (p ∷ c))) e, ap (λ (t : List Point). variety (p ∷ t)) n, variety_one p)

-- ---- what is clean stays

apart_unrepeated : (first p : Point) (c : List Point) → apart first p c ≡ true → unrepeated p c ≡ c
unfolding apart unrepeated
apart_unrepeated first p [] e = refl
apart_unrepeated first p (q ∷ c) e =
    let h = and_parts (not (same_point p q)) (apart first q c) e in
    unrepeated_new p q c (not-true (same_point p q) h.0) ∙ ap (λ (d : List Point). q ∷ d) (apart_unrepeated first q c h.1)

apart_trimmed : (first p : Point) (c : List Point) → apart first p c ≡ true → trimmed first c ≡ c
unfolding apart trimmed
apart_trimmed first p [] e = refl
apart_trimmed first p (q ∷ c) e = let h = (and_parts (not (same_point p q)) (apart first q c) e).1 in by h (apart_trimmed first q c h) (trims first q c)
  where
    by : apart first q c ≡ true → trimmed first c ≡ c → Trims first q c → trimmed first (q ∷ c) ≡ q ∷ c
    by h rest (goes n t z) = absurd (clash t (not-true (same_point first q) (ap (apart first q) (sym n ∙ rest) ∙ h)))
    by h rest (stays u z) = z ∙ ap (λ (d : List Point). q ∷ d) rest

looks_neat : (c : List Point) → looks_clean c ≡ true → neat c ≡ c
unfolding looks_clean neat
looks_neat [] e = refl
looks_neat (p ∷ c) e =
    let h = (and_parts (apart p p c) (leb fewest_different (variety (p ∷ c))) e).0 in
    ap (λ (d : List Point). p ∷ d) (ap (trimmed p) (apart_unrepeated p p c h) ∙ apart_trimmed p p c h)

looks_kept : (c : List Point) → looks_clean c ≡ true → kept c ≡ true
unfolding looks_clean kept
looks_kept [] e = absurd (clash e refl)
looks_kept (p ∷ c) e =
    ap (λ (d : List Point). leb fewest_different (variety d)) (looks_neat (p ∷ c) e)
    ∙ (and_parts (apart p p c) (leb fewest_different (variety (p ∷ c))) e).1

-- ---- a clean contour: kept, with all its points

all_is : (c d : List Point) → same_points c d ≡ true → c ≡ d
unfolding same_points
all_is [] [] e = refl
all_is [] (q ∷ d) e = absurd (clash e refl)
all_is (p ∷ c) [] e = absurd (clash e refl)
all_is (p ∷ c) (q ∷ d) e = let h = and_parts (same_point p q) (same_points c d) e in λ i. same_is p q h.0 i ∷ all_is c d h.1 i

all_refl : (c : List Point) → same_points c c ≡ true
unfolding same_points
all_refl [] = refl
all_refl (p ∷ c) = and_of (same_refl p) (all_refl c)

pub clean_kept : (c : List Point) → is_clean c ≡ true → kept c ≡ true
unfolding is_clean
clean_kept c e = (and_parts (kept c) (same_points (neat c) c) e).0

pub clean_neat : (c : List Point) → is_clean c ≡ true → neat c ≡ c
unfolding is_clean
clean_neat c e = all_is (neat c) c (and_parts (kept c) (same_points (neat c) c) e).1

pub clean_of : (c : List Point) → kept c ≡ true → neat c ≡ c → is_clean c ≡ true
unfolding is_clean
clean_of c k n = and_of k (ap (λ (d : List Point). same_points d c) n ∙ all_refl c)

-- it shows in its points
pub looks_clean_lem : (c : List Point) → looks_clean c ≡ is_clean c
looks_clean_lem c =
    same_test (looks_clean c) (is_clean c) (λ e. clean_of c (looks_kept c e) (looks_neat c e))
    (λ e. ap looks_clean (sym (clean_neat c e)) ∙ neat_looks c (clean_kept c e))

-- what is left of a contour is clean
pub neat_clean : (c : List Point) → kept c ≡ true → is_clean (neat c) ≡ true
neat_clean c e = sym (looks_clean_lem (neat c)) ∙ neat_looks c e

-- ---- a layer, contour by contour

pub cleaned_kept : (c : List Point) (cs : List (List Point)) → kept c ≡ true → cleaned (c ∷ cs) ≡ neat c ∷ cleaned cs
unfolding cleaned
cleaned_kept c cs e = ap (λ (b : Bool). cond b (neat c ∷ cleaned cs) (cleaned cs)) e

pub cleaned_dropped : (c : List Point) (cs : List (List Point)) → kept c ≡ false → cleaned (c ∷ cs) ≡ cleaned cs
unfolding cleaned
cleaned_dropped c cs e = ap (λ (b : Bool). cond b (neat c ∷ cleaned cs) (cleaned cs)) e

-- all contours of a layer are clean
abbrev pub AllClean : List (List Point) → Type 0
AllClean cs = Each (λ c. is_clean c ≡ true) cs

-- cleaning leaves clean contours
pub cleaned_clean : (cs : List (List Point)) → AllClean (cleaned cs)
unfolding cleaned
cleaned_clean [] = tt
cleaned_clean (c ∷ cs) =
    ⊎_elim (λ e. subst AllClean (sym (cleaned_kept c cs e)) (neat_clean c e, cleaned_clean cs))
    (λ e. subst AllClean (sym (cleaned_dropped c cs e)) (cleaned_clean cs)) (decide (kept c))

-- and clean contours as they are
pub clean_stays : (cs : List (List Point)) → AllClean cs → cleaned cs ≡ cs
unfolding cleaned
clean_stays [] e = refl
clean_stays (c ∷ cs) e = cleaned_kept c cs (clean_kept c e.0) ∙ (λ i. clean_neat c e.0 i ∷ clean_stays cs e.1 i)

-- cleaning leaves a layer as it is exactly if all its contours are clean
pub clean_exactly : (cs : List (List Point)) → AllClean cs ↔ (cleaned cs ≡ cs)
clean_exactly cs = (clean_stays cs, (λ e. subst AllClean e (cleaned_clean cs)))

-- a contour by itself
pub alone_exactly : (c : List Point) → (is_clean c ≡ true) ↔ (cleaned (c ∷ []) ≡ c ∷ [])
alone_exactly c = ((λ e. clean_stays (c ∷ []) (e, tt)), (λ e. ((clean_exactly (c ∷ [])).1 e).0))

-- cleaning a clean layer changes nothing
pub cleaned_twice : (cs : List (List Point)) → cleaned (cleaned cs) ≡ cleaned cs
cleaned_twice cs = clean_stays (cleaned cs) (cleaned_clean cs)
