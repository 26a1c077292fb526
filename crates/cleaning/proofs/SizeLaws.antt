-- What cleaning leaves: points that were there, no more of them, and of each contour at least three.
use Rattle.std.specs.Prelude.{◌≡◌, true, false, suc, ◌≤◌, length}
use Rattle.std.proofs.Common.{sym, ap, arith, leb-true}
use Rattle.std.proofs.Math.Path.{subst}
use mathlib.Core.List.{List, [], ◌∷◌}
use Rattle.std.proofs.Math.Logic.{⊎_elim}
use Rattle.polygons.specs.Flat.{Point, fewest_points, point_total, Each, Polygons}
use Rattle.cleaning.specs.Cleaning.{same_point, unrepeated, trimmed, neat, variety, fewest_different, kept, cleaned}
use Rattle.cleaning.specs.PointLaws.{decide, unrepeated_same, unrepeated_new, Trims, goes, stays, trims}
use Rattle.cleaning.proofs.CleaningLaws.{cleaned_kept, cleaned_dropped}
use Rattle.cleaning.proofs.VarietyLaws.{variety_length}

-- ---- a contour

-- what holds of every point holds of those that are left
module _ (P : Point → Type 0) where
  each_unrepeated : (p : Point) (c : List Point) → Each P c → Each P (unrepeated p c)
  unfolding unrepeated
  each_unrepeated p [] e = tt
  each_unrepeated p (q ∷ c) e =
      ⊎_elim (λ s. subst (Each P) (sym (unrepeated_same p q c s)) (each_unrepeated p c e.1))
      (λ s. subst (Each P) (sym (unrepeated_new p q c s)) (e.0, each_unrepeated q c e.1))
      (decide (same_point p q))

  each_trimmed : (p : Point) (c : List Point) → Each P c → Each P (trimmed p c)
  unfolding trimmed
  each_trimmed p [] e = tt
  each_trimmed p (q ∷ c) e = by (each_trimmed p c e.1) (trims p q c)
    where
      by : Each P (trimmed p c) → Trims p q c → Each P (trimmed p (q ∷ c))
      by h (goes n s z) = subst (Each P) (sym z) tt
      by h (stays u z) = subst (Each P) (sym z) (e.0, h)

  pub each_neat : (c : List Point) → Each P c → Each P (neat c)
  unfolding neat
  each_neat [] e = tt
  each_neat (p ∷ c) e = (e.0, each_trimmed p (unrepeated p c) (each_unrepeated p c e.1))

length_unrepeated : (p : Point) (c : List Point) → length (unrepeated p c) ≤ length c
unfolding unrepeated
length_unrepeated p [] = omega arith
length_unrepeated p (q ∷ c) =
    ⊎_elim (λ s. omega (arith, ap length (unrepeated_same p q c s), length_unrepeated p c))
    (λ s. omega (arith, ap length (unrepeated_new p q c s), length_unrepeated q c))
    (decide (same_point p q))

length_trimmed : (p : Point) (c : List Point) → length (trimmed p c) ≤ length c
unfolding trimmed
length_trimmed p [] = omega arith
length_trimmed p (q ∷ c) = by (length_trimmed p c) (trims p q c)
  where
    by : length (trimmed p c) ≤ length c → Trims p q c → length (trimmed p (q ∷ c)) ≤ suc (length c)
    by h (goes n s z) = omega (arith, ap length z)
    by h (stays u z) = omega (arith, ap length z)

pub length_neat : (c : List Point) → length (neat c) ≤ length c
unfolding neat
length_neat [] = omega arith
length_neat (p ∷ c) = omega (arith, length_trimmed p (unrepeated p c), length_unrepeated p c)

-- at least three points
pub kept_length : (c : List Point) → kept c ≡ true → fewest_different ≤ length (neat c)
unfolding kept
kept_length c e = omega (arith, leb-true fewest_different (variety (neat c)) e, variety_length (neat c))

-- ---- a layer

module _ (c : List Point) (cs : List (List Point)) where
  pub by_kept : {A : Type 0} → (kept c ≡ true → cleaned (c ∷ cs) ≡ neat c ∷ cleaned cs → A) → (kept c ≡ false → cleaned (c ∷ cs) ≡ cleaned cs → A) → A
  by_kept f g = ⊎_elim (λ e. f e (cleaned_kept c cs e)) (λ e. g e (cleaned_dropped c cs e)) (decide (kept c))

-- what holds of every point holds of those that are left
pub each_cleaned : (P : Point → Type 0) (cs : List (List Point)) → Each (Each P) cs → Each (Each P) (cleaned cs)
unfolding cleaned
each_cleaned P [] e = tt
each_cleaned P (c ∷ cs) e =
    by_kept c cs (λ k z. subst (Each (Each P)) (sym z) (each_neat P c e.0, each_cleaned P cs e.1))
    (λ k z. subst (Each (Each P)) (sym z) (each_cleaned P cs e.1))

pub cleaned_long : (cs : List (List Point)) → Each (λ (c : List Point). fewest_different ≤ length c) (cleaned cs)
unfolding cleaned
cleaned_long [] = tt
cleaned_long (c ∷ cs) =
    by_kept c cs (λ k z. subst (Each (λ (d : List Point). fewest_different ≤ length d)) (sym z) (kept_length c k, cleaned_long cs))
    (λ k z. subst (Each (λ (d : List Point). fewest_different ≤ length d)) (sym z) (cleaned_long cs))

pub cleaned_total : (cs : List (List Point)) → point_total (cleaned cs) ≤ point_total cs
unfolding cleaned
cleaned_total [] = omega arith
cleaned_total (c ∷ cs) =
    by_kept c cs (λ k z. omega (arith, ap point_total z, length_neat c, cleaned_total cs)) (λ k z. omega (arith, ap point_total z, cleaned_total cs))

pub cleaned_count : (cs : List (List Point)) → length (cleaned cs) ≤ length cs
unfolding cleaned
cleaned_count [] = omega arith
cleaned_count (c ∷ cs) = by_kept c cs (λ k z. omega (arith, ap length z, cleaned_count cs)) (λ k z. omega (arith, ap length z, cleaned_count cs))

-- contours of a layer are contours of a layer again
two_each : (cs : List (List Point)) → Each (λ (c : List Point). fewest_different ≤ length c) cs → Each (λ (c : List Point). fewest_points ≤ length c) cs
two_each [] e = tt
two_each (c ∷ cs) e = (omega (arith, e.0), two_each cs e.1)

pub cleaned_polygons : (cs : List (List Point)) → Polygons cs → Polygons (cleaned cs)
cleaned_polygons cs h = record { few = omega (arith, cleaned_total cs, h.few); each = two_each (cleaned cs) (cleaned_long cs) }
