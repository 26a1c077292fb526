-- Laws of charges: what rounding up gives, that nothing is lost where it is done in parts, and how large a charge can be.
use Rattle.std.specs.Prelude.{ℕ, ◌+◌, ◌-◌, ◌*◌, ◌/◌, ◌%◌, ◌<◌, ◌≤◌, ◌≡◌, refl, List, [], ◌∷◌, ◌++◌, ◌↔◌, length, ℤ, pos, negsuc, nat_abs}
use Rattle.std.proofs.Common.{sym, ap, ◌∙◌, arith, mul-le-mul, mul-le-mul_right, le_trans, div-mul-le_self, div-add-mod'}
use Rattle.std.proofs.Math.Nat.{lt-div-mul-add, div-eq_of_lt-le, mul-add-div_right}
use Rattle.polygons.specs.Flat.{Point, PointNear, most_points, Each}
use Rattle.polygons.specs.ContourAreas.{layer_area, largest_cross}
use Rattle.polygons.specs.AreaBoundLaws.{layer_area_le}
use Rattle.file_formats.specs.LayerFile.{Layer}
use Rattle.file_formats.specs.LayerRules.{ContourRules, LayerRules}
use Rattle.ink.specs.Charges.{doubled_nanolitre, divided_up, layer_charge, job_charge}
use Rattle.ink.specs.Inking.{most_thickness}

-- ---- rounding up

-- m / d rounded up is the least n with m ≤ n × d
pub rounded_up : (m d n : ℕ) → 0 < d → (divided_up m d ≡ n) ↔ ((m ≤ n * d) × (n * d < m + d))
rounded_up m d n h = (to, from)
  where
    to : divided_up m d ≡ n → (m ≤ n * d) × (n * d < m + d)
    to e = rw (sym e) (omega (arith, lt-div-mul-add {a = m + (d - 1)} h), omega (arith, div-mul-le_self (m + (d - 1)) d))

    from : (m ≤ n * d) × (n * d < m + d) → divided_up m d ≡ n
    from p = div-eq_of_lt-le d (omega (arith, p.1)) (omega (arith, p.0))

-- so a charge is the least number of whole nanolitres that covers half of s × t
pub charge_exactly : (t s n : ℕ) → (layer_charge t (pos s) ≡ n) ↔ ((s * t ≤ n * doubled_nanolitre) × (n * doubled_nanolitre < s * t + doubled_nanolitre))
unfolding layer_charge
charge_exactly t s n = rounded_up (s * t) doubled_nanolitre n (omega arith)

-- nothing is charged for an area of nothing, nor below
pub charge_nothing : (t : ℕ) → layer_charge t (pos 0) ≡ 0
unfolding layer_charge
charge_nothing t = omega arith

pub charge_negative : (t s : ℕ) → layer_charge t (negsuc s) ≡ 0
unfolding layer_charge
charge_negative t s = refl

-- the whole nanolitres of one micrometre, and what is left over, multiplied apart
pub charge_split : (t s : ℕ) → layer_charge t (pos s) ≡ s / doubled_nanolitre * t + (s % doubled_nanolitre * t + (doubled_nanolitre - 1)) / doubled_nanolitre
unfolding layer_charge
charge_split t s =
    let whole = s / doubled_nanolitre in
    let rest = s % doubled_nanolitre in
    let parts : (whole * doubled_nanolitre + rest) * t ≡ s * t = ap (λ (n : ℕ). n * t) (div-add-mod' s doubled_nanolitre) in
    let e : s * t + (doubled_nanolitre - 1) ≡ whole * t * doubled_nanolitre + (rest * t + (doubled_nanolitre - 1)) = omega (arith, parts) in
    ap (λ (n : ℕ). n / doubled_nanolitre) e ∙ mul-add-div_right (omega arith) (whole * t) (rest * t + (doubled_nanolitre - 1))

-- ---- the job

-- each layer is rounded up by itself, so that parts of a job are charged what the whole is
pub job_append : (t : ℕ) (ls ms : List Layer) → job_charge t (ls ++ ms) ≡ job_charge t ls + job_charge t ms
unfolding job_charge
job_append t [] ms = omega arith
job_append t (l ∷ ls) ms = omega (arith, job_append t ls ms)

-- ---- how large

-- 98,304 × 2 × 2 ^ 40 × 1,000 / 2,000,000 rounded up
abbrev pub most_charge : ℕ
most_charge = 108086391056892

pub charge_le : (t : ℕ) (area : ℤ) → t ≤ most_thickness → nat_abs area ≤ most_points * largest_cross → layer_charge t area ≤ most_charge
unfolding layer_charge
charge_le t (pos s) h a =
    let p : s * t ≤ most_points * largest_cross * most_thickness = mul-le-mul a h in
    omega arith
charge_le t (negsuc s) h a =
    let size : s + 1 ≤ most_points * largest_cross = omega (arith, a) in
    let p : (s + 1) * t ≤ most_points * largest_cross * most_thickness = mul-le-mul size h in
    omega arith

contours_near : (cs : List (List Point)) → Each ContourRules cs → Each (Each PointNear) cs
contours_near [] e = tt
contours_near (c ∷ cs) e = (e.0.1, contours_near cs e.1)

-- a layer that obeys the rules
pub layer_charge_le : (t : ℕ) (l : Layer) → t ≤ most_thickness → LayerRules l → layer_charge t (layer_area l.contours) ≤ most_charge
layer_charge_le t l h r =
    charge_le t (layer_area l.contours) h
    (le_trans (layer_area_le l.contours (contours_near l.contours r.each)) (mul-le-mul_right largest_cross r.few))

-- and layers that do
pub job_charge_le : (t : ℕ) (ls : List Layer) → t ≤ most_thickness → Each LayerRules ls → job_charge t ls ≤ length ls * most_charge
unfolding job_charge
job_charge_le t [] h e = omega arith
job_charge_le t (l ∷ ls) h e = omega (arith, layer_charge_le t l h e.0, job_charge_le t ls h e.1)
