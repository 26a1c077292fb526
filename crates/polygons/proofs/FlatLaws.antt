-- Layers as data and their tables are the same thing: the contours of the tables of some contours are these contours; the tables of the contours of a layer's
-- tables are these tables; and the test passes exactly the tables of contours of two points or more, not too many in all.
use Prim.Native.Nat.{ℕ, zero, suc, ◌+◌, ◌-◌, ◌*◌, ◌≤◌, ◌<◌}
use Rattle.std.specs.Prelude.{◌≡◌, true, not, ◌↔◌, get_or, take, leb, ℤ, pos, nat_abs}
use Rattle.std.proofs.Math.Path.{refl, sym, ap}
use Rattle.std.proofs.Common.{◌∙◌, subst, length-append, drop_of_length-le, take_at, drop_at, drop-drop}
use mathlib.Core.List.{List, [], ◌∷◌, ◌++◌, map, flatten, append_assoc, append-nil, map-append}
use native.Mathlib.Omega.{arith}
use borrow.Author.Tests.{ltb-false, leb-true, eqb-true, le-ltb, le-leb, eq-eqb, not-false}
use Rattle.std.proofs.Math.ListN.{length, drop, length-map, length-drop, take-append-drop}
use Rattle.std.proofs.Math.Seq.{length-take-le}
use Rattle.laws.specs.Booleans.{and_parts, and_of}
use Rattle.laws.specs.TableLaws.{overwrite_front}
use Rattle.mesh.specs.Corners.{largest}
use Rattle.mesh.specs.Operation.{Nowhere, fine, test, verdict}
use Rattle.mesh.specs.OperationLaws.{None, more, done, whole_fine, fine_nowhere, fine_none, none_fine}
use Rattle.mesh.specs.Refusals.{refusal}
use Rattle.mesh.specs.Tests.{out_of_range, range}
pub use Rattle.polygons.specs.TestedLayers.{FlatTested, LayerTested}
use Rattle.polygons.specs.Flat.{Point, no_point, PointNear, fewest_points, point_total, Each, Polygons, FlatLayer, flat, numbers_of, ends_from}
use Rattle.polygons.specs.Flat.{ends_of, flat_of}
use Rattle.polygons.specs.Flat.{holding, layer_front, points_in, points_between, contours_in, polygons_of, end_before}
use Rattle.polygons.specs.Flat.{run_fits, ends_rise, last_end, is_layer, not_layer, layer_tests}

-- ---- what holds of each

module _ {A : Type 0} (P : A → Type 0) where
  pub each_at : (d : A) (l : List A) → ((i : ℕ) → i < length l → P (get_or l i d)) → Each P l
  each_at d [] h = tt
  each_at d (a ∷ l) h = (h 0 (omega arith), each_at d l (λ i k. h (suc i) (omega arith)))

  pub each_join : (l r : List A) → Each P l → Each P r → Each P (l ++ r)
  each_join [] r p q = q
  each_join (a ∷ l) r p q = (p.0, each_join l r p.1 q)

  pub each_parts : (l r : List A) → Each P (l ++ r) → Each P l × Each P r
  each_parts [] r p = (tt, p)
  each_parts (a ∷ l) r p = let q = each_parts l r p.1 in ((p.0, q.0), q.1)

  pub at_each : (d : A) (l : List A) → Each P l → (i : ℕ) → i < length l → P (get_or l i d)
  at_each d [] e i h = absurd (omega arith)
  at_each d (a ∷ l) e zero h = e.0
  at_each d (a ∷ l) e (suc i) h = at_each d l e.1 i (omega arith)

  pub each_flatten : (ls : List (List A)) → Each (Each P) ls → Each P (flatten ls)
  unfolding flatten
  each_flatten [] e = tt
  each_flatten (l ∷ ls) e = each_join l (flatten ls) e.0 (each_flatten ls e.1)

  pub flatten_each : (ls : List (List A)) → Each P (flatten ls) → Each (Each P) ls
  unfolding flatten
  flatten_each [] e = tt
  flatten_each (l ∷ ls) e = let parts = each_parts l (flatten ls) e in (parts.0, flatten_each ls parts.1)

-- of two points or more each, there are at most half as many contours as points
pub few_polygons : {A : Type 0} (cs : List (List A)) → Each (λ (c : List A). fewest_points ≤ length c) cs → 2 * length cs ≤ point_total cs
few_polygons [] e = omega arith
few_polygons (c ∷ cs) e = omega (arith, e.0, few_polygons cs e.1)

-- a number is in coordinate range
abbrev NumberNear : ℤ → Type 0
NumberNear z = nat_abs z ≤ largest

-- of all points, and of all their numbers
pub near_numbers : (c : List Point) → Each PointNear c → Each NumberNear (numbers_of c)
unfolding numbers_of
near_numbers [] e = tt
near_numbers (p ∷ c) e = (e.0.0, (e.0.1, near_numbers c e.1))

pub numbers_near : (c : List Point) → Each NumberNear (numbers_of c) → Each PointNear c
unfolding numbers_of
numbers_near [] e = tt
numbers_near (p ∷ c) e = ((e.0, e.1.0), numbers_near c e.1.1)

-- ---- how long the tables are, part by part

module _ {A : Type 0} where
  pub length_ends : (k : ℕ) (cs : List (List A)) → length (ends_from k cs) ≡ length cs
  unfolding ends_from
  length_ends k [] = refl
  length_ends k (c ∷ cs) = ap suc (length_ends (k + length c) cs)

  pub ends_first : (k : ℕ) (c : List A) (cs : List (List A)) → ends_from k (c ∷ cs) ≡ (k + length c) ∷ ends_from (k + length c) cs
  unfolding ends_from
  ends_first k c cs = refl

pub length_numbers : (c : List Point) → length (numbers_of c) ≡ 2 * length c
unfolding numbers_of
length_numbers [] = refl
length_numbers (p ∷ c) = omega (arith, length_numbers c)

pub numbers_none : numbers_of [] ≡ []
unfolding numbers_of
numbers_none = refl

pub numbers_first : (p : Point) (c : List Point) → numbers_of (p ∷ c) ≡ p.x ∷ p.y ∷ numbers_of c
unfolding numbers_of
numbers_first p c = refl

pub numbers_append : (c d : List Point) → numbers_of (c ++ d) ≡ numbers_of c ++ numbers_of d
unfolding numbers_of
numbers_append [] d = refl
numbers_append (p ∷ c) d = ap (λ (l : List ℤ). p.x ∷ p.y ∷ l) (numbers_append c d)

pub flatten_first : (c : List Point) (cs : List (List Point)) → numbers_of (flatten (c ∷ cs)) ≡ numbers_of c ++ numbers_of (flatten cs)
unfolding flatten
flatten_first c cs = numbers_append c (flatten cs)

pub flatten_none : numbers_of (flatten []) ≡ []
unfolding flatten numbers_of
flatten_none = refl

pub length_flatten : {A : Type 0} (cs : List (List A)) → length (flatten cs) ≡ point_total cs
unfolding flatten
length_flatten [] = refl
length_flatten (c ∷ cs) = length-append c (flatten cs) ∙ ap (λ (n : ℕ). length c + n) (length_flatten cs)

-- two numbers for each point, one end for each contour
pub length_points : (cs : List (List Point)) → length (flat_of cs).points ≡ 2 * point_total cs
length_points cs = length_numbers (flatten cs) ∙ ap (λ (n : ℕ). 2 * n) (length_flatten cs)

-- contours that stand in front of two tables are the layer there
pub front_holding : (cs : List (List Point)) (u : FlatLayer) → layer_front (length cs, point_total cs) (holding cs u) ≡ flat_of cs
front_holding cs u =
    λ i. flat (overwrite_front (flat_of cs).points u.points (length_points cs) i) (overwrite_front (flat_of cs).ends u.ends (length_ends 0 cs) i)

-- numbers 2 i and 2 i + 1 are those of point i
pub number_x : (c : List Point) (i : ℕ) → get_or (numbers_of c) (2 * i) (pos 0) ≡ (get_or c i no_point).x
unfolding numbers_of
number_x [] i = refl
number_x (p ∷ c) zero = refl
number_x (p ∷ c) (suc i) =
    let e : 2 * suc i ≡ suc (suc (2 * i)) = omega arith in
    ap (λ (k : ℕ). get_or (numbers_of (p ∷ c)) k (pos 0)) e ∙ number_x c i

pub number_y : (c : List Point) (i : ℕ) → get_or (numbers_of c) (2 * i + 1) (pos 0) ≡ (get_or c i no_point).y
unfolding numbers_of
number_y [] i = refl
number_y (p ∷ c) zero = refl
number_y (p ∷ c) (suc i) =
    let e : 2 * suc i + 1 ≡ suc (suc (2 * i + 1)) = omega arith in
    ap (λ (k : ℕ). get_or (numbers_of (p ∷ c)) k (pos 0)) e ∙ number_y c i

-- for contours that are told by names: the points of the names, and the same ends
module _ {A B : Type 0} (f : A → B) where
  pub map_at : (l : List A) (i : ℕ) (d : A) (e : B) → i < length l → get_or (map f l) i e ≡ f (get_or l i d)
  map_at [] i d e h = absurd (omega arith)
  map_at (a ∷ l) zero d e h = refl
  map_at (a ∷ l) (suc i) d e h = map_at l i d e (omega arith)

  pub flatten_map : (cs : List (List A)) → flatten (map (map f) cs) ≡ map f (flatten cs)
  unfolding flatten
  flatten_map [] = refl
  flatten_map (c ∷ cs) = ap (λ (l : List B). map f c ++ l) (flatten_map cs) ∙ sym (map-append f c (flatten cs))

  pub ends_map : (k : ℕ) (cs : List (List A)) → ends_from k (map (map f) cs) ≡ ends_from k cs
  unfolding ends_from
  ends_map k [] = refl
  ends_map k (c ∷ cs) =
      (λ i. (k + length-map c f i) ∷ ends_from (k + length-map c f i) (map (map f) cs))
      ∙ ap (λ (l : List ℕ). (k + length c) ∷ l) (ends_map (k + length c) cs)

-- ---- from contours to tables and back

pub points_numbers : (c : List Point) → points_in (numbers_of c) ≡ c
unfolding points_in numbers_of
points_numbers [] = refl
points_numbers (p ∷ c) = ap (λ (l : List Point). p ∷ l) (points_numbers c)

-- the first of some contours, after points that stand in front, and the table by what stands in front of the others
module _ (front c : List Point) (cs : List (List Point)) (rest : List ℤ) where
  split : numbers_of (c ++ flatten cs) ++ rest ≡ numbers_of c ++ (numbers_of (flatten cs) ++ rest)
  split = ap (λ (l : List ℤ). l ++ rest) (numbers_append c (flatten cs)) ∙ append_assoc (numbers_of c) (numbers_of (flatten cs)) rest

  first_part : points_between (numbers_of front ++ (numbers_of (c ++ flatten cs) ++ rest)) (length front) (length front + length c) ≡ numbers_of c
  first_part =
      let size : length front + length c - length front ≡ length c = omega arith in
      (λ i. take (2 * size i) (drop_at (numbers_of front) (numbers_of (c ++ flatten cs) ++ rest) (2 * length front) (length_numbers front) i))
      ∙ ap (take (2 * length c)) split
      ∙ take_at (numbers_of c) (numbers_of (flatten cs) ++ rest) (2 * length c) (length_numbers c)

  front_more : numbers_of front ++ (numbers_of (c ++ flatten cs) ++ rest) ≡ numbers_of (front ++ c) ++ (numbers_of (flatten cs) ++ rest)
  front_more =
      ap (λ (l : List ℤ). numbers_of front ++ l) split
      ∙ sym (append_assoc (numbers_of front) (numbers_of c) (numbers_of (flatten cs) ++ rest))
      ∙ ap (λ (l : List ℤ). l ++ (numbers_of (flatten cs) ++ rest)) (sym (numbers_append front c))

-- contours whose tables stand behind other points, and before anything
pub contours_in_lem : (front : List Point) (cs : List (List Point)) (rest : List ℤ)
    → contours_in (numbers_of front ++ (numbers_of (flatten cs) ++ rest)) (length front) (ends_from (length front) cs) ≡ cs
unfolding contours_in ends_from flatten
contours_in_lem front [] rest = refl
contours_in_lem front (c ∷ cs) rest =
    let n = sym (length-append front c) in
    λ i. (ap points_in (first_part front c cs rest) ∙ points_numbers c) i
    ∷ ((λ k. contours_in (front_more front c cs rest k) (n k) (ends_from (n k) cs)) ∙ contours_in_lem (front ++ c) cs rest) i

-- the contours of the tables of some contours are these contours
pub polygons_flat : (cs : List (List Point)) → polygons_of (flat_of cs) ≡ cs
polygons_flat cs =
    (λ i. contours_in (front i) 0 (ends_of cs)) ∙ contours_in_lem [] cs []
  where
    front : numbers_of (flatten cs) ≡ numbers_of [] ++ (numbers_of (flatten cs) ++ [])
    front = sym (append-nil (numbers_of (flatten cs))) ∙ ap (λ (l : List ℤ). l ++ (numbers_of (flatten cs) ++ [])) (sym numbers_none)

-- ---- from tables to contours and back

-- k points, two numbers for each
pub row_points : (k : ℕ) (row : List ℤ) → length row ≡ 2 * k → (numbers_of (points_in row) ≡ row) × (length (points_in row) ≡ k)
unfolding numbers_of points_in
row_points zero [] e = (refl, refl)
row_points zero (x ∷ row) e = absurd (omega arith)
row_points (suc k) [] e = absurd (omega arith)
row_points (suc k) (x ∷ []) e = absurd (omega arith)
row_points (suc k) (x ∷ y ∷ row) e =
    let r = row_points k row (omega arith) in
    (ap (λ (l : List ℤ). x ∷ y ∷ l) r.0, ap suc r.1)

last_above : (from : ℕ) (ends : List ℕ) → ends_rise from ends ≡ true → from ≤ last_end from ends
unfolding ends_rise last_end
last_above from [] e = omega arith
last_above from (end ∷ ends) e =
    let p = and_parts _ _ e in
    omega (arith, leb-true (from + fewest_points) end p.0, last_above end ends p.1)

-- what the contours after `from` hold
module _ (points : List ℤ) where
  pub record Back (from : ℕ) (ends : List ℕ) : Type 0 where
    pub points_back : numbers_of (flatten (contours_in points from ends)) ≡ drop (2 * from) points
    pub ends_back : ends_from from (contours_in points from ends) ≡ ends
    pub total : from + point_total (contours_in points from ends) ≡ last_end from ends
    pub each : Each (λ (c : List Point). fewest_points ≤ length c) (contours_in points from ends)

  pub back : (from : ℕ) (ends : List ℕ) → ends_rise from ends ≡ true → 2 * last_end from ends ≡ length points → Back from ends
  unfolding contours_in ends_from last_end ends_rise
  back from [] r e =
      record {
        points_back = flatten_none ∙ sym (drop_of_length-le points {i = 2 * from} (omega arith));
        ends_back = refl;
        total = omega arith;
        each = tt;
      }
  back from (end ∷ ends) r e =
      let p = and_parts _ _ r in
      let up : from + fewest_points ≤ end = leb-true (from + fewest_points) end p.0 in
      let n = 2 * (end - from) in
      let low : 2 * end ≤ length points = omega (arith, last_above end ends p.1) in
      let left : length (drop (2 * from) points) ≡ length points - 2 * from = length-drop (2 * from) points in
      let size : length (points_between points from end) ≡ 2 * (end - from) = length-take-le n (drop (2 * from) points) (omega arith) in
      let row = row_points (end - from) (points_between points from end) size in
      let rest = back end ends p.1 e in
      let at : 2 * from + n ≡ 2 * end = omega arith in
      let own : from + length (points_in (points_between points from end)) ≡ end = omega (arith, row.1) in
      record {
        points_back =
            flatten_first (points_in (points_between points from end)) (contours_in points end ends)
            ∙ (λ i. row.0 i ++ rest.points_back i)
            ∙ ap (λ (l : List ℤ). points_between points from end ++ l) (ap (λ (k : ℕ). drop k points) (sym at) ∙ sym (drop-drop n (2 * from) points))
            ∙ take-append-drop n (drop (2 * from) points);
        ends_back = (λ i. own i ∷ ends_from (own i) (contours_in points end ends)) ∙ ap (λ (l : List ℕ). end ∷ l) rest.ends_back;
        total = omega (arith, row.1, rest.total);
        each = (omega (arith, row.1), rest.each);
      }

-- ---- the test

pub layer_parts : (t : FlatLayer) → is_layer t ≡ true → FlatTested t
unfolding is_layer run_fits
layer_parts t e =
    let p = and_parts _ _ e in
    let q = and_parts _ _ p.0 in
    let r = and_parts _ _ q.0 in
    record { even = eqb-true _ _ r.0; few = leb-true _ _ r.1; rising = q.1; last = eqb-true _ _ p.1 }

pub layer_of_lem : (t : FlatLayer) → FlatTested t → is_layer t ≡ true
unfolding is_layer run_fits
layer_of_lem t h = and_of (and_of (and_of (eq-eqb _ _ h.even) (le-leb _ _ h.few)) h.rising) (eq-eqb _ _ h.last)

-- the tables of the contours of a layer's tables are these tables, and the contours have two points or more
module _ (t : FlatLayer) (h : FlatTested t) where
  its_back : Back t.points 0 t.ends
  its_back = back t.points 0 t.ends h.rising (omega (arith, h.even, h.last))

  pub flat_polygons : flat_of (polygons_of t) ≡ t
  flat_polygons = λ i. flat (its_back.points_back i) (its_back.ends_back i)

  pub layer_polygons : Polygons (polygons_of t)
  layer_polygons = record { few = omega (arith, its_back.total, h.last, h.few); each = its_back.each }

-- and the tables of such contours pass
ends_rise_lem : (k : ℕ) (cs : List (List Point)) → Each (λ (c : List Point). fewest_points ≤ length c) cs
    → (ends_rise k (ends_from k cs) ≡ true) × (last_end k (ends_from k cs) ≡ k + point_total cs)
unfolding ends_rise last_end ends_from
ends_rise_lem k [] e = (refl, omega arith)
ends_rise_lem k (c ∷ cs) e =
    let r = ends_rise_lem (k + length c) cs e.1 in
    (and_of (le-leb (k + fewest_points) (k + length c) (omega (arith, e.0))) r.0, omega (arith, r.1))

pub polygons_tested : (cs : List (List Point)) → Polygons cs → FlatTested (flat_of cs)
polygons_tested cs p =
    let n = length_points cs in
    let r = ends_rise_lem 0 cs p.each in
    record { even = omega (arith, n); few = omega (arith, n, p.few); rising = r.0; last = omega (arith, n, r.1) }

-- exactly the tables of some contours of two points or more, no more in all than a layer has
pub layer_exactly : (t : FlatLayer) → (is_layer t ≡ true) ↔ ((cs : List (List Point)) × Polygons cs × (t ≡ flat_of cs))
layer_exactly t = (
  (λ e. let h = layer_parts t e in (polygons_of t, layer_polygons t h, sym (flat_polygons t h))),
  (λ q. layer_of_lem t (subst FlatTested (sym q.2) (polygons_tested q.0 q.1))),
)

-- refusal 1 finds nothing of exactly these
pub layer_passes : (t : FlatLayer) → (test (not_layer t) ≡ fine) ↔ ((cs : List (List Point)) × Polygons cs × (t ≡ flat_of cs))
layer_passes t = (
  (λ e. (layer_exactly t).0 (not-false (is_layer t) (fine_nowhere (not_layer t) e 0 (omega arith)))),
  (λ q. sym (whole_fine (refusal 1) (not (is_layer t)) (ap not ((layer_exactly t).1 q)))),
)

-- ---- both tests

-- what 1 and 2 find nothing of
pub none_tested : (t : FlatLayer) → Nowhere (not_layer t) → Nowhere (range t.points) → LayerTested t
unfolding out_of_range
none_tested t l r = record { tested = layer_parts t (not-false _ (l 0 (omega arith))); small = λ i h. ltb-false _ _ (r i h) }

pub layer_tested : (t : FlatLayer) → verdict (layer_tests t) ≡ fine → LayerTested t
layer_tested t e = go (fine_none (layer_tests t) e)
  where
    go : None (layer_tests t) → LayerTested t
    go (more l (more r done)) = none_tested t l r

pub tested_fine : (t : FlatLayer) → LayerTested t → verdict (layer_tests t) ≡ fine
unfolding out_of_range
tested_fine t h =
    none_fine (layer_tests t) (more (λ i l. ap not (layer_of_lem t h.tested)) (more (λ i l. le-ltb _ _ (h.small i l)) done))

-- its contours have points in range, and contours of such points pass
pub tested_near : (t : FlatLayer) → LayerTested t → Each (Each PointNear) (polygons_of t)
tested_near t h =
    let same = ap (λ (v : FlatLayer). v.points) (flat_polygons t h.tested) in
    let row = subst (Each NumberNear) (sym same) (each_at NumberNear (pos 0) t.points h.small) in
    flatten_each PointNear (polygons_of t) (numbers_near (flatten (polygons_of t)) row)

pub near_tested : (cs : List (List Point)) → Polygons cs → Each (Each PointNear) cs → LayerTested (flat_of cs)
near_tested cs p e =
    let row = near_numbers (flatten cs) (each_flatten PointNear cs e) in
    record { tested = polygons_tested cs p; small = at_each NumberNear (pos 0) (numbers_of (flatten cs)) row }

-- ---- one contour of a layer: from the end before it to its own

pub before_next : (from : ℕ) (ends : List ℕ) (j : ℕ) → 0 < j → get_or ends (j - 1) 0 ≡ end_before from ends j
unfolding end_before
before_next from ends zero h = absurd (omega arith)
before_next from ends (suc j) h = let e : suc j - 1 ≡ j = omega arith in ap (λ (i : ℕ). get_or ends i 0) e

pub before_later : (from end : ℕ) (ends : List ℕ) (j : ℕ) → end_before end ends j ≡ end_before from (end ∷ ends) (suc j)
unfolding end_before
before_later from end ends zero = refl
before_later from end ends (suc j) = refl

pub contour_in_lem : (points : List ℤ) (from : ℕ) (ends : List ℕ) (j : ℕ) → j < length ends
    → get_or (contours_in points from ends) j []
    ≡ points_in (points_between points (end_before from ends j) (get_or ends j 0))
unfolding contours_in end_before
contour_in_lem points from [] j h = absurd (omega arith)
contour_in_lem points from (end ∷ ends) zero h = refl
contour_in_lem points from (end ∷ ends) (suc j) h =
    contour_in_lem points end ends j (omega arith)
    ∙ ap (λ (b : ℕ). points_in (points_between points b (get_or ends j 0))) (before_later from end ends j)

-- it has two points or more and ends with the last one or before
pub end_rises : (from : ℕ) (ends : List ℕ) → ends_rise from ends ≡ true → (j : ℕ) → j < length ends
    → (end_before from ends j + fewest_points ≤ get_or ends j 0) × (get_or ends j 0 ≤ last_end from ends)
unfolding ends_rise last_end end_before
end_rises from [] e j h = absurd (omega arith)
end_rises from (end ∷ ends) e zero h =
    let p = and_parts (leb (from + fewest_points) end) (ends_rise end ends) e in
    (leb-true (from + fewest_points) end p.0, last_above end ends p.1)
end_rises from (end ∷ ends) e (suc j) h =
    let p = and_parts (leb (from + fewest_points) end) (ends_rise end ends) e in
    let r = end_rises end ends p.1 j (omega arith) in
    (omega (arith, r.0, before_later from end ends j), r.1)

-- the end before one more contour than there are is the last
pub before_all : (from : ℕ) (ends : List ℕ) → end_before from ends (length ends) ≡ last_end from ends
unfolding end_before last_end
before_all from [] = refl
before_all from (end ∷ ends) = sym (before_later from end ends (length ends)) ∙ before_all end ends
