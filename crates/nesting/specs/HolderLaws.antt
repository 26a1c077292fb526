-- Contours of a layer that was tested, in its tables and as data: contour j of the tables has the points of contour j, can be asked for its extent
-- and its area, and its first point stands after the end before it. So the tables tell which contours hold which.
use Rattle.std.specs.Prelude.{ℕ, ◌+◌, ◌-◌, ◌*◌, ◌/◌, ◌≤◌, ◌<◌, ◌≡◌, true, ◌&&◌, eqb, length, get_or, ℤ, pos}
use Rattle.std.proofs.Common.{sym, ◌∙◌, arith}
use Rattle.std.proofs.Math.Path.{ap}
use Rattle.std.proofs.Math.Bool.{not}
use mathlib.Core.List.{List}
use Rattle.std.proofs.Math.IntN.{nat_abs}
use Rattle.polygons.specs.Flat.{Point, point, nth_point, FlatLayer, points_in, polygons_of, is_layer}
use Rattle.polygons.proofs.FlatLaws.{LayerTested, few_polygons, length_ends, points_numbers, layer_of_lem, flat_polygons, layer_polygons, end_rises}
use Rattle.polygons.specs.ContourAreas.{contour_area}
use Rattle.contours.specs.Areas.{x_of, y_of}
use Rattle.contours.specs.Contours.{prior_end, own_end, contour_of}
use Rattle.contours.specs.ContourLaws.{HasContour, span_there}
use Rattle.contours.proofs.ContourLaws.{length_contour, contour_at_lem, contour_run}
use Rattle.contours.specs.PolygonLaws.{contour_polygon}
use Rattle.contours.specs.Runs.{PointRun}
use Rattle.inside.specs.Inside.{lies_in}
use Rattle.inside.specs.PointLaws.{row_point_lem}
use Rattle.nesting.specs.Nests.{nth_contour, held_by, size_of, no_parent}

-- the point after the first k of a table
abbrev pub start_point : List ℤ → ℕ → Point
start_point points k = point (x_of points k) (y_of points k)

module _ {t : FlatLayer} (l : LayerTested t) where
  is_layer_lem : is_layer t ≡ true
  is_layer_lem = layer_of_lem t l.tested

  -- one contour for each end, and so few that their numbers are below that for no parent
  pub length_polygons : length (polygons_of t) ≡ length t.ends
  length_polygons = sym (length_ends 0 (polygons_of t)) ∙ ap (λ (v : FlatLayer). length v.ends) (flat_polygons t l.tested)

  pub few_numbers : length (polygons_of t) ≤ no_parent
  few_numbers = let p = layer_polygons t l.tested in omega (arith, p.few, few_polygons (polygons_of t) p.each)

  pub few_ends_lem : length t.ends ≤ no_parent
  few_ends_lem = omega (arith, length_polygons, few_numbers)

  module _ (j : ℕ) (h : j < length t.ends) where
    -- ---- contour j

    -- it has two points or more, all of them in the table
    end_above : prior_end t.ends j + 2 ≤ own_end t.ends j
    end_above = (end_rises 0 t.ends l.tested.rising j h).0

    end_within : own_end t.ends j ≤ length t.points / 2
    end_within = omega (arith, (end_rises 0 t.ends l.tested.rising j h).1, l.tested.last)

    contour_there : HasContour (length t.points) t.ends j
    contour_there = record { there = h; rises = omega (arith, end_above); within = omega (arith, end_within) }

    contour_length : length (contour_of t.points t.ends j) ≡ 2 * (own_end t.ends j - prior_end t.ends j)
    contour_length = length_contour t.points t.ends j ∙ span_there (length t.points) t.ends j contour_there

    pub contour_some : 0 < length (contour_of t.points t.ends j)
    contour_some = omega (arith, contour_length, end_above)

    pub contour_tested : PointRun (contour_of t.points t.ends j)
    contour_tested =
        contour_run t.points t.ends j (omega (arith, end_within, l.tested.few)) (λ i m. l.small i (omega (arith, end_within)))

    -- as data
    pub contour_data : points_in (contour_of t.points t.ends j) ≡ nth_contour (polygons_of t) j
    contour_data = ap points_in (contour_polygon t is_layer_lem j h) ∙ points_numbers (nth_contour (polygons_of t) j)

    pub contour_size : nat_abs (contour_area (points_in (contour_of t.points t.ends j))) ≡ size_of (polygons_of t) j
    unfolding size_of
    contour_size = ap (λ (c : List Point). nat_abs (contour_area c)) contour_data

    -- ---- its first point

    pub first_within : 2 * prior_end t.ends j + 1 < length t.points
    first_within = omega (arith, end_above, end_within)

    first_number : (k : ℕ) → k < 2 → get_or (contour_of t.points t.ends j) k (pos 0) ≡ get_or t.points (2 * prior_end t.ends j + k) (pos 0)
    first_number k m =
        contour_at_lem t.points t.ends j k (pos 0) (omega (arith, contour_some, contour_length, length_contour t.points t.ends j))

    pub first_point : nth_point (nth_contour (polygons_of t) j) 0 ≡ start_point t.points (prior_end t.ends j)
    first_point =
        let c = contour_of t.points t.ends j in
        let at : 2 * prior_end t.ends j + 0 ≡ 2 * prior_end t.ends j = omega arith in
        let x_is = first_number 0 (omega arith) ∙ ap (λ (k : ℕ). get_or t.points k (pos 0)) at in
        ap (λ (ps : List Point). nth_point ps 0) (sym contour_data) ∙ row_point_lem c contour_tested.even 0
        ∙ (λ i. point (x_is i) (first_number 1 (omega arith) i))

  -- whether contour j holds contour i
  pub held_at : (i j : ℕ) → i < length t.ends → j < length t.ends
      → (not (eqb j i) && lies_in (start_point t.points (prior_end t.ends i)) (points_in (contour_of t.points t.ends j))) ≡ held_by (polygons_of t) i j
  unfolding held_by
  held_at i j hi hj = λ k. not (eqb j i) && lies_in (sym (first_point i hi) k) (contour_data j hj k)
