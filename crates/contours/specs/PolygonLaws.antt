-- Contour j of the tables of a layer is contour j of the layer as data.
use Rattle.std.specs.Prelude.{ℕ, ◌-◌, ◌*◌, ◌≤◌, ◌<◌, ◌≡◌, true, [], length, get_or, drop}
use Rattle.std.proofs.Common.{sym, ap, ◌∙◌, arith, length-drop, length-take-le}
use Rattle.polygons.specs.Flat.{FlatLayer, numbers_of, points_between, polygons_of, is_layer}
use Rattle.polygons.proofs.FlatLaws.{layer_parts, row_points, contour_in_lem, end_rises}
use Rattle.contours.specs.Contours.{prior_end, own_end, contour_of}
use Rattle.contours.specs.ContourLaws.{contour_of_lem, contour_is}

pub contour_polygon : (t : FlatLayer) → is_layer t ≡ true → (j : ℕ) → j < length t.ends
    → contour_of t.points t.ends j ≡ numbers_of (get_or (polygons_of t) j [])
contour_polygon t e j h =
    let w = layer_parts t e in
    let r = end_rises 0 t.ends w.rising j h in
    let from = prior_end t.ends j in
    let end = own_end t.ends j in
    let within : 2 * end ≤ length t.points = omega (arith, r.1, w.last) in
    let rises : from ≤ end = omega (arith, r.0) in
    let row = points_between t.points from end in
    let left : length (drop (2 * from) t.points) ≡ length t.points - 2 * from = length-drop (2 * from) t.points in
    let size : length row ≡ 2 * (end - from) = length-take-le (2 * (end - from)) (drop (2 * from) t.points) (omega arith) in
    contour_is t.points t.ends j (contour_of_lem (length t.points) t.ends j (record { there = h; rises = rises; within = within }))
    ∙ sym (row_points (end - from) row size).0
    ∙ ap numbers_of (sym (contour_in_lem t.points 0 t.ends j h))
