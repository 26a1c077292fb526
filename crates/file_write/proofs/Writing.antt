-- Writing: a row of points point by point, a layer contour by contour, and pieces one after the other.
use mathlib.Core.Path.{◌≡◌, refl, sym, ap, ◌∙◌, subst}
use mathlib.Core.List.{List, ◌∷◌, ◌++◌, flat_map}
use Prim.Native.Nat.{ℕ, ◌+◌, ◌-◌, ◌*◌, ◌/◌, ◌<◌, ◌≤◌}
use native.Mathlib.Omega.{arith}
use lib.ListN.{length, get_or, take, drop, length-append}
use lib.Seq.{sets, length-sets}
use lib.IntN.{ℤ, pos, ◌-ℤ◌}
use Rattle.file_formats.specs.Numbers.{encode_number, zigzag}
use Rattle.file_formats.specs.EmitLaws.{Emit, emit_start, emit_fits, emit, emit_end, sets_append}
use Rattle.file_write.specs.LayerTables.{LayerTables}
use Rattle.file_write.specs.Written.{points_in, contours_in, layer_of, point_bytes, contour_bytes, layer_bytes, HasRoom, Puts}
use Rattle.file_write.specs.WrittenLaws.{each_room, each_put, each_end}
use Rattle.file_write.proofs.Rows.{Pieces, bytes_after, next_bytes, no_bytes, EndsPlace, contours_after, place_start, place_next, next_contour}
use Rattle.file_write.proofs.Rows.{no_contours, held_contours, held_bytes}

-- ---- one piece after the other

module _ (l : List ℕ) (at : ℕ) {all a b : List ℕ} (parts : Pieces all a b) (h : HasRoom l at all) where
  size : length all ≡ length a + length b
  size = ap length parts.joined ∙ length-append a b

  pub first_room : HasRoom l at a
  first_room = omega (arith, size)

  module _ {p : ℕ} {m : List ℕ} (w : Puts l at a p m) where
    pub rest_room : HasRoom m p b
    rest_room = omega (arith, size, w.0, ap length w.1 ∙ length-sets l at a)

    pub both_put : {q : ℕ} {n : List ℕ} → Puts m p b q n → Puts l at all q n
    both_put v =
        (omega (arith, size, w.0, v.0), v.1 ∙ (λ i. sets (w.1 i) (w.0 i) b) ∙ sym (sets_append a b l at) ∙ ap (sets l at) (sym parts.joined))

-- ---- points

-- k points of a row were written, the last of them is (x, y), and the others go to p
pub record PointsWritten (l : List ℕ) (at : ℕ) (row : List ℤ) (m : List ℕ) (x y : ℤ) (p k : ℕ) : Type 0 where
  pub bytes : Emit l at (point_bytes (points_in row)) m p (bytes_after row k (record { x = x; y = y }))

pub write_points_start : {l : List ℕ} {at : ℕ} {row : List ℤ} → HasRoom l at (point_bytes (points_in row)) → PointsWritten l at row l (pos 0) (pos 0) at 0
unfolding point_bytes
write_points_start h = record { bytes = emit_start _ _ _ h }

module _ {l : List ℕ} {at : ℕ} {row : List ℤ} {m : List ℕ} {x y : ℤ} {p k : ℕ} (w : PointsWritten l at row m x y p k) where
  module _ (h : k < length row / 2) {nx ny : ℤ} (ex : nx ≡ get_or row (2 * k) (pos 0)) (ey : ny ≡ get_or row (2 * k + 1) (pos 0)) {dx dy : ℕ}
      (fx : dx ≡ zigzag (nx -ℤ x)) (fy : dy ≡ zigzag (ny -ℤ y)) where
    pieces : Emit l at (point_bytes (points_in row)) m p (encode_number dx ++ (encode_number dy ++ bytes_after row (k + 1) (record { x = nx; y = ny })))
    pieces = subst (Emit l at (point_bytes (points_in row)) m p) (next_bytes row k h (record { x = x; y = y }) ex ey fx fy) w.bytes

    pub x_room : HasRoom m p (encode_number dx)
    x_room = emit_fits (encode_number dx) _ pieces

    module _ {q : ℕ} {m1 : List ℕ} (v : Puts m p (encode_number dx) q m1) where
      pub y_room : HasRoom m1 q (encode_number dy)
      y_room = rw (v.0, v.1) (emit_fits (encode_number dy) _ (emit (encode_number dx) _ pieces))

      pub points_next : {r : ℕ} {m2 : List ℕ} → Puts m1 q (encode_number dy) r m2 → PointsWritten l at row m2 nx ny r (k + 1)
      points_next u = record { bytes = rw (u.1, u.0, v.1, v.0) (emit (encode_number dy) _ (emit (encode_number dx) _ pieces)) }

  pub points_end : length row / 2 ≤ k → Puts l at (point_bytes (points_in row)) p m
  points_end h = emit_end (subst (Emit l at (point_bytes (points_in row)) m p) (no_bytes row k h (record { x = x; y = y })) w.bytes)

-- ---- contours

-- i contours were written, and the others go to p
pub record ContoursWritten (l : List ℕ) (at : ℕ) (points : List ℤ) (ends : List ℕ) (j : ℕ) (m : List ℕ) (p from i : ℕ) : Type 0 where
  pub place : EndsPlace points ends j from i
  pub bytes : Emit l at (flat_map contour_bytes (contours_in points 0 (take j ends))) m p (flat_map contour_bytes (contours_after points ends j from i))

pub write_contours_start : {l : List ℕ} {at : ℕ} {points : List ℤ} {ends : List ℕ} {j : ℕ} → LayerTables points ends j
    → HasRoom l at (flat_map contour_bytes (contours_in points 0 (take j ends))) → ContoursWritten l at points ends j l at 0 0
write_contours_start t h = record { place = place_start t; bytes = emit_start _ _ _ h }

module _ {l : List ℕ} {at : ℕ} {points : List ℤ} {ends : List ℕ} {j : ℕ} {m : List ℕ} {p from i : ℕ} (w : ContoursWritten l at points ends j m p from i) where
  module _ (h : i < length (take j ends)) {e : ℕ} (is : e ≡ get_or (take j ends) i 0) where
    next : Emit l at (flat_map contour_bytes (contours_in points 0 (take j ends))) m p
        (flat_map contour_bytes (points_in (take (2 * e - 2 * from) (drop (2 * from) points)) ∷ contours_after points ends j e (i + 1)))
    next = rw (next_contour w.place h is) at w.bytes

    pub contour_room : HasRoom m p (contour_bytes (points_in (take (2 * e - 2 * from) (drop (2 * from) points))))
    contour_room = each_room contour_bytes _ _ next

    pub contours_next : {q : ℕ} {m1 : List ℕ} → Puts m p (contour_bytes (points_in (take (2 * e - 2 * from) (drop (2 * from) points)))) q m1
        → ContoursWritten l at points ends j m1 q e (i + 1)
    contours_next v = record { place = place_next w.place h is; bytes = each_put contour_bytes _ _ next v }

  pub contours_end : length (take j ends) ≤ i → Puts l at (flat_map contour_bytes (contours_in points 0 (take j ends))) p m
  contours_end h = each_end contour_bytes (rw (no_contours w.place h) at w.bytes)

-- ---- a layer: its height, its count and its contours

module _ (l : List ℕ) (at : ℕ) {points : List ℤ} {ends : List ℕ} {j : ℕ} (t : LayerTables points ends j) (h : ℤ) {u : ℕ} (is : u ≡ zigzag h)
    (r : HasRoom l at (layer_bytes (layer_of h points ends j))) where
  pub height_room : HasRoom l at (encode_number u)
  height_room = first_room l at (held_bytes t h is) r

  module _ {p : ℕ} {m : List ℕ} (v : Puts l at (encode_number u) p m) where
    counted : Pieces (encode_number j ++ held_contours t) (encode_number j) (held_contours t)
    counted = record { joined = refl }

    rest : HasRoom m p (encode_number j ++ held_contours t)
    rest = rest_room l at (held_bytes t h is) r v

    pub count_room : HasRoom m p (encode_number j)
    count_room = first_room m p counted rest

    module _ {q : ℕ} {n : List ℕ} (w : Puts m p (encode_number j) q n) where
      pub contours_room : HasRoom n q (held_contours t)
      contours_room = rest_room m p counted rest w

      pub layer_put : {e : ℕ} {o : List ℕ} → Puts n q (held_contours t) e o → Puts l at (layer_bytes (layer_of h points ends j)) e o
      layer_put x = both_put l at (held_bytes t h is) r v (both_put m p counted rest w x)
