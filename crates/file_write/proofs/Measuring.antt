-- Measuring: a row of points point by point, and a layer contour by contour.
use mathlib.Core.Path.{◌≡◌, ap, ◌∙◌}
use mathlib.Core.List.{List, flat_map}
use Prim.Native.Nat.{ℕ, ◌+◌, ◌-◌, ◌*◌, ◌/◌, ◌<◌, ◌≤◌}
use native.Mathlib.Omega.{arith}
use lib.ListN.{length, get_or, take, drop, length-append, length-take}
use lib.IntN.{ℤ, pos, ◌-ℤ◌}
use lib.Signed.{nat_abs-le}
use Rattle.laws.specs.Integers.{abs_sub}
use Rattle.file_formats.specs.Numbers.{encode_number, zigzag, Word}
use Rattle.file_formats.specs.NumberLaws.{encode_short, word_bytes, word_sent, zigzag_abs}
use Rattle.file_formats.specs.LayerFile.{Point}
use Rattle.file_write.specs.LayerTables.{LayerTables}
use Rattle.file_write.specs.Written.{points_in, contours_in, layer_of, point_bytes, contour_bytes, layer_bytes}
use Rattle.file_write.specs.WrittenLaws.{flat_map_first}
use Rattle.file_formats.specs.GroupLaws.{number_few}
use Rattle.file_write.proofs.Rows.{bytes_after, next_bytes, no_bytes, row_bytes, EndsPlace, contours_after, place_start, place_next, end_rises, end_within}
use Rattle.file_write.proofs.Rows.{next_contour, no_contours, held_bytes}

-- ---- points

-- a difference of two numbers of 32 bits takes five bytes at most
difference_five : (p z : ℤ) → Word p → Word z → length (encode_number (zigzag (z -ℤ p))) ≤ 5
difference_five p z h k = encode_short 4 (zigzag (z -ℤ p)) (omega (arith, zigzag_abs (z -ℤ p), abs_sub z p, nat_abs-le p h, nat_abs-le z k))

-- k points of a row took so many bytes, and the last of them is (x, y)
pub record PointsMeasured (row : List ℤ) (x y : ℤ) (total k : ℕ) : Type 0 where
  pub x_word : Word x
  pub y_word : Word y
  pub inside : k ≤ length row / 2
  pub few : total ≤ 10 * k
  pub same : total + length (bytes_after row k (record { x = x; y = y })) ≡ length (point_bytes (points_in row))

pub measure_points_start : {row : List ℤ} → PointsMeasured row (pos 0) (pos 0) 0 0
unfolding point_bytes
measure_points_start = record { x_word = omega arith; y_word = omega arith; inside = omega arith; few = omega arith; same = omega arith }

module _ {row : List ℤ} {x y : ℤ} {total k : ℕ} (m : PointsMeasured row x y total k) where
  module _ (h : k < length row / 2) {nx ny : ℤ} (ex : nx ≡ get_or row (2 * k) (pos 0)) (ey : ny ≡ get_or row (2 * k + 1) (pos 0))
      (vx : Word (get_or row (2 * k) (pos 0))) (vy : Word (get_or row (2 * k + 1) (pos 0)))
      {dx dy lx ly : ℕ} (fx : dx ≡ zigzag (nx -ℤ x)) (fy : dy ≡ zigzag (ny -ℤ y)) (gx : lx ≡ length (encode_number dx)) (gy : ly ≡ length (encode_number dy))
    where
      wx : Word nx
      wx = rw ex vx

      wy : Word ny
      wy = rw ey vy

      pub point_short : lx + ly ≤ 10
      point_short =
          omega (
            arith,
            gx ∙ ap (λ (d : ℕ). length (encode_number d)) fx,
            gy ∙ ap (λ (d : ℕ). length (encode_number d)) fy,
            difference_five x nx m.x_word wx,
            difference_five y ny m.y_word wy,
          )

      pub points_next : PointsMeasured row nx ny (total + (lx + ly)) (k + 1)
      points_next =
          record {
            x_word = wx;
            y_word = wy;
            inside = omega arith;
            few = omega (arith, point_short, m.few);
            same =
                omega (arith, gx, gy, m.same, simp length-append at (ap length (next_bytes row k h (record { x = x; y = y }) ex ey fx fy)));
          }

  pub points_end : length row / 2 ≤ k → (total ≡ length (point_bytes (points_in row))) × (total ≤ 5 * length row)
  points_end h = (omega (arith, ap length (no_bytes row k h (record { x = x; y = y })), m.same), omega (arith, m.inside, m.few))

-- ---- a contour: its count and its points

pub contour_measured : (row : List ℤ) {n p : ℕ} → n ≡ length (encode_number (length row / 2))
    → (p ≡ length (point_bytes (points_in row))) × (p ≤ 5 * length row)
    → (n + p ≡ length (contour_bytes (points_in row))) × (n + p ≤ 1 + 6 * length row)
contour_measured row {n} {p} e h =
    (omega (arith, e, h.0, simp length-append at (ap length (row_bytes row).joined)), omega (arith, e, h.1, number_few (length row / 2)))

-- ---- contours

-- i contours took so many bytes
pub record ContoursMeasured (points : List ℤ) (ends : List ℕ) (j total from i : ℕ) : Type 0 where
  pub place : EndsPlace points ends j from i
  pub few : total ≤ i + 12 * from
  pub same : total + length (flat_map contour_bytes (contours_after points ends j from i))
      ≡ length (flat_map contour_bytes (contours_in points 0 (take j ends)))

pub measure_contours_start : {points : List ℤ} {ends : List ℕ} {j : ℕ} → LayerTables points ends j → ContoursMeasured points ends j 0 0 0
measure_contours_start t = record { place = place_start t; few = omega arith; same = omega arith }

module _ {points : List ℤ} {ends : List ℕ} {j total from i : ℕ} (m : ContoursMeasured points ends j total from i) where
  module _ (h : i < length (take j ends)) {e : ℕ} (is : e ≡ get_or (take j ends) i 0) {n : ℕ}
      (r : (n ≡ length (contour_bytes (points_in (take (2 * e - 2 * from) (drop (2 * from) points))))) × (n ≤ 1 + 6 * length
      (take (2 * e - 2 * from) (drop (2 * from) points)))) where
    contour_few : total + n ≤ i + 1 + 12 * e
    contour_few =
        let l : length (take (2 * e - 2 * from) (drop (2 * from) points)) ≤ 2 * e - 2 * from = simp length-take (omega arith) in
        omega (arith, r.1, m.few, end_rises m.place h is)

    pub contour_fits : total + n ≤ i + 1 + 6 * length points
    contour_fits = omega (arith, contour_few, end_within m.place h is)

    pub contours_next : ContoursMeasured points ends j (total + n) e (i + 1)
    contours_next =
        record {
          place = place_next m.place h is;
          few = contour_few;
          same = omega (
            arith,
            r.0,
            m.same,
            simp length-append at
                (ap length (ap (flat_map contour_bytes) (next_contour m.place h is) ∙ flat_map_first contour_bytes _ _)),
          );
        }

  pub contours_end : length (take j ends) ≤ i → (total ≡ length (flat_map contour_bytes (contours_in points 0 (take j ends)))) × (total ≤ j + 6 * length points)
  unfolding flat_map
  contours_end h = (
    omega (arith, ap (λ (cs : List (List Point)). length (flat_map contour_bytes cs)) (no_contours m.place h), m.same),
    omega
        (arith, m.few, m.place.within, m.place.inside),
  )

-- ---- a layer: its height, its count and its contours

pub layer_measured : {points : List ℤ} {ends : List ℕ} {j : ℕ} → LayerTables points ends j → (h : ℤ) {u a b n : ℕ} → u ≡ zigzag h
    → a ≡ length (encode_number u) → b ≡ length (encode_number j) → n ≡ length (flat_map contour_bytes (contours_in points 0 (take j ends)))
    → a + b + n ≡ length (layer_bytes (layer_of h points ends j))
layer_measured t h is ea eb en = omega (arith, ea, eb, en, simp length-append at (ap length (held_bytes t h is).joined))

-- a height takes at most five bytes
pub height_short : (h : ℤ) → Word h → {u a : ℕ} → u ≡ zigzag h → a ≡ length (encode_number u) → a ≤ 5
height_short h w {u} is e = omega (arith, e, word_bytes u (omega (arith, word_sent h w)))
