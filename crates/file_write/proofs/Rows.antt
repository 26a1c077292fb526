-- The points of a row of numbers one by one, and the contours of a table of ends one by one.
use mathlib.Core.Path.{◌≡◌, refl, sym, ap, ◌∙◌, subst}
use mathlib.Core.List.{List, [], ◌∷◌, ◌++◌, flat_map, append_assoc}
use Prim.Native.Nat.{ℕ, suc, ◌+◌, ◌-◌, ◌*◌, ◌/◌, ◌<◌, ◌≤◌}
use native.Mathlib.Omega.{arith}
use native.Mathlib.Numerals.{add-one}
use lib.ListN.{length, get_or, take, drop, length-drop}
use Rattle.std.proofs.lemmas.List.{get_or-take}
use lib.Seq.{drop-cons, slice, slice_empty, slice-cons, length-take-le}
use lib.IntN.{ℤ, pos, ◌-ℤ◌}
use Rattle.file_formats.specs.Formats.{encode_all}
use Rattle.file_formats.specs.Numbers.{encode_number, zigzag}
use Rattle.file_formats.specs.SequenceLaws.{encode_none, encode_first}
use Rattle.file_formats.specs.LayerFile.{Point, point_format, latest}
use Rattle.file_formats.specs.LayerFileLaws.{point_encode}
use Rattle.file_write.specs.LayerTables.{EndsWithin, LayerTables}
use Rattle.file_write.specs.Written.{points_in, contours_in, layer_of, point_bytes, contour_bytes, layer_bytes}
use Rattle.file_write.specs.WrittenLaws.{contour_bytes_lem, layer_bytes_lem}

-- ---- points

length_row : (row : List ℤ) → length (points_in row) ≡ length row / 2
unfolding points_in
length_row [] = refl
length_row (x ∷ []) = refl
length_row (x ∷ y ∷ row) = omega (arith, length_row row)

module _ (row : List ℤ) (k : ℕ) where
  -- point k of the row
  abbrev row_point : Point
  row_point = record { x = get_or row (2 * k) (pos 0); y = get_or row (2 * k + 1) (pos 0) }

  -- the points from k on, and their bytes after the point p
  abbrev points_after : List Point
  points_after = points_in (drop (2 * k) row)

  abbrev pub bytes_after : Point → List ℕ
  bytes_after p = encode_all point_format latest p points_after

module _ (row : List ℤ) (k : ℕ) where
  next_point_lem : k < length row / 2 → points_after row k ≡ row_point row k ∷ points_after row (k + 1)
  unfolding points_in
  next_point_lem h =
      let e : suc (suc (2 * k)) ≡ 2 * (k + 1) = omega arith in
      let f : suc (2 * k) ≡ 2 * k + 1 = omega arith in
      ap points_in (drop-cons row (2 * k) (pos 0) (omega arith) ∙ ap (λ (l : List ℤ). get_or row (2 * k) (pos 0) ∷ l)
      (drop-cons row (suc (2 * k)) (pos 0) (omega arith)))
      ∙ (λ i. record { x = get_or row (2 * k) (pos 0); y = get_or row (f i) (pos 0) } ∷ points_in (drop (e i) row))

  no_points : length row / 2 ≤ k → points_after row k ≡ []
  unfolding points_in
  no_points h = by (drop (2 * k) row) (length-drop (2 * k) row)
    where
      by : (l : List ℤ) → length l ≡ length row - 2 * k → points_in l ≡ []
      by [] e = refl
      by (x ∷ []) e = refl
      by (x ∷ y ∷ l) e = absurd (omega arith)

  -- the next point's bytes, by the numbers that the code has
  module _ (h : k < length row / 2) (p : Point) {nx ny : ℤ} (ex : nx ≡ get_or row (2 * k) (pos 0)) (ey : ny ≡ get_or row (2 * k + 1) (pos 0))
      {dx dy : ℕ} (fx : dx ≡ zigzag (nx -ℤ p.x)) (fy : dy ≡ zigzag (ny -ℤ p.y)) where
    pub next_bytes : bytes_after row k p ≡ encode_number dx ++ (encode_number dy ++ bytes_after row (k + 1) (record { x = nx; y = ny }))
    next_bytes = rw (fx, fy, ex, ey, next_point_lem) (simp (encode_first, point_encode, append_assoc))

  pub no_bytes : length row / 2 ≤ k → (p : Point) → bytes_after row k p ≡ []
  no_bytes h p = rw no_points (encode_none point_format latest p)

-- bytes are a piece and what is left
pub record Pieces (all first rest : List ℕ) : Type 0 where
  pub joined : all ≡ first ++ rest

-- a contour's bytes, by the count that the code has
pub row_bytes : (row : List ℤ) → Pieces (contour_bytes (points_in row)) (encode_number (length row / 2)) (point_bytes (points_in row))
row_bytes row =
    record { joined = contour_bytes_lem (points_in row) ∙ ap (λ (n : ℕ). encode_number n ++ point_bytes (points_in row)) (length_row row) }

-- ---- contours

-- a loop over the ends stands at end i, and the end before it is `from`
pub record EndsPlace (points : List ℤ) (ends : List ℕ) (j from i : ℕ) : Type 0 where
  pub there : j ≤ length ends
  pub inside : i ≤ j
  pub within : 2 * from ≤ length points
  pub rise : EndsWithin (length points) from (slice i j ends)

-- the contours from contour i on
abbrev pub contours_after : List ℤ → List ℕ → ℕ → ℕ → ℕ → List (List Point)
contours_after points ends j from i = contours_in points from (slice i j ends)

pub place_start : {points : List ℤ} {ends : List ℕ} {j : ℕ} → LayerTables points ends j → EndsPlace points ends j 0 0
place_start t = record { there = t.there; inside = omega arith; within = omega arith; rise = t.rise }

module _ {points : List ℤ} {ends : List ℕ} {j from i : ℕ} (w : EndsPlace points ends j from i) where
  pub no_contours : length (take j ends) ≤ i → contours_after points ends j from i ≡ []
  unfolding contours_in
  no_contours h =
      let e : i ≡ j = omega (arith, w.inside, length-take-le j ends w.there) in
      ap (λ (k : ℕ). contours_in points from (slice k j ends)) e ∙ ap (contours_in points from) (slice_empty j ends)

  -- the end at hand is one of the first j
  module _ (h : i < length (take j ends)) {e : ℕ} (is : e ≡ get_or (take j ends) i 0) where
    more : i < j
    more = omega (arith, length-take-le j ends w.there)

    next_end : slice i j ends ≡ e ∷ slice (i + 1) j ends
    next_end = let this : e ≡ get_or ends i 0 = is ∙ get_or-take j ends i 0 more in rw (this, add-one) (slice-cons i j ends 0 more w.there)

    rises : (from ≤ e) × (2 * e ≤ length points) × EndsWithin (length points) e (slice (i + 1) j ends)
    rises = subst (EndsWithin (length points) from) next_end w.rise

    pub end_rises : from ≤ e
    end_rises = rises.0

    pub end_within : 2 * e ≤ length points
    end_within = rises.1

    pub place_next : EndsPlace points ends j e (i + 1)
    place_next = record { there = w.there; inside = omega (arith, more); within = rises.1; rise = rises.2 }

    -- the next contour is the part that the code takes
    pub next_contour : contours_after points ends j from i
        ≡ points_in (take (2 * e - 2 * from) (drop (2 * from) points)) ∷ contours_after points ends j e (i + 1)
    unfolding contours_in
    next_contour =
        let n : 2 * (e - from) ≡ 2 * e - 2 * from = omega arith in
        ap (contours_in points from) next_end
        ∙ ap (λ (k : ℕ). points_in (take k (drop (2 * from) points)) ∷ contours_after points ends j e (i + 1)) n

length_contours : (points : List ℤ) (from : ℕ) (ends : List ℕ) → length (contours_in points from ends) ≡ length ends
unfolding contours_in
length_contours points from [] = refl
length_contours points from (end ∷ ends) = ap suc (length_contours points end ends)

-- ---- a layer

-- the bytes of the layer that tables hold, by the numbers that the code has
module _ {points : List ℤ} {ends : List ℕ} {j : ℕ} (t : LayerTables points ends j) where
  abbrev pub held_contours : List ℕ
  held_contours = flat_map contour_bytes (contours_in points 0 (take j ends))

  pub held_bytes : (h : ℤ) {u : ℕ} → u ≡ zigzag h → Pieces (layer_bytes (layer_of h points ends j)) (encode_number u) (encode_number j ++ held_contours)
  unfolding layer_of
  held_bytes h is =
      let n : length (contours_in points 0 (take j ends)) ≡ j = length_contours points 0 (take j ends) ∙ length-take-le j ends t.there in
      record { joined = layer_bytes_lem (layer_of h points ends j) ∙ (λ i. encode_number (sym is i) ++ (encode_number (n i) ++ held_contours)) }
