-- Taking the origin off again gives back the contours, starts and order included; no two layers have the same calls for one origin (PREVIEW-4).
use Rattle.std.specs.Prelude.{ℕ, ◌+◌, ◌*◌, ◌≤◌, ◌<◌, ◌≡◌, refl, true, length, get_or, ℤ, pos, nat_abs}
use Rattle.std.proofs.Common.{sym, ap, ◌∙◌, subst, arith}
use mathlib.Core.List.{List, [], ◌∷◌, ◌++◌, map, flatten, append_assoc, append-nil}
use Rattle.std.specs.Float.{binary32}
use Rattle.std.specs.Float.Ieee.{sub}
use Rattle.laws.specs.Booleans.{and_parts}
use Rattle.mesh.specs.Corners.{largest}
use Rattle.polygons.specs.Flat.{Point, no_point, point, Each, FlatLayer, flat_of, numbers_of, polygons_of}
use Rattle.polygons.proofs.FlatLaws.{number_x, number_y, length_numbers, flat_polygons, each_at, each_join, each_parts}
use Rattle.preview_floats.specs.declared.Origin.{Origin}
use Rattle.preview_floats.specs.WholeFloats.{is_whole, value_of, float}
use Rattle.preview_floats.specs.WholeLaws.{cast_stands}
use Rattle.preview_floats.specs.WholeTestLaws.{stands_value}
use Rattle.preview_floats.specs.DrawnPoints.{whole_origin, drawn_at}
use Rattle.preview_floats.specs.DrawnLaws.{SmallPoint, coordinate_back}
use Rattle.preview.specs.Calls.{Stroke, move, line, close, contour_strokes, strokes_of, drawn_call, calls_of}
use Rattle.preview.specs.ReadCalls.{call_off, stroke_of, contours_drawn, contours_read}
use Rattle.preview.specs.Preview.{Drawable}
use Rattle.preview.specs.PreviewLaws.{DrawTested, draw_tested}

-- ---- one call

abbrev pub Small : Stroke → Type 0
Small (move p) = SmallPoint p
Small (line p) = SmallPoint p
Small close = Unit {0}

-- a float of a number in range is that number
float_value : (z : ℤ) → nat_abs z ≤ largest → value_of (float z) ≡ z
float_value z h = stands_value (float z) z (cast_stands binary32 z (omega arith)) h

module _ (o : Origin) (o-whole : whole_origin o ≡ true) where
  both : (is_whole o.x ≡ true) × (is_whole o.y ≡ true)
  both = and_parts (is_whole o.x) (is_whole o.y) o-whole

  point_back : (p : Point) → SmallPoint p
      → point (value_of (sub binary32 (drawn_at o p).x o.x)) (value_of (sub binary32 (drawn_at o p).y o.y)) ≡ p
  point_back p h =
      (λ i. point (value_of (coordinate_back p.x o.x h.0 both.0 i)) (value_of (coordinate_back p.y o.y h.1 both.1 i)))
      ∙ (λ i. point (float_value p.x h.0 i) (float_value p.y h.1 i))

  call_back : (s : Stroke) → Small s → stroke_of (call_off o (drawn_call o s)) ≡ s
  call_back (move p) h = ap move (point_back p h)
  call_back (line p) h = ap line (point_back p h)
  call_back close h = refl

  calls_back : (strokes : List Stroke) → Each Small strokes → map (λ c. stroke_of (call_off o c)) (map (drawn_call o) strokes) ≡ strokes
  calls_back [] h = refl
  calls_back (s ∷ strokes) h = λ i. call_back s h.0 i ∷ calls_back strokes h.1 i

-- ---- the strokes of contours draw them

lines_drawn : (c ps : List Point) (rest : List Stroke) → contours_drawn c (map line ps ++ (close ∷ rest)) ≡ (c ++ ps) ∷ contours_drawn [] rest
unfolding contours_drawn
lines_drawn c [] rest = ap (λ (l : List Point). l ∷ contours_drawn [] rest) (sym (append-nil c))
lines_drawn c (p ∷ ps) rest = lines_drawn (c ++ (p ∷ [])) ps rest ∙ ap (λ (l : List Point). l ∷ contours_drawn [] rest) (append_assoc c (p ∷ []) ps)

pub contours_drawn_lem : (cs : List (List Point)) → contours_drawn [] (strokes_of cs) ≡ cs
unfolding contours_drawn strokes_of contour_strokes flatten
contours_drawn_lem [] = refl
contours_drawn_lem ([] ∷ cs) = ap (λ (l : List (List Point)). [] ∷ l) (contours_drawn_lem cs)
contours_drawn_lem ((p ∷ c) ∷ cs) =
    ap (contours_drawn (p ∷ [])) (append_assoc (map line c) (close ∷ []) (strokes_of cs))
    ∙ lines_drawn (p ∷ []) c (strokes_of cs)
    ∙ ap (λ (l : List (List Point)). (p ∷ c) ∷ l) (contours_drawn_lem cs)

-- ---- the numbers of a layer that is not refused are small

small_lines : (c : List Point) → Each SmallPoint c → Each Small (map line c)
small_lines [] e = tt
small_lines (p ∷ c) e = (e.0, small_lines c e.1)

small_contour : (c : List Point) → Each SmallPoint c → Each Small (contour_strokes c)
unfolding contour_strokes
small_contour [] e = (tt, tt)
small_contour (p ∷ c) e = (e.0, each_join Small (map line c) (close ∷ []) (small_lines c e.1) (tt, tt))

small_strokes : (cs : List (List Point)) → Each SmallPoint (flatten cs) → Each Small (strokes_of cs)
unfolding strokes_of flatten
small_strokes [] e = tt
small_strokes (c ∷ cs) e =
    let q = each_parts SmallPoint c (flatten cs) e in
    each_join Small (contour_strokes c) (strokes_of cs) (small_contour c q.0) (small_strokes cs q.1)

-- ---- the theorem

module _ (t : FlatLayer) (o : Origin) (d : DrawTested t o) where
  points_are : numbers_of (flatten (polygons_of t)) ≡ t.points
  points_are = ap (λ (u : FlatLayer). u.points) (flat_polygons t d.layer.tested)

  small_points : Each SmallPoint (flatten (polygons_of t))
  small_points = each_at SmallPoint no_point (flatten (polygons_of t)) small
    where
      small : (i : ℕ) → i < length (flatten (polygons_of t)) → SmallPoint (get_or (flatten (polygons_of t)) i no_point)
      small i l =
          let all = flatten (polygons_of t) in
          let long : length t.points ≡ 2 * length all = sym (ap length points_are) ∙ length_numbers all in
          let x_is : get_or t.points (2 * i) (pos 0) ≡ (get_or all i no_point).x = ap (λ (ns : List ℤ). get_or ns (2 * i) (pos 0)) (sym points_are)
          ∙ number_x all i in
          let y_is : get_or t.points (2 * i + 1) (pos 0) ≡ (get_or all i no_point).y =
          ap (λ (ns : List ℤ). get_or ns (2 * i + 1) (pos 0)) (sym points_are) ∙ number_y all i in (
            subst (λ (z : ℤ). nat_abs z ≤ largest) x_is (d.layer.small (2 * i) (omega arith)),
            subst (λ (z : ℤ). nat_abs z ≤ largest) y_is (d.layer.small (2 * i + 1) (omega arith)),
          )

  pub small_layer : Each Small (strokes_of (polygons_of t))
  small_layer = small_strokes (polygons_of t) small_points

-- from the calls alone, the contours
pub contours_read_lem : (t : FlatLayer) (o : Origin) → Drawable t o → contours_read o (calls_of o t) ≡ polygons_of t
unfolding contours_read calls_of
contours_read_lem t o d =
    let e = draw_tested t o d in
    ap (contours_drawn []) (calls_back o e.origin (strokes_of (polygons_of t)) (small_layer t o e)) ∙ contours_drawn_lem (polygons_of t)

-- no two different layers have the same calls for one origin
pub calls_tell : (t u : FlatLayer) (o : Origin) → Drawable t o → Drawable u o → calls_of o t ≡ calls_of o u → t ≡ u
calls_tell t u o d e same =
    sym (flat_polygons t (draw_tested t o d).layer.tested)
    ∙ ap flat_of (sym (contours_read_lem t o d) ∙ ap (contours_read o) same ∙ contours_read_lem u o e)
    ∙ flat_polygons u (draw_tested u o e).layer.tested
