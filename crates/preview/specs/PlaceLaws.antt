-- The calls of a tested layer by the numbers of its two tables.
use Rattle.std.specs.Prelude.{ℕ, ◌+◌, ◌-◌, ◌/◌, ◌≤◌, ◌<◌, ◌≡◌, Bool, cond, ◌↔◌, eqb, ℤ, Some, None, slice_get, option_map}
use Rattle.std.proofs.Math.Path.{refl, ap}
use Rattle.std.proofs.Common.{sym, ◌∙◌, subst}
use Rattle.std.proofs.Math.Bool.{true, false}
use mathlib.Core.List.{List, [], ◌∷◌, flatten}
use Rattle.std.proofs.lemmas.Option.{slice_get-map}
use native.Mathlib.Omega.{arith}
use Rattle.std.proofs.Math.ListN.{length, get_or, length-map}
use Rattle.laws.specs.EntryLaws.{entry_none}
use Rattle.polygons.specs.Flat.{Point, no_point, point, Each, FlatLayer, fewest_points, ends_of, numbers_of, polygons_of, end_before}
use Rattle.polygons.proofs.FlatLaws.{number_x, number_y, length_ends, length_points, FlatTested, flat_polygons, layer_polygons}
use Rattle.preview_floats.specs.declared.Origin.{Origin}
use Rattle.preview.specs.declared.PathCall.TheVariants.{Close}
use Rattle.preview.specs.Calls.{Stroke, move, line, close, drawn_call, strokes_of, calls_of}
use Rattle.preview.specs.CallLaws.{strokes_count, stroke_at, strokes_at}
use Rattle.preview.specs.Places.{Belongs, table_point, call_here}

some_points : (cs : List (List Point)) → Each (λ (c : List Point). fewest_points ≤ length c) cs → Each (λ (c : List Point). 0 < length c) cs
some_points [] e = tt
some_points (c ∷ cs) e = (omega (arith, e.0), some_points cs e.1)

module _ (o : Origin) (t : FlatLayer) (h : FlatTested t) where
  abbrev cs : List (List Point)
  cs = polygons_of t

  ends_are : ends_of cs ≡ t.ends
  ends_are = ap (λ (u : FlatLayer). u.ends) (flat_polygons t h)

  points_are : numbers_of (flatten cs) ≡ t.points
  points_are = ap (λ (u : FlatLayer). u.points) (flat_polygons t h)

  -- how many calls: one for each point and one for each contour (PREVIEW-1)
  pub calls_count : length (calls_of o t) ≡ length t.points / 2 + length t.ends
  unfolding calls_of
  calls_count =
      let points = length_points cs in
      omega (arith, length-map (strokes_of cs) (drawn_call o), strokes_count cs, points, ap length points_are, ap length ends_are, length_ends 0 cs)

  -- past the last exactly from there on (PREVIEW-5)
  pub past_exactly : (k : ℕ) → (slice_get (calls_of o t) k ≡ None) ↔ (length t.points / 2 + length t.ends ≤ k)
  past_exactly k =
      let p = entry_none (calls_of o t) k in
      (λ e. omega (arith, p.0 e, calls_count), λ l. p.1 (omega (arith, calls_count)))

  -- point i of all contours is that of the table
  point_is : (i : ℕ) → get_or (flatten cs) i no_point ≡ table_point t.points i
  point_is i =
      (λ k. point (sym (number_x (flatten cs) i) k) (sym (number_y (flatten cs) i) k))
      ∙ ap (λ (ps : List ℤ). table_point ps i) points_are

  module _ (k j : ℕ) (b : Belongs t.ends k j) where
    module _ (there : j < length t.ends) where
      abbrev start : ℕ
      start = end_before 0 t.ends j

      abbrev end : ℕ
      end = get_or t.ends j 0

      abbrev stroke : Stroke
      stroke = stroke_at (flatten cs) start end (k - j)

      call_at : slice_get (calls_of o t) k ≡ Some (drawn_call o stroke)
      unfolding calls_of
      call_at =
          slice_get-map (drawn_call o) (strokes_of cs) k
          ∙ ap (option_map (drawn_call o))
          (subst (λ (es : List ℕ). j < length cs → end_before 0 es j + j ≤ 0 + k → 0 + k ≤ get_or es j 0 + j
          → slice_get (strokes_of cs) k ≡ Some (stroke_at (flatten cs) (end_before 0 es j) (get_or es j 0) (0 + k - j))) ends_are
          (λ q f g. strokes_at [] 0 cs j k refl (some_points cs (layer_polygons t h).each) q f g)
          (omega (arith, there, ap length ends_are, length_ends 0 cs)) (omega (arith, b.from)) (omega (arith, b.to there))
          ∙ (let n : 0 + k - j ≡ k - j = omega arith in ap (λ (i : ℕ). Some (stroke_at (flatten cs) start end i)) n))

      pub call_here_lem : slice_get (calls_of o t) k ≡ Some (call_here o t.points start end (k - j))
      unfolding stroke_at call_here
      call_here_lem = call_at ∙ go (eqb (k - j) end) (eqb (k - j) start)
        where
          go : (a c : Bool)
              → Some (drawn_call o (cond a close (cond c (move (get_or (flatten cs) (k - j) no_point)) (line (get_or (flatten cs) (k - j) no_point)))))
              ≡ Some (cond a Close (cond c (drawn_call o (move (table_point t.points (k - j)))) (drawn_call o (line (table_point t.points (k - j))))))
          go true c = refl
          go false true = ap (λ (p : Point). Some (drawn_call o (move p))) (point_is (k - j))
          go false false = ap (λ (p : Point). Some (drawn_call o (line p))) (point_is (k - j))
