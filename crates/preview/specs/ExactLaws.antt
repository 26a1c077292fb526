-- Every sum is exact (PREVIEW-3): each float that is drawn is exactly point plus origin.
use Rattle.std.specs.Prelude.{List, [], ◌∷◌}
use Rattle.polygons.specs.Flat.{Each, FlatLayer, polygons_of}
use Rattle.preview_floats.specs.declared.Origin.{Origin}
use Rattle.preview_floats.specs.DrawnLaws.{drawn_stands}
use Rattle.preview.specs.Calls.{Stroke, move, line, close, drawn_call, strokes_of}
use Rattle.preview.specs.Exact.{Draws}
use Rattle.preview.specs.Preview.{Drawable}
use Rattle.preview.specs.PreviewLaws.{DrawTested, draw_tested}
use Rattle.preview.specs.ReadLaws.{Small, small_layer}

each_drawn : (t : FlatLayer) (o : Origin) → DrawTested t o → (strokes : List Stroke) → Each Small strokes
    → Each (λ (s : Stroke). Draws o s (drawn_call o s)) strokes
each_drawn t o d [] e = tt
each_drawn t o d (move p ∷ strokes) e = (drawn_stands o p e.0 d.origin, each_drawn t o d strokes e.1)
each_drawn t o d (line p ∷ strokes) e = (drawn_stands o p e.0 d.origin, each_drawn t o d strokes e.1)
each_drawn t o d (close ∷ strokes) e = (tt, each_drawn t o d strokes e.1)

-- each call of a layer that is not refused
pub calls_exact : (t : FlatLayer) (o : Origin) → Drawable t o → Each (λ (s : Stroke). Draws o s (drawn_call o s)) (strokes_of (polygons_of t))
calls_exact t o d = let e = draw_tested t o d in each_drawn t o e (strokes_of (polygons_of t)) (small_layer t o e)
