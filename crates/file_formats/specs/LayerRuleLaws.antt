-- Layers may be written exactly if they obey the rules.
use Rattle.std.specs.Prelude.{List, [], ◌∷◌, ℕ, zero, suc, ◌-◌, ◌*◌, ◌≤◌, length, ℤ, nat_abs, ◌<ℤ◌}
use Rattle.std.proofs.Common.{arith, le→leb, leb→le}
use Rattle.mesh.specs.Corners.{largest}
use Rattle.polygons.specs.Flat.{PointNear, Polygons, flat_of}
use Rattle.polygons.proofs.FlatLaws.{LayerTested, few_polygons, near_tested}
use Rattle.file_formats.specs.Formats.{valid_all, Each}
use Rattle.file_formats.specs.NumberLaws.{word_sent, sent_word}
use Rattle.file_formats.specs.LayerFile.{Point, Layer, most_points, fewest_points, coordinate_format, point_format, origin, latest, contour_format, room_after}
use Rattle.file_formats.specs.LayerFile.{contour_list_in, height_above, layer_format, layer_format_in, lowest, height_of, layer_file, layer_file_in}
use Rattle.file_formats.specs.LayerFileLaws.{coordinate_valid}
use Rattle.file_formats.specs.LayerRules.{PointRules, ContourRules, point_total, LayerRules, RisingLayers, Rules}

-- ---- points

points_valid : (p : Point) → PointRules p → (c : List Point) → Each PointRules c → valid_all point_format latest (length c) p c
unfolding point_format
points_valid p h [] e = tt
points_valid p h (q ∷ c) e =
    ((coordinate_valid p.x q.x h.0 e.0.0, coordinate_valid p.y q.y h.1 e.0.1), points_valid q e.0 c e.1)

points_ruled : (n : ℕ) (p : Point) (c : List Point) → valid_all point_format latest n p c → Each PointRules c
unfolding point_format coordinate_format
points_ruled n p [] e = tt
points_ruled zero p (q ∷ c) e = absurd e
points_ruled (suc n) p (q ∷ c) e =
    ((leb→le (nat_abs q.x) largest e.0.0.1, leb→le (nat_abs q.y) largest e.0.1.1), points_ruled n q c e.1)

-- ---- contours

contour_valid : (room : ℕ) (c : List Point) → length c ≤ room → ContourRules c → (contour_format room).valid c
unfolding contour_format
contour_valid room c h e = ((h, le→leb fewest_points (length c) e.0), points_valid origin (omega arith, omega arith) c e.1)

contour_ruled : (room : ℕ) (c : List Point) → (contour_format room).valid c → (length c ≤ room) × ContourRules c
unfolding contour_format
contour_ruled room c e = (e.0.0, (leb→le fewest_points (length c) e.0.1, points_ruled (length c) origin c e.1))

contours_valid : (room : ℕ) (cs : List (List Point)) → point_total cs ≤ room → Each ContourRules cs → valid_all contour_format room_after (length cs) room cs
contours_valid room [] h e = tt
contours_valid room (c ∷ cs) h e = (contour_valid room c (omega arith) e.0, contours_valid (room - length c) cs (omega arith) e.1)

contours_ruled : (n room : ℕ) (cs : List (List Point)) → valid_all contour_format room_after n room cs → (point_total cs ≤ room) × Each ContourRules cs
contours_ruled n room [] e = (omega arith, tt)
contours_ruled zero room (c ∷ cs) e = absurd e
contours_ruled (suc n) room (c ∷ cs) e =
    let h = contour_ruled room c e.0 in
    let g = contours_ruled n (room - length c) cs e.1 in
    (omega (arith, h.0, g.0), (h.1, g.1))

-- two points or more for each contour
contours_long : (cs : List (List Point)) → Each ContourRules cs → Each (λ (c : List Point). fewest_points ≤ length c) cs
contours_long [] e = tt
contours_long (c ∷ cs) e = (e.0.0, contours_long cs e.1)

pub few_contours : (cs : List (List Point)) → Each ContourRules cs → 2 * length cs ≤ point_total cs
few_contours cs e = few_polygons cs (contours_long cs e)

-- ---- layers

layer_valid : (low : ℤ) (l : Layer) → low <ℤ l.height → LayerRules l → (layer_format low).valid l
unfolding layer_format_in height_above contour_list_in
layer_valid low l h r = (
  (word_sent l.height r.height_fits, h.lt),
  (omega (arith, few_contours l.contours r.each, r.few), contours_valid most_points l.contours r.few r.each),
)

layer_ruled : (low : ℤ) (l : Layer) → (layer_format low).valid l → (low <ℤ l.height) × LayerRules l
unfolding layer_format_in height_above contour_list_in
layer_ruled low l e =
    let g = contours_ruled (length l.contours) most_points l.contours e.1.1 in
    (record { lt = e.0.1 }, record { height_fits = sent_word l.height e.0.0; few = g.0; each = g.1 })

layers_valid : (low : ℤ) (ls : List Layer) → RisingLayers low ls → Each LayerRules ls → valid_all layer_format height_of (length ls) low ls
layers_valid low [] h e = tt
layers_valid low (l ∷ ls) h e = (layer_valid low l h.0 e.0, layers_valid l.height ls h.1 e.1)

layers_ruled : (n : ℕ) (low : ℤ) (ls : List Layer) → valid_all layer_format height_of n low ls → RisingLayers low ls × Each LayerRules ls
layers_ruled n low [] e = (tt, tt)
layers_ruled zero low (l ∷ ls) e = absurd e
layers_ruled (suc n) low (l ∷ ls) e =
    let h = layer_ruled low l e.0 in
    let g = layers_ruled n l.height ls e.1 in
    ((h.0, g.0), (h.1, g.1))

pub rules_valid : (ls : List Layer) → Rules ls → layer_file.valid ls
unfolding layer_file_in
rules_valid ls r = (r.few, layers_valid lowest ls r.rises r.each)

pub valid_rules : (ls : List Layer) → layer_file.valid ls → Rules ls
unfolding layer_file_in
valid_rules ls e =
    let g = layers_ruled (length ls) lowest ls e.1 in
    record { few = e.0; rises = g.0; each = g.1 }

-- ---- the contours of a layer that obeys the rules are contours of two points or more, not too many in all

pub ruled_polygons : (l : Layer) → LayerRules l → Polygons l.contours
ruled_polygons l r = record { few = r.few; each = contours_long l.contours r.each }

-- and their tables pass the tests of a layer
contours_near : (cs : List (List Point)) → Each ContourRules cs → Each (Each PointNear) cs
contours_near [] e = tt
contours_near (c ∷ cs) e = (e.0.1, contours_near cs e.1)

pub ruled_tested : (l : Layer) → LayerRules l → LayerTested (flat_of l.contours)
ruled_tested l r = near_tested l.contours (ruled_polygons l r) (contours_near l.contours r.each)
