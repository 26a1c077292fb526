-- Worked pieces (WORKED-1): an input of an operation, and the result that its definition gives:
-- what it answers, and what it leaves in lent tables that have just the entries asked for.
use Rattle.std.specs.Prelude.{ℕ, ◌*◌, List, [], ◌∷◌, length, take, replicate, ℤ, pos}
use Rattle.mesh.specs.Corners.{vertex_count}
use Rattle.mesh.specs.Meshes.{Mesh, mesh, OrderedMesh, ordered}
use Rattle.mesh.specs.Operation.{Answer, gives, refuses, answer_of, left_by}
use Rattle.mesh.specs.Refusals.{Told}
use Rattle.polygons.specs.Flat.{FlatLayer, flat}
use Rattle.cleaning.specs.declared.Profile.{Profile}
use Rattle.check_mesh.specs.Check.{CheckTables, check_tables, checking}
use Rattle.section.specs.Contours.{Traced, contours, stuck, trace}
use Rattle.cut_points.specs.Points.{point_at}
use Rattle.cut.specs.Cut.{CutTables, lent, cutting}
use Rattle.contours.specs.Areas.{measuring}
use Rattle.sweep.specs.Sweep.{passed_at}
use Rattle.all_sweep.specs.AllLayers.{work, filing}
use Rattle.read_layer.specs.Reading.{layer_reading}
use Rattle.ink.specs.Inking.{inking}
use Rattle.nesting.specs.Nesting.{nest_tables, contour_nesting}

-- ---- what is asked

pub data Input : Type 0 where
  -- Check
  checked : Mesh → Input
  -- the rings with so many vertices passed
  passed : Mesh → ℕ → Input
  -- Cut at a height
  cut_at : Mesh → ℤ → Input
  -- Area of a run of points
  area_of : List ℤ → Input
  -- All layers in a profile at these heights, with an output of so many bytes
  filed : Profile → Mesh → List ℤ → ℕ → Input
  -- x of the point at a height on an edge (x0, y0, z0), (x1, y1, z1)
  edge_at : List ℤ → ℤ → Input
  -- Read layer 0 of these bytes in a profile
  read : Profile → List ℕ → Input
  -- Ink of these bytes at a thickness
  inked : List ℕ → ℕ → Input
  -- Nesting of a layer
  nested : FlatLayer → Input

-- ---- what is answered

-- a layer: the counts of contours and points, and its names, points and ends
pub record LayerResult : Type 0 where
  pub count : ℕ
  pub total : ℕ
  pub names : List ℕ
  pub points : List ℤ
  pub ends : List ℕ

pub data Result : Type 0 where
  -- a refusal's number and place
  refused : ℕ → ℕ → Result
  -- accepted, with this pairing
  paired : List ℕ → Result
  -- rings, each from its least corner on
  rings : List (List ℕ) → Result
  layer : LayerResult → Result
  -- a number: a doubled area, a coordinate, a count of layers, a charge
  number : ℤ → Result
  -- the bytes of a file
  bytes : List ℕ → Result
  -- depths and parents
  nests : List ℕ → List ℕ → Result

-- of an answer: the refusal, or what its values say
abbrev pub result_from : {G : Type 0} → (G → Result) → Answer Told G → Result
result_from says (gives g) = says g
result_from says (refuses r) = refused r.number r.place

-- ---- the operations, with tables to lend

abbrev pub check_lent : Mesh → CheckTables
check_lent m = check_tables (replicate (length m.corners) 0) (replicate (vertex_count m.coords) 0)

abbrev pub cut_lent : List ℕ → CutTables
cut_lent corners =
    let n = length corners in
    lent (replicate n 0) (replicate (2 * n) (pos 0)) (replicate n 0) (replicate n 0)

-- the mesh with the pairing and the order that Check leaves
unfoldable pub with_tables : Mesh → OrderedMesh
with_tables m =
    let t = left_by (checking (m, check_lent m)) in
    ordered m.coords m.corners t.pairing t.order

-- ---- the result of each

unfoldable pub checked_as : Mesh → Result
checked_as m = result_from (λ _. paired (left_by (checking (m, check_lent m))).pairing) (answer_of (checking (m, check_lent m)))

abbrev pub rings_of : Traced → Result
rings_of (contours rs) = rings rs
rings_of (stuck p) = refused 16 p

unfoldable pub passed_as : OrderedMesh → ℕ → Result
passed_as m n = rings_of (trace (passed_at m.order n) m.paired.mesh.corners m.paired.pairing)

-- the layer of j contours and k points in front of Cut's tables
abbrev pub front_layer : CutTables → ℕ × ℕ → Result
front_layer t (j, k) = layer (record { count = j; total = k; names = take k t.names; points = take (2 * k) t.points; ends = take j t.ends })

unfoldable pub cut_as : OrderedMesh → ℤ → Result
cut_as m h =
    let o = cutting (m.paired, h, cut_lent m.paired.mesh.corners) in
    result_from (front_layer (left_by o)) (answer_of o)

unfoldable pub area_as : List ℤ → Result
area_as points = result_from number (answer_of (measuring points))

unfoldable pub filed_as : Profile → OrderedMesh → List ℤ → ℕ → Result
filed_as p m heights output =
    let n = length m.paired.mesh.corners in
    let t = cut_lent m.paired.mesh.corners in
    let o = filing (p, m, heights, work t.names t.points t.ends t.marks (replicate n 0), replicate output 0) in
    result_from (λ n. bytes (take n (left_by o).1)) (answer_of o)

unfoldable pub edge_as : List ℤ → ℤ → Result
edge_as edge h = number (point_at (mesh edge (0 ∷ 1 ∷ 0 ∷ [])) h 0 0)

unfoldable pub read_file_as : Profile → List ℕ → Result
read_file_as p file = result_from (λ v. number (pos v.0)) (answer_of (layer_reading (p, file, 0, flat [] [])))

unfoldable pub inked_as : List ℕ → ℕ → Result
inked_as file t = result_from (λ n. number (pos n)) (answer_of (inking (file, t)))

unfoldable pub nested_as : FlatLayer → Result
nested_as t =
    let n = length t.ends in
    let o = contour_nesting (t, nest_tables (replicate n 0) (replicate n 0)) in
    result_from (λ _. nests (left_by o).depths (left_by o).parents) (answer_of o)

unfoldable pub result_of : Input → Result
result_of (checked m) = checked_as m
result_of (passed m n) = passed_as (with_tables m) n
result_of (cut_at m h) = cut_as (with_tables m) h
result_of (area_of points) = area_as points
result_of (filed p m heights output) = filed_as p (with_tables m) heights output
result_of (edge_at edge h) = edge_as edge h
result_of (read p file) = read_file_as p file
result_of (inked file t) = inked_as file t
result_of (nested t) = nested_as t
