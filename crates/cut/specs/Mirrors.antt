-- Mirror images (CUT-14): a mesh, or the points of a layer, with x or y negated everywhere and nothing else changed.
-- Buyers print left and right halves and compare them: Cut's layers of a mesh and of its mirror image agree point by point
-- (MirrorLaws). The mirror image is inside out as it stands; who also turns its triangles round gets rings run backwards.
use Rattle.std.specs.Prelude.{ℕ, ◌*◌, ◌%◌, cond, List, eqb, length, get_or, take, ℤ, pos, neg_ℤ, Result, Ok, Err}
use Rattle.laws.specs.Tables.{tabulate, overwrite}
use Rattle.mesh.specs.Meshes.{PairedMesh, paired}
use Rattle.mesh.specs.declared.Refusal.{Refusal}
use Rattle.polygons.specs.declared.LayerCounts.{LayerCounts}
use Rattle.cut.specs.Cut.{CutTables, lent}

-- number i of a row in groups of this width, negated if it is number `axis` of its group
abbrev pub mirrored_at : ℕ → ℕ → ℕ → ℤ → ℤ
mirrored_at width axis i u = cond (eqb (i % width) axis) (neg_ℤ u) u

-- the row: coordinates stand in groups of three, and points in groups of two
unfoldable pub mirrored_row : ℕ → ℕ → List ℤ → List ℤ
mirrored_row width axis row = tabulate (length row) (λ i. mirrored_at width axis i (get_or row i (pos 0)))

-- the mesh with x (axis 0) or y (axis 1) of every vertex negated
abbrev pub mirrored_mesh : ℕ → PairedMesh → PairedMesh
mirrored_mesh axis m = paired (mirrored_row 3 axis m.mesh.coords) m.mesh.corners m.pairing

-- how many points an answer tells of
abbrev pub points_told : Result LayerCounts Refusal → ℕ
points_told (Ok v) = v.points
points_told (Err r) = 0

-- Cut's tables with x or y of these points negated: names, ends and marks, and the entries behind the points, are as they were
abbrev pub mirrored_tables : ℕ → Result LayerCounts Refusal → CutTables → CutTables
mirrored_tables axis answer t =
    lent t.names (overwrite (mirrored_row 2 axis (take (2 * points_told answer) t.points)) t.points) t.ends t.marks
