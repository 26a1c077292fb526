-- The tables of a mesh, as one: coordinates, in whole units (MESH-1, MESH-2),
-- and corners (MESH-3); with a pairing; with a pairing and an order.
use Rattle.std.specs.Prelude.{ℕ, List, ℤ}

pub record Mesh : Type 0 where
  pub coords : List ℤ
  pub corners : List ℕ

abbrev pub mesh : List ℤ → List ℕ → Mesh
mesh coords corners = record { coords = coords; corners = corners }

pub record PairedMesh : Type 0 where
  pub mesh : Mesh
  pub pairing : List ℕ

abbrev pub paired : List ℤ → List ℕ → List ℕ → PairedMesh
paired coords corners pairing = record { mesh = mesh coords corners; pairing = pairing }

pub record OrderedMesh : Type 0 where
  pub paired : PairedMesh
  pub order : List ℕ

abbrev pub ordered : List ℤ → List ℕ → List ℕ → List ℕ → OrderedMesh
ordered coords corners pairing order = record { paired = paired coords corners pairing; order = order }
