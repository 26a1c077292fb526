-- Coordinates and corners of a mesh (MESH-2, MESH-3, MESH-7), and the limits
-- of a mesh, a run and a layer (LIMIT-1 to LIMIT-3, LIMIT-6, LIMIT-7).
use Rattle.std.specs.Prelude.{ℕ, ◌+◌, ◌*◌, ◌/◌, ◌%◌, List, length, get_or, ℤ, pos}

-- most vertices (LIMIT-1), most triangles (LIMIT-2), so most corners, and the largest coordinate (LIMIT-3)
abbrev pub most_vertices : ℕ
most_vertices = 32768

abbrev pub most_triangles : ℕ
most_triangles = 65536

abbrev pub most_corners : ℕ
most_corners = 196608

abbrev pub largest : ℕ
largest = 1048576

-- the most points of a run whose area is asked (LIMIT-6), and of a layer of a file (LIMIT-7)
abbrev pub most_points : ℕ
most_points = 98304

-- how many vertices, of three coordinates each (MESH-2), and triangles, of three corners each (MESH-3), two tables hold
abbrev pub vertex_count : List ℤ → ℕ
vertex_count coords = length coords / 3

abbrev pub triangle_count : List ℕ → ℕ
triangle_count corners = length corners / 3

-- corner 3 t + k belongs to triangle t (MESH-7)
abbrev pub triangle_of : ℕ → ℕ
triangle_of c = c / 3

-- the next corner of the same triangle, the last leading back to the first (MESH-7)
abbrev pub next_corner : ℕ → ℕ
next_corner c = 3 * (c / 3) + (c + 1) % 3

-- corner c stands for the directed edge from start_of to end_of, a half-edge (MESH-7).
-- Both are asked of corners of whole triangles only: 1 comes before all that asks them
abbrev pub start_of : List ℕ → ℕ → ℕ
start_of corners c = get_or corners c 0

abbrev pub end_of : List ℕ → ℕ → ℕ
end_of corners c = get_or corners (next_corner c) 0

-- coordinate 0, 1 or 2 of vertex v: its x, y or z (MESH-2). It is asked of vertices
-- only: 3 and 8 come before it, and the order and the heights count vertices
abbrev pub coord_of : List ℤ → ℕ → ℕ → ℤ
coord_of coords axis v = get_or coords (3 * v + axis) (pos 0)

abbrev pub z_of : List ℤ → ℕ → ℤ
z_of coords v = coord_of coords 2 v
