-- What the listing program holds (LIST-2).
use Rattle.std.specs.Prelude.{ℕ}

-- the vertices (LIMIT-8), triangles (LIMIT-9) and heights (LIMIT-10)
-- that it holds, and the bytes of input that it takes (LIMIT-11)

abbrev pub held_vertices : ℕ
held_vertices = 128

abbrev pub held_triangles : ℕ
held_triangles = 256

abbrev pub held_heights : ℕ
held_heights = 256

abbrev pub most_input : ℕ
most_input = 8192

-- the entries of its tables (FORM-2)
abbrev pub held_entries : ℕ
held_entries = 768

-- an output of so many bytes always has room: 28 for the first line and 92 for each of 256 others
abbrev pub most_output : ℕ
most_output = 23580
