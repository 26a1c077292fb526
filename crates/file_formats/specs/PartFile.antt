-- The part file (PART-1, PART-2): what it holds and its format. Only
-- the form of its values is ruled, no limit and no range (READPART-5).
use Rattle.std.specs.Prelude.{ℕ, ◌*◌, ◌/◌, ◌%◌, ◌≤◌, ◌≡◌, List, length, ℤ}
use Rattle.file_formats.specs.Formats.{Format, through, pair, headed, sequence, alike, stay, Each, Decoded, decode}
use Rattle.file_formats.specs.Numbers.{largest_word, number, signed, Word}

-- three coordinates for each vertex, three corners for each triangle, and the heights to cut at
pub record Part : Type 0 where
  pub coords : List ℤ
  pub corners : List ℕ
  pub heights : List ℤ

-- so many signed numbers, as coordinates and heights are (PART-2)
unfoldable pub signed_run : ℕ → Format (List ℤ)
signed_run n = sequence (alike (signed largest_word)) stay n tt

-- plain ones, as corners are (PART-2)
unfoldable pub plain_run : ℕ → Format (List ℕ)
plain_run n = sequence (alike (number largest_word)) stay n tt

-- signed numbers after their count, as heights stand (PART-1)
unfoldable pub signed_list : Format (List ℤ)
signed_list = headed length (number largest_word) signed_run

-- how many vertices and triangles a part has
abbrev pub mesh_counts : Part → ℕ × ℕ
mesh_counts p = (length p.coords / 3, length p.corners / 3)

-- the vertex count and the triangle count (PART-1)
unfoldable pub counts_format : Format (ℕ × ℕ)
counts_format = pair (number largest_word) (λ v. number largest_word)

-- the three tables, where so many vertices and triangles were told (PART-1)
unfoldable pub tables_for : ℕ × ℕ → Format Part
tables_for n =
    through (λ q. record { coords = q.0; corners = q.1.0; heights = q.1.1 }) (λ p. (p.coords, (p.corners, p.heights)))
    (pair (signed_run (3 * n.0)) (λ cs. pair (plain_run (3 * n.1)) (λ ks. signed_list)))

-- the file: the two counts, and then the tables (PART-1)
unfoldable pub part_file : Format Part
part_file = headed mesh_counts counts_format tables_for

-- the rules for parts as data: whole vertices and triangles, and 32 bits for each number
-- (READPART-5). `PartFileLaws` proves that these are exactly the parts that may be written
pub record PartRules (p : Part) : Type 0 where
  pub whole_vertices : length p.coords % 3 ≡ 0
  pub whole_triangles : length p.corners % 3 ≡ 0
  pub vertices_fit : length p.coords / 3 ≤ largest_word
  pub triangles_fit : length p.corners / 3 ≤ largest_word
  pub heights_fit : length p.heights ≤ largest_word
  pub each_coord : Each Word p.coords
  pub each_corner : Each (λ n. n ≤ largest_word) p.corners
  pub each_height : Each Word p.heights

-- the part of a file, or refusal 13 with its place
unfoldable pub part_of : List ℕ → Decoded Part
part_of file = decode part_file file
