-- The listing program (LIST-1 to LIST-8): its refusals in order and what it
-- writes for every input, and the function that writes it into an output.
use Rattle.std.specs.Prelude.{ℕ, Bool, false, ◌||◌, List, [], ◌∷◌, ◌++◌, ltb, length, Option, Some, None}
use Rattle.mesh.specs.Corners.{vertex_count, triangle_count}
use Rattle.mesh.specs.Meshes.{Mesh, mesh, PairedMesh, paired}
use Rattle.mesh.specs.Operation.{Answer, gives, refuses, Condition, whole, after, Operation, answer_of, Does}
use Rattle.mesh.specs.Refusals.{Told, refusal}
use Rattle.check_pairing.specs.Partners.{pairing_of}
use Rattle.check_mesh.specs.Check.{check_tests, edge_tests}
use Rattle.file_formats.specs.PartFile.{Part, part_of}
use Rattle.file_formats.specs.WholeFiles.{form}
use Rattle.read_part.specs.Parts.{part_in}
use Rattle.all_heights.specs.Heights.{heights_taken, falling_height}
use Rattle.list_lines.specs.Limits.{held_vertices, held_triangles, held_heights, most_input, held_entries, most_output}
use Rattle.list_lines.specs.Lines.{refused_line, listing}

-- ---- the mesh of a part, and with the pairing that Check leaves

abbrev pub part_mesh : Part → Mesh
part_mesh p = mesh p.coords p.corners

abbrev pub paired_part : Part → PairedMesh
paired_part p = paired p.coords p.corners (pairing_of p.corners)

-- ---- its refusals in order (LIST-5): the size of the input, 13, these limits, those of Check, those of All layers but 14

-- 1: past the bytes of LIMIT-11, place 0 (LIST-3)
abbrev pub long_input : List ℕ → Condition Told
long_input input = whole (refusal 1) (ltb most_input (length input))

-- 1: a part beyond what it holds (LIST-2), default heights counted (LIMIT-10), place 0 (LIST-3)
unfoldable pub beyond : Part → Bool
beyond p =
    ltb held_vertices (vertex_count p.coords)
    || (ltb held_triangles (triangle_count p.corners)
    || ltb held_heights (length (heights_taken p.coords p.heights)))

abbrev pub limits : Part → Condition Told
limits p = whole (refusal 1) (beyond p)

-- the check, into two tables of so many entries
abbrev pub part_check_tests : Part → List (Condition Told)
part_check_tests p = check_tests (part_mesh p) held_entries held_entries ++ edge_tests p.corners

-- of the refusals of All layers 12 is left: the limits rule out 1, the tables 9, and a mesh that Check accepts 2, 3, 4, 7, 8 and 16 (EveryLaws)
abbrev pub part_refusals : Part → List (Condition Told)
part_refusals p = limits p ∷ (part_check_tests p ++ (falling_height p.heights ∷ []))

abbrev pub refusals_of : List ℕ → List (Condition Told)
refusals_of input = long_input input ∷ form input (part_of input) ∷ part_refusals (part_in input)

-- ---- what it writes

-- it gives the listing of the part file that is its input (LIST-1), and is lent no table
abbrev pub program : List ℕ → Operation Told (List ℕ) Unit
program input = record { refusals = refusals_of input; values = listing (paired_part (part_in input)) (part_in input).heights; leaves = λ f. tt }

-- the bytes of an answer: the listing, or on refusal only its line (LIST-4)
abbrev pub bytes_of : Answer Told (List ℕ) → List ℕ
bytes_of (gives text) = text
bytes_of (refuses r) = refused_line r

-- the program's output for an input
unfoldable pub listed : List ℕ → List ℕ
listed input = bytes_of (answer_of (program input))

-- ---- the function, which has one refusal, without a number: the output is shorter than every listing may need

abbrev pub short_list : List ℕ → Condition Unit
short_list output = whole (λ i. tt) (ltb (length output) most_output)

-- it gives the length of what is written, which stands at the output's front; the rest stays, and all of an output that is too short
abbrev pub listing_into : List ℕ × List ℕ → Operation Unit ℕ (List ℕ)
listing_into = λ (input, output). record {
  refusals = short_list output ∷ [];
  values = length (listed input);
  leaves = λ f. after (λ r. false) f (listed input) 0 0 output;
}

-- what its answer says
abbrev pub tell_list : Option ℕ → Answer Unit ℕ
tell_list (Some n) = gives n
tell_list None = refuses tt

abbrev pub Lists : List ℕ → List ℕ → Option ℕ → List ℕ → Type 0
Lists input output result output' = Does listing_into tell_list (input, output) result output'
