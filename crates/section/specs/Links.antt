-- The contours that a ring table has (SWEEP-3, LAYER-2): one entry for each corner, the corner that follows or none.
use Rattle.std.specs.Prelude.{ℕ, Bool, not, List, eqb, get_or}
use Rattle.section.specs.Section.{no_corner}
use Rattle.section.specs.Contours.{Traced, trace_to}

-- the entry is a link; it is asked of corners within the table only, so the default is never met
unfoldable pub has_link : List ℕ → ℕ → Bool
has_link links c = not (eqb (get_or links c 0) no_corner)

-- the corner that follows c, where the entry is a link
abbrev pub link_of : List ℕ → ℕ → ℕ
link_of links c = get_or links c 0

-- the contours of the first n entries
unfoldable pub trace_links : ℕ → List ℕ → Traced
trace_links n links = trace_to (has_link links) (link_of links) n n
