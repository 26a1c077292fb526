-- What a layer is (SECTION-7, SECTION-10, SECTION-11, RESULT-1): every contour a ring of at
-- least two crossings from its least corner on, contours by first corner, every crossing once.
use Rattle.std.specs.Prelude.{ℕ, suc, ◌-◌, ◌≤◌, ◌<◌, ◌≡◌, true, List, [], length, get_or}
use Rattle.section.specs.Section.{VertexSet, successor, Crossing}
use Rattle.section.specs.Contours.{member, names_of}

-- the first name of a contour; a contour is not empty, so the default is never met
abbrev pub first_name : List ℕ → ℕ
first_name r = get_or r 0 0

-- a contour is at least two crossings long (SECTION-7) and starts at its least corner
-- (SECTION-10): each name is followed by its successor, the last by the first (SECTION-6)
pub record Contour (next : ℕ → ℕ) (r : List ℕ) : Type 0 where
  pub two : 2 ≤ length r
  pub least : (x : ℕ) → member x r ≡ true → first_name r ≤ x
  pub follows : (i : ℕ) → suc i < length r → get_or r (suc i) 0 ≡ next (get_or r i 0)
  pub closes : next (get_or r (length r - 1) 0) ≡ first_name r

-- contour i, asked of i below the count of contours only
abbrev pub contour_at : List (List ℕ) → ℕ → List ℕ
contour_at rs i = get_or rs i []

-- no name stands at two places
abbrev pub Distinct : List ℕ → Type 0
Distinct l = (i j : ℕ) → i < j → j < length l → get_or l i 0 ≡ get_or l j 0 → ⊥

-- the contours of the section (RESULT-1): each is a ring, by first corner
-- (SECTION-11), of crossings only, with every crossing once (WRONG-2)
pub record LayerContours (passed : VertexSet) (corners pairing : List ℕ) (rs : List (List ℕ)) : Type 0 where
  pub each : (i : ℕ) → i < length rs → Contour (successor passed corners pairing) (contour_at rs i)
  pub ascend : (i j : ℕ) → i < j → j < length rs → first_name (contour_at rs i) < first_name (contour_at rs j)
  pub only : (x : ℕ) → member x (names_of rs) ≡ true → Crossing passed corners x
  pub every : (x : ℕ) → Crossing passed corners x → member x (names_of rs) ≡ true
  pub once : Distinct (names_of rs)
