-- The contours of a section (SECTION-10, SECTION-11), by walks along the successors (CUT-11),
-- and the layer's names (CUT-2); its ends are those of any contours (polygons/Flat).
use Rattle.std.specs.Prelude.{ℕ, zero, suc, Bool, true, false, not, cond, ◌&&◌, ◌||◌, length, eqb}
use mathlib.Core.List.{List, [], ◌∷◌, ◌++◌, flatten}
unfoldable pub use Rattle.polygons.specs.Flat.{ends_from}
pub use Rattle.polygons.specs.Flat.{ends_of}
use Rattle.section.specs.Section.{VertexSet, rising, successor}

-- v stands in the list
unfoldable pub member : ℕ → List ℕ → Bool
member v [] = false
member v (x ∷ xs) = eqb v x || member v xs

-- ---- a walk

-- what a walk finds: the whole ring, or refusal 16's crossing, one already used that is not its start (CUT-11)
pub data WalkEnd : Type 0 where
  closed : List ℕ → WalkEnd
  met : ℕ → WalkEnd

-- corner c before what the rest of the walk finds
abbrev pub onward : ℕ → WalkEnd → WalkEnd
onward c (closed cs) = closed (c ∷ cs)
onward c (met p) = met p

-- the walk that began at `start` and stands at c; `used` has the crossings used before c; n bounds the steps
unfoldable pub walk : (ℕ → ℕ) → ℕ → ℕ → ℕ → List ℕ → WalkEnd
walk next start zero c used = met c
walk next start (suc n) c used =
    let rest = walk next start n (next c) (c ∷ used) in
    cond (eqb (next c) start) (closed (c ∷ []))
    (cond (member (next c) (c ∷ used)) (met (next c)) (onward c rest))

-- the corners of a closed walk; where it met a used crossing, none
abbrev pub places_of : WalkEnd → List ℕ
places_of (closed cs) = cs
places_of (met p) = []

-- ---- the contours

-- all contours, or refusal 16's crossing
pub data Traced : Type 0 where
  contours : List (List ℕ) → Traced
  stuck : ℕ → Traced

-- the names of a layer: the corners of its contours, in turn (CUT-2)
abbrev pub names_of : List (List ℕ) → List ℕ
names_of rs = flatten rs

-- the contours found so far, with what the next walk finds
abbrev pub more : List (List ℕ) → WalkEnd → Traced
more rs (closed r) = contours (rs ++ (r ∷ []))
more rs (met p) = stuck p

-- at corner c a contour starts, where c is a crossing that no contour has yet: its least corner (SECTION-10)
unfoldable pub trace_at : (ℕ → Bool) → (ℕ → ℕ) → ℕ → ℕ → Traced → Traced
trace_at rises next n c (stuck p) = stuck p
trace_at rises next n c (contours rs) =
    elim (rises c && not (member c (names_of rs))) [
      | true ↦ more rs (walk next c n c (names_of rs))
      | false ↦ contours rs
    ]

-- the contours that start below corner c, the least first (SECTION-11)
unfoldable pub trace_to : (ℕ → Bool) → (ℕ → ℕ) → ℕ → ℕ → Traced
trace_to rises next n zero = contours []
trace_to rises next n (suc c) = trace_at rises next n c (trace_to rises next n c)

-- all contours of the section (CUT-1, SWEEP-2)
unfoldable pub trace : VertexSet → List ℕ → List ℕ → Traced
trace passed corners pairing = trace_to (rising passed corners) (successor passed corners pairing) (length corners) (length corners)
