-- Worked values, by computation: a refusal that also tells a part of several, by the same conditions, verdict and laws.
use Rattle.std.specs.Prelude.{ℕ, suc, ◌≡◌, refl, List, [], ◌∷◌, ◌↔◌, pos}
use Rattle.laws.specs.Least.{least, some}
use Rattle.mesh.specs.Corners.{largest}
use Rattle.mesh.specs.Operation.{refuses, Condition, test, ◌then◌, verdict}
use Rattle.mesh.specs.OperationLaws.{First, first_refused, refused_first}
use Rattle.mesh.specs.Refusals.{Told, refusal}
use Rattle.mesh.specs.Tests.{out_of_range, range}

-- the number of a part, and what is refused there
record PartTold : Type 0 where
  part : ℕ
  told : Told

-- a condition of each part, from part p on: the first part that fits is told, with the least place within it
abbrev of_parts : ℕ → List (Condition Told) → List (Condition PartTold)
of_parts p [] = []
of_parts p (k ∷ ks) = record { tells = λ i. record { part = p; told = k.tells i }; places = k.places; fits = k.fits } ∷ of_parts (suc p) ks

-- three parts, of which the last two have a coordinate out of range, part 1 at place 1
abbrev three_parts : List (Condition PartTold)
three_parts = of_parts 0 (range (pos 0 ∷ []) ∷ range (pos 0 ∷ pos (suc largest) ∷ []) ∷ range (pos (suc largest) ∷ []) ∷ [])

part_refused : verdict three_parts ≡ refuses (record { part = 1; told = refusal 2 1 })
unfolding verdict ◌then◌ test some least out_of_range
part_refused = refl

-- refused exactly if a condition of a part holds, for the first part and at the least place
parts_exactly : (ks : List (Condition Told)) (r : PartTold) → (verdict (of_parts 0 ks) ≡ refuses r) ↔ First (of_parts 0 ks) r
parts_exactly ks r = (refused_first (of_parts 0 ks) r, first_refused (of_parts 0 ks) r)
