-- Heights taken by part P and by a part of two vertices, by computation from the definitions.
use Rattle.std.specs.Prelude.{◌≡◌, refl, List, [], ◌∷◌, ℤ, pos, negsuc}
use Rattle.laws.specs.Tables.{tabulate}
use Rattle.laws.specs.Least.{least, some}
use Rattle.mesh.specs.Operation.{refuses, fine, test}
use Rattle.mesh.specs.Refusals.{refusal}
use Rattle.all_heights.specs.Heights.{lower, higher, lowest_to, highest_to, default_count, default_height, heights_taken, too_many_heights, not_above_last}
use Rattle.all_heights.specs.Heights.{falling_height}

-- part P, whose highest z, 10, is below 0 + 50
abbrev part_p : List ℤ
part_p = pos 0 ∷ pos 0 ∷ pos 0 ∷ pos 10 ∷ pos 0 ∷ pos 0 ∷ pos 0 ∷ pos 10 ∷ pos 0 ∷ pos 0 ∷ pos 0 ∷ pos 10 ∷ []

none_of_P : heights_taken part_p [] ≡ []
unfolding heights_taken tabulate default_count lowest_to highest_to lower higher
none_of_P = refl

-- z from -5 to 250
abbrev tower : List ℤ
tower = pos 7 ∷ pos 7 ∷ pos 250 ∷ pos 7 ∷ pos 7 ∷ negsuc 4 ∷ []

defaults_of_tower : heights_taken tower [] ≡ pos 45 ∷ pos 145 ∷ pos 245 ∷ []
unfolding heights_taken tabulate default_count default_height lowest_to highest_to lower higher
defaults_of_tower = refl

-- a height that is the highest z is taken, one above it is not
abbrev column : ℤ → List ℤ
column z = pos 0 ∷ pos 0 ∷ pos 0 ∷ pos 0 ∷ pos 0 ∷ z ∷ []

highest_taken : heights_taken (column (pos 150)) [] ≡ pos 50 ∷ pos 150 ∷ []
unfolding heights_taken tabulate default_count default_height lowest_to highest_to lower higher
highest_taken = refl

above_not_taken : heights_taken (column (pos 149)) [] ≡ pos 50 ∷ []
unfolding heights_taken tabulate default_count default_height lowest_to highest_to lower higher
above_not_taken = refl

-- with no vertices, none
none_without_vertices : heights_taken [] [] ≡ []
unfolding heights_taken tabulate default_count lowest_to highest_to lower higher
none_without_vertices = refl

-- heights given are taken as they are
given_of_P : heights_taken part_p (pos 0 ∷ pos 5 ∷ pos 10 ∷ pos 11 ∷ []) ≡ pos 0 ∷ pos 5 ∷ pos 10 ∷ pos 11 ∷ []
unfolding heights_taken
given_of_P = refl

-- they rise
rising_of_P : test (falling_height (pos 0 ∷ pos 5 ∷ pos 10 ∷ pos 11 ∷ [])) ≡ fine
unfolding test some least not_above_last
rising_of_P = refl

few_of_P : test (too_many_heights part_p (pos 0 ∷ pos 5 ∷ pos 10 ∷ pos 11 ∷ [])) ≡ fine
unfolding test some least heights_taken
few_of_P = refl

-- equal heights: the second is refused
equal_refused : test (falling_height (negsuc 0 ∷ pos 5 ∷ pos 5 ∷ pos 4 ∷ [])) ≡ refuses (refusal 12 2)
unfolding test some least not_above_last
equal_refused = refl
