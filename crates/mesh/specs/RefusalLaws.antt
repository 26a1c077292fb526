-- Number and place say which refusal it is.
use Rattle.std.specs.Prelude.{ℕ, ◌≡◌, refl, List, [], ◌∷◌, get_or}
use Rattle.mesh.specs.Refusals.{Told, told_of}
use Rattle.mesh.specs.declared.Refusal.{Refusal}
use Rattle.mesh.specs.declared.Refusal.TheVariants.{Size, Range, Vertex, Triangle, Open, Pairing, Order, Room, Passed, Ring, Height, File}
use Rattle.mesh.specs.declared.Refusal.TheVariants.{Output, Layer, Used, Origin, Unclean, Thickness}

-- the case of each number from 0 on, and Size where a number has none
kinds : List (ℕ → Refusal)
kinds = Size ∷ Size ∷ Range ∷ Vertex ∷ Triangle ∷ Size ∷ Open ∷ Pairing ∷ Order ∷ Room ∷ Passed ∷ Ring ∷ Height ∷ File ∷ Output ∷ Layer ∷ Used
    ∷ Origin ∷ Unclean ∷ Thickness ∷ []

pub refusal_of : Told → Refusal
refusal_of t = get_or kinds t.number Size t.place

pub refusal_once : (r : Refusal) → refusal_of (told_of r) ≡ r
unfolding refusal_of kinds
refusal_once (Size p) = refl
refusal_once (Range p) = refl
refusal_once (Vertex p) = refl
refusal_once (Triangle p) = refl
refusal_once (Open p) = refl
refusal_once (Pairing p) = refl
refusal_once (Order p) = refl
refusal_once (Room p) = refl
refusal_once (Passed p) = refl
refusal_once (Ring p) = refl
refusal_once (Height p) = refl
refusal_once (File p) = refl
refusal_once (Output p) = refl
refusal_once (Layer p) = refl
refusal_once (Used p) = refl
refusal_once (Origin p) = refl
refusal_once (Unclean p) = refl
refusal_once (Thickness p) = refl
