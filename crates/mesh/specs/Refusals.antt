-- Refusals by number and place (CALL-4, REFUSAL-1 to REFUSAL-19), and what an enum's cases tell (FORM-8).
use Rattle.std.specs.Prelude.{ℕ, Bool, false, ◌||◌, List, [], ◌∷◌, eqb, Result, Ok, Err}
use Rattle.mesh.specs.Operation.{Answer, gives, refuses}
use Rattle.mesh.specs.declared.Refusal.{Refusal}
use Rattle.mesh.specs.declared.Refusal.TheVariants.{Size, Range, Vertex, Triangle, Open, Pairing, Order, Room, Passed, Ring, Height, File}
use Rattle.mesh.specs.declared.Refusal.TheVariants.{Output, Layer, Used, Origin, Unclean, Thickness}

-- a refusal's number and place (CALL-4)
pub record Told : Type 0 where
  pub number : ℕ
  pub place : ℕ

abbrev pub refusal : ℕ → ℕ → Told
refusal number place = record { number = number; place = place }

-- one of these numbers
abbrev pub numbered : List ℕ → Told → Bool
numbered [] r = false
numbered (n ∷ ns) r = eqb r.number n || numbered ns r

-- ---- the enums: each case has the number of its rule, REFUSAL-1 to REFUSAL-19 (FORM-8)

abbrev pub told_of : Refusal → Told
told_of (Size place) = refusal 1 place
told_of (Range place) = refusal 2 place
told_of (Vertex place) = refusal 3 place
told_of (Triangle place) = refusal 4 place
told_of (Open place) = refusal 6 place
told_of (Pairing place) = refusal 7 place
told_of (Order place) = refusal 8 place
told_of (Room place) = refusal 9 place
told_of (Passed place) = refusal 10 place
told_of (Ring place) = refusal 11 place
told_of (Height place) = refusal 12 place
told_of (File place) = refusal 13 place
told_of (Output place) = refusal 14 place
told_of (Layer place) = refusal 15 place
told_of (Used place) = refusal 16 place
told_of (Origin place) = refusal 17 place
told_of (Unclean place) = refusal 18 place
told_of (Thickness place) = refusal 19 place

abbrev pub number_of : Refusal → ℕ
number_of r = (told_of r).number

abbrev pub place_of : Refusal → ℕ
place_of r = (told_of r).place

-- what a result tells: its values, or the refusal
abbrev pub tell : {V G : Type 0} → (V → G) → Result V Refusal → Answer Told G
tell values (Ok v) = gives (values v)
tell values (Err r) = refuses (told_of r)

-- what tests answer
abbrev pub tell_verdict : Result Unit Refusal → Answer Told Unit
tell_verdict = tell (λ _. tt)

-- ---- an answer's number: 0 for a result

abbrev pub number_in : {G : Type 0} → Answer Told G → ℕ
number_in (gives v) = 0
number_in (refuses r) = r.number
