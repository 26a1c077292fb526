-- What an operation is, whatever it does (ANSWER-1, ANSWER-2, ANSWER-4, CALL-1, CALL-5): refusals in order,
-- of which the first that fits is answered at its least place; else the values of its result; and what it
-- leaves in the tables that it was lent. R is what a refusal tells, G what a result gives, T the tables.
use Rattle.std.specs.Prelude.{ℕ, ◌<◌, ◌≡◌, Bool, true, false, cond, List, [], ◌∷◌, replicate}
use Rattle.laws.specs.Least.{least, some}
use Rattle.laws.specs.Tables.{overwrite}

-- ---- answers

-- the values of a result, or a refusal (CALL-1)
pub data Answer (R G : Type 0) : Type 0 where
  gives : G → Answer R G
  refuses : R → Answer R G

-- what tests find: no refusal, or one
abbrev pub Finding : Type 0 → Type 0
Finding R = Answer R Unit

abbrev pub fine : {R : Type 0} → Finding R
fine = gives tt

-- it is a refusal
abbrev pub is_refusal : {R G : Type 0} → Answer R G → Bool
is_refusal (gives _) = false
is_refusal (refuses r) = true

-- ---- refusals in order: what an operation tests of all that it is handed (CALL-3)

-- one entry of a list of refusals: what is told of a place, how many places there are, and which of them fit
pub record Condition (R : Type 0) : Type 0 where
  pub tells : ℕ → R
  pub places : ℕ
  pub fits : ℕ → Bool

-- it fits nowhere
abbrev pub Nowhere : {R : Type 0} → Condition R → Type 0
Nowhere k = (i : ℕ) → i < k.places → k.fits i ≡ false

module _ {R : Type 0} where
  -- a condition on the call as a whole, whose place is 0
  abbrev pub whole : (ℕ → R) → Bool → Condition R
  whole tells fits = record { tells = tells; places = 1; fits = λ i. fits }

  -- the least place that fits one condition (ANSWER-2)
  unfoldable pub test : Condition R → Finding R
  test k = cond (some k.places k.fits) (refuses (k.tells (least k.places k.fits))) fine

  -- the refusal that was found, else the answer
  unfoldable pub ◌then◌ : {G : Type 0} → Finding R → Answer R G → Answer R G
  ◌then◌ (gives _) answer = answer
  ◌then◌ (refuses r) answer = refuses r

  infixr 20 ◌then◌
  -- the first condition that fits, at its least place (ANSWER-1); where none fits, no refusal (WRONG-3)
  unfoldable pub verdict : List (Condition R) → Finding R
  verdict [] = fine
  verdict (k ∷ ks) = test k then verdict ks

  -- ---- a lent table after the call

  -- its first entries filled, where nothing was refused; zero in its first n entries after
  -- a refusal that clears; after the others as before. Later entries stay (ANSWER-4)
  unfoldable pub after : {A : Type 0} → (R → Bool) → Finding R → List A → ℕ → A → List A → List A
  after clears (gives _) filled n zero table = overwrite filled table
  after clears (refuses r) filled n zero table = cond (clears r) (overwrite (replicate n zero) table) table

  -- what a call leaves where a refusal changes nothing
  unfoldable pub unless_refused : {A : Type 0} → A → A → Finding R → A
  unless_refused changed before (gives _) = changed
  unless_refused changed before (refuses r) = before

-- ---- an operation, at one input: refusals in order, values, and what it leaves, also after a refusal (CALL-5)

pub record Operation (R G T : Type 0) : Type 0 where
  pub refusals : List (Condition R)
  pub values : G
  pub leaves : Finding R → T

-- what it answers (ANSWER-1), and what it leaves
module _ {R G T : Type 0} where
  abbrev pub answer_of : Operation R G T → Answer R G
  answer_of o = verdict o.refusals then gives o.values

  abbrev pub left_by : Operation R G T → T
  left_by o = o.leaves (verdict o.refusals)

-- the outcome of a call (CALL-1, WRONG-1): `result` tells what the
-- operation answers at this input, and `tables` are what it leaves
pub record Does {I E R G T : Type 0} (op : I → Operation R G T) (tell : E → Answer R G) (input : I) (result : E) (tables : T) : Type 0 where
  pub answers : tell result ≡ answer_of (op input)
  pub leaves : tables ≡ left_by (op input)
