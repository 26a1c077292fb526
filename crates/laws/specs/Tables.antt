-- Tables as lists: made entry by entry, and overwritten from the front.
use Rattle.std.specs.Prelude.{ℕ, zero, suc, List, [], ◌∷◌, ◌++◌, length, drop}

module _ {A : Type 0} where
  -- the list f 0, .., f (n - 1)
  unfoldable pub tabulate : ℕ → (ℕ → A) → List A
  tabulate zero f = []
  tabulate (suc n) f = f zero ∷ tabulate n (λ k. f (suc k))

  -- the table with its first entries replaced by these; later entries stay
  unfoldable pub overwrite : List A → List A → List A
  overwrite vs table = vs ++ drop (length vs) table

  -- the table with its first n entries replaced by f 0, .., f (n - 1)
  abbrev pub refill : ℕ → (ℕ → A) → List A → List A
  refill n f table = overwrite (tabulate n f) table
