-- Rings (SECTION-6): a function applied again and again leads
-- back to where it began, and meets nothing twice on the way.
use Rattle.std.specs.Prelude.{ℕ, zero, suc, ◌<◌, ◌≤◌, ◌≡◌, Bool}
use Rattle.section.specs.Section.{Among}

-- f applied k times
unfoldable pub iterate : (ℕ → ℕ) → ℕ → ℕ → ℕ
iterate f zero c = c
iterate f (suc k) c = f (iterate f k c)

-- from c, some steps of f, at most n, lead back to c, and no two places before that are the same
pub record Ring (f : ℕ → ℕ) (n c : ℕ) : Type 0 where
  pub steps : ℕ
  pub some_step : 0 < steps
  pub few : steps ≤ n
  pub returns : iterate f steps c ≡ c
  pub once : (i j : ℕ) → i < j → j < steps → iterate f i c ≡ iterate f j c → ⊥

-- the corners below n that rise are led to one another, no two to the same and none to itself
pub record Leads (rises : ℕ → Bool) (next : ℕ → ℕ) (n : ℕ) : Type 0 where
  pub into : (c : ℕ) → Among n rises c → Among n rises (next c)
  pub apart : (c d : ℕ) → Among n rises c → Among n rises d → next c ≡ next d → c ≡ d
  pub moves : (c : ℕ) → Among n rises c → next c ≡ c → ⊥
