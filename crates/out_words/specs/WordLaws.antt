-- Answers in C: by what the code wrote.
use Rattle.std.specs.Prelude.{ℕ, ◌≡◌, List, set, Result, Ok, Err}
use Rattle.std.proofs.Common.{sym, ◌∙◌, subst}
use Rattle.std.proofs.Math.Path.{ap}
use Rattle.std.proofs.lemmas.List.Edits.{sets}
use Rattle.mesh.specs.Operation.{Answer, gives, refuses}
use Rattle.mesh.specs.Refusals.{Told, number_in, tell}
use Rattle.mesh.specs.declared.Refusal.{Refusal}
use Rattle.out_words.specs.Words.{out_after, Says}

module _ {G : Type 0} {words : G → List ℕ} {answer : Answer Told G} {out out' : List ℕ} where
  -- values, or a refusal
  pub says_values : {g : G} → answer ≡ gives g → out' ≡ sets out 0 (words g) → Says words answer out 0 out'
  unfolding out_after
  says_values e w = record { returns = ap number_in (sym e); writes = w ∙ ap (λ (a : Answer Told G). out_after words a out) (sym e) }

  pub says_refusal : {r : Told} {n : ℕ} → answer ≡ refuses r → (n ≡ r.number) × (out' ≡ set out 0 r.place) → Says words answer out n out'
  unfolding out_after
  says_refusal e (n, w) = record { returns = n ∙ ap number_in (sym e); writes = w ∙ ap (λ (a : Answer Told G). out_after words a out) (sym e) }

-- the same answer
pub says_as : {G : Type 0} {words : G → List ℕ} {a b : Answer Told G} {out out' : List ℕ} {n : ℕ} → a ≡ b → Says words a out n out' → Says words b out n out'
says_as {words = words} {out = out} {out' = out'} {n = n} e = subst (λ (x : Answer Told _). Says words x out n out') e

-- the values as an operation gives them
pub says_told : {V G : Type 0} {words : G → List ℕ} (values : V → G) (r : Result V Refusal) {out out' : List ℕ} {n : ℕ}
    → Says (λ v. words (values v)) (tell (λ v. v) r) out n out' → Says words (tell values r) out n out'
unfolding out_after
says_told values (Ok v) s = record { returns = s.returns; writes = s.writes }
says_told values (Err r) s = record { returns = s.returns; writes = s.writes }
