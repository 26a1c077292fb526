-- The output: whether it has room for the file, and what stands in it at the end.
use Prim.Native.Nat.{ℕ, ◌≤◌, ◌<◌}
use mathlib.Core.Path.{◌≡◌, refl, sym, ap, ◌∙◌, subst}
use mathlib.Core.Bool.{true, false}
use mathlib.Core.List.{List}
use native.Mathlib.Omega.{arith}
use borrow.Author.Tests.{lt-ltb, le-ltb}
use lib.Dec.{ltb}
use lib.ListN.{length}
use Rattle.laws.specs.Tables.{overwrite}
use Rattle.mesh.specs.Operation.{gives}
use Rattle.mesh.specs.OperationLaws.{verdict_one, whole_refused, whole_fine, does_refuse, does_give}
use Rattle.mesh.specs.Refusals.{refusal}
use Rattle.mesh.specs.declared.Refusal.TheVariants.{Output}
use Rattle.sweep.specs.Operations.{unless_refused}
use Rattle.std.specs.Prelude.{Ok, Err}
use Rattle.all_sweep.specs.Works.{PutsFile}

-- ---- the room

pub room_bound : {room n m : ℕ} → n ≤ m → m ≤ room → false ≡ ltb room n
room_bound {room} {n} h k = sym (le-ltb room n (omega arith))

pub room_short : {room n m : ℕ} → m ≡ n → room < m → true ≡ ltb room n
room_short {room} e h = sym (lt-ltb _ _ (subst (λ (k : ℕ). room < k) e h))

pub not_short : {room n m : ℕ} → m ≡ n → m ≤ room → false ≡ ltb room n
not_short {room} e h = sym (le-ltb _ _ (subst (λ (k : ℕ). k ≤ room) e h))

-- ---- the output

module _ (file output : List ℕ) where
  -- it is shorter than the file
  pub puts_short : ltb (length output) (length file) ≡ true → PutsFile file output (Err (Output 0)) output
  unfolding unless_refused
  puts_short e = does_refuse (whole_refused (refusal 14) _ e ∙ verdict_one _) refl refl refl

  -- it has room
  pub puts_whole : {n : ℕ} {output' : List ℕ} → ltb (length output) (length file) ≡ false → n ≡ length file → output' ≡ overwrite file output
      → PutsFile file output (Ok n) output'
  unfolding unless_refused
  puts_whole e n is = does_give (whole_fine (refusal 14) _ e ∙ verdict_one _) refl (ap gives n) is
