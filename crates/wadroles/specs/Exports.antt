-- A call through the C interface: an operation's answer as it is told in C, and the tables that the operation leaves.
use Rattle.std.specs.Prelude.{ℕ, ◌≡◌, List}
use Rattle.mesh.specs.Operation.{Operation, answer_of, left_by}
use Rattle.mesh.specs.Refusals.{Told}
use Rattle.out_words.specs.Words.{Says}

pub record Exports {I G T : Type 0} (op : I → Operation Told G T) (words : G → List ℕ) (input : I) (out : List ℕ)
    (returned : ℕ) (tables : T) (out' : List ℕ) : Type 0 where
  pub says : Says words (answer_of (op input)) out returned out'
  pub leaves : tables ≡ left_by (op input)
