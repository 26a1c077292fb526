-- `few_heights` meets its contract.
use Prim.Native.Nat.{ℕ}
use mathlib.Core.Path.{ap}
use lib.Dec.{leb}
use Rattle.file_formats.specs.LayerFile.{most_layers}
use Rattle.all_heights.proofs.few_heights.Goals as goal

pub returns : goal.returns
returns c = record { value = ap (λ (n : ℕ). leb n most_layers) c.taken_count.ensures.value }
