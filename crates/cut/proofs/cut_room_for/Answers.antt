-- `cut_room_for` meets its contract.
use Rattle.std.proofs.Common.{arith}
use Rattle.std.proofs.lemmas.Bool.Decides.{nat_tests}
use Rattle.std.proofs.lemmas.Grind.{common_steps}
use Rattle.cut.specs.Cut.{cut_room_for}
use Rattle.cut.proofs.cut_room_for.Goals as goal

pub returns-then-n-ends : goal.returns-then-n-ends
unfolding cut_room_for
returns-then-n-ends c = record { value = grind (arith, nat_tests, common_steps) }

pub returns-else-n-ends : goal.returns-else-n-ends
unfolding cut_room_for
returns-else-n-ends c = record { value = grind (arith, nat_tests, common_steps) }
