-- `check_room_for` meets its contract.
use Rattle.std.proofs.Common.{arith}
use Rattle.std.proofs.lemmas.Bool.Decides.{nat_tests}
use Rattle.check_mesh.specs.Check.{check_room_for}
use Rattle.check_mesh.proofs.check_room_for.Goals as goal

pub returns-then-corners-pairing : goal.returns-then-corners-pairing
unfolding check_room_for
returns-then-corners-pairing c = record { value = grind (arith, nat_tests) }

pub returns-else-corners-pairing : goal.returns-else-corners-pairing
unfolding check_room_for
returns-else-corners-pairing c = record { value = grind (arith, nat_tests) }
