-- `unchecked::names_none` meets its contract.
use mathlib.Core.Path.{refl}
use Rattle.mesh.specs.TestLaws.{names_is}
use Rattle.mesh.proofs.unchecked.names_none.Goals as goal

pub returns : goal.returns
returns c = record { value = names_is c.args.vertices c.args.corners.now c.args.c _ refl }
