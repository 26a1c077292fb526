-- `unchecked_pairing::is_reverse` meets its contract.
use mathlib.Core.Path.{◌∙◌}
use borrow.Author.Tests.{ne_eqb}
use Rattle.mesh.specs.TestLaws.{reverse_no, reverse_as}
use Rattle.mesh_tables.proofs.unchecked_pairing.is_reverse.Goals as goal

pub returns-then-corners-d : goal.returns-then-corners-d
returns-then-corners-d c = record { value = reverse_as _ _ _ _ _ c.next_corner-i.ensures.value c.next_corner-j.ensures.value c.if-corners-d.true }

pub returns-else-corners-d : goal.returns-else-corners-d
returns-else-corners-d c = record { value = ne_eqb _ _ c.if-corners-d.false ∙ reverse_no _ _ _ _ c.next_corner-i.ensures.value c.if-corners-d.false }
