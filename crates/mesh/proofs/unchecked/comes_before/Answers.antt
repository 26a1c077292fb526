-- `unchecked::comes_before` meets its contract.
use Rattle.mesh.proofs.Comparisons.{before_lower, before_higher, before_level}
use Rattle.mesh.proofs.unchecked.comes_before.Goals as goal

pub returns-then-a-b : goal.returns-then-a-b
returns-then-a-b c =
    let a = c.args in record { value = before_lower a.coords.now a.u a.v c.a-1.given c.b-1.given c.if-a-b.true }

pub returns-then-b-a : goal.returns-then-b-a
returns-then-b-a c =
    let a = c.args in record { value = before_higher a.coords.now a.u a.v c.a-1.given c.b-1.given c.if-a-b.false c.if-b-a.true }

pub returns : goal.returns
returns c =
    let a = c.args in record { value = before_level a.coords.now a.u a.v c.a-1.given c.b-1.given c.if-a-b.false c.if-b-a.false }
