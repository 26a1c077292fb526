-- `unchecked::names_twice` meets its contract.
use Rattle.mesh.specs.TestLaws.{twice_1, twice_2, twice_3}
use Rattle.mesh.proofs.unchecked.names_twice.Goals as goal

pub returns-then-a-b : goal.returns-then-a-b
returns-then-a-b c = record { value = twice_1 _ _ c.if-a-b.true }

pub returns-then-b-c : goal.returns-then-b-c
returns-then-b-c c = record { value = twice_2 _ _ c.if-a-b.false c.if-b-c.true }

pub returns : goal.returns
returns c = record { value = twice_3 _ _ c.if-a-b.false c.if-b-c.false }
