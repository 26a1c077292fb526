-- `tests::sizes_fit` meets its contract.
use Rattle.mesh.specs.TestLaws.{sizes_1, sizes_2, sizes_3, sizes_4}
use Rattle.mesh.proofs.tests.sizes_fit.Goals as goal

pub returns-then-coords-ne0 : goal.returns-then-coords-ne0
returns-then-coords-ne0 c = record { value = sizes_1 _ _ c.if-coords-ne0.true }

pub returns-then-corners-ne0 : goal.returns-then-corners-ne0
returns-then-corners-ne0 c = record { value = sizes_2 _ _ c.if-coords-ne0.false c.if-corners-ne0.true }

pub returns-then-coords-gt-MOST_VERTICES : goal.returns-then-coords-gt-MOST_VERTICES
returns-then-coords-gt-MOST_VERTICES c = record { value = sizes_3 _ _ c.if-coords-ne0.false c.if-corners-ne0.false c.if-coords-gt-MOST_VERTICES.true }

pub returns : goal.returns
returns c = record { value = sizes_4 _ _ c.if-coords-ne0.false c.if-corners-ne0.false c.if-coords-gt-MOST_VERTICES.false }
