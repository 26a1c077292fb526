-- `ordering::rising_prefix` meets its contract: every entry below m rises.
use mathlib.Core.Path.{◌≡◌, sym, ◌∙◌}
use native.Mathlib.Omega.{arith}
use borrow.Author.Tests.{not-true}
use Rattle.mesh.specs.Corners.{vertex_count}
use Rattle.mesh_tables.proofs.OrderTest.{rising_of, risen_is, risen_all}
use Rattle.mesh_tables.proofs.ordering.rising_prefix.Goals as goal

pub goes_on-requires : goal.goes_on-requires
goes_on-requires c = rising_of _ _ c.loop-m.m c.loop-m.invariant.1

pub returns-then-not-goes_on : goal.returns-then-not-goes_on
returns-then-not-goes_on c = record {
  value = risen_is _ _ c.loop-m.m (omega arith) c.loop-m.invariant.1
      (sym c.goes_on.ensures.value ∙ not-true _ c.if-not-goes_on.true-raw);
}

pub returns : goal.returns
returns c =
    let e : c.loop-m.m ≡ vertex_count c.args.coords.now = omega arith in
    record { value = sym e ∙ risen_all _ _ c.loop-m.m e c.loop-m.invariant.1 }
