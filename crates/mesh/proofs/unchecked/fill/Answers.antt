-- `unchecked::fill` meets its contract.
use Rattle.std.proofs.Common.{◌≡◌, arith, sym, ap, ◌∙◌, take, set}
use Rattle.std.proofs.lemmas.List.{length-take-le}
use Rattle.laws.specs.Tables.{refill}
use Rattle.laws.specs.TableLaws.{refill_none, refill_more, filled_front}
use Rattle.mesh.proofs.unchecked.fill.Goals as goal

pub loop-e-init : goal.loop-e-init
loop-e-init g c = sym (refill_none _ _)

pub loop-e-preserved : goal.loop-e-preserved
loop-e-preserved g c = ap (λ l. set l c.loop-e.e-index c.args.x) c.loop-e.invariant ∙ refill_more _ _ _ c.loop-e-test.true

pub returns : goal.returns
returns g c = record {
  left =
      let e : c.loop-e.e-index ≡ c.args.n = omega (arith, length-take-le c.args.n c.args.t.now c.requires) in
      filled_front _ _ _ _ c.requires (c.loop-e.invariant ∙ ap (λ k. refill k (λ i. c.args.x) (take c.args.n c.args.t.now)) e);
}
