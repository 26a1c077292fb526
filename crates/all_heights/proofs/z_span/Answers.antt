-- `z_span` meets its contract.
use native.Mathlib.Omega.{arith}
use mathlib.Core.Path.{◌∙◌}
use Rattle.all_heights.proofs.Scans.{lower_is_min, higher_is_max, span_none, span_start, span_more, span_end}
use Rattle.all_heights.proofs.z_span.Goals as goal

pub returns-then-n-eq0 : goal.returns-then-n-eq0
returns-then-n-eq0 c = record { result = span_none c.args.coords.now c.if-n-eq0.true }

pub loop-v-init : goal.loop-v-init
loop-v-init c = span_start c.args.coords.now (omega arith)

pub loop-v-preserved : goal.loop-v-preserved
loop-v-preserved c =
    span_more c.args.coords.now c.loop-v.invariant c.min-low.result c.max-high.result (omega arith) c.min-low.type_inv c.max-high.type_inv
    (c.min-low.ensures.value ∙ lower_is_min _ _) (c.max-high.ensures.value ∙ higher_is_max _ _) (omega arith)

pub returns : goal.returns
returns c = record { result = span_end c.args.coords.now c.loop-v.invariant (omega arith) }
