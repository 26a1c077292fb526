-- `unchecked_lines::list_layer` meets its contract.
use mathlib.Core.Path.{◌∙◌}
use native.Mathlib.Omega.{arith}
use mir.Syntax.{w64}
use Rattle.laws.specs.Machine.{same}
use Rattle.list_lines.proofs.Slices.{sums, line_put, is_cut, line_at_height, line_fits, line_room}
use Rattle.list_lines.proofs.unchecked_lines.list_layer.Goals as goal

pub unwrap-counts-requires : goal.unwrap-counts-requires
unwrap-counts-requires c = is_cut c.requires.fact_1 c.requires.fact_2.few c.slice.ensures.outcome

pub sum_areas-a-requires : goal.sum_areas-a-requires
sum_areas-a-requires c = sums c.requires.fact_1 c.requires.fact_2.few c.slice.ensures.outcome c.unwrap-counts.ensures

pub write_layer_line-requires : goal.write_layer_line-requires
write_layer_line-requires c =
    line_room _ (line_fits c.args.h _ _ c.sum_areas-a.result c.ranges.h (omega arith) (omega arith) c.sum_areas-a.type_inv) c.requires.fact_3

pub returns : goal.returns
returns c =
    let short = line_fits c.args.h _ _ c.sum_areas-a.result c.ranges.h (omega arith) (omega arith) c.sum_areas-a.type_inv in
    let area = same w64 _ c.sum_areas-a.type_inv ∙ c.sum_areas-a.ensures.value in
    let put = line_put c.requires.fact_1 c.requires.fact_2.few c.slice.ensures.outcome c.unwrap-counts.ensures area short c.write_layer_line.ensures.outcome in
    record { outcome = line_at_height _ c.ranges.h put }
