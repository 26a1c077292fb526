-- `unchecked::drawn_point` meets its contract.
use Rattle.std.proofs.Common.{◌∙◌, w32}
use Rattle.laws.specs.Machine.{same}
use Rattle.polygons.specs.Flat.{point}
use Rattle.preview_floats.specs.DrawnLaws.{sums, drawn_sums}
use Rattle.preview_floats.proofs.Casts.{read_float}
use Rattle.preview_floats.proofs.unchecked.drawn_point.Goals as goal

pub int_to_float-result : goal.int_to_float-result
int_to_float-result c = read_float _ _ (same w32 c.args.x c.ranges.x.sfits) c.requires.0

pub int_to_float-result-2 : goal.int_to_float-result-2
int_to_float-result-2 c = read_float _ _ (same w32 c.args.y c.ranges.y.sfits) c.requires.1

pub returns : goal.returns
returns c =
    let a = c.args in
    let x-read = same w32 a.x c.ranges.x.sfits in
    let y-read = same w32 a.y c.ranges.y.sfits in
    record {
      value = (λ i. sums a.origin (point (x-read i) (y-read i)))
          ∙ drawn_sums a.origin (point a.x a.y) (c.requires.0, c.requires.1) c.requires.2;
    }
