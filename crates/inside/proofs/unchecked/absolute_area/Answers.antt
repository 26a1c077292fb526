-- `unchecked::absolute_area` meets its contract.
use Rattle.inside.proofs.Sizes.{area_size}
use Rattle.inside.proofs.unchecked.absolute_area.Goals as goal

pub returns : goal.returns
returns c =
    let a = c.doubled_area in
    record { value = area_size c.requires a.type_inv a.ensures.value c.unsigned_abs.ensures.value }
