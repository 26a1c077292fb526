-- `unchecked_layers::write_contour` meets its contract.
use Rattle.file_write.proofs.Rows.{row_bytes}
use Rattle.file_write.proofs.Writing.{first_room, rest_room, both_put}
use Rattle.file_write.proofs.unchecked_layers.write_contour.Goals as goal

pub write_number-p-requires : goal.write_number-p-requires
write_number-p-requires c = first_room c.args.output.now _ (row_bytes c.args.points.now) c.requires

pub write_points-requires : goal.write_points-requires
write_points-requires c =
    rest_room c.args.output.now _ (row_bytes c.args.points.now) c.requires c.write_number-p.ensures.outcome

pub returns : goal.returns
returns c = record { outcome = both_put _ _ (row_bytes c.args.points.now) c.requires c.write_number-p.ensures.outcome c.write_points.ensures.outcome }
