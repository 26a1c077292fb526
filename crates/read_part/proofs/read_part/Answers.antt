-- `read_part` meets its contract.
use mathlib.Core.Path.{refl}
use Rattle.mesh.proofs.Raising.{raised}
use Rattle.read_part.specs.Layouts.{Laid}
use Rattle.read_part.proofs.Answers.{found_whole, found_broken, reads_broken, reads_short, coords_fit, corners_fit, heights_fit, reads_filled}
use Rattle.read_part.proofs.read_part.Goals as goal
use Rattle.read_part.proofs.read_part.Goals.{After-read_part_room_for}

pub returns-in_err-l : goal.returns-in_err-l
returns-in_err-l c = record {
  outcome = reads_broken (found_broken _ c.find_part.ensures.result c.in_err-l.was) (raised _ c.from_residual.ensures.1);
}

-- what was found
module _ (c : After-read_part_room_for) where
  laid : Laid c.args.file.now c.in_ok-l.l
  laid = found_whole _ c.find_part.ensures.result c.in_ok-l.was

pub returns-then-not-read_part_room_for : goal.returns-then-not-read_part_room_for
returns-then-not-read_part_room_for c = record {
  outcome = reads_short (laid (goal.at.returns-then-not-read_part_room_for c).After-read_part_room_for)
      c.read_part_room_for.ensures.value c.if-not-read_part_room_for.true;
}

pub fill_signed-requires : goal.fill_signed-requires
fill_signed-requires c =
    coords_fit (laid (goal.at.fill_signed-requires c).After-read_part_room_for) _
    c.read_part_room_for.ensures.value c.if-not-read_part_room_for.false _ refl

pub fill_corners-requires : goal.fill_corners-requires
fill_corners-requires c =
    corners_fit (laid (goal.at.fill_corners-requires c).After-read_part_room_for) _
    c.read_part_room_for.ensures.value c.if-not-read_part_room_for.false _ refl

pub fill_signed-requires-2 : goal.fill_signed-requires-2
fill_signed-requires-2 c =
    heights_fit (laid (goal.at.fill_signed-requires-2 c).After-read_part_room_for) _
    c.read_part_room_for.ensures.value c.if-not-read_part_room_for.false _ refl

pub returns : goal.returns
returns c = record {
  outcome = reads_filled (laid (goal.at.returns c).After-read_part_room_for)
      c.read_part_room_for.ensures.value c.if-not-read_part_room_for.false
      c.fill_signed.ensures.outcome c.fill_corners.ensures.outcome c.fill_signed-2.ensures.outcome;
}
