-- In a right pairing the pair of a corner is another corner.
use Rattle.std.specs.Prelude.{ℕ, ◌<◌, List, length}
use Rattle.std.proofs.Common.{sym, ap, ◌∙◌}
use Rattle.mesh.specs.Corners.{start_of}
use Rattle.mesh.specs.TestLaws.{reverse_parts}
use Rattle.section.specs.Section.{Linked}
use Rattle.composed.specs.Composed.{AnotherCorner}

-- the reverse of an edge that is no loop is another edge
pub another_corner : (corners pairing : List ℕ) → Linked corners pairing → (c : ℕ) → c < length corners → AnotherCorner corners pairing c
another_corner corners pairing linked c l =
    let p = linked.each c l in
    record {
      corner = p.corner;
      another = λ e. linked.proper c l (sym (ap (start_of corners) e) ∙ (reverse_parts corners c _ p.turned).0);
      turned = p.turned;
      back = p.back;
    }
