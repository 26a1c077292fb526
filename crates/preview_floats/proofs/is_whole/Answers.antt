-- `is_whole` meets its contract.
use Rattle.std.proofs.Common.{sym, ◌∙◌, w64}
use Rattle.laws.specs.Booleans.{clash}
use Rattle.laws.specs.Machine.{same}
use Rattle.preview_floats.specs.WholeTestLaws.{Within}
use Rattle.preview_floats.proofs.Casts.{within_i64, inside, too_low, too_high, back_again, cut_float}
use Rattle.preview_floats.proofs.is_whole.Goals as goal
use Rattle.preview_floats.proofs.is_whole.Goals.{Then-x-2, then-x, else-x}

-- both limits are kept
within : (c : Then-x-2) → Within c.args.x
within c =
    elim c.if-x.branch [
      | then-x w ↦ inside _ w.if-x.true (sym w.value-is ∙ c.if-x-2.true)
      | else-x w ↦ absurd (clash c.if-x-2.true (w.value-is ∙ w.if-x.false))
    ]

pub truncating_f32_to_i64-requires : goal.truncating_f32_to_i64-requires
truncating_f32_to_i64-requires c =
    let given = within_i64 _ (within c) in
    record { lower_bound = given.0; upper_bound = given.1 }

pub int_to_float-result : goal.int_to_float-result
int_to_float-result c =
    let call = c.truncating_f32_to_i64 in
    cut_float _ _ (within (goal.at.int_to_float-result c).Then-x-2) (same w64 call.result call.type_inv ∙ call.ensures)

pub returns-then-x-2 : goal.returns-then-x-2
returns-then-x-2 c =
    let call = c.truncating_f32_to_i64 in
    record { value = back_again _ _ (within (goal.at.returns-then-x-2 c).Then-x-2) (same w64 call.result call.type_inv ∙ call.ensures) }

pub returns-else-x-2 : goal.returns-else-x-2
returns-else-x-2 c =
    elim c.if-x.branch [
      | then-x w ↦ record { value = c.if-x-2.false ∙ too_high _ (sym w.value-is ∙ c.if-x-2.false) }
      | else-x w ↦ record { value = w.value-is ∙ w.if-x.false ∙ too_low _ w.if-x.false }
    ]
