-- `unchecked::find_part` meets its contract.
use mathlib.Core.Path.{sym, ◌∙◌}
use native.Mathlib.Omega.{arith}
use Rattle.file_formats.specs.PositionLaws.{took}
use Rattle.read_part.proofs.Finding.{breaks_off, no_vertex_count, no_triangle_count, counts_stand}
use Rattle.read_part.proofs.unchecked.find_part.Goals as goal

pub returns-in_err-v : goal.returns-in_err-v
returns-in_err-v c = record {
  result = breaks_off _ _ c.from_residual.ensures.1 (no_vertex_count _ (sym c.read_number.ensures.value ∙ c.in_err-v.was));
}

pub returns-in_err-t : goal.returns-in_err-t
returns-in_err-t c = record {
  result = breaks_off _ _ c.from_residual-in_err-t.ensures.1
      (no_triangle_count _ (sym c.read_number.ensures.value ∙ c.in_ok-v.was) (sym c.read_number-2.ensures.value ∙ c.in_err-t.was));
}

pub overflow_mul-v : goal.overflow_mul-v
overflow_mul-v c = omega (arith, (took (sym c.read_number.ensures.value ∙ c.in_ok-v.was)).low)

pub overflow_mul-t : goal.overflow_mul-t
overflow_mul-t c = omega (arith, (took (sym c.read_number-2.ensures.value ∙ c.in_ok-t.was)).low)

pub find_tables-requires : goal.find_tables-requires
find_tables-requires c =
    counts_stand _ (sym c.read_number.ensures.value ∙ c.in_ok-v.was) (sym c.read_number-2.ensures.value ∙ c.in_ok-t.was)
