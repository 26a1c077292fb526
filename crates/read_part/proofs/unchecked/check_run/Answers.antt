-- `unchecked::check_run` meets its contract. The invariant: what is left at i goes as far as the whole run does.
use mathlib.Core.Path.{sym, ◌∙◌}
use native.Mathlib.Omega.{arith}
use Rattle.mesh.proofs.Raising.{raised}
use Rattle.read_part.proofs.Runs.{run_check_start, run_check_refused, run_check_passed, run_check_end}
use Rattle.read_part.proofs.unchecked.check_run.Goals as goal

pub loop-init : goal.loop-init
loop-init c = run_check_start _ _ _ c.requires

pub returns-in_err-next : goal.returns-in_err-next
returns-in_err-next c = record {
  value = raised _ c.from_residual.ensures.1
      ∙ run_check_refused c.loop.invariant (omega arith) (sym c.read_number.ensures.value ∙ c.in_err-next.was);
}

pub loop-preserved : goal.loop-preserved
loop-preserved c =
    run_check_passed c.loop.invariant (omega arith) (sym c.read_number.ensures.value ∙ c.in_ok-next.was)

pub returns : goal.returns
returns c = record { value = run_check_end c.loop.invariant (omega arith) }
