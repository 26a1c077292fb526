-- `check_points` meets its contract.
use mathlib.Core.Path.{sym, ap, ◌∙◌}
use Rattle.cleaning.specs.declared.Profile.{Profile}
use Rattle.file_check.specs.Answers.{points_at}
use Rattle.file_check.proofs.unchecked_position.check_points.Goals as goal

pub returns-in-Full : goal.returns-in-Full
returns-in-Full c =
    let a = c.args in record { value = c.check_watched.ensures.value ∙ ap (λ (p : Profile). points_at p a.count a.file.now a.at) (sym c.in-Full.is) }

pub returns-in-Clean : goal.returns-in-Clean
returns-in-Clean c =
    let a = c.args in record { value = c.check_watched-in-Clean.ensures.value ∙ ap (λ (p : Profile). points_at p a.count a.file.now a.at) (sym c.in-Clean.is) }
