-- `schedule_checks::check_schedule` meets its contract. Assumes nothing.
use mathlib.Core.Path.{refl, ◌∙◌}
use mathlib.Core.List.{[]}
use Rattle.checks.proofs.First.{stops_told, passes_told, ends_sound}
use Rattle.schedule_checks.specs.Schedule.{schedule_checks}
use Rattle.schedule_checks.proofs.check_schedule.Goals as goal
use Rattle.checks.specs.declared.Reason.TheVariants.{StageCount}

pub returns-then-wrong_number : goal.returns-then-wrong_number
unfolding schedule_checks
returns-then-wrong_number c = stops_told [] (c.wrong_number.ensures ∙ rw c.uneven-odd.ensures refl) c.if-wrong_number.true c.not_a_number.ensures

pub returns : goal.returns
unfolding schedule_checks
returns c = passes_told StageCount _ [] (c.wrong_number.ensures ∙ rw c.uneven-odd.ensures refl) c.if-wrong_number.false ends_sound
