-- `admission::admit_action` meets its contract. Assumes nothing.
use Rattle.checks.proofs.First.{passed_on, refused_or, sound_or}
use Rattle.combination.specs.Checks.{job_checks}
use Rattle.admission.proofs.admit_action.Goals as goal

pub returns-in_err-check_index : goal.returns-in_err-check_index
unfolding job_checks
returns-in_err-check_index c = rw (passed_on c.from_residual.ensures.1) (refused_or _ _ _ c.in_err-check_index.was c.check_index.ensures)

pub returns-in_err-check_plan : goal.returns-in_err-check_plan
unfolding job_checks
returns-in_err-check_plan c =
    rw (passed_on c.from_residual-in_err-check_plan.ensures.1)
    (sound_or _ _ _ c.in_ok-check_index.was c.check_index.ensures (refused_or _ _ _ c.in_err-check_plan.was c.check_plan.ensures))

pub returns-in_err-check_lengths : goal.returns-in_err-check_lengths
unfolding job_checks
returns-in_err-check_lengths c =
    rw (passed_on c.from_residual-in_err-check_lengths.ensures.1)
    (sound_or _ _ _ c.in_ok-check_index.was c.check_index.ensures
    (sound_or _ _ _ c.in_ok-check_plan.was c.check_plan.ensures (refused_or _ _ _ c.in_err-check_lengths.was c.check_lengths.ensures)))

pub returns-in_err-check_finite : goal.returns-in_err-check_finite
unfolding job_checks
returns-in_err-check_finite c =
    rw (passed_on c.from_residual-in_err-check_finite.ensures.1)
    (sound_or _ _ _ c.in_ok-check_index.was c.check_index.ensures
    (sound_or _ _ _ c.in_ok-check_plan.was c.check_plan.ensures
    (sound_or _ _ _ c.in_ok-check_lengths.was c.check_lengths.ensures (refused_or _ _ _ c.in_err-check_finite.was c.check_finite.ensures))))

pub returns : goal.returns
unfolding job_checks
returns c =
    let eta = rw c.sup.ensures at c.eta_scaling-eta.ensures in
    sound_or _ _ _ c.in_ok-check_index.was c.check_index.ensures
    (sound_or _ _ _ c.in_ok-check_plan.was c.check_plan.ensures
    (sound_or _ _ _ c.in_ok-check_lengths.was c.check_lengths.ensures
    (sound_or _ _ _ c.in_ok-check_finite.was c.check_finite.ensures (rw (c.one_column-b.ensures, eta) at c.plan_job.ensures))))
