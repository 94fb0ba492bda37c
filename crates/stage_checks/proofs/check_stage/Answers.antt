-- `stage_checks::check_stage` meets its contract. Assumes nothing.
use mathlib.Core.Path.{refl}
use mathlib.Core.List.{[]}
use native.Mathlib.Omega.{arith}
use Prim.Native.Nat.{◌-◌}
use Rattle.checks.proofs.First.{passed_on, refused_up, sound_on, stops_told, passes_told, ends_sound}
use Rattle.checks.specs.declared.Reason.TheVariants.{VectorLength}
use Rattle.schedule_checks.specs.Schedule.{stage_checks}
use Rattle.schedule_checks.proofs.Checks.{count_some, few_counted}
use Rattle.stage_checks.proofs.check_stage.Goals as goal

pub returns-in_err-check_count : goal.returns-in_err-check_count
unfolding stage_checks
returns-in_err-check_count c = rw (passed_on c.from_residual.ensures.1) (refused_up _ _ refl c.in_err-check_count.ensures)

pub returns-in_err-check_time_of : goal.returns-in_err-check_time_of
unfolding stage_checks
returns-in_err-check_time_of c =
    rw (passed_on c.from_residual-in_err-check_time_of.ensures.1)
    (sound_on _ _ refl c.in_ok-check_count.ensures (refused_up _ _ refl c.in_err-check_time_of.ensures))

pub returns-in_err-check_lengths : goal.returns-in_err-check_lengths
unfolding stage_checks
returns-in_err-check_lengths c =
    rw (passed_on c.from_residual-in_err-check_lengths.ensures.1)
    (sound_on _ _ refl c.in_ok-check_count.ensures (sound_on _ _ refl c.in_ok-check_time_of.ensures (refused_up _ _ refl c.in_err-check_lengths.ensures)))

pub overflow_sub-need : goal.overflow_sub-need
overflow_sub-need c = count_some _ refl c.in_ok-check_count.ensures

pub overflow_mul-need : goal.overflow_mul-need
overflow_mul-need c = omega (arith, few_counted c.args.s.count c.args.n refl c.in_ok-check_count.ensures c.requires.0)

pub wrong_slice-requires : goal.wrong_slice-requires
wrong_slice-requires c = omega (arith, few_counted c.args.s.count c.args.n refl c.in_ok-check_count.ensures c.requires.0, c.requires.1)

pub returns-then-wrong_slice : goal.returns-then-wrong_slice
unfolding stage_checks
returns-then-wrong_slice c =
    sound_on _ _ refl c.in_ok-check_count.ensures
    (sound_on _ _ refl c.in_ok-check_time_of.ensures
    (sound_on _ _ refl c.in_ok-check_lengths.ensures (stops_told [] c.wrong_slice.ensures c.if-wrong_slice.true c.count.ensures)))

pub returns : goal.returns
unfolding stage_checks
returns c =
    sound_on _ _ refl c.in_ok-check_count.ensures
    (sound_on _ _ refl c.in_ok-check_time_of.ensures
    (sound_on _ _ refl c.in_ok-check_lengths.ensures (passes_told VectorLength _ [] c.wrong_slice.ensures c.if-wrong_slice.false ends_sound)))
