-- `trial_steps::exact_step` meets its contract. Assumes nothing.
use Prim.Native.Nat.{zero-le}
use mathlib.Core.Path.{refl}
use Rattle.hess_exp.specs.Parts.{small_of}
use Rattle.trial_steps.specs.Trials.{exact_step}
use Rattle.trial_steps.specs.Memory.{outcome_at}
use Rattle.trial_steps.proofs.exact_step.Goals as goal

pub returns-then-small : goal.returns-then-small
unfolding small_of exact_step outcome_at
returns-then-small c =
    record { result_value = rw (← c.hess_exp_e1-small.ensures.result_value, c.if-small.true); modest = record { long = c.hess_exp_e1-small.ensures.column_len; within = (zero-le, refl) } }

pub returns : goal.returns
unfolding small_of exact_step outcome_at
returns c =
    record { result_value = rw (← c.hess_exp_e1-small.ensures.result_value, c.if-small.false); modest = record { long = c.hess_exp_e1-small.ensures.column_len; within = tt } }
