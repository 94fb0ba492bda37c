-- `trial_steps::try_step` meets its contract. Assumes nothing.
use native.Mathlib.Omega.{arith}
use Prim.Native.Nat.{ℕ, ◌+◌, ◌≤◌}
use mathlib.Core.Path.{◌≡◌, refl, sym}
use mathlib.Core.List.{List}
use lib.Ieee.{Float}
use lib.ListN.{length, take}
use lib.Seq.{length-take-le}
use Rattle.trial_steps.proofs.Tries.{no_plan, taken, left}
use Rattle.trial_steps.proofs.try_step.Goals as goal

-- the first m + 2 of the array
front : (m : ℕ) (f : List Float) → m ≤ 128 → length f ≡ 130 → length (take (m + 2) f) ≡ m + 2
front m f h e = length-take-le (m + 2) f (omega arith)

pub hess_exp_e1-small-requires : goal.hess_exp_e1-small-requires
hess_exp_e1-small-requires c = record { le_mx = omega arith; leading = record { across = omega arith; down = omega arith } }

pub slice_bounds-f-end : goal.slice_bounds-f-end
slice_bounds-f-end c = omega (arith, c.hess_exp_e1-small.ensures.column_len)

pub slice_bounds-local_error-end : goal.slice_bounds-local_error-end
slice_bounds-local_error-end c = sym (front c.args.k.m c.hess_exp_e1-small.result.column c.requires.m_bound.0 c.hess_exp_e1-small.ensures.column_len)

pub local_error-e-requires : goal.local_error-e-requires
local_error-e-requires c = omega (arith, front c.args.k.m c.hess_exp_e1-small.result.column c.requires.m_bound.0 c.hess_exp_e1-small.ensures.column_len)

pub returns-then-accepts : goal.returns-then-accepts
returns-then-accepts c =
    record { result_value = (λ l b q vectors i. taken l b c.args.k q vectors _ _ _ i _ _ _ c.hess_exp_e1-small.ensures.result_value _ c.if-small.true c.local_error-e.ensures _ c.accepts.ensures c.if-accepts.true); modest = record { long = c.hess_exp_e1-small.ensures.column_len; within = (c.requires.m_bound.1, refl) } }

pub returns-then-small : goal.returns-then-small
returns-then-small c =
    record { result_value = (λ l b q vectors i. left l b c.args.k q vectors _ _ _ i _ _ _ c.hess_exp_e1-small.ensures.result_value _ c.if-small.true c.local_error-e.ensures _ c.accepts.ensures _ _ c.if-accepts.false c.retry-shorter.ensures); modest = record { long = c.hess_exp_e1-small.ensures.column_len; within = omega arith } }

pub returns : goal.returns
returns c =
    record { result_value = (λ l b q vectors i. no_plan l b c.args.k q vectors _ _ _ i _ _ _ c.hess_exp_e1-small.ensures.result_value _ c.if-small.false); modest = record { long = c.hess_exp_e1-small.ensures.column_len; within = tt } }
