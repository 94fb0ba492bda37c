-- `hess_exp::hess_exp_e1` meets its contract. Assumes nothing.
use Rattle.std.specs.Prelude.{Option, Some, None}
use native.Mathlib.Omega.{arith}
use Prim.Native.Nat.{ℕ, ◌≤◌}
use mathlib.Core.Path.{◌≡◌, ap, ◌∙◌}
use mathlib.Core.Bool.{true, false}
use mathlib.Core.List.{List}
use lib.ListN.{replicate, set, length-replicate, length-set}
use lib.Seq.{take-set-lt}
use lib.Ieee.{Float}
use Rattle.lists.specs.Loop.{iter}
use Rattle.lists.specs.Window.{window}
use Rattle.lists.proofs.Window.{window_replicate}
use Rattle.doubles.specs.F64.{◌⊗◌, ◌⊘◌, nat, +0, 1f}
use Rattle.expmv.specs.Select.{row, select_s_m}
use Rattle.expmv.specs.declared.Row.{Row}
use Rattle.hess_exp.specs.HessExp.{column_sum_norm, hess_sweep, e1, swept, hess_exp_e1}
use Rattle.hess_exp.specs.Parts.{small_of}
use Rattle.hess_exp.proofs.hess_exp_e1.Goals as goal

-- what the array starts with
starts : (mx : ℕ) → 1 ≤ mx → mx ≤ 130 → window 0 mx (set (replicate 130 +0) 0 1f) ≡ e1 mx
unfolding window e1
starts mx l m = take-set-lt mx (replicate 130 +0) 0 1f l ∙ ap (λ (v : List Float). set v 0 1f) (window_replicate mx 130 +0 m)

module _ (h : List Float) (dim mx : ℕ) (t norm : Float) (plan : Option Row) (n : norm ≡ column_sum_norm h dim mx) (p : plan ≡ select_s_m 30 (t ⊗ norm)) where
  none : (y : List Float) → plan ≡ None → small_of mx (record { planned = false; argument = t ⊗ norm; column = y }) ≡ hess_exp_e1 h dim mx t
  unfolding small_of hess_exp_e1 swept
  none y e = rw (← n, ← p, e)

  some : (y : List Float) (s deg : ℕ) (q : Float) (a : Float) → plan ≡ Some (row s deg) → q ≡ nat s → 1 ≤ mx → mx ≤ 130
      → window 0 mx y ≡ iter (λ _ v. hess_sweep h dim mx (t ⊘ q) deg v) s (window 0 mx (set (replicate 130 +0) 0 1f))
      → small_of mx (record { planned = true; argument = a; column = y }) ≡ hess_exp_e1 h dim mx t
  unfolding small_of hess_exp_e1 swept
  some y s deg q a e d l m run = rw (← n, ← p, e, run, starts mx l m, d)

pub returns-in_default : goal.returns-in_default
returns-in_default c =
    record { result_value = none _ _ _ _ _ _ c.column_sum_norm.ensures c.select_s_m-plan.ensures _ c.in_default.is; column_len = length-replicate 130 +0 }

pub returns : goal.returns
returns c =
    record { result_value = some _ _ _ _ _ _ c.column_sum_norm.ensures c.select_s_m-plan.ensures _ _ _ _ _ c.in-Some.is c.count.ensures (omega arith) (omega arith) c.hess_sweeps_in.ensures; column_len = c.hess_sweeps_in.auto.y ∙ length-set (replicate 130 +0) 0 1f }
