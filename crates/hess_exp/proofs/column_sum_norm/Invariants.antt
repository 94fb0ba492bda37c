-- `hess_exp::column_sum_norm` meets its contract. Assumes nothing.
use mathlib.Core.Path.{◌≡◌}
use Rattle.lists.specs.Loop.{iter}
use Rattle.doubles.specs.F64.{max_num, +0}
use Rattle.hess_exp.specs.Parts.{column_sum}
use Rattle.hess_exp.proofs.column_sum_norm.Given as goal

abbrev pub invariant-loop-c : goal.invariant-loop-c
invariant-loop-c l = l.m ≡ iter (λ k a. max_num a (column_sum l.h l.dim l.mx k)) l.c +0
