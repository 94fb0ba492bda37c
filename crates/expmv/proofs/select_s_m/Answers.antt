-- `expmv::select_s_m` meets its contract. Assumes nothing.
use native.Mathlib.Omega.{arith}
use mathlib.Core.Path.{◌≡◌, sym, ap, ◌∙◌}
use Rattle.std.specs.Prelude.{Some}
use Rattle.lists.proofs.Loop.{iter_none, iter_turn}
use Rattle.expmv.proofs.Rows.{table_degree, table_theta}
use Rattle.expmv.proofs.Least.{endless, negative, searched, row_considered, none_considered}
use Rattle.expmv.proofs.select_s_m.Goals as goal
use Rattle.expmv.proofs.select_s_m.Goals.{in-Some, in_default, then-not-is_finite-via-then-not-is_finite, then-not-is_finite-via-else-not-is_finite+then-arg}

pub returns-then-not-is_finite : goal.returns-then-not-is_finite
returns-then-not-is_finite c = elim c.then-not-is_finite.branch [
  | then-not-is_finite-via-then-not-is_finite w ↦ endless _ _ (sym c.is_finite.ensures ∙ w.if-not-is_finite.true)
  | then-not-is_finite-via-else-not-is_finite+then-arg w ↦ negative _ _ w.if-arg.true
]

pub loop-m-init : goal.loop-m-init
loop-m-init c = sym (iter_none _ _)

pub loop-m-preserved : goal.loop-m-preserved
loop-m-preserved c =
    let i = c.loop-m.m-index in
    let at_i = c.row_at.ensures i (table_degree i) (table_theta i) in
    iter_turn _ _ _ _ _ c.loop-m.invariant (elim c.match-row_at.branch [
      | in-Some w ↦ w.best-is ∙ ap Some w.cheaper.ensures ∙ row_considered _ _ _ _ at_i w.in-Some.is
      | in_default w ↦ w.best-is ∙ none_considered _ _ _ _ at_i w.in_default.is
    ])

pub returns : goal.returns
returns c =
    let e : c.loop-m.m-index ≡ 22 = omega arith in
    rw e at c.loop-m.invariant ∙ searched _ _ (sym c.is_finite.ensures ∙ c.if-not-is_finite.false) c.if-arg.false
