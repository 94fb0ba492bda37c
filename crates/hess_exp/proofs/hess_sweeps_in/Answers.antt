-- `hess_exp::hess_sweeps_in` meets its contract. Assumes nothing.
use borrow.Author.Rules.{rules}
use native.Mathlib.Omega.{arith}
use mathlib.Core.Path.{sym, ◌∙◌}
use lib.Seq.{length-take-le, take_at}
use Rattle.lists.specs.Window.{window}
use Rattle.hess_exp.proofs.hess_sweeps_in.Goals as goal

pub slice_bounds-hess_sweeps-end-2 : goal.slice_bounds-hess_sweeps-end-2
slice_bounds-hess_sweeps-end-2 c = sym (length-take-le _ _ (omega arith))

pub slice_bounds-hess_sweeps-end-4 : goal.slice_bounds-hess_sweeps-end-4
slice_bounds-hess_sweeps-end-4 c = sym (length-take-le _ _ (omega arith))

pub hess_sweeps-requires : goal.hess_sweeps-requires
hess_sweeps-requires c = record { leading = c.requires.leading; y_len = (length-take-le _ _ (omega arith), length-take-le _ _ (omega arith)) }

pub returns : goal.returns
unfolding window
returns c =
    let a = c.args in
    take_at _ _ _ (c.hess_sweeps.auto.y ∙ length-take-le a.mx a.y.now (omega arith)) ∙ c.hess_sweeps.ensures
