-- `hess_exp::hess_sweep` meets its contract. Assumes nothing.
use borrow.Author.Rules.{rules}
use native.Mathlib.Omega.{arith}
use Prim.Native.Nat.{◌-◌}
use mathlib.Core.Path.{◌≡◌, sym, ap, ◌∙◌}
use Rattle.lists.proofs.Loop.{iter_none, iter_turn}
use Rattle.lists.proofs.Window.{copy_whole}
use Rattle.hess_exp.specs.HessExp.{Terms, hess_sweep}
use Rattle.hess_exp.proofs.hess_sweep.Goals as goal

pub loop-k-init : goal.loop-k-init
loop-k-init c = (omega arith, sym (iter_none _ _), omega arith, omega arith)

pub loop-k-preserved : goal.loop-k-preserved
loop-k-preserved c = (omega arith, iter_turn _ _ _ _ _ c.loop-k.invariant.1 c.hess_term.ensures, omega arith, omega arith)

pub returns : goal.returns
unfolding hess_sweep
returns c =
    let e : c.loop-k.k ≡ c.args.deg = omega arith in
    let p = c.requires.y_len in
    let copied = c.copy_from.ensures ∙ copy_whole _ _ _ p.0 p.1 in
    ap (λ (t : Terms). t.y) (rw (e, copied) at c.loop-k.invariant.1)
