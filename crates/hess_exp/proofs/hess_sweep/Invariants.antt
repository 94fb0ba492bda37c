-- `hess_exp::hess_sweep` meets its contract. Assumes nothing.
use borrow.Author.Rules.{rules}
use Prim.Native.Nat.{◌-◌, ◌≤◌}
use mathlib.Core.Path.{◌≡◌}
use lib.ListN.{length}
use Rattle.lists.specs.Loop.{iter}
use Rattle.hess_exp.specs.HessExp.{term_step, hess_sweep}
use Rattle.hess_exp.specs.Parts.{terms}
use Rattle.hess_exp.proofs.hess_sweep.Given as goal

abbrev pub invariant-loop-k : goal.invariant-loop-k
invariant-loop-k l =
    (l.k ≤ l.deg) × (terms l.y l.w ≡ iter (term_step l.h l.dim l.mx l.ts) l.k (terms l.initial.y l.initial.w)) × (length l.y ≡ l.mx) × (length l.w ≡ l.mx)

abbrev pub decreases-loop-k : goal.decreases-loop-k
decreases-loop-k l = l.deg - l.k
