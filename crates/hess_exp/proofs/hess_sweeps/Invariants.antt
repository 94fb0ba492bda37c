-- `hess_exp::hess_sweeps` meets its contract. Assumes nothing.
use mathlib.Core.Path.{◌≡◌}
use lib.ListN.{length}
use Rattle.lists.specs.Loop.{iter}
use Rattle.hess_exp.specs.HessExp.{hess_sweep}
use Rattle.hess_exp.proofs.hess_sweeps.Given as goal

abbrev pub invariant-loop : goal.invariant-loop
invariant-loop l = (l.y ≡ iter (λ _ v. hess_sweep l.h l.dim l.mx l.ts l.deg v) l.counter l.initial.y) × (length l.y ≡ l.mx) × (length l.w ≡ l.mx)
