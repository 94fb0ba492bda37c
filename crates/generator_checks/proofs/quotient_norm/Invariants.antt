-- `generator_checks::quotient_norm` meets its contract. Assumes nothing.
use Prim.Native.Nat.{◌-◌, ◌≤◌}
use Rattle.lists.proofs.Find.{Passed}
use Rattle.general_operator.specs.Csr.{csr}
use Rattle.generator_action.specs.Mass.{normalise, bad_sum}
use Rattle.generator_action.proofs.Leading.{Leading}
use Rattle.generator_checks.proofs.quotient_norm.Given as goal

abbrev pub invariant-loop-i : goal.invariant-loop-i
invariant-loop-i l =
    let q = normalise (csr l.n l.starts l.cols l.vals) l.mass in
    (l.i ≤ l.n) × Passed (bad_sum q) l.i × Leading q l.i l.largest.norm l.largest.row

abbrev pub decreases-loop-i : goal.decreases-loop-i
decreases-loop-i l = l.n - l.i
