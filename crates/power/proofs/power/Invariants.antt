-- `power::power` meets its contract. Assumes nothing.
use Rattle.std.proofs.Common.{◌≡◌, ◌-◌, ◌≤◌}
use Rattle.power.specs.Power.{times}
use Rattle.power.proofs.power.Given as goal

abbrev pub invariant-loop : goal.invariant-loop
invariant-loop l = (l.counter - 1 ≤ l.q - 1) × (l.p ≡ times l.y (l.counter - 1))
