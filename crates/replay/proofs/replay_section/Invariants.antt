-- `replay::replay_section` ends: no more records differ than were replayed. Assumes nothing.
use Rattle.std.proofs.Common.{◌≤◌}
use Rattle.replay.proofs.replay_section.Given as goal

abbrev pub invariant-loop-k : goal.invariant-loop-k
invariant-loop-k g l = l.different ≤ l.k
