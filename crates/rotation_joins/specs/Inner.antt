-- What the code's own contracts say. Definitions only.
use Rattle.std.specs.Prelude.{if◌then◌else◌}
use Rattle.std.specs.Float.{nan}
use Rattle.checks.specs.First.{Checked}
use Rattle.paused_run.specs.Paused.{StartAnswer}
use Rattle.rotation.specs.declared.Rotation.{Rotation}
use Rattle.rotation.specs.Inner.{seat_of}
use Rattle.rotation_joins.specs.declared.Joined.{Joined}
use Rattle.checks.specs.Reasons.{Sound, Refused}
use Rattle.std.specs.Prelude.{Ok, Err}
use Rattle.checks.specs.declared.Reason.TheVariants.{UnitFull}

-- how a unit without room refuses a job, by what its start alone answers: 32 of a run that goes on
abbrev pub full_answer : StartAnswer → Checked
full_answer (Err r) = Err r
full_answer (Ok s) = if s.ended then Sound else Refused UnitFull nan

-- the unit after a start that answered, where it was not refused for want of room
abbrev pub admitted_of : Rotation → StartAnswer → Joined
admitted_of u (Err r) = record { unit = u; place = 16; answer = Err r }
admitted_of u (Ok s) = if s.ended then record { unit = u; place = 16; answer = Ok s } else record { unit = (seat_of u s).unit; place = (seat_of u s).place; answer = Ok s }
