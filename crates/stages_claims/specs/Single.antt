-- A schedule of one stage told as its single call (document 02, N11). Definitions only.
use Rattle.std.specs.Prelude.{ℕ}
use Rattle.checks.specs.First.{Checked}
use Rattle.phi_solver.specs.Combine.{PhiAnswer}
use Rattle.phi_solver.specs.declared.PhiReport.TheVariants as phi
use Rattle.std.specs.Prelude.{Ok, Err}
use Rattle.schedule_checks.specs.Schedule.{StagedAnswer, refused_at}

-- no stage is reached where the generator's checks refuse
abbrev pub stage_told : Checked → ℕ
stage_told (Err r) = 0
stage_told (Ok _) = 1

unfoldable pub one_stage : ℕ → PhiAnswer → StagedAnswer
one_stage i (Err r) = refused_at r i
one_stage i (Ok (phi.Taylor t)) = Ok (record { applications = t.applications; substeps = 0; rejected = 0 })
one_stage i (Ok (phi.Krylov t)) = Ok (record { applications = t.matvecs; substeps = t.substeps; rejected = t.rejected })
