-- A soak in stages (document 02, N11): single calls in a row over one matrix, the field of one being w_0 of the next. Definitions only.
use Rattle.std.specs.Prelude.{List, ◌++◌, ℕ, ◌+◌, eqb, length, Float}
use Rattle.lists.specs.Walk.{Turn, on, out, walk}
use Rattle.lists.specs.Window.{window}
use Rattle.checks.specs.First.{first}
use Rattle.checks.specs.First.{Checked}
use Rattle.generator_action.specs.Generator.{Generator}
use Rattle.combination.specs.Call.{Call, ends, unless_refused}
use Rattle.taylor_job.specs.Calls.{open_calls}
use Rattle.krylov_job.specs.KrylovCall.{open_krylov_call}
use Rattle.phi_solver.specs.Combine.{of_taylor, of_krylov, answering, combine}
use Rattle.phi_solver.specs.Combine.{PhiAnswer}
use Rattle.schedule_checks.specs.declared.Stage.{Stage}
use Rattle.schedule_checks.specs.Schedule.{StagedAnswer, refused_at, Schedule, stage, stages_of, schedule_checks, Progress, further_need, stage_checks, counted, settle}
use Rattle.checks.specs.Reasons.{refusal}
use Rattle.checks.specs.declared.Reason.{Reason}
use Rattle.std.specs.Prelude.{Ok, Err}

unfoldable pub unless_stage_refused : Checked → ℕ → Progress → Turn Progress (Call StagedAnswer) → Turn Progress (Call StagedAnswer)
unless_stage_refused (Err r) i p t = out (ends (refused_at r (i + 1)) p.output p.memory)
unless_stage_refused (Ok _) i p t = t

-- the single call of a stage: w_0 is the field, and the further vectors are the next ones of the slice
abbrev pub stage_call : Generator → Stage → List Float → Progress → Call PhiAnswer
stage_call g s further p =
    combine s.solver g s.tau s.count (p.field ++ window p.used (further_need g.matrix.n s) further) p.output p.memory

-- stage i + 1 of the schedule, checked when it is reached
unfoldable pub stage_step : Generator → Schedule → List Float → ℕ → Progress → Turn Progress (Call StagedAnswer)
stage_step g schedule further i p =
    let n = g.matrix.n in
    let s = stage schedule i in
    let c = stage_call g s further p in
    unless_stage_refused (first (stage_checks n s (eqb (i + 1) (stages_of schedule)) (length p.output) (length p.field) p.used (length further))) i p
    (settle i (p.used + further_need n s) p.report c c.answer)

-- ---- the whole
unfoldable pub concluded : Turn Progress (Call StagedAnswer) → Call StagedAnswer
concluded (on p) = ends (Ok p.report) p.output p.memory
concluded (out c) = c

-- the start field is w_0 of stage 1
abbrev pub begun : List Float → List Float → List Float → Progress
begun start output memory = record { field = start; output = output; memory = memory; used = 0; report = record { applications = 0; substeps = 0; rejected = 0 } }

-- refused before any stage: 1 to 11, then 37
abbrev pub before_stages : Reason → Float → StagedAnswer
before_stages k x = refused_at (refusal k x) 0

unfoldable pub staged : Generator → Schedule → List Float → List Float → List Float → List Float → Call StagedAnswer
staged g schedule start further output memory =
    unless_refused before_stages (first (g.checks ++ schedule_checks schedule)) output memory
    (concluded (walk (stage_step g schedule further) (stages_of schedule) 0 (on (begun start output memory))))

-- to compute: a line `unfolding open_stages` opens every definition of this file and of those below it
unfoldable pub open_stages : Unit {0}
unfolding stage schedule_checks stage_checks counted settle unless_stage_refused stage_step concluded staged walk window answering of_taylor of_krylov combine open_calls open_krylov_call
open_stages = tt
