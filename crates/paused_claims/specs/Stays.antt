-- What stays of a paused run (document 02, N5: 'm and the limit stay', 'eta and factors stay the start's'). Definitions only.
use Rattle.std.specs.Prelude.{◌≡◌, List, length, Float}
use Rattle.checks.specs.First.{first}
use Rattle.paused_run.specs.Paused.{Input, step_checks, step}
use Rattle.paused_run.specs.declared.PausedRun.{PausedRun}
use Rattle.paused_claims.specs.History.{Past, run_in, in_force, tol_kept}

pub record Stays (s t : PausedRun) : Type 0 where
  pub eta : t.eta ≡ s.eta
  pub factors : t.factors ≡ s.factors
  pub norm : t.norm ≡ s.norm
  pub m : t.m ≡ s.m
  pub limit : t.limit ≡ s.limit
  pub n : t.n ≡ s.n
  pub count : t.count ≡ s.count

-- after a step on any state, whatever comes with it
pub record StepStays (s : PausedRun) (y : List Float) (i : Input) : Type 0 where
  pub stays : Stays s (run_in (step s y i).answer)
  -- 'A step may bring a new tol for itself and the later ones'
  pub tol : (run_in (step s y i).answer).tol ≡ tol_kept (first (step_checks s (length y) i)) (step s y i).answer s.tol (in_force i.tolerance s.tol)

-- of a run as it was left: what its start handed back, and the tol that its inputs and answers tell
pub record LeftStays (p : Past) : Type 0 where
  pub stays : Stays p.began p.run
  pub tol : p.run.tol ≡ p.tol
