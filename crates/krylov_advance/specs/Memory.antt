-- What the memory and the answers of a run's functions stand for. Definitions only.
use Rattle.std.specs.Prelude.{Result, Ok, Err, List, ℕ, ◌+◌, ◌*◌, ◌≤◌, Float}
use Rattle.lists.specs.Loop.{tabulate}
use Rattle.lists.specs.Walk.{Turn, on, out}
use Rattle.lists.specs.Window.{window}
use Rattle.phi_action_helpers.specs.declared.Layout.{Layout}
use Rattle.gram_schmidt.specs.Basis.{Setting}
use Rattle.gram_schmidt.specs.Memory.{column}
use Rattle.gram_schmidt.specs.declared.Krylov.{Krylov}
use Rattle.gram_schmidt.specs.declared.Broken.{Broken}
use Rattle.gram_schmidt.specs.declared.Full.{Full}
use Rattle.krylov_advance.specs.Run.{State, End, finished, refused, advance}
use Rattle.krylov_advance.specs.declared.Control.{Control}
use Rattle.krylov_advance.specs.declared.KrylovPhiReport.{KrylovPhiReport}
use Rattle.trial_steps.specs.declared.Step.{Step}
use Rattle.krylov_advance.specs.declared.Progress.{Progress}
use Rattle.krylov_advance.specs.declared.Progress.TheVariants as progress
use Rattle.krylov_advance.specs.declared.RunAnswer.{RunAnswer}
use Rattle.krylov_advance.specs.declared.RunAnswer.TheVariants as answer

-- how many products with the generator it took
abbrev pub products : Result Full Broken → ℕ
products (Ok b) = b.applied
products (Err e) = e.applied

-- the field stands from k.y on
abbrev pub state_at : Layout → Krylov → Control → KrylovPhiReport → List Float → State
state_at l k c r w = record { control = c; report = r; y = window k.y (l.n + l.d) w }

-- the state after the length s with the coefficients f, whose columns stand at the front of the memory
abbrev pub stepped : Layout → Krylov → Control → KrylovPhiReport → ℕ → Step → List Float → Setting → List Float → State
stepped l k c r applied s f p w = advance p (state_at l k c r w) applied (tabulate s.count (column (l.n + l.d) w)) s.rejections s.t (window 0 s.count f) s.err

unfoldable pub progress_at : Layout → Krylov → Progress → List Float → Turn State End
progress_at l k (progress.On c r) w = on (state_at l k c r w)
progress_at l k (progress.Finished c r) w = out (finished (state_at l k c r w))
progress_at l k (progress.Refused e c r) w = out (refused e.reason e.value (state_at l k c r w))

-- the counts of at most i substeps
abbrev pub Moderate : ℕ → Progress → Type 0
Moderate i (progress.On c r) = (r.matvecs ≤ 129 * i) × (r.substeps ≤ i) × (r.rejected ≤ 10 * i)
Moderate i (progress.Finished c r) = Unit {0}
Moderate i (progress.Refused e c r) = Unit {0}

unfoldable pub end_at : Layout → Krylov → RunAnswer → List Float → End
end_at l k (answer.Finished c r) w = finished (state_at l k c r w)
end_at l k (answer.Refused e c r) w = refused e.reason e.value (state_at l k c r w)
