-- What a Krylov run did: its accepted substeps one by one, and every length tried (document 01, 'What demand 3 counts'). A substep has its own setting, since matrix,
-- tau, vectors and tol of a paused run may change at each (document 02, N5); a whole call's run has the same for all. Definitions only.
use Rattle.std.specs.Prelude.{List, [], ◌∷◌, ◌++◌, map, ℕ, zero, suc, ◌+◌, length, replicate, Option, Some, None, Float}
use Rattle.lists.specs.Walk.{Turn, on, out}
use Rattle.doubles.specs.F64.{◌⊕◌, ◌⊖◌, ◌⊗◌, ◌⊘◌, +0, 1f, min_num, max_num}
use Rattle.sqrt.specs.Sqrt.{sqrt}
use Rattle.vectors.specs.Vectors.{scale}
use Rattle.dot.specs.Dot.{dot}
use Rattle.pow2.specs.declared.Scale.{Scale}
use Rattle.pow2.specs.Pow2.{pow2_scale}
use Rattle.phi_action_helpers.specs.Augmented.{Augmented}
use Rattle.gram_schmidt.specs.Basis.{Setting, Basis, breakdown, full, norm2, apply, arnoldi}
use Rattle.trial_steps.specs.Trials.{Trying, Tried, accepted, stuck, try_step, trials}
use Rattle.krylov_advance.specs.Run.{State, End, EPSILON, columns_of, combined, substep, started, setting, clamp_m}

-- a length tried, and the time at which it was
pub record Attempt : Type 0 where
  pub time : Float
  pub t : Float

-- the lengths of at most k trials
unfoldable pub lengths : (ℕ → Trying → Turn Trying Tried) → Float → ℕ → ℕ → Turn Trying Tried → List Attempt
lengths step time zero i o = []
lengths step time (suc k) i (on s) = record { time = time; t = s.t } ∷ lengths step time k (i + 1) (step i s)
lengths step time (suc k) i (out e) = []

-- the lengths tried in the substep from s, on the basis that it built (trial_steps/specs/Trials: trials)
unfoldable pub tried_on : Setting → State → Basis → List Attempt
tried_on p s (breakdown b) = record { time = s.control.time; t = 1f ⊖ s.control.time } ∷ []
tried_on p s (full b avnorm) = lengths (try_step p s.control.beta b.h avnorm) s.control.time 11 0 (on (record { rejections = 0; t = min_num s.control.next (1f ⊖ s.control.time) }))

-- an accepted substep: what it was made with; the field it starts from, and the norm taken for it; its basis, and the products made, one with each column; the
-- lengths tried on it; the length accepted and its error; the field it gives
pub record Accepted : Type 0 where
  pub setting : Setting
  pub from : List Float
  pub norm : Float
  pub basis : Basis
  pub products : List (List Float)
  pub tried : List Attempt
  pub t : Float
  pub err : Float
  pub to : List Float

-- of the outcome of its trials: nothing where none was accepted
unfoldable pub accepted_in : Setting → State → Basis → Turn Trying Tried → List Accepted
accepted_in p s b (on t) = []
accepted_in p s b (out (stuck arg)) = []
accepted_in p s b (out (accepted r t f err)) =
    record { setting = p; from = s.y; norm = s.control.beta; basis = b; products = map (apply p) (columns_of b); tried = tried_on p s b; t = t; err = err; to = combined s.control.beta (columns_of b) f (length s.y) } ∷ []

-- the substep from s, where it is accepted: the columns once, then lengths tried on them
unfoldable pub made : Setting → State → List Accepted
made p s =
    let b = arnoldi p s.y s.control.beta in
    accepted_in p s b (trials p s.control.beta s.control.next (1f ⊖ s.control.time) b)

-- substeps with these settings, one after the other, until the run ends
unfoldable pub runs : List Setting → Turn State End → Turn State End
runs [] o = o
runs (p ∷ ps) (on s) = runs ps (substep p s)
runs (p ∷ ps) (out e) = out e

-- those of them that are accepted
unfoldable pub trace : List Setting → Turn State End → List Accepted
trace [] o = []
trace (p ∷ ps) (on s) = made p s ++ trace ps (substep p s)
trace (p ∷ ps) (out e) = []

-- a count over all substeps
unfoldable pub total : (Accepted → ℕ) → List Accepted → ℕ
total f [] = 0
total f (a ∷ l) = f a + total f l

-- the time after the substeps: one rounded sum for each
unfoldable pub time_after : Float → List Accepted → Float
time_after time [] = time
time_after time (a ∷ l) = time_after (time ⊕ a.t) l

-- the last length of them (document 02, N10); t where there is none
unfoldable pub last_after : Float → List Accepted → Float
last_after t [] = t
last_after t (a ∷ l) = last_after a.t l

-- the field after them
unfoldable pub field_after : List Float → List Accepted → List Float
field_after y [] = y
field_after y (a ∷ l) = field_after a.to l

-- the estimate after them: each adds its error, or the round-off of its products where that is larger (phi_krylov_arnoldi.rs, `substeps`)
unfoldable pub estimate_after : Float → List Accepted → Float
estimate_after e [] = e
estimate_after e (a ∷ l) = estimate_after (e ⊕ max_num a.err (a.setting.anorm ⊗ EPSILON ⊗ norm2 a.from)) l

-- every length tried in substeps with these settings
unfoldable pub attempts : List Setting → Turn State End → List Attempt
attempts [] o = []
attempts (p ∷ ps) (on s) = tried_on p s (arnoldi p s.y s.control.beta) ++ attempts ps (substep p s)
attempts (p ∷ ps) (out e) = []

-- a run: the setting by which its first length is proposed; those of its substeps, one for each that it may take, of a paused run for each so far; the field
-- from which it starts, and the power of two by which that was scaled
pub record Run : Type 0 where
  pub first : Setting
  pub settings : List Setting
  pub field : List Float
  pub prescale : Option Scale

-- ---- `expv`

-- the n + d values scaled by a power of two; zeros as they are
unfoldable pub scaled : List Float → Option Scale → List Float
scaled y None = y
scaled y (Some f) = scale f.down y

-- and back
unfoldable pub unscaled : List Float → Option Scale → List Float
unscaled y None = y
unscaled y (Some f) = scale f.up y

-- the estimate that a result tells, e divided by the norm of the field y; of zeros as it is
unfoldable pub relative : Float → List Float → Option Scale → Float
relative e y None = e
relative e y (Some f) = e ⊘ sqrt (dot y y)

-- a start whose values are all zeros takes no substep
unfoldable pub allowed : ℕ → Option Scale → ℕ
allowed limit None = 0
allowed limit (Some f) = limit

-- its run by the factors (phi_krylov_arnoldi.rs, `expv`): tol times the first norm, M, the limit
unfoldable pub run_by : Augmented → Float → Float → Float → ℕ → ℕ → List Float → Option Scale → Run
run_by b tau anorm tol m limit y f =
    let p = setting b tau anorm (tol ⊗ norm2 (scaled y f)) (clamp_m m (length y)) in
    record { first = p; settings = replicate (allowed limit f) p; field = scaled y f; prescale = f }

unfoldable pub run_of : Augmented → Float → Float → Float → ℕ → ℕ → List Float → Run
run_of b tau anorm tol m limit y = run_by b tau anorm tol m limit y (pow2_scale y)

-- ---- what a run did
-- where it stands: going on, or ended
abbrev pub status_of : Run → Turn State End
status_of u = runs u.settings (on (started u.first u.field))

-- the substeps accepted, and the lengths tried
abbrev pub accepted_by : Run → List Accepted
accepted_by u = trace u.settings (on (started u.first u.field))

abbrev pub tried_by : Run → List Attempt
tried_by u = attempts u.settings (on (started u.first u.field))

-- the time and the field that it reached, and the estimate of its error
abbrev pub time_of : Run → Float
time_of u = time_after +0 (accepted_by u)

abbrev pub field_of : Run → List Float
field_of u = field_after u.field (accepted_by u)

-- its field scaled back
abbrev pub left_by : Run → List Float
left_by u = unscaled (field_of u) u.prescale

abbrev pub estimate_of : Run → Float
estimate_of u = estimate_after +0 (accepted_by u)
