-- Demand 3, one claim on whole runs of the four calls (document 01, 'What demand 3 counts'). Definitions only.
use Rattle.std.specs.Prelude.{◌≡◌, List, ◌++◌, ℕ, suc, ◌+◌, ◌-◌, ◌*◌, min, ltb, length, Float, if◌then◌else◌}
use Rattle.general_operator.specs.Csr.{row_sum_norm, apply_generator}
use Rattle.generator_action.specs.Generator.{Generator}
use Rattle.pow2.specs.Pow2.{sup, eta_scaling}
use Rattle.phi_action_helpers.specs.Augmented.{Augmented, top, bottom, aug_matvec}
use Rattle.phi_action_helpers.specs.declared.Scales.{Scales}
use Rattle.lists.specs.Window.{window}
use Rattle.doubles.specs.F64.{+0}
use Rattle.checks.specs.First.{first}
use Rattle.combination.specs.Combination.{further, eta_of, combination_operator, combination_start, action_operator, init_aug_vector}
use Rattle.taylor_job.specs.Calls.{combination_checks, phi_combination, action_checks, phi_action, phi_action_batched}
use Rattle.krylov_advance.specs.declared.KrylovPhiReport.{KrylovPhiReport}
use Rattle.krylov_job.specs.KrylovCall.{bound, krylov_checks, phi_combination_krylov}
use Rattle.krylov_job.specs.declared.KrylovPhiOptions.{KrylovPhiOptions}
use Rattle.demand_3.specs.Trace.{Run, run_of}
use Rattle.demand_3.specs.Krylov.{Zeros, KrylovCost, Exactly27}
use Rattle.demand_3.specs.Taylor.{Rows, TaylorClaim}
use Rattle.checks.specs.Reasons.{Sound, Refused}
use Rattle.std.specs.Prelude.{Ok}
use Rattle.checks.specs.declared.Reason.TheVariants.{NoAdmissibleRow, DegreeRange}

-- the n + d values from which a combination starts, and its operator
abbrev pub start_of : Generator → Float → ℕ → List Float → List Float
start_of g tau count w =
    let n = g.matrix.n in
    combination_start n w (count - 1) (eta_of n (further n w) tau (count - 1)).inv

abbrev pub operator_of : Generator → Float → ℕ → List Float → Augmented
operator_of g tau count w =
    let f = further g.matrix.n w in
    combination_operator g.matrix f tau (count - 1) (eta_of g.matrix.n f tau (count - 1)).eta

-- of phi_k v and the batch
abbrev pub action_start : Generator → List Float → ℕ → List Float
action_start g v k = init_aug_vector g.matrix.n v (eta_scaling (sup v)).inv k

abbrev pub action_of : Generator → List Float → Augmented
action_of g v = action_operator g.matrix v (eta_scaling (sup v)).eta

-- the run of a Krylov call
abbrev pub krylov_run : Generator → Float → ℕ → List Float → KrylovPhiOptions → Run
krylov_run g tau count w o =
    run_of (operator_of g tau count w) tau (bound tau (row_sum_norm g.matrix)) o.tol o.m o.max_substeps (start_of g tau count w)

-- M: m clamped to 2 .. max(2, n + d)
abbrev pub clamped : ℕ → ℕ → ℕ
clamped m len = if ltb m 2 then 2 else min m (if ltb len 2 then 2 else len)

-- a product with an operator makes one with the generator, of the first n values
abbrev pub OneProduct : Augmented → Scales → List Float → Type 0
OneProduct b k x =
    let u = window 0 b.matrix.n x in
    let c = window b.matrix.n b.d x in
    aug_matvec b k x ≡ top b k (apply_generator b.matrix u) u c ++ bottom k b.d c

-- of a generator, a time and what is lent, for every cap, count, index, vector and option
pub record Demand3 (g : Generator) (tau : Float) (output memory : List Float) : Type 0 where
  pub one_product : (b : Augmented) (k : Scales) (x : List Float) → OneProduct b k x
  -- the rows that a plan is chosen of
  pub rows : Rows
  -- Taylor: the products are exactly s × m for each function, the least of all rows that are admissible up to the cap; 25 exactly where none is, 33 exactly for a
  -- cap that is not 1 to 30, 17 exactly for a value that is not finite
  pub combination : (cap count : ℕ) (w : List Float)
      → TaylorClaim (phi_combination g tau cap count w output memory) (combination_checks g tau cap count w (length output) (length memory)) tau cap w (operator_of g tau count w) 1 (λ _. start_of g tau count w)
  pub action : (cap k : ℕ) (v : List Float)
      → TaylorClaim (phi_action g tau cap k v output memory) (action_checks g tau cap k v (length output) g.matrix.n (length memory)) tau cap v (action_of g v) 1 (λ _. action_start g v k)
  pub batch : (cap p : ℕ) (v : List Float)
      → TaylorClaim (phi_action_batched g tau cap p v output memory) (action_checks g tau cap p v (length output) (suc p * g.matrix.n) (length memory)) tau cap v (action_of g v) (suc p) (action_start g v)
  -- Krylov: the counts are those of what the run did, and bounded; the rounded sum of its steps is 1 at the last; 27 exactly at the limit
  pub krylov : (count : ℕ) (w : List Float) (o : KrylovPhiOptions) {r : KrylovPhiReport} → (phi_combination_krylov g tau count w o output memory).answer ≡ Ok r
      → KrylovCost g.matrix.n (clamped o.m (g.matrix.n + (count - 1))) o.max_substeps (start_of g tau count w) (phi_combination_krylov g tau count w o output memory).output (krylov_run g tau count w o) r
  pub at_limit : (count : ℕ) (w : List Float) (o : KrylovPhiOptions)
      → Exactly27 (phi_combination_krylov g tau count w o output memory) (krylov_checks g tau count w o (length output) (length memory)) o.max_substeps (krylov_run g tau count w o)
  -- a start of zeros gives a result, all counts and steps 0
  pub zeros : (count : ℕ) (w : List Float) (o : KrylovPhiOptions) → Sound ≡ first (krylov_checks g tau count w o (length output) (length memory)) → Zeros (start_of g tau count w)
      → (phi_combination_krylov g tau count w o output memory).answer ≡ Ok (record { matvecs = 0; substeps = 0; rejected = 0; est_error = +0; shortest = +0; last = +0 })
  -- 25 and 33 are Taylor's alone
  pub no_25 : (count : ℕ) (w : List Float) (o : KrylovPhiOptions) (x : Float) → (phi_combination_krylov g tau count w o output memory).answer ≡ Refused NoAdmissibleRow x → ⊥
  pub no_33 : (count : ℕ) (w : List Float) (o : KrylovPhiOptions) (x : Float) → (phi_combination_krylov g tau count w o output memory).answer ≡ Refused DegreeRange x → ⊥
