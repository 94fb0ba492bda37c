-- A whole call of `phi_combination_krylov` (phi_krylov.rs): the checks in number order, the answer, and what the output and the working memory
-- hold at the end. Definitions only.
use Rattle.std.specs.Prelude.{not, ◌&&◌, ◌||◌, List, [], ◌∷◌, ◌++◌, ℕ, ◌+◌, ◌-◌, ◌*◌, ltb, eqb, length, Float}
use Rattle.std.specs.Float.{nan}
use Rattle.lists.specs.Window.{window}
use Rattle.doubles.specs.F64.{◌⊕◌, ◌⊗◌, ◌⋖◌, +0, 1f, 2f, is_finite}
use Rattle.checks.specs.First.{Check, refuse, first}
use Rattle.general_operator.specs.Csr.{row_sum_norm}
use Rattle.generator_action.specs.Mass.{open_mass}
use Rattle.generator_action.specs.Generator.{Generator}
use Rattle.combination.specs.Combination.{further, eta_of, combination_operator, combination_start}
use Rattle.combination.specs.Call.{Call, ends, unless_refused, cleared, open_call}
use Rattle.combination.specs.Checks.{time_checks, length_checks, vector_checks_by, magnitude_checks, memory_checks, open_checks}
use Rattle.krylov_advance.specs.Run.{End, finished, refused, clamp_m, expv, open_run}
use Rattle.krylov_job.specs.declared.KrylovPhiOptions.{KrylovPhiOptions}
use Rattle.checks.specs.Reasons.{Refused}
use Rattle.std.specs.Prelude.{Ok}
use Rattle.checks.specs.declared.Reason.TheVariants.{TolRange, NoSubsteps, OptionTooLarge, ArgumentNotFinite}
use Rattle.std.specs.Prelude.{Result}
use Rattle.checks.specs.declared.Refusal.{Refusal}
use Rattle.krylov_advance.specs.declared.KrylovPhiReport.{KrylovPhiReport}

-- a refusal, or a report
abbrev pub KrylovAnswer : Type 0
KrylovAnswer = Result KrylovPhiReport Refusal

-- the bound of the augmented operator: tau * norm + 2
unfoldable pub bound : Float → Float → Float
bound tau norm = tau ⊗ norm ⊕ 2f

-- M
unfoldable pub dimension : ℕ → ℕ → ℕ → ℕ
dimension n d m = clamp_m m (n + d)

-- tol not strictly between 0 and 1; no substep allowed; M above 128 or more than 1,000,000 substeps
unfoldable pub option_checks : KrylovPhiOptions → ℕ → List Check
option_checks o M =
    refuse TolRange (not (+0 ⋖ o.tol && o.tol ⋖ 1f)) o.tol
    ∷ refuse NoSubsteps (eqb o.max_substeps 0) +0
    ∷ refuse OptionTooLarge (ltb 128 M || ltb 1000000 o.max_substeps) nan
    ∷ []

unfoldable pub bound_checks : Float → List Check
bound_checks anorm = refuse ArgumentNotFinite (not (is_finite anorm)) anorm ∷ []

-- 21, 22 with eta, 24 and 26 of the further vectors f
unfoldable pub run_checks : ℕ → Float → ℕ → List Float → Float → Float → ℕ → ℕ → List Check
run_checks n tau d f eta anorm memory need = magnitude_checks n f tau d eta ++ (bound_checks anorm ++ memory_checks memory need)

-- n + (M + 3)(n + d) + (M + 2) squared, and what the generator stores
unfoldable pub krylov_need : ℕ → ℕ → ℕ → ℕ → ℕ
krylov_need n d M stored = n + (M + 3) * (n + d) + (M + 2) * (M + 2) + stored

-- all of a job whose gains are scaled by eta, and whose 15 and 16 are `of_lengths`
unfoldable pub krylov_checks_by : Generator → Float → ℕ → List Float → Float → List Check → KrylovPhiOptions → ℕ → List Check
krylov_checks_by g tau count w eta of_lengths o memory =
    let n = g.matrix.n in
    let d = count - 1 in
    let M = dimension n d o.m in
    g.checks
    ++ (vector_checks_by (time_checks tau) of_lengths count w
    ++ (option_checks o M
    ++ run_checks n tau d (further n w) eta (bound tau (row_sum_norm g.matrix)) memory (krylov_need n d M g.stored)))

-- by its own eta
unfoldable pub krylov_checks : Generator → Float → ℕ → List Float → KrylovPhiOptions → ℕ → ℕ → List Check
krylov_checks g tau count w o output memory =
    let n = g.matrix.n in
    krylov_checks_by g tau count w (eta_of n (further n w) tau (count - 1)).eta (length_checks output n (length w) (count * n)) o memory

-- a run leaves its field, the last accepted one where it was refused, and clears what it needed
unfoldable pub after_run : ℕ → ℕ → List Float → End → Call KrylovAnswer
after_run n need memory (finished s) = ends (Ok s.report) (window 0 n s.y) (cleared need memory)
after_run n need memory (refused k x s) = ends (Refused k x) (window 0 n s.y) (cleared need memory)

-- a job that passed: w_0 is the first n values of v, w_1 to w_d are f
unfoldable pub combination_run_krylov : Generator → Float → ℕ → List Float → List Float → KrylovPhiOptions → List Float → Call KrylovAnswer
combination_run_krylov g tau d v f o memory =
    let q = g.matrix in
    let eta = eta_of q.n f tau d in
    after_run q.n (krylov_need q.n d (dimension q.n d o.m) g.stored) memory
    (expv (combination_operator q f tau d eta.eta) tau (bound tau (row_sum_norm q)) o.tol o.m o.max_substeps (combination_start q.n v d eta.inv))

unfoldable pub phi_combination_krylov : Generator → Float → ℕ → List Float → KrylovPhiOptions → List Float → List Float → Call KrylovAnswer
phi_combination_krylov g tau count w o output memory =
    unless_refused Refused (first (krylov_checks g tau count w o (length output) (length memory))) output memory
    (combination_run_krylov g tau (count - 1) w (further g.matrix.n w) o memory)

-- to compute: a line `unfolding open_krylov_call` opens every definition of this file and of those below it
unfoldable pub open_krylov_call : Unit {0}
unfolding bound dimension option_checks bound_checks run_checks krylov_need krylov_checks_by krylov_checks after_run combination_run_krylov phi_combination_krylov open_run open_mass open_checks open_call
open_krylov_call = tt
