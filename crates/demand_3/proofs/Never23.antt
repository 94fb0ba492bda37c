-- 23, a norm that is negative or not finite, never occurs, and its number is not used (document 02, N14). Of a matrix with or without a mass, forward and transposed: put back
-- between 22 and 24, it changes the first refusal of no call, and no call's list has a check of that number. Another kind of generator, or of job, adds its own. Assumes nothing.
use mathlib.Core.Path.{◌≡◌, refl}
use mathlib.Core.Bool.{false}
use mathlib.Core.List.{List, ◌∷◌, ◌++◌}
use mathlib.Core.Option.{none, some}
use Prim.Native.Nat.{ℕ, ◌-◌}
use lib.ListN.{length}
use lib.Ieee.{Float}
use Rattle.checks.specs.First.{Check, refuse, first, before}
use Rattle.checks.proofs.First.{never_holds}
use Rattle.checks.proofs.Numbers.{before_append}
use Rattle.general_operator.specs.Csr.{Csr, row_sum_norm}
use Rattle.general_operator.specs.Checks.{shape_checks, row_checks, entry_checks, matrix_checks}
use Rattle.generator_action.specs.Mass.{Mass, generator_checks, bound_checks as sums-checks, mass_checks, sum_checks, norm_checks}
use Rattle.generator_action.specs.Generator.{Generator, forward}
use Rattle.transpose.specs.Transpose.{Lent, start_checks, forward_checks, lent_checks, before_transposing, transposed_checks, transposed}
use Rattle.transpose.proofs.Passed.{transposed_norm_in_range}
use Rattle.combination.specs.Combination.{further, eta_of}
use Rattle.combination.specs.Checks.{out_of_range, count_checks, index_checks, time_checks, degree_checks, plan_checks, length_checks, finite_checks, magnitude_checks, schedule_checks, memory_checks, vector_checks_by, vector_checks, sweep_checks, job_checks, taylor_need}
use Rattle.combination.proofs.Range.{in_range, no_23}
use Rattle.taylor_job.specs.Calls.{combination_checks, action_checks}
use Rattle.krylov_job.specs.KrylovCall.{bound, dimension, option_checks, bound_checks, run_checks, krylov_need, krylov_checks_by, krylov_checks}
use Rattle.krylov_job.specs.declared.KrylovPhiOptions.{KrylovPhiOptions}
use Rattle.checks.specs.Reasons.{Sound}
use Rattle.checks.specs.declared.Reason.TheVariants.{NormRange}

-- what 23 was
abbrev pub check_23 : Generator → Check
check_23 g = refuse NormRange (out_of_range (row_sum_norm g.matrix)) (row_sum_norm g.matrix)

-- ---- a generator whose norm is in range where its checks pass, and none of whose checks is numbered 23
pub record InRange (g : Generator) : Type 0 where
  pub ranged : Sound ≡ first g.checks → out_of_range (row_sum_norm g.matrix) ≡ false
  pub unnumbered : before NormRange g.checks ≡ g.checks

forward_none : (a : Csr) (mass : Mass) → before NormRange (generator_checks a mass) ≡ generator_checks a mass
unfolding before generator_checks matrix_checks shape_checks row_checks entry_checks sums-checks mass_checks sum_checks norm_checks
forward_none a none = refl
forward_none a (some mass) = refl

pub forward_in_range : (a : Csr) (mass : Mass) → InRange (forward a mass)
forward_in_range a mass = record { ranged = no_23 a mass; unnumbered = forward_none a mass }

transposed_none : (a : Csr) (mass : Mass) (l : Lent) → before NormRange (transposed_checks a mass l) ≡ transposed_checks a mass l
unfolding before transposed_checks before_transposing forward_checks start_checks lent_checks matrix_checks shape_checks row_checks entry_checks mass_checks sum_checks norm_checks
transposed_none a none l = refl
transposed_none a (some mass) l = refl

pub transposed_in_range : (a : Csr) (mass : Mass) (l : Lent) → InRange (transposed a mass l)
transposed_in_range a mass l = record { ranged = λ e. let h = transposed_norm_in_range a mass l e in in_range _ h.0 h.1; unnumbered = transposed_none a mass l }

-- ---- in any list behind its checks
pub never_23 : (g : Generator) → InRange g → (ps cs : List Check) → first (g.checks ++ (ps ++ (check_23 g ∷ cs))) ≡ first (g.checks ++ (ps ++ cs))
never_23 g h ps cs = never_holds (check_23 g) _ ps cs h.ranged

module _ (g : Generator) (h : InRange g) (tau : Float) where
  abbrev n : ℕ
  n = g.matrix.n

  abbrev norm : Float
  norm = row_sum_norm g.matrix

  -- 21 and 22 of a combination
  abbrev of_magnitude : ℕ → List Float → List Check
  of_magnitude count w = magnitude_checks n (further n w) tau (count - 1) (eta_of n (further n w) tau (count - 1)).eta

  -- ---- `phi_combination`
  module _ (cap count : ℕ) (w : List Float) (output memory : ℕ) where
    pub combination_never_23 :
        first (g.checks ++ ((vector_checks n (plan_checks tau cap) count w output ++ of_magnitude count w) ++ (check_23 g ∷ (schedule_checks cap norm tau ++ memory_checks memory (taylor_need n (count - 1) g.stored)))))
        ≡ first (combination_checks g tau cap count w output memory)
    unfolding combination_checks sweep_checks vector_checks vector_checks_by count_checks plan_checks time_checks degree_checks length_checks finite_checks magnitude_checks
    combination_never_23 = never_23 g h (vector_checks n (plan_checks tau cap) count w output ++ of_magnitude count w) _

    pub combination_no_number : before NormRange (combination_checks g tau cap count w output memory) ≡ combination_checks g tau cap count w output memory
    unfolding before combination_checks sweep_checks vector_checks vector_checks_by count_checks plan_checks time_checks degree_checks length_checks finite_checks magnitude_checks schedule_checks memory_checks
    combination_no_number = before_append NormRange g.checks _ h.unnumbered

  -- ---- `phi_action` and, of another output, `phi_action_batched`
  module _ (cap k : ℕ) (v : List Float) (output wanted memory : ℕ) where
    pub action_never_23 :
        first (g.checks ++ ((index_checks k ++ (plan_checks tau cap ++ (length_checks output wanted (length v) n ++ finite_checks v))) ++ (check_23 g ∷ (schedule_checks cap norm tau ++ memory_checks memory (taylor_need n 3 g.stored)))))
        ≡ first (action_checks g tau cap k v output wanted memory)
    unfolding action_checks job_checks index_checks plan_checks time_checks degree_checks length_checks finite_checks
    action_never_23 = never_23 g h (index_checks k ++ (plan_checks tau cap ++ (length_checks output wanted (length v) n ++ finite_checks v))) _

    pub action_no_number : before NormRange (action_checks g tau cap k v output wanted memory) ≡ action_checks g tau cap k v output wanted memory
    unfolding before action_checks job_checks index_checks plan_checks time_checks degree_checks length_checks finite_checks schedule_checks memory_checks
    action_no_number = before_append NormRange g.checks _ h.unnumbered

  -- ---- `phi_combination_krylov`, whose list never had it: the Rust makes no schedule there
  module _ (count : ℕ) (w : List Float) (o : KrylovPhiOptions) (output memory : ℕ) where
    abbrev M : ℕ
    M = dimension n (count - 1) o.m

    pub krylov_never_23 :
        first (g.checks ++ ((vector_checks n (time_checks tau) count w output ++ (option_checks o M ++ of_magnitude count w)) ++ (check_23 g ∷ (bound_checks (bound tau norm) ++ memory_checks memory (krylov_need n (count - 1) M g.stored)))))
        ≡ first (krylov_checks g tau count w o output memory)
    unfolding krylov_checks krylov_checks_by run_checks vector_checks vector_checks_by count_checks time_checks length_checks finite_checks option_checks magnitude_checks
    krylov_never_23 = never_23 g h (vector_checks n (time_checks tau) count w output ++ (option_checks o M ++ of_magnitude count w)) _

    pub krylov_no_number : before NormRange (krylov_checks g tau count w o output memory) ≡ krylov_checks g tau count w o output memory
    unfolding before krylov_checks krylov_checks_by run_checks vector_checks vector_checks_by count_checks time_checks length_checks finite_checks option_checks magnitude_checks bound_checks memory_checks
    krylov_no_number = before_append NormRange g.checks _ h.unnumbered
