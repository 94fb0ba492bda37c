-- Doubling the lamp (document 02, N9): vectors times a power of two, and jobs in which no operation overflows or has a tiny result. Definitions only.
use Rattle.std.specs.Prelude.{Some}
use Rattle.std.specs.Prelude.{List, ◌≡◌, ℕ, ◌-◌, ◌<◌, T, ℤ, length, Float}
use Rattle.std.specs.Float.{binary64}
use Rattle.std.specs.Float.Ieee.{fits}
use Rattle.doubles.specs.F64.{at}
use Rattle.doubles.specs.Units.{Doubles}
use Rattle.doubles.specs.Clean.{Clean⊗, Clean⊕, CleanTimes}
use Rattle.vectors.specs.Vectors.{scale}
use Rattle.pow2.specs.declared.Scaling.{Scaling}
use Rattle.pow2.specs.Pow2.{exact_pow2}
use Rattle.general_operator.specs.Csr.{Csr, row_sum_norm}
use Rattle.generator_action.specs.Generator.{Generator}
use Rattle.phi_action_helpers.specs.Augmented.{Augmented}
use Rattle.phi_action_helpers.specs.declared.SweepPlan.{SweepPlan}
use Rattle.phi_shift.specs.Plan.{sweep_plan}
use Rattle.combination.specs.Combination.{further, gain, eta_of, combination_operator, combination_start}
use Rattle.taylor_job.specs.declared.TaylorReport.{TaylorReport}
use Rattle.taylor_job.specs.Calls.{phi_combination}
use Rattle.scaling.specs.Operations.{InSweeps}
use Rattle.std.specs.Prelude.{Ok}

-- N9, 'every vector is multiplied by 2 ^ j': each value, rounded once; j is any whole number
unfoldable pub doubled : ℤ → List Float → List Float
doubled j x = scale (exact_pow2 j) x

-- N9, 'and in the multiplication itself': none of these products overflows or is tiny
abbrev pub CleanDoubled : ℤ → List Float → Type 0
CleanDoubled j x = (i : ℕ) → i < length x → CleanTimes j (at x i)

-- of a combination over Q (`phi_combination`): eta and 1 / eta, its operator, the n + d values that it starts from, and the gain of w_k
abbrev pub scaling_of : Csr → Float → ℕ → List Float → Scaling
scaling_of q tau count w = eta_of q.n (further q.n w) tau (count - 1)

abbrev pub operator_of : Csr → Float → ℕ → List Float → Augmented
operator_of q tau count w = combination_operator q (further q.n w) tau (count - 1) (scaling_of q tau count w).eta

abbrev pub start_of : Csr → Float → ℕ → List Float → List Float
start_of q tau count w = combination_start q.n w (count - 1) (scaling_of q tau count w).inv

abbrev pub gain_of : Csr → Float → List Float → ℕ → Float
gain_of q tau w k = gain q.n (further q.n w) tau (k - 1)

-- each operation of a combination over Q: the gains of w_1 to w_d times eta (`scaled_gains`), and the sweeps of its plan. The sum that eta is made of needs nothing: eta is a power of two
-- whatever it is
pub record InJob (M A : Float → Float → Type 0) (q : Csr) (tau : Float) (cap count : ℕ) (w : List Float) : Type 0 where
  pub gains : (k : ℕ) → 0 < k → k < count → M (gain_of q tau w k) (scaling_of q tau count w).eta
  pub sweeps : (p : SweepPlan) → sweep_plan cap tau q (row_sum_norm q) ≡ Some p → InSweeps M A (operator_of q tau count w) tau p (start_of q tau count w)

-- N9, 'in both definitions' runs each operation on finite numbers whose exact result is not 0 gives a finite number of at least 2 ^ -1022 in size', but of the exact result. That a result is
-- finite is asked of every operation: what an accepted job starts from is finite, and so are the operands as long as the results before them are
abbrev pub CleanJob : Csr → Float → ℕ → ℕ → List Float → Type 0
CleanJob q tau cap count w = InJob Clean⊗ Clean⊕ q tau cap count w

-- N9's claim, of two generators with one matrix (they may differ in what is lent for it): two accepted jobs with one tau and one highest degree, the second's vectors being the first's
-- times 2 ^ j; neither run and not that multiplication overflows or has a tiny result. Then the second's output is the first's times 2 ^ j. Outputs and working memory may be any
abbrev pub DoubledOutput : Generator → Generator → Type 0
DoubledOutput g g' =
    (j : ℤ) (tau : Float) (cap count : ℕ) (w output memory output' memory' : List Float) (r r' : TaylorReport)
    → T (fits binary64 tau)
    → Doubles w
    → (phi_combination g tau cap count w output memory).answer ≡ Ok r
    → (phi_combination g' tau cap count (doubled j w) output' memory').answer ≡ Ok r'
    → CleanDoubled j w
    → CleanJob g.matrix tau cap count w
    → CleanJob g.matrix tau cap count (doubled j w)
    → (phi_combination g' tau cap count (doubled j w) output' memory').output ≡ doubled j (phi_combination g tau cap count w output memory).output

-- and their reports are one: the same plan, the same applications
abbrev pub DoubledReport : Generator → Generator → Type 0
DoubledReport g g' =
    (j : ℤ) (tau : Float) (cap count : ℕ) (w output memory output' memory' : List Float) (told told' : TaylorReport)
    → (phi_combination g tau cap count w output memory).answer ≡ Ok told
    → (phi_combination g' tau cap count (doubled j w) output' memory').answer ≡ Ok told'
    → (phi_combination g' tau cap count (doubled j w) output' memory').answer ≡ (phi_combination g tau cap count w output memory).answer
