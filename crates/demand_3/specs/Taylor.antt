-- The Taylor half of demand 3: what an accepted job did, and when 25 refuses (document 01, 'What demand 3 counts'). Definitions only.
use Rattle.std.specs.Prelude.{Some}
use Rattle.std.specs.Prelude.{◌≡◌, ◌⊎◌, Bool, true, false, ◌&&◌, List, [], ◌∷◌, ℕ, ◌*◌, ◌^◌, ◌≤◌, ◌<◌, leb, length, get_or, Float, if◌then◌else◌}
use Rattle.std.specs.Float.{nan, binary64}
use Rattle.std.specs.Float.Ieee.{round, to_unsigned}
use Rattle.lists.specs.Loop.{stack}
use Rattle.lists.specs.Window.{window}
use Rattle.checks.specs.First.{Check, first, before}
use Rattle.general_operator.specs.Csr.{row_sum_norm}
use Rattle.doubles.specs.F64.{◌⊕◌, ◌⊗◌, ◌⊘◌, ◌⩽◌, ◌⋖◌, 1f, 2f, nat, at, is_finite}
use Rattle.doubles.specs.Whole.{ceil}
use Rattle.expmv.specs.Select.{degrees, thetas, admissible, sweeps, cost}
use Rattle.phi_action_helpers.specs.Augmented.{Augmented}
use Rattle.phi_action_helpers.specs.declared.SweepPlan.{SweepPlan}
use Rattle.phi_shift.specs.Plan.{plan, sweep_plan, Chosen}
use Rattle.combination.specs.Call.{Call}
use Rattle.taylor_job.specs.declared.TaylorReport.{TaylorReport}
use Rattle.taylor_job.specs.Calls.{TaylorAnswer}
use Rattle.demand_3.specs.Products.{field_at, products}
use Rattle.checks.specs.Reasons.{Sound, Refused}
use Rattle.std.specs.Prelude.{Ok}
use Rattle.checks.specs.declared.Reason.TheVariants.{VectorNotFinite, NoAdmissibleRow, SubstepLimit, DegreeRange}

-- the norm of the generator
abbrev pub norm_of : Augmented → Float
norm_of b = row_sum_norm b.matrix

-- the argument of its plan: (tau × norm + 2) × 2
abbrev pub asked : Float → Float → Float
asked tau norm = (tau ⊗ norm ⊕ 2f) ⊗ 2f

-- row j is admissible: its degree is at most the cap (document 02, N7), and the ceiling of the rounded quotient argument / theta at most 4,294,967,295
abbrev pub row_fits : ℕ → Float → ℕ → Bool
row_fits cap arg j = leb (get_or degrees j 0) cap && ceil (arg ⊘ get_or thetas j nan) ⩽ nat 4294967295

-- the double nearest to m × 10 ^ -e
abbrev theta : ℕ → ℕ → Float
theta m e = round binary64 false m (10 ^ e)

-- s of row j: that ceiling, at least 1
abbrev pub row_sweeps : Float → ℕ → ℕ
row_sweeps arg j = if ceil (arg ⊘ get_or thetas j nan) ⋖ 1f then 1 else to_unsigned 32 (ceil (arg ⊘ get_or thetas j nan))

-- the rows that a plan is chosen of (expmv.rs, `THETA_M`): degree and theta of each, which are admissible, and what each costs
pub record Rows : Type 0 where
  pub degrees_are : degrees ≡ 1 ∷ 2 ∷ 3 ∷ 4 ∷ 5 ∷ 6 ∷ 7 ∷ 8 ∷ 9 ∷ 10 ∷ 11 ∷ 12 ∷ 13 ∷ 14 ∷ 15 ∷ 16 ∷ 17 ∷ 18 ∷ 19 ∷ 20 ∷ 25 ∷ 30 ∷ []
  pub thetas_are :
      thetas ≡ theta 2220 19 ∷ theta 2581 11 ∷ theta 1386 8 ∷ theta 3397 7 ∷ theta 2401 6 ∷ theta 9066 6
      ∷ theta 2384 5 ∷ theta 4991 5 ∷ theta 8958 5 ∷ theta 1442 4 ∷ theta 2142 4 ∷ theta 2996 4
      ∷ theta 3998 4 ∷ theta 5139 4 ∷ theta 6411 4 ∷ theta 7803 4 ∷ theta 9305 4 ∷ theta 1091 3
      ∷ theta 1260 3 ∷ theta 1438 3 ∷ theta 2429 3 ∷ theta 3540 3 ∷ []
  pub fits : (cap : ℕ) (arg : Float) (j : ℕ) → admissible cap arg j ≡ row_fits cap arg j
  pub all_at_30 : (j : ℕ) → j < 22 → get_or degrees j 0 ≤ 30
  pub sweeps_are : (arg : Float) (j : ℕ) → sweeps arg j ≡ row_sweeps arg j
  pub costs : (arg : Float) (j : ℕ) → cost arg j ≡ row_sweeps arg j * get_or degrees j 0

-- the plan that a report names
abbrev pub plan_in : TaylorReport → SweepPlan
plan_in r = plan r.s r.m r.mu

-- an accepted job with the operator b, of as many functions as `runs`, each from its start, whose plan has no degree above the cap; r is its report, and
-- output what it left
pub record TaylorCost (tau : Float) (cap : ℕ) (b : Augmented) (runs : ℕ) (start : ℕ → List Float) (output : List Float) (r : TaylorReport) : Type 0 where
  -- s, m and mu are the plan's: the first row of least cost up to the cap, and no admissible row costs less
  pub planned : sweep_plan cap tau b.matrix (norm_of b) ≡ Some (plan_in r)
  pub capped : r.m ≤ cap
  pub chosen : Chosen cap tau b.matrix (norm_of b) (plan_in r)
  pub least : (j : ℕ) → j < 22 → row_fits cap (asked tau (norm_of b)) j ≡ true → r.s * r.m ≤ cost (asked tau (norm_of b)) j
  -- the applications are the products that the sweeps of this plan make, and exactly s × m for each function
  pub applications : r.applications ≡ length (stack runs (λ i. products b tau (plan_in r) (start i)))
  pub counted : r.applications ≡ runs * (r.s * r.m)
  -- the output is what these sweeps give
  pub fields : output ≡ stack runs (λ i. window 0 b.matrix.n (field_at b tau (plan_in r) (start i) r.s))

-- 25 refuses with x: no check in front of it holds, and no row of the unshifted plan up to the cap is admissible; x is the argument
pub record NoRowFits (cs : List Check) (tau : Float) (cap : ℕ) (norm x : Float) : Type 0 where
  pub earlier : Sound ≡ first (before NoAdmissibleRow cs)
  pub none : (j : ℕ) → j < 22 → row_fits cap (asked tau norm) j ≡ false
  pub told : x ≡ asked tau norm

-- a call is refused by 25 exactly so
abbrev pub Exactly25 : Call TaylorAnswer → List Check → Float → ℕ → Float → Type 0
Exactly25 c cs tau cap norm = (x : Float) → (c.answer ≡ Refused NoAdmissibleRow x → NoRowFits cs tau cap norm x) × (NoRowFits cs tau cap norm x → c.answer ≡ Refused NoAdmissibleRow x)

-- 33 refuses with x (document 02, N7): no check in front of it holds, and the highest degree is not 1 to 30; x is NaN
pub record DegreeRefused (cs : List Check) (cap : ℕ) (x : Float) : Type 0 where
  pub earlier : Sound ≡ first (before DegreeRange cs)
  pub outside : (cap ≡ 0) ⊎ (30 < cap)
  pub told : x ≡ nan

abbrev pub Exactly33 : Call TaylorAnswer → List Check → ℕ → Type 0
Exactly33 c cs cap = (x : Float) → (c.answer ≡ Refused DegreeRange x → DegreeRefused cs cap x) × (DegreeRefused cs cap x → c.answer ≡ Refused DegreeRange x)

-- 17 refuses with x (document 01; of an action document 02, N2): no check in front of it holds, and x is the first value that is not finite
pub record ValueRefused (cs : List Check) (values : List Float) (x : Float) : Type 0 where
  pub earlier : Sound ≡ first (before VectorNotFinite cs)
  pub place : ℕ
  pub below : place < length values
  pub not_finite : is_finite (at values place) ≡ false
  pub finite_before : (j : ℕ) → j < place → is_finite (at values j) ≡ true
  pub told : x ≡ at values place

abbrev pub Exactly17 : Call TaylorAnswer → List Check → List Float → Type 0
Exactly17 c cs values = (x : Float) → (c.answer ≡ Refused VectorNotFinite x → ValueRefused cs values x) × (ValueRefused cs values x → c.answer ≡ Refused VectorNotFinite x)

-- a Taylor call on these vectors: what it did where it gave a result; 33, 17 and 25; and never 27, which is of Krylov runs
pub record TaylorClaim (c : Call TaylorAnswer) (cs : List Check) (tau : Float) (cap : ℕ) (vectors : List Float) (b : Augmented) (runs : ℕ) (start : ℕ → List Float) : Type 0 where
  pub accepted : {r : TaylorReport} → c.answer ≡ Ok r → TaylorCost tau cap b runs start c.output r
  pub no_degree : Exactly33 c cs cap
  pub no_value : Exactly17 c cs vectors
  pub no_plan : Exactly25 c cs tau cap (norm_of b)
  pub no_limit : (x : Float) → c.answer ≡ Refused SubstepLimit x → ⊥
