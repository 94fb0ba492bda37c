-- The boundary jobs that document 01 marks with a star: one table, and the theorem that the definitions give what it says. Assumes nothing.
use Rattle.std.specs.Prelude.{Option, Some, None}
use mathlib.Core.Bool.{false}
use mathlib.Core.List.{List, [], ◌∷◌, ◌++◌, map}
use mathlib.Core.Option.{none, some}
use mathlib.Core.Path.{◌≡◌, refl}
use Prim.Native.Nat.{ℕ}
use lib.ListN.{replicate}
use lib.Ieee.{Float, nan, neg, binary64, round}
use Rattle.doubles.specs.F64.{◌⊗◌, nat, 1f, 2f, +0}
use Rattle.pow2.specs.Pow2.{eta_scaling, open_pow2}
use Rattle.power.specs.Power.{root, open_power}
use Rattle.round2.specs.Rounded.{round2, open_rounded}
use Rattle.dot.specs.Dot.{dot, open_dot}
use Rattle.general_operator.specs.Csr.{Csr, csr, row_sum_norm, apply_generator}
use Rattle.generator_action.specs.Mass.{Mass, quotients, open_mass}
use Rattle.generator_action.specs.Generator.{forward}
use Rattle.csr_shift.specs.Shift.{negated_csr_shift}
use Rattle.csr_shift.specs.declared.Shifted.{Shifted}
use Rattle.phi_shift.specs.Plan.{argument, shifted_bound, open_plan}
use Rattle.krylov_job.specs.KrylovCall.{phi_combination_krylov, open_krylov_call}
use Rattle.krylov_job.specs.declared.KrylovPhiOptions.{KrylovPhiOptions}
use Rattle.krylov_job.specs.KrylovCall.{KrylovAnswer}
use Rattle.std.specs.Prelude.{Ok, Err}
use Rattle.checks.specs.Reasons.{number}

-- a / b as a double
unfoldable ratio : ℕ → ℕ → Float
ratio a b = round binary64 false a b

-- the shift and the shifted norm; nothing without a shift
abbrev shift_and_norm : Option Shifted → List Float
shift_and_norm None = []
shift_and_norm (Some s) = s.mu ∷ s.norm ∷ []

-- the argument of the shifted plan; nothing without a shift
abbrev shifted_argument : Float → Option Shifted → List Float
shifted_argument tau None = []
shifted_argument tau (Some s) = shifted_bound tau (tau ⊗ s.mu) s.norm ⊗ 2f ∷ []

-- (a b; b a)
abbrev two_rows : Float → Float → Csr
two_rows a b = csr 2 (0 ∷ 2 ∷ 4 ∷ []) (0 ∷ 1 ∷ 0 ∷ 1 ∷ []) (a ∷ b ∷ b ∷ a ∷ [])

-- (2 -1; -1 2)
abbrev laplace : Csr
laplace = two_rows 2f (neg 1f)

-- (0 1; 1 0)
abbrev exchange : Csr
exchange = two_rows +0 1f

-- one row with the entry 2
abbrev two : Csr
two = csr 1 (0 ∷ 1 ∷ []) (0 ∷ []) (2f ∷ [])

-- one row without entries
abbrev empty : Csr
empty = csr 1 (0 ∷ 0 ∷ []) [] []

-- tol 1e-10, m 30, at most 100,000 substeps
abbrev options : KrylovPhiOptions
options = record { tol = ratio 1 10000000000; m = 30; max_substeps = 100000 }

-- substeps, applications, rejections, estimate; of a refusal its number and double
abbrev told : KrylovAnswer → List Float
told (Ok r) = nat r.substeps ∷ nat r.matvecs ∷ nat r.rejected ∷ r.est_error ∷ []
told (Err r) = nat (number r.reason) ∷ r.value ∷ []

data Job : Type 0 where
  Eta : Float → Job
  Round2 : Float → Job
  Root : Float → ℕ → Job
  Dot : List Float → List Float → Job
  Product : Csr → Mass → List Float → Job
  Shifts : Csr → Job
  Arguments : Float → Csr → Job
  Krylov : Csr → Float → ℕ → List Float → KrylovPhiOptions → Job

unfoldable answer : Job → List Float
answer (Eta x) = (eta_scaling x).eta ∷ (eta_scaling x).inv ∷ []
answer (Round2 x) = round2 x ∷ []
answer (Root t q) = root t q ∷ []
answer (Dot x y) = dot x y ∷ []
answer (Product a mass x) = apply_generator (quotients a mass) x
answer (Shifts q) = shift_and_norm (negated_csr_shift q (row_sum_norm q))
answer (Arguments tau q) = argument tau (row_sum_norm q) ∷ shifted_argument tau (negated_csr_shift q (row_sum_norm q))
answer (Krylov a tau count w o) =
    let c = phi_combination_krylov (forward a none) tau count w o (replicate a.n (nat 7)) (replicate 100 (nat 9)) in
    told c.answer ++ c.output

record Case : Type 0 where
  job : Job
  is : List Float

unfoldable table : List Case
table =
    record { job = Eta (nat 3); is = ratio 1 4 ∷ nat 4 ∷ [] }
    ∷ record { job = Eta (nat 1); is = 1f ∷ 1f ∷ [] }
    ∷ record { job = Eta (nat 0); is = 1f ∷ 1f ∷ [] }
    ∷ record { job = Round2 (nat 250); is = nat 250 ∷ [] }
    ∷ record { job = Round2 (nat 251); is = nat 260 ∷ [] }
    ∷ record { job = Round2 (ratio 199 2); is = nat 100 ∷ [] }
    ∷ record { job = Round2 (nat 0); is = nan ∷ [] }
    ∷ record { job = Root (nat 8) 3; is = nat 2 ∷ [] }
    ∷ record { job = Root (nat 1) 128; is = nat 1 ∷ [] }
    ∷ record { job = Root (nat 0) 5; is = nat 0 ∷ [] }
    ∷ record { job = Dot (nat 1 ∷ nat 2 ∷ nat 3 ∷ nat 4 ∷ nat 5 ∷ []) (1f ∷ 1f ∷ 1f ∷ 1f ∷ 1f ∷ []); is = nat 15 ∷ [] }
    ∷ record { job = Product two none (nat 3 ∷ []); is = neg (nat 6) ∷ [] }
    ∷ record { job = Product two (some (nat 4 ∷ [])) (nat 3 ∷ []); is = neg (ratio 3 2) ∷ [] }
    ∷ record { job = Shifts laplace; is = neg (nat 2) ∷ nat 1 ∷ [] }
    ∷ record { job = Arguments (nat 1) laplace; is = nat 10 ∷ nat 8 ∷ [] }
    ∷ record { job = Shifts exchange; is = [] }
    ∷ record { job = Krylov empty 1f 2 (+0 ∷ +0 ∷ []) options; is = nat 1 ∷ nat 1 ∷ nat 0 ∷ ratio 1 2251799813685248 ∷ +0 ∷ [] }
    ∷ record { job = Krylov empty 1f 1 (neg +0 ∷ []) options; is = nat 0 ∷ nat 0 ∷ nat 0 ∷ +0 ∷ neg +0 ∷ [] }
    ∷ []

starred : map (λ (c : Case). answer c.job) table ≡ map (λ (c : Case). c.is) table
unfolding table answer ratio open_pow2 open_power open_rounded open_dot open_mass open_plan open_krylov_call
starred = refl
