-- One substep, as the memory holds it after the basis is built. Assumes nothing.
use mathlib.Core.Path.{◌≡◌, refl, sym, ◌∙◌}
use mathlib.Core.List.{List}
use Prim.Native.Nat.{ℕ, ◌+◌, ◌*◌, ◌≤◌}
use native.Mathlib.Nat.{mul-le-mul_right, add-mul, one-mul}
use native.Mathlib.Omega.{arith}
use lib.Ieee.{Float}
use Rattle.std.specs.Prelude.{Result, Ok, Err}
use Rattle.lists.specs.Loop.{tabulate}
use Rattle.lists.specs.Window.{window}
use Rattle.doubles.specs.F64.{◌⊖◌, 1f}
use Rattle.general_operator.specs.Csr.{Csr}
use Rattle.phi_action_helpers.specs.declared.Layout.{Layout}
use Rattle.phi_action_helpers.specs.declared.Coupling.{Coupling}
use Rattle.gram_schmidt.specs.Basis.{arnoldi}
use Rattle.gram_schmidt.specs.Memory.{setting_at, column, basis_at, Counted}
use Rattle.gram_schmidt.specs.declared.Krylov.{Krylov}
use Rattle.gram_schmidt.specs.declared.Broken.{Broken}
use Rattle.gram_schmidt.specs.declared.Full.{Full}
use Rattle.trial_steps.specs.Trials.{trials}
use Rattle.krylov_advance.specs.Run.{applied_of, columns_of, unfinished, standing, settle, substep}
use Rattle.trial_steps.specs.Memory.{outcome_at, columns_in}
use Rattle.krylov_advance.specs.Memory.{products, state_at, stepped, progress_at}
use Rattle.krylov_advance.specs.declared.Control.{Control}
use Rattle.krylov_advance.specs.declared.KrylovPhiReport.{KrylovPhiReport}
use Rattle.trial_steps.specs.declared.Step.{Step}
use Rattle.trial_steps.specs.declared.Outcome.{Outcome}
use Rattle.trial_steps.specs.declared.Outcome.TheVariants.{Next, Accepted, NoPlan}
use Rattle.krylov_advance.specs.declared.Progress.{Progress}
use Rattle.krylov_advance.specs.declared.Progress.TheVariants.{Refused}
use Rattle.checks.specs.Reasons.{refusal}
use Rattle.checks.specs.declared.Reason.TheVariants.{LengthsRejected, NoInnerPlan}

-- ---- what the answer's basis has
columns_are : (l : Layout) (k : Krylov) (basis : Result Full Broken) (w : List Float) → columns_of (basis_at l k basis w) ≡ tabulate (columns_in k basis) (column (l.n + l.d) w)
unfolding basis_at
columns_are l k (Err e) w = refl
columns_are l k (Ok b) w = refl

applied_is : (l : Layout) (k : Krylov) (basis : Result Full Broken) (w : List Float) → applied_of (basis_at l k basis w) ≡ products basis
unfolding basis_at
applied_is l k (Err e) w = refl
applied_is l k (Ok b) w = refl

pub columns_few : (m : ℕ) (k : Krylov) (basis : Result Full Broken) → m ≡ k.m → Counted m basis → columns_in k basis ≤ m + 1
columns_few m k (Err x) e h = omega (arith, h.2)
columns_few m k (Ok b) e h = omega (arith, e)

pub products_few : (m : ℕ) (basis : Result Full Broken) → Counted m basis → products basis ≤ m + 1
products_few m (Err e) h = h.0
products_few m (Ok b) h = h

-- m + 1 columns of n values lie before y, and so do fewer
pub columns_within : (count m n y : ℕ) → count ≤ m + 1 → m * n + n ≤ y → count * n ≤ y
columns_within count m n y h l = let p = mul-le-mul_right n h in omega (arith, p, add-mul m 1 n, one-mul n)

-- ---- the substep
module _ (l : Layout) (b : Coupling) (k : Krylov) (q : Csr) (vectors : List Float) (c : Control) (r : KrylovPhiReport) (basis : Result Full Broken) (w₀ w : List Float)
    (field : window k.y (l.n + l.d) w ≡ window k.y (l.n + l.d) w₀)
    (eb : basis_at l k basis w ≡ arnoldi (setting_at l b k q vectors) (window k.y (l.n + l.d) w₀) c.beta)
    (f : List Float) (o : Outcome)
    (et : outcome_at f o ≡ trials (setting_at l b k q vectors) c.beta c.next (1f ⊖ c.time) (basis_at l k basis w)) where
  settled : substep (setting_at l b k q vectors) (state_at l k c r w₀) ≡ settle (setting_at l b k q vectors) (state_at l k c r w) (basis_at l k basis w) (outcome_at f o)
  unfolding substep
  settled = rw (field, et, eb) refl

  pub after_rejections : (j : ℕ) (t : Float) → o ≡ Next j t → progress_at l k (Refused (refusal LengthsRejected k.tol) c r) w ≡ substep (setting_at l b k q vectors) (state_at l k c r w₀)
  unfolding outcome_at settle progress_at
  after_rejections j t e = sym (settled ∙ rw e refl)

  pub after_no_plan : (arg : Float) → o ≡ NoPlan arg → progress_at l k (Refused (refusal NoInnerPlan arg) c r) w ≡ substep (setting_at l b k q vectors) (state_at l k c r w₀)
  unfolding outcome_at settle progress_at
  after_no_plan arg e = sym (settled ∙ rw e refl)

  pub after_step : (s : Step) (x : Progress) (w₁ : List Float) → o ≡ Accepted s → s.count ≡ columns_in k basis
      → progress_at l k x w₁ ≡ standing (stepped l k c r (products basis) s f (setting_at l b k q vectors) w) (unfinished (stepped l k c r (products basis) s f (setting_at l b k q vectors) w))
      → progress_at l k x w₁ ≡ substep (setting_at l b k q vectors) (state_at l k c r w₀)
  unfolding outcome_at settle
  after_step s x w₁ e h d = d ∙ sym (settled ∙ rw (e, applied_is l k basis w, columns_are l k basis w, h) refl)
