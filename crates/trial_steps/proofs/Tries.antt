-- What the answers of the functions that try lengths stand for. Assumes nothing.
use mathlib.Core.Bool.{Bool, true, false}
use mathlib.Core.List.{List}
use mathlib.Core.Path.{◌≡◌, refl, sym, ap, ◌∙◌}
use Prim.Native.Nat.{ℕ, ◌+◌, ◌*◌, ◌≤◌}
use native.Mathlib.Numerals.{add-one}
use native.Mathlib.Omega.{arith}
use lib.ListN.{take}
use lib.Ieee.{Float}
use Rattle.std.specs.Prelude.{Result, Ok, Err}
use Rattle.lists.specs.Walk.{Turn, on, walk}
use Rattle.lists.specs.Window.{window}
use Rattle.lists.proofs.Walk.{Left, left_out}
use Rattle.lists.proofs.Window.{window_window}
use Rattle.doubles.specs.F64.{min_num}
use Rattle.general_operator.specs.Csr.{Csr}
use Rattle.phi_action_helpers.specs.declared.Layout.{Layout}
use Rattle.phi_action_helpers.specs.declared.Coupling.{Coupling}
use Rattle.retry.specs.Retry.{accepts, retry}
use Rattle.hess_exp.specs.HessExp.{column, hess_exp_e1}
use Rattle.hess_exp.specs.Parts.{small_of}
use Rattle.hess_exp.specs.declared.SmallExp.{SmallExp}
use Rattle.gram_schmidt.specs.declared.Krylov.{Krylov}
use Rattle.gram_schmidt.specs.declared.Broken.{Broken}
use Rattle.gram_schmidt.specs.declared.Full.{Full}
use Rattle.gram_schmidt.specs.Memory.{setting_at, basis_at}
use Rattle.trial_steps.specs.Trials.{Trying, Tried, local_error, verdict, judge, try_step, exact_step, trials}
use Rattle.trial_steps.specs.Memory.{outcome_at, Within}
use Rattle.trial_steps.specs.declared.Estimate.{Estimate}
use Rattle.trial_steps.specs.declared.Outcome.{Outcome}
use Rattle.trial_steps.specs.declared.Outcome.TheVariants.{Next, Accepted, NoPlan}

-- ---- one length
module _ (l : Layout) (b : Coupling) (k : Krylov) (q : Csr) (vectors : List Float) (beta avnorm : Float) (h : List Float) (i r : ℕ) (t : Float) (x : SmallExp) (s : small_of (k.m + 2) x ≡ hess_exp_e1 h (k.m + 2) (k.m + 2) t) where
  abbrev after : Turn Trying Tried
  after = try_step (setting_at l b k q vectors) beta h avnorm i (record { rejections = r; t = t })

  pub no_plan : (f : List Float) → x.planned ≡ false → outcome_at f (NoPlan x.argument) ≡ after
  unfolding small_of try_step judge outcome_at
  no_plan f p = rw (← s, p)

  module _ (e : Estimate) (p : x.planned ≡ true) (d : e ≡ local_error k.m beta avnorm (take (k.m + 2) x.column)) (a : Bool) (g : a ≡ accepts k.tol t e.err) where
    -- what is left to the verdict
    judged : after ≡ verdict (setting_at l b k q vectors) (record { rejections = r; t = t }) (window 0 (k.m + 2) x.column) e a
    unfolding small_of try_step judge window
    judged = rw (← s, p, ← d, ← g)

    pub taken : a ≡ true → outcome_at x.column (Accepted (record { rejections = r; t = t; err = e.err; count = k.m + 1 })) ≡ after
    unfolding outcome_at verdict
    taken y = sym (judged ∙ rw (y, window_window 0 (k.m + 2) 0 (k.m + 1) x.column (omega arith)))

    pub left : (f : List Float) (t₁ : Float) → a ≡ false → t₁ ≡ retry e.order k.tol t e.err → outcome_at f (Next (r + 1) t₁) ≡ after
    unfolding outcome_at verdict
    left f t₁ y z = sym (judged ∙ rw (y, ← z, add-one r))

-- ---- the loop
pub within_more : (i j columns : ℕ) (o : Outcome) → Within i columns o → i ≤ j → Within j columns o
within_more i j columns (Next r t) h l = omega arith
within_more i j columns (Accepted s) h l = h
within_more i j columns (NoPlan arg) h l = tt

pub seen_next : (f : List Float) (o : Outcome) (r : ℕ) (t : Float) → o ≡ Next r t → outcome_at f o ≡ on (record { rejections = r; t = t })
unfolding outcome_at
seen_next f o r t e = ap (outcome_at f) e

-- the loop is left where nothing is to be tried
pub left_ended : {step : ℕ → Trying → Turn Trying Tried} {n i : ℕ} {s : Turn Trying Tried} (f : List Float) (o : Outcome) → ((r : ℕ) (t : Float) → o ≡ Next r t → ⊥) → Left step n i s (outcome_at f o) → outcome_at f o ≡ walk step n 0 s
unfolding outcome_at
left_ended f (Next r t) g h = absurd (g r t refl)
left_ended f (Accepted s) g h = left_out h _ refl
left_ended f (NoPlan arg) g h = left_out h _ refl

-- ---- all lengths on one basis
module _ (l : Layout) (b : Coupling) (k : Krylov) (q : Csr) (vectors : List Float) (beta next remaining : Float) (work h : List Float) (o : Turn Trying Tried) (basis : Result Full Broken) (s : window k.h ((k.m + 2) * (k.m + 2)) work ≡ h) where
  pub on_breakdown : (e : Broken) → basis ≡ Err e → o ≡ exact_step beta e.hn remaining (hess_exp_e1 h (k.m + 2) e.mb remaining) → o ≡ trials (setting_at l b k q vectors) beta next remaining (basis_at l k basis work)
  unfolding trials basis_at
  on_breakdown e is d = d ∙ rw (is, s)

  pub on_full : (full : Full) (t : Float) → basis ≡ Ok full → t ≡ min_num next remaining → o ≡ walk (try_step (setting_at l b k q vectors) beta h full.avnorm) 11 0 (on (record { rejections = 0; t = t })) → o ≡ trials (setting_at l b k q vectors) beta next remaining (basis_at l k basis work)
  unfolding trials basis_at
  on_full full t e g d = d ∙ rw (e, s, g)
