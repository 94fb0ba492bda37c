-- The ways out of the plan, of what its parts answer. Assumes nothing.
use Rattle.std.specs.Prelude.{Option, Some, None}
use mathlib.Core.Bool.{Bool, true, false}
use mathlib.Core.Path.{◌≡◌}
use Prim.Native.Nat.{ℕ, ◌*◌, ◌≤◌, ◌<◌}
use lib.Ieee.{Float}
use borrow.Author.Tests.{lt-ltb, le-ltb}
use Rattle.doubles.specs.F64.{◌⊗◌, +0, 2f}
use Rattle.general_operator.specs.Csr.{Csr}
use Rattle.csr_shift.specs.Shift.{negated_csr_shift}
use Rattle.csr_shift.specs.declared.Shifted.{Shifted}
use Rattle.expmv.specs.Select.{select_s_m}
use Rattle.expmv.specs.declared.Row.{Row}
use Rattle.phi_action_helpers.specs.declared.SweepPlan.{SweepPlan}
use Rattle.phi_shift.specs.Plan.{argument, shifted_bound, plan, cheaper_shifted, usable, with_shift, plan_of, sweep_plan}

-- ---- `cheaper_shifted`
pub no_shifted_row : (r : Row) (mu : Float) {row : Option Row} {p : SweepPlan} → row ≡ None → p ≡ plan r.s r.m +0 → p ≡ cheaper_shifted r mu row
unfolding cheaper_shifted
no_shifted_row r mu e d = rw e d

module _ (r : Row) (mu : Float) {row : Option Row} {r₂ : Row} {a b : ℕ} {p : SweepPlan} (e : row ≡ Some r₂) (x : a ≡ r₂.s * r₂.m) (y : b ≡ r.s * r.m) where
  pub costs_less : a < b → p ≡ plan r₂.s r₂.m mu → p ≡ cheaper_shifted r mu row
  unfolding cheaper_shifted
  costs_less h d = rw (e, ← x, ← y, lt-ltb a b h) d

  pub costs_as_much : b ≤ a → p ≡ plan r.s r.m +0 → p ≡ cheaper_shifted r mu row
  unfolding cheaper_shifted
  costs_as_much h d = rw (e, ← x, ← y, le-ltb a b h) d

-- ---- `with_shift`
pub no_shift : (m_max : ℕ) (tau : Float) (r : Row) {shift : Option Shifted} {p : SweepPlan} → shift ≡ None → p ≡ plan r.s r.m +0 → p ≡ with_shift m_max tau r shift
unfolding with_shift
no_shift m_max tau r e d = rw e d

module _ (m_max : ℕ) (tau : Float) (r : Row) {shift : Option Shifted} {x : Shifted} {t : Bool} {p : SweepPlan} (e : shift ≡ Some x) (u : t ≡ usable tau (tau ⊗ x.mu) x.norm) where
  pub not_usable : t ≡ false → p ≡ plan r.s r.m +0 → p ≡ with_shift m_max tau r shift
  unfolding with_shift
  not_usable h d = rw (e, ← u, h) d

  pub is_usable : {b : Float} {row : Option Row} → t ≡ true → b ≡ shifted_bound tau (tau ⊗ x.mu) x.norm → row ≡ select_s_m m_max (b ⊗ 2f) → p ≡ cheaper_shifted r (tau ⊗ x.mu) row → p ≡ with_shift m_max tau r shift
  unfolding with_shift
  is_usable h k l d = rw (e, ← u, h, ← k, ← l) d

-- ---- `sweep_plan`
module _ (m_max : ℕ) (tau : Float) (q : Csr) (norm : Float) {x : Float} {row : Option Row} (k : x ≡ argument tau norm) (l : row ≡ select_s_m m_max x) where
  pub no_plan : row ≡ None → None ≡ sweep_plan m_max tau q norm
  unfolding sweep_plan plan_of
  no_plan h = rw (← k, ← l, h)

  pub planned : {r : Row} {shift : Option Shifted} {p : SweepPlan} → row ≡ Some r → shift ≡ negated_csr_shift q norm → p ≡ with_shift m_max tau r shift → Some p ≡ sweep_plan m_max tau q norm
  unfolding sweep_plan plan_of
  planned h e d = rw (← k, ← l, h, ← e, ← d)
