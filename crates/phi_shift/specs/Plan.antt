-- The sweep plan (phi_action.rs, `phi_schedule`; phi_shift.rs, `sweep_plan`). Definitions only.
use Rattle.std.specs.Prelude.{Bool, true, not, ◌&&◌, ◌≡◌, ℕ, ◌*◌, ◌<◌, ltb, Float, Option, Some, None, if◌then◌else◌}
use Rattle.std.specs.Float.Ieee.{eq}
use Rattle.doubles.specs.F64.{◌⊕◌, ◌⊗◌, ◌⩽◌, +0, 2f, abs, is_finite, max_num}
use Rattle.general_operator.specs.Csr.{Csr}
use Rattle.csr_shift.specs.Shift.{by, negated_csr_shift, open_shift}
use Rattle.csr_shift.specs.declared.Shifted.{Shifted}
use Rattle.expmv.specs.Select.{select_s_m, admissible, cost, Least, open_select}
use Rattle.expmv.specs.declared.Row.{Row}
use Rattle.phi_action_helpers.specs.declared.SweepPlan.{SweepPlan}

-- the bound of the augmented operator, tightened by 2: (tau * norm + 2) * 2
unfoldable pub argument : Float → Float → Float
argument tau norm = (tau ⊗ norm ⊕ 2f) ⊗ 2f

-- the bound of the shifted one: the shift counts on the chain too
unfoldable pub shifted_bound : Float → Float → Float → Float
shifted_bound tau mu norm = max_num (tau ⊗ norm) (abs mu) ⊕ 2f

abbrev pub plan : ℕ → ℕ → Float → SweepPlan
plan s m mu = record { s = s; m = m; mu = mu }

-- the shifted row, if there is one and it costs strictly less
unfoldable pub cheaper_shifted : Row → Float → Option Row → SweepPlan
cheaper_shifted r mu None = plan r.s r.m +0
cheaper_shifted r mu (Some r₂) = if ltb (r₂.s * r₂.m) (r.s * r.m) then plan r₂.s r₂.m mu else plan r.s r.m +0

-- a shift that is no number, 0 or of a norm that is none is not taken
unfoldable pub usable : Float → Float → Float → Bool
usable tau mu norm = not (eq mu +0) && (is_finite mu && (is_finite norm && (+0 ⩽ norm && is_finite (shifted_bound tau mu norm))))

unfoldable pub with_shift : ℕ → Float → Row → Option Shifted → SweepPlan
with_shift m_max tau r None = plan r.s r.m +0
with_shift m_max tau r (Some shift) =
    let mu = tau ⊗ shift.mu in
    if usable tau mu shift.norm then cheaper_shifted r mu (select_s_m m_max (shifted_bound tau mu shift.norm ⊗ 2f)) else plan r.s r.m +0

unfoldable pub plan_of : ℕ → Float → Csr → Float → Option Row → Option SweepPlan
plan_of m_max tau q norm None = None
plan_of m_max tau q norm (Some r) = Some (with_shift m_max tau r (negated_csr_shift q norm))

-- `sweep_plan` of the generator -q with the norm: the highest degree is m_max; no plan where no row fits the unshifted argument
unfoldable pub sweep_plan : ℕ → Float → Csr → Float → Option SweepPlan
sweep_plan m_max tau q norm = plan_of m_max tau q norm (select_s_m m_max (argument tau norm))

-- What is chosen (document 01, 'expmv.rs', 'phi_shift.rs'): the first row of least cost that the unshifted argument admits; or, of the shifted argument, the
-- first of least cost, where it costs strictly less than each row that the unshifted one admits.
pub data Chosen (m_max : ℕ) (tau : Float) (q : Csr) (norm : Float) (p : SweepPlan) : Type 0 where
  unshifted : p.mu ≡ +0 → (i : ℕ) → Least m_max (argument tau norm) 22 p.s p.m i → Chosen m_max tau q norm p
  shifted : (g norm₂ : Float) → negated_csr_shift q norm ≡ Some (by g norm₂) → p.mu ≡ tau ⊗ g
      → (i : ℕ) → Least m_max (shifted_bound tau p.mu norm₂ ⊗ 2f) 22 p.s p.m i
      → ((j : ℕ) → j < 22 → admissible m_max (argument tau norm) j ≡ true → p.s * p.m < cost (argument tau norm) j)
      → Chosen m_max tau q norm p

-- to compute: a line `unfolding open_plan` opens every definition of this file and of those below it
unfoldable pub open_plan : Unit {0}
unfolding argument shifted_bound cheaper_shifted usable with_shift plan_of sweep_plan open_shift open_select
open_plan = tt
