-- A plan is the first row of least cost, unshifted, or shifted where that costs strictly less than every unshifted row. Assumes nothing.
use Rattle.std.specs.Prelude.{Option, Some, None, if◌then◌else◌}
use mathlib.Core.Bool.{Bool, true, false}
use mathlib.Core.Path.{◌≡◌, refl, subst}
use Prim.Native.Nat.{ℕ, zero, ◌*◌, ◌≤◌, ◌<◌}
use native.Mathlib.Nat.{le_of_eq, le_of_lt, le_trans, lt_of_lt_of_le}
use native.Mathlib.Omega.{arith}
use lib.Dec.{ltb}
use lib.Ieee.{Float}
use borrow.Author.Tests.{ltb-true}
use Rattle.doubles.specs.F64.{◌⊗◌, +0, 2f}
use Rattle.general_operator.specs.Csr.{Csr}
use Rattle.csr_shift.specs.Shift.{by, negated_csr_shift}
use Rattle.csr_shift.specs.declared.Shifted.{Shifted}
use Rattle.expmv.specs.Select.{row, select_s_m, admissible, cost, Bounds, Least}
use Rattle.expmv.specs.declared.Row.{Row}
use Rattle.expmv.proofs.Least.{least, cost_of, least_bounds}
use Rattle.phi_action_helpers.specs.declared.SweepPlan.{SweepPlan}
use Rattle.phi_shift.specs.Plan.{argument, shifted_bound, plan, cheaper_shifted, usable, with_shift, plan_of, sweep_plan, Chosen, unshifted, shifted}

-- row i, s × m, of the unshifted argument
module _ (m_max : ℕ) (tau : Float) (q : Csr) (norm : Float) (s m i : ℕ) (l : Least m_max (argument tau norm) 22 s m i) where
  stays : Chosen m_max tau q norm (plan s m +0)
  stays = unshifted refl i l

  module _ (g norm₂ : Float) (e : negated_csr_shift q norm ≡ Some (by g norm₂)) where
    cheaper : (s₂ m₂ : ℕ) → select_s_m m_max (shifted_bound tau (tau ⊗ g) norm₂ ⊗ 2f) ≡ Some (row s₂ m₂) → s₂ * m₂ < s * m → Chosen m_max tau q norm (plan s₂ m₂ (tau ⊗ g))
    cheaper s₂ m₂ r h = go (least m_max _ s₂ m₂ r)
      where
        go : ((j : ℕ) × Least m_max (shifted_bound tau (tau ⊗ g) norm₂ ⊗ 2f) 22 s₂ m₂ j) → Chosen m_max tau q norm (plan s₂ m₂ (tau ⊗ g))
        go (j, l₂) = shifted g norm₂ e refl j l₂ (λ k b a. lt_of_lt_of_le h (le_trans (le_of_eq (cost_of m_max (argument tau norm) 22 l)) (l.least k b a)))

    compared : (s₂ m₂ : ℕ) (t : Bool) → ltb (s₂ * m₂) (s * m) ≡ t → select_s_m m_max (shifted_bound tau (tau ⊗ g) norm₂ ⊗ 2f) ≡ Some (row s₂ m₂)
        → Chosen m_max tau q norm (if t then plan s₂ m₂ (tau ⊗ g) else plan s m +0)
    compared s₂ m₂ true h r = cheaper s₂ m₂ r (ltb-true (s₂ * m₂) (s * m) h)
    compared s₂ m₂ false h r = stays

    of_selected : (r : Option Row) → select_s_m m_max (shifted_bound tau (tau ⊗ g) norm₂ ⊗ 2f) ≡ r → Chosen m_max tau q norm (cheaper_shifted (row s m) (tau ⊗ g) r)
    unfolding cheaper_shifted
    of_selected None h = stays
    of_selected (Some r) h = compared r.s r.m _ refl h

    if_usable : (t : Bool) (p : SweepPlan) → Chosen m_max tau q norm p → Chosen m_max tau q norm (if t then p else plan s m +0)
    if_usable true p h = h
    if_usable false p h = stays

  of_shift : (x : Option Shifted) → negated_csr_shift q norm ≡ x → Chosen m_max tau q norm (with_shift m_max tau (row s m) x)
  unfolding with_shift
  of_shift None e = stays
  of_shift (Some x) e = if_usable x.mu x.norm e (usable tau (tau ⊗ x.mu) x.norm) _ (of_selected x.mu x.norm e _ refl)

pub plan_chosen : (m_max : ℕ) (tau : Float) (q : Csr) (norm : Float) {p : SweepPlan} → sweep_plan m_max tau q norm ≡ Some p → Chosen m_max tau q norm p
unfolding sweep_plan plan_of
plan_chosen m_max tau q norm {p} e = go _ refl e
  where
    go : (r : Option Row) → select_s_m m_max (argument tau norm) ≡ r → plan_of m_max tau q norm r ≡ Some p → Chosen m_max tau q norm p
    go None e f = let z : zero ≡ 1 = cc in absurd (omega (arith, z))
    go (Some r) e f =
        let b = least m_max (argument tau norm) r.s r.m e in
        let same : with_shift m_max tau r (negated_csr_shift q norm) ≡ p = cc in
        subst (Chosen m_max tau q norm) same (of_shift m_max tau q norm r.s r.m b.0 b.1 (negated_csr_shift q norm) refl)

module _ {m_max : ℕ} {tau : Float} {q : Csr} {norm : Float} {p : SweepPlan} where
  pub chosen_bounded : Chosen m_max tau q norm p → Bounds m_max p.s p.m
  chosen_bounded (unshifted z i l) = least_bounds m_max _ i l
  chosen_bounded (shifted g norm₂ e z i l h) = least_bounds m_max _ i l

  -- no row that the unshifted argument admits costs less
  pub chosen_least : Chosen m_max tau q norm p → (j : ℕ) → j < 22 → admissible m_max (argument tau norm) j ≡ true → p.s * p.m ≤ cost (argument tau norm) j
  chosen_least (unshifted z i l) j b a = le_trans (le_of_eq (cost_of m_max (argument tau norm) 22 l)) (l.least j b a)
  chosen_least (shifted g norm₂ e z i l h) j b a = le_of_lt (h j b a)

pub plan_bounded : (m_max : ℕ) (tau : Float) (q : Csr) (norm : Float) {p : SweepPlan} → sweep_plan m_max tau q norm ≡ Some p → Bounds m_max p.s p.m
plan_bounded m_max tau q norm e = chosen_bounded (plan_chosen m_max tau q norm e)
