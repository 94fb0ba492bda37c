-- The row of a schedule (24 and 25). Assumes nothing.
use Rattle.std.specs.Prelude.{Option, Some, None, Result}
use Rattle.std.specs.Option.{ok_or}
use mathlib.Core.Bool.{Bool, true, false, not}
use mathlib.Core.List.{[], ◌∷◌}
use mathlib.Core.Path.{◌≡◌, refl}
use Prim.Native.Nat.{ℕ}
use lib.Ieee.{Float}
use Rattle.doubles.specs.F64.{is_finite}
use Rattle.checks.specs.First.{refuse, first, or_first}
use Rattle.checks.specs.Reasons.{Refused, refusal}
use Rattle.checks.specs.declared.Reason.TheVariants.{ArgumentNotFinite, NoAdmissibleRow}
use Rattle.checks.specs.declared.Refusal.{Refusal}
use Rattle.phi_shift.specs.Plan.{argument}
use Rattle.expmv.specs.Select.{select_s_m}
use Rattle.expmv.specs.declared.Row.{Row}
use Rattle.combination.specs.Checks.{schedule_checks, no_row}
use Rattle.taylor_schedule.specs.Inner.{row_of, scheduled}

module _ (m_max : ℕ) (norm tau : Float) {arg : Float} {t : Bool} (e : arg ≡ argument tau norm) (told : t ≡ is_finite arg) where
  pub row_endless : not t ≡ true → Refused ArgumentNotFinite arg ≡ or_first (schedule_checks m_max norm tau) (scheduled m_max norm tau)
  unfolding or_first schedule_checks first
  row_endless h = rw (← e, ← told, h) refl

  pub row_found : not t ≡ false → {found : Option Row} {r : Result Row Refusal} → found ≡ select_s_m m_max arg → r ≡ ok_or found (refusal NoAdmissibleRow arg)
      → r ≡ or_first (schedule_checks m_max norm tau) (scheduled m_max norm tau)
  unfolding or_first schedule_checks first
  row_found h {found} f g = rw (g, ← e, ← told, h, ← f) (go found)
    where
      go : (x : Option Row) → ok_or x (refusal NoAdmissibleRow arg) ≡ or_first (refuse ArgumentNotFinite false arg ∷ refuse NoAdmissibleRow (no_row x) arg ∷ []) (row_of x)
      go None = refl
      go (Some x) = refl
