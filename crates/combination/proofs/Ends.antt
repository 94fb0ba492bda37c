-- A call's answer by its checks: the first that holds refuses, and where none holds the job runs. Assumes nothing.
use mathlib.Core.Path.{◌≡◌, refl}
use mathlib.Core.List.{List}
use Prim.Native.Nat.{ℕ}
use lib.Ieee.{Float}
use Rattle.checks.specs.First.{Check, first}
use Rattle.checks.specs.First.{Checked}
use Rattle.combination.specs.Call.{Call, ends, unless_refused}
use Rattle.checks.specs.Reasons.{Sound, Refused}
use Rattle.checks.specs.declared.Reason.{Reason}

module _ {A : Type 0} (refusal : Reason → Float → A) (cs : List Check) (output memory : List Float) (end : Call A) where
  pub refused_by : {r : Checked} {k : Reason} {x : Float} → r ≡ Refused k x → r ≡ first cs → ends (refusal k x) output memory ≡ unless_refused refusal (first cs) output memory end
  unfolding unless_refused
  refused_by e f = rw (← f, e) refl

  pub runs : {r : Checked} {c : Call A} → r ≡ Sound → r ≡ first cs → c ≡ end → c ≡ unless_refused refusal (first cs) output memory end
  unfolding unless_refused
  runs e f h = rw (← f, e) h
