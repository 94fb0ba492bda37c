-- The answer of the checks, both ways. Assumes nothing.
use mathlib.Core.Bool.{false}
use mathlib.Core.Path.{◌≡◌, refl}
use Prim.Native.Nat.{ℕ}
use lib.Ieee.{Float}
use Rattle.checks.specs.First.{Checked}
use Rattle.general_operator.specs.Csr.{Csr, row_sum_norm}
use Rattle.generator_action.specs.Mass.{Mass, quotients, quotient_need}
use Rattle.generator_action.specs.declared.Shape.{Shape}
use Rattle.transpose.specs.Transpose.{transpose}
use Rattle.transpose.proofs.Passed.{transposed_shape}
use Rattle.transposed_shape.specs.Inner.{shape_answer}
use Rattle.checks.specs.Reasons.{Sound, Refused}
use Rattle.std.specs.Prelude.{Ok, Err}
use Rattle.checks.specs.declared.Reason.{Reason}

module _ (a : Csr) (mass : Mass) where
  pub refused_shape : {c : Checked} {k : Reason} {x : Float} → Refused k x ≡ c → Refused k x ≡ shape_answer a mass c
  unfolding shape_answer
  refused_shape e = rw (← e) refl

  pub passed_shape : {c : Checked} {stored : ℕ} {x : Float} → Sound ≡ c → stored ≡ quotient_need a mass → x ≡ row_sum_norm (transpose (quotients a mass))
      → Ok (record { n = a.n; with_mass = false; stored = stored; norm = x }) ≡ shape_answer a mass c
  unfolding shape_answer
  passed_shape e d f = rw (← e, d, f) refl

  pub refused_told : (c : Checked) {k : Reason} {x : Float} → Refused k x ≡ shape_answer a mass c → Refused k x ≡ c
  unfolding shape_answer
  refused_told (Err r) e = cc
  refused_told (Ok _) e = cc

  pub passed_told : (c : Checked) {g : Shape} → Ok g ≡ shape_answer a mass c → (Sound ≡ c) × (g ≡ transposed_shape a mass)
  unfolding shape_answer
  passed_told (Err r) e = (cc, cc)
  passed_told (Ok _) e = (refl, cc)
