-- A soak under a changing ambient level as the numbers that the exported function hands back (document 01, 'Oracle'; document 02, N12). Definitions only.
use Rattle.std.specs.Prelude.{List, ℕ, Float}
use Rattle.std.specs.Float.{nan}
use Rattle.doubles.specs.F64.{+0}
use Rattle.checks.specs.Reasons.{number}
use Rattle.ambient_turns.specs.declared.AmbientAnswer.{AmbientAnswer}
use Rattle.ambient_turns.specs.declared.AmbientAnswer.TheVariants.{Refusal, NotANumber, Logged}
use Rattle.ambient_turns.specs.Ambient.{Results, Logging}

-- 0 or the refusal's number, the double reported, and the record that is named
pub record AmbientNumbers : Type 0 where
  pub number : ℕ
  pub value : Float
  pub record_number : ℕ

abbrev pub ambient_numbers : ℕ → Float → ℕ → AmbientNumbers
ambient_numbers k x i = record { number = k; value = x; record_number = i }

-- a refusal with its record, 0 before any; a NaN temperature, which has no number, with NaN and its record; all done
unfoldable pub ambient_told : AmbientAnswer → AmbientNumbers
ambient_told (Refusal r i) = ambient_numbers (number r.reason) r.value i
ambient_told (NotANumber i) = ambient_numbers 0 nan i
ambient_told Logged = ambient_numbers 0 +0 0

-- what the call hands back, with the output, the working memory and the three slices for the results
pub record AmbientCall : Type 0 where
  pub numbers : AmbientNumbers
  pub output : List Float
  pub memory : List Float
  pub results : Results

abbrev pub ambient_call : AmbientNumbers → List Float → List Float → Results → AmbientCall
ambient_call t output memory r = record { numbers = t; output = output; memory = memory; results = r }

unfoldable pub telling : Logging → AmbientCall
telling l = ambient_call (ambient_told l.call.answer) l.call.output l.call.memory l.results
