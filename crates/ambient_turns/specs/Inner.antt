-- What the inner functions of a soak under a changing ambient level know and answer: cited by their contracts, and by no definition of the call.
-- Definitions only.
use Rattle.std.specs.Prelude.{List, ◌≡◌, ℕ, ◌-◌, ◌≤◌, ◌<◌, Float}
use Rattle.lists.specs.Walk.{Turn, on, out}
use Rattle.lists.specs.Window.{window}
use Rattle.combination.specs.Call.{ends}
use Rattle.ambient_turns.specs.Ambient.{Progress, Ended, ended, Results, Logging}
use Rattle.ambient_turns.specs.declared.AmbientAnswer.{AmbientAnswer}
use Rattle.ambient_turns.specs.declared.AmbientAnswer.TheVariants.{Refusal, NotANumber, Logged}

-- after some records, all with a result so far where the answer is Logged
unfoldable pub turn_at : AmbientAnswer → List Float → List Float → List Float → List Float → Turn Progress Ended
turn_at (Refusal r i) field output memory temperatures = out (ended (Refusal r i) output memory temperatures)
turn_at (NotANumber i) field output memory temperatures = out (ended (NotANumber i) output memory temperatures)
turn_at Logged field output memory temperatures = on (record { field = field; output = output; memory = memory; temperatures = temperatures })

-- how many of k records have a result: those before the one that is named
unfoldable pub results_of : AmbientAnswer → ℕ → ℕ
results_of (Refusal r i) k = i - 1
results_of (NotANumber i) k = i - 1
results_of Logged k = k

-- the temperatures in their slice, where k records have been taken
abbrev pub shown_in : AmbientAnswer → ℕ → List Float → List Float
shown_in a k slice = window 0 (results_of a k) slice

-- what the lengths are once all checks before the records have passed
pub record Logs (n durations levels field load output temperatures node : ℕ) : Type 0 where
  pub most : durations ≤ 100000
  pub paired : levels ≡ durations
  pub fielded : field ≡ n
  pub loaded : load ≡ n
  pub out : output ≡ n
  pub room : durations ≤ temperatures
  pub known : node < n

abbrev pub results : List Float → List Float → List Float → Results
results temperatures largest smallest = record { temperatures = temperatures; largest = largest; smallest = smallest }

abbrev pub logging : AmbientAnswer → List Float → List Float → List Float → List Float → List Float → Logging
logging a output memory temperatures largest smallest = record { call = ends a output memory; results = results temperatures largest smallest }
