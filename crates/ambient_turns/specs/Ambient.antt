-- A soak under a changing ambient level, with a window (document 02, N12): Taylor combinations in a row over one matrix, w_1 being the load times the
-- record's level. Definitions only.
use Rattle.std.specs.Prelude.{Bool, true, false, List, [], ◌∷◌, ◌++◌, ℕ, ◌+◌, length, Float}
use Rattle.std.specs.Float.Ieee.{is_nan}
use Rattle.lists.specs.Loop.{tabulate}
use Rattle.lists.specs.Walk.{Turn, on, out, walk}
use Rattle.lists.specs.Window.{splice}
use Rattle.doubles.specs.F64.{at}
use Rattle.extremes.specs.Extremes.{largest, smallest, open_extremes}
use Rattle.checks.specs.First.{Check, first}
use Rattle.checks.specs.First.{Checked}
use Rattle.generator_action.specs.Generator.{Generator}
use Rattle.combination.specs.Call.{Call, ends}
use Rattle.taylor_job.specs.Calls.{TaylorAnswer}
use Rattle.ambient_record.specs.Record.{record_call, open_record}
use Rattle.ambient_checks.specs.Log.{Log, records_of, Places, field_checks, log_checks, open_log}
use Rattle.ambient_turns.specs.declared.AmbientAnswer.{AmbientAnswer}
use Rattle.ambient_turns.specs.declared.AmbientAnswer.TheVariants.{Refusal, NotANumber, Logged}
use Rattle.std.specs.Prelude.{Ok, Err}

-- ---- the log
-- before a record: the field, what the output and the working memory hold, and the temperatures so far
pub record Progress : Type 0 where
  pub field : List Float
  pub output : List Float
  pub memory : List Float
  pub temperatures : List Float

-- at the end: the answer, the output and the memory, and the temperatures of the records that have a result
pub record Ended : Type 0 where
  pub call : Call AmbientAnswer
  pub temperatures : List Float

abbrev pub ended : AmbientAnswer → List Float → List Float → List Float → Ended
ended a output memory temperatures = record { call = ends a output memory; temperatures = temperatures }

-- a NaN temperature ends the work with the field after that record; any other is a result, and the field carries on in the output
unfoldable pub shown : Bool → ℕ → Float → Call TaylorAnswer → List Float → Turn Progress Ended
shown true i t c temperatures = out (ended (NotANumber (i + 1)) c.output c.memory temperatures)
shown false i t c temperatures = on (record { field = c.output; output = c.output; memory = c.memory; temperatures = temperatures ++ (t ∷ []) })

-- a refusal ends it with the field before that record, or with nothing changed at the first
unfoldable pub settle : ℕ → ℕ → List Float → Call TaylorAnswer → TaylorAnswer → Turn Progress Ended
settle node i temperatures c (Err r) = out (ended (Refusal r (i + 1)) c.output c.memory temperatures)
settle node i temperatures c (Ok r) = shown (is_nan (at c.output node)) i (at c.output node) c temperatures

-- record i + 1
unfoldable pub record_step : Generator → Log → List Float → ℕ → ℕ → Progress → Turn Progress Ended
record_step g log load node i p =
    let c = record_call g (at log.durations i) (at log.levels i) p.field load p.output p.memory in
    settle node i p.temperatures c c.answer

-- ---- the checks: those of the matrix, of field and load, of the log
unfoldable pub ambient_checks : Generator → Log → List Float → List Float → ℕ → ℕ → ℕ → Places → List Check
ambient_checks g log field load W node output r =
    g.checks ++ (field_checks g.matrix.n field load output ++ log_checks g.matrix.n log W node r)

-- ---- the whole
-- what the three slices hold at the end
pub record Results : Type 0 where
  pub temperatures : List Float
  pub largest : List Float
  pub smallest : List Float

abbrev pub places_of : Results → Places
places_of r = record { temperatures = length r.temperatures; largest = length r.largest; smallest = length r.smallest }

pub record Logging : Type 0 where
  pub call : Call AmbientAnswer
  pub results : Results

-- temperatures and extremes of the records that have a result; places without one are unchanged
unfoldable pub written : ℕ → Results → Ended → Logging
written W r e =
    let x = e.temperatures in
    record {
      call = e.call;
      results =
          record {
            temperatures = splice 0 x r.temperatures;
            largest = splice 0 (tabulate (length x) (largest W x)) r.largest;
            smallest = splice 0 (tabulate (length x) (smallest W x)) r.smallest;
          };
    }

unfoldable pub concluded : Turn Progress Ended → Ended
concluded (on p) = ended Logged p.output p.memory p.temperatures
concluded (out e) = e

-- the first field is w_0 of record 1
abbrev pub begun : List Float → List Float → List Float → Progress
begun field output memory = record { field = field; output = output; memory = memory; temperatures = [] }

-- refused before any record: nothing is changed
unfoldable pub unless_log_refused : Checked → List Float → List Float → Results → Logging → Logging
unless_log_refused (Err e) output memory r l = record { call = ends (Refusal e 0) output memory; results = r }
unless_log_refused (Ok _) output memory r l = l

unfoldable pub ambient : Generator → Log → List Float → List Float → ℕ → ℕ → List Float → List Float → Results → Logging
ambient g log field load W node output memory r =
    unless_log_refused (first (ambient_checks g log field load W node (length output) (places_of r))) output memory r
    (written W r (concluded (walk (record_step g log load node) (records_of log) 0 (on (begun field output memory)))))

-- to compute: a line `unfolding open_ambient` opens every definition of this file and of those below it
unfoldable pub open_ambient : Unit {0}
unfolding shown settle record_step ambient_checks written concluded unless_log_refused ambient walk splice tabulate open_extremes open_log open_record
open_ambient = tt
