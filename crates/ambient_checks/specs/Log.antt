-- The log of a soak under a changing ambient level, and the checks of a call behind those of the matrix (document 02, N12). Definitions only.
use Rattle.std.specs.Prelude.{Bool, not, ◌||◌, List, [], ◌∷◌, ◌++◌, ℕ, leb, ltb, eqb, length, Float}
use Rattle.std.specs.Float.{nan}
use Rattle.doubles.specs.F64.{nat}
use Rattle.checks.specs.First.{Check, refuse}
use Rattle.combination.specs.Checks.{length_checks, finite_checks, open_checks}
use Rattle.checks.specs.declared.Reason.TheVariants.{VectorLength, WindowOrNode, RecordCount, ResultsLength}

-- a duration and an ambient level for each record
pub record Log : Type 0 where
  pub durations : List Float
  pub levels : List Float

abbrev pub records_of : Log → ℕ
records_of log = length log.durations

-- 15 for the output, 16 for field, then load, 17 for field, then load
unfoldable pub field_checks : ℕ → List Float → List Float → ℕ → List Check
field_checks n field load output =
    length_checks output n (length field) n ++ (refuse VectorLength (not (eqb (length load) n)) (nat (length load)) ∷ (finite_checks field ++ finite_checks load))

-- how long the three slices for the results are
pub record Places : Type 0 where
  pub temperatures : ℕ
  pub largest : ℕ
  pub smallest : ℕ

abbrev pub short : ℕ → Places → Bool
short records r = ltb r.temperatures records || (ltb r.largest records || ltb r.smallest records)

-- W not 1 to 1,024 or the node not below n; not 1 to 100,000 records or levels not as many as durations; a slice for the results too short
unfoldable pub log_checks : ℕ → Log → ℕ → ℕ → Places → List Check
log_checks n log W node r =
    refuse WindowOrNode (eqb W 0 || (ltb 1024 W || leb n node)) nan
    ∷ refuse RecordCount (eqb (records_of log) 0 || (ltb 100000 (records_of log) || not (eqb (length log.levels) (records_of log)))) nan
    ∷ refuse ResultsLength (short (records_of log) r) nan
    ∷ []

-- to compute
unfoldable pub open_log : Unit {0}
unfolding field_checks log_checks open_checks
open_log = tt
