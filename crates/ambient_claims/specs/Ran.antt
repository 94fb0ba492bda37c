-- What the first records of a log ran, said by single calls alone (document 02, N12). Definitions only.
use Rattle.std.specs.Prelude.{◌≡◌, true, false, List, [], ◌∷◌, ◌++◌, ℕ, zero, suc, ◌+◌, ◌-◌, ◌*◌, ◌≤◌, ◌<◌, length, Float}
use Rattle.std.specs.Float.Ieee.{is_nan}
use Rattle.doubles.specs.F64.{at}
use Rattle.vectors.specs.Vectors.{scale}
use Rattle.checks.specs.First.{first}
use Rattle.generator_action.specs.Generator.{Generator}
use Rattle.combination.specs.Call.{Call, cleared}
use Rattle.taylor_job.specs.Calls.{combination_checks, phi_combination}
use Rattle.taylor_job.specs.Calls.{TaylorAnswer}
use Rattle.ambient_checks.specs.Log.{Log, records_of}
use Rattle.checks.specs.Reasons.{Refused}
use Rattle.std.specs.Prelude.{Ok, Err}
use Rattle.checks.specs.declared.Reason.{Reason}

-- a call that gave a result
abbrev pub Gave : TaylorAnswer → Type 0
Gave (Err r) = ⊥
Gave (Ok r) = Unit {0}

-- what a record needs of the working memory: n doubles more than its combination
abbrev pub record_need : Generator → ℕ
record_need g = 4 * g.matrix.n + 2 + g.stored

module _ (g : Generator) (log : Log) (start load : List Float) (node : ℕ) (output memory : List Float) where
  -- w_0 and w_1 of record i + 1 from the field f
  abbrev pub vectors_at : ℕ → List Float → List Float
  vectors_at i f = f ++ scale (at log.levels i) load

  -- its single call: the Taylor combination of two vectors up to the degree 30
  abbrev pub call_at : ℕ → List Float → List Float → List Float → Call TaylorAnswer
  call_at i f o m = phi_combination g (at log.durations i) 30 2 (vectors_at i f) o m

  -- the temperature of the node after it
  abbrev pub temperature_at : ℕ → List Float → List Float → List Float → Float
  temperature_at i f o m = at (call_at i f o m).output node

  -- a record that has run: its call gave a result, and n doubles more were there
  abbrev pub Run : ℕ → List Float → List Float → List Float → Type 0
  Run i f o m = Gave (call_at i f o m).answer × (record_need g ≤ length m)

  -- one more record after those of `before`: it ran, and its temperature is no NaN
  pub record Next (i : ℕ) (before : List Float → List Float → List Float → List Float → Type 0) (f o m : List Float) (xs : List Float) : Type 0 where
    pub field : List Float
    pub out : List Float
    pub lent : List Float
    pub shown : List Float
    pub earlier : before field out lent shown
    pub ran : Run i field out lent
    pub number : is_nan (temperature_at i field out lent) ≡ false
    pub field_is : f ≡ (call_at i field out lent).output
    pub output_is : o ≡ (call_at i field out lent).output
    pub memory_is : m ≡ cleared (record_need g) lent
    pub temperatures_are : xs ≡ shown ++ (temperature_at i field out lent ∷ [])

  -- the first i records have results, the temperatures xs: w_0 of the next record, the output and the working memory are f, o and m
  unfoldable pub Ran : ℕ → List Float → List Float → List Float → List Float → Type 0
  Ran zero f o m xs = (f ≡ start) × (o ≡ output) × (m ≡ memory) × (xs ≡ [])
  Ran (suc i) f o m xs = Next i (Ran i) f o m xs

  -- all records have results: the output and the memory are the last one's
  pub record Complete (o' m' xs : List Float) : Type 0 where
    pub field : List Float
    pub out : List Float
    pub lent : List Float
    pub ran : Ran (records_of log) field out lent xs
    pub output_is : o' ≡ out
    pub memory_is : m' ≡ lent

  -- after record i + 1, the first without a result, the temperature is NaN: its field in the output, and the memory cleared
  pub record NanAt (i : ℕ) (o' m' xs : List Float) : Type 0 where
    pub reached : i < records_of log
    pub field : List Float
    pub out : List Float
    pub lent : List Float
    pub ran : Ran i field out lent xs
    pub run : Run i field out lent
    pub nan : is_nan (temperature_at i field out lent) ≡ true
    pub output_is : o' ≡ (call_at i field out lent).output
    pub memory_is : m' ≡ cleared (record_need g) lent

  -- record i + 1 is refused as its single call is by a working memory of n doubles less; output and memory stay as the record before left them
  pub record RefusedAt (i : ℕ) (k : Reason) (x : Float) (o' m' xs : List Float) : Type 0 where
    pub reached : i < records_of log
    pub field : List Float
    pub out : List Float
    pub lent : List Float
    pub ran : Ran i field out lent xs
    pub refused : first (combination_checks g (at log.durations i) 30 2 (vectors_at i field) (length out) (length lent - g.matrix.n)) ≡ Refused k x
    pub output_is : o' ≡ out
    pub memory_is : m' ≡ lent
