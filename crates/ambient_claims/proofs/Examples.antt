-- Soaks under a changing ambient level, computed. Assumes nothing.
use mathlib.Core.Path.{◌≡◌, refl}
use mathlib.Core.List.{List, [], ◌∷◌, ◌++◌}
use mathlib.Core.Option.{none, some}
use Prim.Native.Nat.{ℕ}
use lib.ListN.{replicate}
use lib.Ieee.{Float, nan}
use Rattle.doubles.specs.F64.{bits, nat, 1f, +0, +∞}
use Rattle.general_operator.specs.Csr.{Csr, csr}
use Rattle.generator_action.specs.Generator.{forward}
use Rattle.ambient_checks.specs.Inner.{log_of}
use Rattle.ambient_turns.specs.declared.AmbientAnswer.TheVariants.{Refusal, NotANumber, Logged}
use Rattle.ambient_turns.specs.Ambient.{Logging, ambient, open_ambient}
use Rattle.ambient_turns.specs.Inner.{results, logging}
use Rattle.checks.specs.Reasons.{refusal}
use Rattle.checks.specs.declared.Reason.{Reason}
use Rattle.checks.specs.declared.Reason.TheVariants.{RowStartsLength, TauRange, OutputLength, VectorLength, VectorNotFinite, WorkLength, WindowOrNode, RecordCount, ResultsLength}

-- no entries, of one row and of two
abbrev empty : Csr
empty = csr 1 (0 ∷ 0 ∷ []) [] []

abbrev empty_2 : Csr
empty_2 = csr 2 (0 ∷ 0 ∷ 0 ∷ []) [] []

abbrev -0 : Float
-0 = bits 0x8000000000000000

abbrev -1 : Float
-1 = bits 0xbff0000000000000

abbrev -2 : Float
-2 = bits 0xc000000000000000

-- 2 ^ 1022 and 2 ^ 1023
abbrev big : Float
big = bits 0x7fd0000000000000

abbrev bigger : Float
bigger = bits 0x7fe0000000000000

-- marks: what no record changed stays so
abbrev sevens : List Float
sevens = nat 7 ∷ nat 7 ∷ []

abbrev nines : ℕ → List Float
nines k = replicate k (nat 9)

-- entries 2 and -2 in one column: an infinite term leaves NaN at record 2; its field in the output, no result of its own, 6 doubles cleared
cancelling : ambient (forward (csr 1 (0 ∷ 2 ∷ []) (0 ∷ 0 ∷ []) (nat 2 ∷ -2 ∷ [])) none) (log_of (1f ∷ 1f ∷ []) (1f ∷ +0 ∷ [])) (big ∷ []) (big ∷ []) 3 0 (nat 7 ∷ []) (nines 7) (results sevens sevens sevens)
    ≡ logging (NotANumber 2) (nan ∷ []) (replicate 6 +0 ++ nines 1) (bigger ∷ nat 7 ∷ []) (bigger ∷ nat 7 ∷ []) (bigger ∷ nat 7 ∷ [])
unfolding open_ambient
cancelling = refl

-- NaN at another node does not end the work: record 1 has a result, and 17 of record 2 tells NaN, with the field of record 1
elsewhere : ambient (forward (csr 2 (0 ∷ 0 ∷ 2 ∷ []) (1 ∷ 1 ∷ []) (nat 2 ∷ -2 ∷ [])) none) (log_of (1f ∷ 1f ∷ []) (1f ∷ 1f ∷ [])) (1f ∷ bigger ∷ []) (+0 ∷ +0 ∷ []) 3 0 (nat 7 ∷ nat 7 ∷ []) (nines 10) (results sevens sevens sevens)
    ≡ logging (Refusal (refusal VectorNotFinite nan) 2) (1f ∷ nan ∷ []) (replicate 10 +0) (1f ∷ nat 7 ∷ []) (1f ∷ nat 7 ∷ []) (1f ∷ nat 7 ∷ [])
unfolding open_ambient
elsewhere = refl

-- an infinite temperature is shown and counted; 17 of record 2 tells it
infinite : ambient (forward empty none) (log_of (1f ∷ 1f ∷ []) (1f ∷ 1f ∷ [])) (bigger ∷ []) (bigger ∷ []) 3 0 (nat 7 ∷ []) (nines 6) (results sevens sevens sevens)
    ≡ logging (Refusal (refusal VectorNotFinite +∞) 2) (+∞ ∷ []) (replicate 6 +0) (+∞ ∷ nat 7 ∷ []) (+∞ ∷ nat 7 ∷ []) (+∞ ∷ nat 7 ∷ [])
unfolding open_ambient
infinite = refl

-- a temperature of -0 is shown as it is, its extremes as +0
negative_zero : ambient (forward empty none) (log_of (1f ∷ []) (-1 ∷ [])) (-0 ∷ []) (+0 ∷ []) 1 0 (nat 7 ∷ []) (nines 6) (results sevens sevens sevens)
    ≡ logging Logged (-0 ∷ []) (replicate 6 +0) (-0 ∷ nat 7 ∷ []) (+0 ∷ nat 7 ∷ []) (+0 ∷ nat 7 ∷ [])
unfolding open_ambient
negative_zero = refl

-- node 1 of two
second_node : ambient (forward empty_2 none) (log_of (1f ∷ []) (1f ∷ [])) (1f ∷ nat 2 ∷ []) (+0 ∷ 1f ∷ []) 1 1 (nat 7 ∷ nat 7 ∷ []) (nines 11) (results sevens sevens sevens)
    ≡ logging Logged (1f ∷ nat 3 ∷ []) (replicate 10 +0 ++ nines 1) (nat 3 ∷ nat 7 ∷ []) (nat 3 ∷ nat 7 ∷ []) (nat 3 ∷ nat 7 ∷ [])
unfolding open_ambient
second_node = refl

-- three records and a window of two: 1, -1, 2
window_of_2 : ambient (forward empty none) (log_of (1f ∷ 1f ∷ 1f ∷ []) (1f ∷ -2 ∷ nat 3 ∷ [])) (+0 ∷ []) (1f ∷ []) 2 0 (nat 7 ∷ []) (nines 6) (results (nines 4) (nines 4) (nines 3))
    ≡ logging Logged (nat 2 ∷ []) (replicate 6 +0) (1f ∷ -1 ∷ nat 2 ∷ nat 9 ∷ []) (1f ∷ 1f ∷ nat 2 ∷ nat 9 ∷ []) (1f ∷ -1 ∷ -1 ∷ [])
unfolding open_ambient
window_of_2 = refl

-- 5 doubles are one too few for a record of one row: 26 at record 1, and nothing is changed
short_memory : ambient (forward empty none) (log_of (1f ∷ []) (1f ∷ [])) (+0 ∷ []) (1f ∷ []) 1 0 (nat 7 ∷ []) (nines 5) (results sevens sevens sevens)
    ≡ logging (Refusal (refusal WorkLength nan) 1) (nat 7 ∷ []) (nines 5) sevens sevens sevens
unfolding open_ambient
short_memory = refl

-- with a mass the entries are needed too: 4 + 2 + 1 doubles
abbrev one_entry : Csr
one_entry = csr 1 (0 ∷ 1 ∷ []) (0 ∷ []) (1f ∷ [])

short_of_entries : ambient (forward one_entry (some (nat 2 ∷ []))) (log_of (1f ∷ []) (1f ∷ [])) (+0 ∷ []) (1f ∷ []) 1 0 (nat 7 ∷ []) (nines 6) (results sevens sevens sevens)
    ≡ logging (Refusal (refusal WorkLength nan) 1) (nat 7 ∷ []) (nines 6) sevens sevens sevens
unfolding open_ambient
short_of_entries = refl

enough_for_entries : ambient (forward one_entry (some (nat 2 ∷ []))) (log_of (+0 ∷ []) (1f ∷ [])) (1f ∷ []) (1f ∷ []) 1 0 (nat 7 ∷ []) (nines 8) (results sevens sevens sevens)
    ≡ logging Logged (1f ∷ []) (replicate 7 +0 ++ nines 1) (1f ∷ nat 7 ∷ []) (1f ∷ nat 7 ∷ []) (1f ∷ nat 7 ∷ [])
unfolding open_ambient
enough_for_entries = refl

-- a negative duration at record 2: the field of record 1
negative_time : ambient (forward empty none) (log_of (1f ∷ -1 ∷ []) (1f ∷ 1f ∷ [])) (+0 ∷ []) (1f ∷ []) 1 0 (nat 7 ∷ []) (nines 7) (results sevens sevens sevens)
    ≡ logging (Refusal (refusal TauRange -1) 2) (1f ∷ []) (replicate 6 +0 ++ nines 1) (1f ∷ nat 7 ∷ []) (1f ∷ nat 7 ∷ []) (1f ∷ nat 7 ∷ [])
unfolding open_ambient
negative_time = refl

-- an infinite level: 17 of record 1 tells load x level
infinite_level : ambient (forward empty none) (log_of (1f ∷ []) (+∞ ∷ [])) (+0 ∷ []) (-1 ∷ []) 1 0 (nat 7 ∷ []) (nines 6) (results sevens sevens sevens)
    ≡ logging (Refusal (refusal VectorNotFinite (bits 0xfff0000000000000)) 1) (nat 7 ∷ []) (nines 6) sevens sevens sevens
unfolding open_ambient
infinite_level = refl

-- ---- the order before any record: each job is wrong in what is told and in all that comes behind it
module _ (memory : List Float) where
  told : List Float → List Float → List Float → ℕ → ℕ → List Float → List Float → Logging
  told field load output W node durations levels = ambient (forward empty none) (log_of durations levels) field load W node output memory (results [] [] [])

  refused_by : Reason → Float → List Float → Logging
  refused_by k x output = logging (Refusal (refusal k x) 0) output memory [] [] []

  -- 15 for the output, 16 for the field, then for the load
  output_first : told (nan ∷ 1f ∷ []) (+∞ ∷ 1f ∷ 1f ∷ []) [] 0 1 [] (1f ∷ []) ≡ refused_by OutputLength +0 []
  unfolding open_ambient told refused_by
  output_first = refl

  field_first : told (nan ∷ 1f ∷ []) (+∞ ∷ 1f ∷ 1f ∷ []) (nat 7 ∷ []) 0 1 [] (1f ∷ []) ≡ refused_by VectorLength (nat 2) (nat 7 ∷ [])
  unfolding open_ambient told refused_by
  field_first = refl

  load_next : told (nan ∷ []) (+∞ ∷ 1f ∷ 1f ∷ []) (nat 7 ∷ []) 0 1 [] (1f ∷ []) ≡ refused_by VectorLength (nat 3) (nat 7 ∷ [])
  unfolding open_ambient told refused_by
  load_next = refl

  -- 17 for the field, then for the load
  field_17 : told (nan ∷ []) (+∞ ∷ []) (nat 7 ∷ []) 0 1 [] (1f ∷ []) ≡ refused_by VectorNotFinite nan (nat 7 ∷ [])
  unfolding open_ambient told refused_by
  field_17 = refl

  load_17 : told (1f ∷ []) (+∞ ∷ []) (nat 7 ∷ []) 0 1 [] (1f ∷ []) ≡ refused_by VectorNotFinite +∞ (nat 7 ∷ [])
  unfolding open_ambient told refused_by
  load_17 = refl

  -- 38 for W and for the node, 39 for no records and for one level too many, 40
  no_window : told (1f ∷ []) (1f ∷ []) (nat 7 ∷ []) 0 0 [] (1f ∷ []) ≡ refused_by WindowOrNode nan (nat 7 ∷ [])
  unfolding open_ambient told refused_by
  no_window = refl

  wide_window : told (1f ∷ []) (1f ∷ []) (nat 7 ∷ []) 1025 0 [] (1f ∷ []) ≡ refused_by WindowOrNode nan (nat 7 ∷ [])
  unfolding open_ambient told refused_by
  wide_window = refl

  no_node : told (1f ∷ []) (1f ∷ []) (nat 7 ∷ []) 1024 1 [] (1f ∷ []) ≡ refused_by WindowOrNode nan (nat 7 ∷ [])
  unfolding open_ambient told refused_by
  no_node = refl

  no_records : told (1f ∷ []) (1f ∷ []) (nat 7 ∷ []) 1024 0 [] [] ≡ refused_by RecordCount nan (nat 7 ∷ [])
  unfolding open_ambient told refused_by
  no_records = refl

  uneven : told (1f ∷ []) (1f ∷ []) (nat 7 ∷ []) 1024 0 (nan ∷ []) (1f ∷ 1f ∷ []) ≡ refused_by RecordCount nan (nat 7 ∷ [])
  unfolding open_ambient told refused_by
  uneven = refl

  no_places : told (1f ∷ []) (1f ∷ []) (nat 7 ∷ []) 1024 0 (nan ∷ []) (1f ∷ []) ≡ refused_by ResultsLength nan (nat 7 ∷ [])
  unfolding open_ambient told refused_by
  no_places = refl

-- the matrix before all: no rows
no_rows : ambient (forward (csr 0 (0 ∷ []) [] []) none) (log_of [] []) [] [] 0 0 (nat 7 ∷ []) [] (results [] [] []) ≡ logging (Refusal (refusal RowStartsLength (nat 1)) 0) (nat 7 ∷ []) [] [] [] []
unfolding open_ambient
no_rows = refl
