-- A whole call: the answer, and what the output and the working memory hold at the end. Definitions only.
use Rattle.std.specs.Prelude.{List, ℕ, replicate, Float}
use Rattle.lists.specs.Window.{splice}
use Rattle.doubles.specs.F64.{+0}
use Rattle.checks.specs.First.{Checked}
use Rattle.checks.specs.declared.Reason.{Reason}
use Rattle.std.specs.Prelude.{Ok, Err}

pub record Call (A : Type 0) : Type 0 where
  pub answer : A
  pub output : List Float
  pub memory : List Float

abbrev pub ends : {A : Type 0} → A → List Float → List Float → Call A
ends a output memory = record { answer = a; output = output; memory = memory }

-- refusals by a check (1 to 26 and 33) change no lent memory
unfoldable pub unless_refused : {A : Type 0} → (Reason → Float → A) → Checked → List Float → List Float → Call A → Call A
unless_refused refusal (Err r) output memory c = ends (refusal r.reason r.value) output memory
unless_refused refusal (Ok _) output memory c = c

-- the needed length of the memory holds +0, the rest is unchanged
unfoldable pub cleared : ℕ → List Float → List Float
cleared need memory = splice 0 (replicate need +0) memory

-- to compute
unfoldable pub open_call : Unit {0}
unfolding unless_refused cleared
open_call = tt
