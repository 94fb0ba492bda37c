-- `ambient_turns::results_of` meets its contract. Assumes nothing.
use mathlib.Core.Path.{refl}
use Rattle.ambient_turns.specs.Inner.{results_of}
use Rattle.ambient_turns.proofs.results_of.Goals as goal

pub returns-in-Refusal : goal.returns-in-Refusal
unfolding results_of
returns-in-Refusal c = rw c.in-Refusal.is c.records_before.ensures

pub returns-in-NotANumber : goal.returns-in-NotANumber
unfolding results_of
returns-in-NotANumber c = rw c.in-NotANumber.is c.records_before-in-NotANumber.ensures

pub returns-in-Logged : goal.returns-in-Logged
unfolding results_of
returns-in-Logged c = rw c.in-Logged.is refl
