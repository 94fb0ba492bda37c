-- `exports_ambient::ambient_told` meets its contract. Assumes nothing.
use mathlib.Core.Path.{ap, sym, ◌∙◌}
use lib.Ieee.{Float}
use Rattle.exports_ambient.specs.Told.{ambient_numbers, ambient_told}
use Rattle.exports_ambient.proofs.ambient_told.Goals as goal

pub returns-in-Refusal : goal.returns-in-Refusal
unfolding ambient_told
returns-in-Refusal c = rw c.number.ensures (sym (ap ambient_told c.in-Refusal.is))

pub returns-in-NotANumber : goal.returns-in-NotANumber
unfolding ambient_told
returns-in-NotANumber c =
    ap (λ (x : Float). ambient_numbers 0 x c.in-NotANumber.i) c.not_a_number.ensures ∙ sym (ap ambient_told c.in-NotANumber.is)

pub returns-in-Logged : goal.returns-in-Logged
unfolding ambient_told
returns-in-Logged c = sym (ap ambient_told c.in-Logged.is)
