-- `byte_arrays::reported` meets its contract. Assumes nothing.
use borrow.Author.Rules.{rules}
use mathlib.Core.Path.{ap, ◌∙◌}
use Rattle.byte_arrays.specs.Inner.{long_told}
use Rattle.byte_arrays.proofs.reported.Goals as goal

pub returns : goal.returns
returns c =
    let a = c.args in
    let j = a.number in
    c.long_told.ensures ∙ ap (long_told 16 a.v j) (c.long_told-of_output.ensures ∙ ap (long_told 15 a.out j) (c.long_told-of_mass.ensures ∙ ap (long_told 7 a.mass j) c.long_told-of_starts.ensures))
