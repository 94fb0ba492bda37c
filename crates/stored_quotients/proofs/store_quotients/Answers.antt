-- `stored_quotients::store_quotients` meets its contract. Assumes nothing.
use borrow.Author.Rules.{rules}
use mathlib.Core.Path.{sym}
use Rattle.lists.proofs.Window.{splice_nil}
use Rattle.generator_action.specs.Mass.{stored}
use Rattle.generator_action.proofs.Answered.{given_divides}
use Rattle.stored_quotients.proofs.store_quotients.Goals as goal

pub normalise_rows-requires : goal.normalise_rows-requires
normalise_rows-requires c =
    let p = c.requires in
    let t = c.if-with_mass.true in
    let d = given_divides _ _ _ t p.divided in
    record { valid = p.valid; starts_value = (d.from_0, d.long, p.vals_in_bounds t) }

pub returns-then-with_mass : goal.returns-then-with_mass
unfolding stored
returns-then-with_mass c = rw c.if-with_mass.true c.normalise_rows.ensures

pub returns-else-with_mass : goal.returns-else-with_mass
unfolding stored
returns-else-with_mass c = rw c.if-with_mass.false (sym (splice_nil _ _))
