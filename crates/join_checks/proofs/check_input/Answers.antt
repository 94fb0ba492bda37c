-- `join_checks::check_input` meets its contract. Assumes nothing.
use mathlib.Core.Option.{none}
use Rattle.generator_action.specs.Mass.{generator_checks, bound_checks}
use Rattle.generator_action.proofs.Answered.{refusal_told, norm_told}
use Rattle.join_rows.specs.Join.{input_checks}
use borrow.Author.Rules.{rules}
use Rattle.checks.proofs.First.{passed_on}
use Rattle.join_checks.proofs.check_input.Goals as goal

pub returns-in_err-check_generator : goal.returns-in_err-check_generator
unfolding input_checks generator_checks bound_checks
returns-in_err-check_generator c =
    rw (passed_on c.from_residual.ensures.1)
    (refusal_told _ none c.check_generator.ensures (c.in_err-check_generator.was))

pub returns : goal.returns
unfolding input_checks generator_checks bound_checks
returns c = (norm_told _ none c.check_generator.ensures c.in_ok-check_generator.was).sound
