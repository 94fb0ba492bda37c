-- `join_checks::check_pair` meets its contract. Assumes nothing.
use mathlib.Core.Path.{refl, sym, ◌∙◌}
use mathlib.Core.List.{[]}
use Rattle.checks.proofs.First.{passes, stops, ends_sound, not_eq, not_ne}
use Rattle.join_rows.specs.Join.{pair_checks}
use borrow.Author.Rules.{rules}
use Rattle.join_checks.proofs.check_pair.Goals as goal
use Rattle.checks.specs.declared.Reason.TheVariants.{JoinRows, JoinColumnOrder}

pub returns-then-n_a-n_b : goal.returns-then-n_a-n_b
unfolding pair_checks
returns-then-n_a-n_b c = λ u v. stops _ (not_ne c.if-n_a-n_b.true) c.not_a_number.ensures

pub returns-then-is_unordered : goal.returns-then-is_unordered
unfolding pair_checks
returns-then-is_unordered c =
    λ u v. passes JoinRows _ _ (not_eq c.if-n_a-n_b.false) (stops [] (rw (sym (c.is_unordered.ensures u) ∙ c.if-is_unordered.true) refl) c.not_a_number-then-is_unordered.ensures)

pub returns-then-is_unordered-2 : goal.returns-then-is_unordered-2
unfolding pair_checks
returns-then-is_unordered-2 c =
    λ u v. passes JoinRows _ _ (not_eq c.if-n_a-n_b.false)
    (stops [] (rw (sym (c.is_unordered.ensures u) ∙ c.if-is_unordered.false, sym (c.is_unordered-2.ensures v) ∙ c.if-is_unordered-2.true) refl) c.not_a_number-then-is_unordered-2.ensures)

pub returns : goal.returns
unfolding pair_checks
returns c =
    λ u v. passes JoinRows _ _ (not_eq c.if-n_a-n_b.false)
    (passes JoinColumnOrder _ _ (rw (sym (c.is_unordered.ensures u) ∙ c.if-is_unordered.false, sym (c.is_unordered-2.ensures v) ∙ c.if-is_unordered-2.false) refl) ends_sound)
