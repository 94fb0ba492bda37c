-- `join_checks::check_result` meets its contract. Assumes nothing.
use mathlib.Core.Path.{sym, ◌∙◌}
use borrow.Author.Tests.{lt-ltb, le-ltb}
use Rattle.checks.proofs.First.{passes, stops}
use Rattle.join_rows.specs.Join.{result_checks}
use Rattle.join_checks.proofs.Result.{short_is, many_is}
use borrow.Author.Rules.{rules}
use Rattle.join_checks.proofs.check_result.Goals as goal
use Rattle.checks.specs.declared.Reason.TheVariants.{MatrixTooLarge, JoinLength}

pub returns-then-short : goal.returns-then-short
unfolding result_checks
returns-then-short c =
    stops _ (sym (short_is _ _ _ (c.count_entries-entries.ensures _ _)) ∙ sym c.is_short-short.ensures ∙ c.if-short.true) c.not_a_number.ensures

pub returns-then-entries-gt16777216 : goal.returns-then-entries-gt16777216
unfolding result_checks
returns-then-entries-gt16777216 c =
    passes JoinLength _ _ (sym (short_is _ _ _ (c.count_entries-entries.ensures _ _)) ∙ sym c.is_short-short.ensures ∙ c.if-short.false)
    (stops _ (sym (many_is _ _ (c.count_entries-entries.ensures _ _)) ∙ lt-ltb _ _ c.if-entries-gt16777216.true) c.not_a_number-then-entries-gt16777216.ensures)

pub returns : goal.returns
unfolding result_checks
returns c =
    passes JoinLength _ _ (sym (short_is _ _ _ (c.count_entries-entries.ensures _ _)) ∙ sym c.is_short-short.ensures ∙ c.if-short.false)
    (passes MatrixTooLarge _ _ (sym (many_is _ _ (c.count_entries-entries.ensures _ _)) ∙ le-ltb _ _ c.if-entries-gt16777216.false) c.check_values.ensures)
