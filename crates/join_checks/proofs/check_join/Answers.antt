-- `join_checks::check_join` meets its contract. Assumes nothing.
use mathlib.Core.Path.{refl}
use Rattle.checks.proofs.First.{passed_on, refused_up, sound_on}
use Rattle.join_rows.specs.Join.{join_checks}
use Rattle.join_checks.proofs.Result.{input_valid, input_rows, joinable, result_same}
use borrow.Author.Rules.{rules}
use Rattle.join_checks.proofs.check_join.Goals as goal

pub returns-in_err-check_input : goal.returns-in_err-check_input
unfolding join_checks
returns-in_err-check_input c = rw (passed_on c.from_residual.ensures.1) (refused_up _ _ refl c.in_err-check_input.ensures)

pub returns-in_err-check_input-2 : goal.returns-in_err-check_input-2
unfolding join_checks
returns-in_err-check_input-2 c =
    rw (passed_on c.from_residual-in_err-check_input-2.ensures.1)
    (sound_on _ _ refl c.in_ok-check_input.ensures (refused_up _ _ refl c.in_err-check_input-2.ensures))

pub check_pair-requires : goal.check_pair-requires
check_pair-requires c =
    record { rows = input_rows (input_valid _ c.in_ok-check_input.ensures); rows_2 = input_rows (input_valid _ c.in_ok-check_input-2.ensures) }

pub returns-in_err-check_pair : goal.returns-in_err-check_pair
unfolding join_checks
returns-in_err-check_pair c =
    rw (passed_on c.from_residual-in_err-check_pair.ensures.1)
    (sound_on _ _ refl c.in_ok-check_input.ensures (sound_on _ _ refl c.in_ok-check_input-2.ensures (refused_up _ _ refl (c.in_err-check_pair.ensures _ _))))

pub check_result-requires : goal.check_result-requires
check_result-requires c = joinable _ _ _ _ _ _ _ _ (input_valid _ c.in_ok-check_input.ensures) (input_valid _ c.in_ok-check_input-2.ensures) (c.in_ok-check_pair.ensures _ _)

pub returns : goal.returns
unfolding join_checks
returns c =
    let e = c.in_ok-check_pair.ensures in
    sound_on _ _ refl c.in_ok-check_input.ensures
    (sound_on _ _ refl c.in_ok-check_input-2.ensures
    (sound_on _ _ refl (e _ _) (result_same _ _ _ _ _ _ _ _ _ (e _ _) c.check_result.ensures)))
