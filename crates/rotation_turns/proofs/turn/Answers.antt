-- `rotation_turns::turn` meets its contract. Assumes nothing.
use Rattle.rotation_joins.proofs.Calls.{turn_none, turn_some}
use Rattle.rotation_turns.proofs.turn.Goals as goal

pub returns-then-p-eq16 : goal.returns-then-p-eq16
returns-then-p-eq16 c =
    let a = c.args in
    turn_none a.unit a.field.now (record { tolerance = a.tolerance; job = _; output = a.out.now; memory = a.work.now }) c.next_place-p.ensures c.if-p-eq16.true c.not_a_number.ensures c.vacant.ensures

pub returns : goal.returns
returns c =
    let a = c.args in
    turn_some a.unit a.field.now (record { tolerance = a.tolerance; job = _; output = a.out.now; memory = a.work.now }) c.next_place-p.ensures c.if-p-eq16.false c.run_at-run.ensures c.step-answer.ensures c.run_left-left.ensures c.passed_on.ensures
