-- `rotation_joins::join` meets its contract. Assumes nothing.
use mathlib.Core.Path.{refl}
use Rattle.checks.proofs.First.{sound_left}
use Rattle.rotation_joins.proofs.Calls.{join_refused, join_served}
use Rattle.rotation_joins.proofs.join.Goals as goal

pub returns-in-Err : goal.returns-in-Err
returns-in-Err c =
    let a = c.args in
    join_refused a.unit a.o _ a.out.now a.work.now a.field.now (c.refused_full-full.ensures a.out.now a.work.now a.field.now refl refl refl) c.in-Err.is

pub returns : goal.returns
returns c =
    let a = c.args in
    join_served a.unit a.o _ a.out.now a.work.now a.field.now (c.refused_full-full.ensures a.out.now a.work.now a.field.now refl refl refl) (sound_left c.in_default.not-Err) c.start-answer.ensures c.admitted.ensures
