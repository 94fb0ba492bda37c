-- `ambient_turns::settle` meets its contract. Assumes nothing.
use mathlib.Core.Path.{sym, ◌∙◌}
use Rattle.ambient_turns.proofs.Turns.{refused_turn, nan_turn, shown_turn}
use Rattle.ambient_turns.proofs.settle.Goals as goal

pub returns-then-is_nan : goal.returns-then-is_nan
returns-then-is_nan c =
    let a = c.args in
    let r = nan_turn a.node a.i a.out.now a.temperatures.now c.in-Ok.is (sym c.if-is_nan.true ∙ c.is_nan.ensures.value) in record { temperatures_after = r.0; i_bound = r.1 }

pub returns-in-Err : goal.returns-in-Err
returns-in-Err c =
    let a = c.args in
    let r = refused_turn a.node a.i a.out.now a.temperatures.now c.in-Err.is in record { temperatures_after = r.0; i_bound = r.1 }

pub returns-else-is_nan : goal.returns-else-is_nan
returns-else-is_nan c =
    let a = c.args in
    let r = shown_turn a.node a.i a.out.now a.temperatures.now c.in-Ok.is (sym c.if-is_nan.false ∙ c.is_nan.ensures.value) c.requires.2 in record { temperatures_after = r.0; i_bound = r.1 }
