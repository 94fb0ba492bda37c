-- `krylov_run::start_in` meets its contract. Assumes nothing.
use mathlib.Core.Path.{ap, sym, ◌∙◌}
use mathlib.Core.List.{List}
use Prim.Native.Nat.{◌+◌}
use lib.Ieee.{Float}
use Rattle.lists.specs.Window.{splice}
use Rattle.lists.proofs.Window.{part_back, length_window, splice_whole}
use Rattle.combination.specs.Combination.{combination_start}
use Rattle.taylor_schedule.proofs.Admitted.{length_start}
use Rattle.krylov_run.proofs.start_in.Goals as goal

pub returns : goal.returns
returns c =
    let a = c.args in
    let p = c.requires in
    let y = combination_start a.n a.w.now a.d a.inv in
    let l = length_window a.at (a.n + a.d) a.work.now p.1 in
    part_back a.at (a.n + a.d) (splice 0 y) _ a.work.now p.1 c.combination_start.auto.work c.combination_start.ensures
    ∙ ap (λ (vs : List Float). splice a.at vs a.work.now) (splice_whole y _ (length_start a.n a.w.now a.d a.inv p.0 ∙ sym l))
