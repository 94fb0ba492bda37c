-- `taylor_job::swept_out` meets its contract. Assumes nothing.
use native.Mathlib.Omega.{arith}
use Prim.Native.Nat.{◌+◌}
use mathlib.Core.Path.{sym, ap, ◌∙◌}
use mathlib.Core.List.{List}
use lib.Ieee.{Float}
use Rattle.lists.specs.Window.{window, splice}
use Rattle.lists.proofs.Window.{window_window}
use Rattle.phi_action_helpers.specs.Sweeps.{Swept}
use Rattle.taylor_job.specs.Calls.{swept_fields}
use Rattle.taylor_job.proofs.swept_out.Goals as goal

pub run_sweeps-applied-requires : goal.run_sweeps-applied-requires
run_sweeps-applied-requires c = record { ready = c.requires.ready; lined = (c.requires.lined.0, c.requires.lined.1) }

pub copy_from-requires : goal.copy_from-requires
copy_from-requires c =
    record { len_in_bounds = c.requires.lined.2; len_in_bounds_2 = omega (arith, c.requires.ready.av_in, c.run_sweeps-applied.ensures.kept.long) }

pub returns : goal.returns
unfolding swept_fields
returns c =
    let a = c.args in
    let e = c.run_sweeps-applied.ensures in
    let n = a.x.o.l.n in
    let field = sym (window_window 0 (n + a.x.o.l.d) 0 n _ (omega arith)) ∙ ap (λ (r : Swept). window 0 n r.y) e.work_after in
    record { value = ap (λ (r : Swept). r.applied) e.work_after; out_after = c.copy_from.ensures ∙ ap (λ (vs : List Float). splice a.place vs a.out.now) field; kept = e.kept }
