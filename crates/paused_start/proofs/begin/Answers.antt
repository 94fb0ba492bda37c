-- `paused_start::begin` meets its contract. Assumes nothing.
use native.Mathlib.Omega.{arith}
use mathlib.Core.Path.{sym, ap, ◌∙◌}
use lib.ListN.{length}
use Rattle.vectors.proofs.Laws.{length_scale}
use Rattle.taylor_schedule.proofs.Admitted.{length_start}
use Rattle.paused_start.proofs.Starts.{long, begun_idle, begun_first}
use Rattle.paused_start.proofs.begin.Goals as goal

pub shape_of-field-in_default : goal.shape_of-field-in_default
shape_of-field-in_default c =
    let a = c.args in
    let ly = length_start a.j.g.n a.w.now a.j.d a.j.eta.inv c.requires.d_bound.3 ∙ sym c.requires.out_len.1 in
    long a.o a.j _ a.work.now a.out.now a.field.now ly c.requires.out_len.0 (omega (arith, c.requires.out_len.1)) c.combination_start.ensures c.clear_in.ensures c.pow2_scale.ensures

pub returns-in_default : goal.returns-in_default
returns-in_default c =
    let a = c.args in
    let ly = length_start a.j.g.n a.w.now a.j.d a.j.eta.inv c.requires.d_bound.3 ∙ sym c.requires.out_len.1 in
    begun_idle a.o a.j _ a.work.now a.out.now a.field.now ly c.requires.out_len.0 (omega (arith, c.requires.out_len.1)) c.combination_start.ensures c.clear_in.ensures c.pow2_scale.ensures c.in_default.is c.copy_from.ensures c.fresh.ensures

pub shape_of-field : goal.shape_of-field
shape_of-field c =
    let a = c.args in
    let ly = length_start a.j.g.n a.w.now a.j.d a.j.eta.inv c.requires.d_bound.3 ∙ sym c.requires.out_len.1 in
    ap length c.first_run.ensures.field_after ∙ length_scale _ _ ∙ long a.o a.j _ a.work.now a.out.now a.field.now ly c.requires.out_len.0 (omega (arith, c.requires.out_len.1)) c.combination_start.ensures c.clear_in.ensures c.pow2_scale.ensures

pub returns : goal.returns
returns c =
    let a = c.args in
    let ly = length_start a.j.g.n a.w.now a.j.d a.j.eta.inv c.requires.d_bound.3 ∙ sym c.requires.out_len.1 in
    let r = c.first_run.ensures in
    begun_first a.o a.j _ a.work.now a.out.now a.field.now ly c.requires.out_len.0 (omega (arith, c.requires.out_len.1)) c.combination_start.ensures c.clear_in.ensures c.pow2_scale.ensures _ c.in-Some.is r.value r.field_after r.out_after
