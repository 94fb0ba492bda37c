-- `paused_advance::substep_on` meets its contract. Assumes nothing.
use native.Mathlib.Omega.{arith}
use Rattle.paused_advance.proofs.Steps.{field_fits, fits, room₂, long₃, cleared₃, substep_is}
use Rattle.paused_advance.proofs.substep_on.Goals as goal

pub copy_from-requires : goal.copy_from-requires
copy_from-requires c =
    let a = c.args in
    record { len_in_bounds = field_fits a.vectors.now a.work.now a.field.now c.requires.allowed c.requires.field_len.0 c.layout-l.ensures; len_in_bounds_2 = omega (arith, c.requires.field_len.0) }

pub store_quotients-requires : goal.store_quotients-requires
store_quotients-requires c =
    let a = c.args in
    record { valid = c.requires.allowed.passed.valid; divided = c.requires.allowed.passed.divided; vals_in_bounds = fits a.vectors.now a.work.now a.field.now c.requires.allowed c.requires.field_len.0 c.layout-l.ensures c.copy_from.ensures }

pub substep-progress-requires : goal.substep-progress-requires
substep-progress-requires c =
    let a = c.args in
    record { room = room₂ a.vectors.now a.work.now a.field.now c.requires.allowed c.requires.field_len.0 c.layout-l.ensures c.copy_from.ensures c.store_quotients.ensures a.run.norm; m_bound = (c.requires.allowed.small, c.requires.field_len.2, c.requires.field_len.1, c.requires.field_len.3) }

pub copy_from-requires-2 : goal.copy_from-requires-2
copy_from-requires-2 c =
    let a = c.args in
    record { len_in_bounds = omega (arith, c.requires.field_len.0); len_in_bounds_2 = omega (arith, field_fits a.vectors.now a.work.now a.field.now c.requires.allowed c.requires.field_len.0 c.layout-l.ensures, long₃ a.vectors.now a.work.now a.field.now c.requires.allowed c.requires.field_len.0 c.layout-l.ensures c.copy_from.ensures c.store_quotients.ensures a.run c.substep-progress.ensures.kept c.norm2.ensures) }

pub returns : goal.returns
returns c =
    let a = c.args in
    let v = a.vectors.now in
    let w = a.work.now in
    let y = a.field.now in
    let e = c.layout-l.ensures in
    let kept = c.substep-progress.ensures.kept in
    let i = substep_is v w y c.requires.allowed c.requires.field_len.0 e c.copy_from.ensures c.store_quotients.ensures a.run kept c.norm2.ensures _ c.substep-progress.ensures.work_after c.copy_from-2.ensures in
    record { field_after = i.0; work_unchanged = (cleared₃ v w y c.requires.allowed c.requires.field_len.0 e c.copy_from.ensures c.store_quotients.ensures a.run kept c.norm2.ensures, long₃ v w y c.requires.allowed c.requires.field_len.0 e c.copy_from.ensures c.store_quotients.ensures a.run kept c.norm2.ensures, i.1) }
