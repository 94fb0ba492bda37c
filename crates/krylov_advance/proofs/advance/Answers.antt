-- `krylov_advance::advance` meets its contract. Assumes nothing.
use native.Mathlib.Omega.{arith}
use mathlib.Core.Path.{ap, sym, ◌∙◌}
use lib.ListN.{length}
use Rattle.lists.proofs.Window.{length_splice, part_window}
use Rattle.gram_schmidt.specs.Basis.{norm2}
use Rattle.gram_schmidt.specs.Memory.{setting_at}
use Rattle.krylov_advance.proofs.Steps.{step_kept, goes_on, comes_to_end}
use Rattle.krylov_advance.proofs.advance.Goals as goal

pub combine_columns-requires : goal.combine_columns-requires
combine_columns-requires c = let p = c.requires.count_bound in (p.0, p.1, p.3, p.4)

pub counted-report-requires : goal.counted-report-requires
counted-report-requires c = c.requires.matvecs_bound

pub shape_of-work-then-unfinished : goal.shape_of-work-then-unfinished
shape_of-work-then-unfinished c = ap length c.combine_columns.ensures ∙ length_splice _ _ _

pub returns-then-unfinished : goal.returns-then-unfinished
returns-then-unfinished c =
    let a = c.args in
    let p = c.requires.count_bound in
    let e = c.combine_columns.ensures in
    record { work_after = λ b q vectors. goes_on a.l a.k a.c a.r a.applied a.s a.trial.f a.work.now c.combine_columns.new.work (omega (arith, p.0, p.4)) p.1 p.3 e (setting_at a.l b a.k q vectors) _ _ _ c.next_length.ensures (c.norm2.ensures ∙ ap norm2 (part_window _ _ _)) c.max-err.ensures c.counted-report.ensures (sym (c.unfinished.ensures _ _) ∙ c.if-unfinished.true); kept = step_kept a.l a.k a.c a.r a.applied a.s a.trial.f a.work.now c.combine_columns.new.work (omega (arith, p.0, p.4)) p.1 p.3 e a.l.q p.2 }

pub shape_of-work-else-unfinished : goal.shape_of-work-else-unfinished
shape_of-work-else-unfinished c = ap length c.combine_columns.ensures ∙ length_splice _ _ _

pub returns-else-unfinished : goal.returns-else-unfinished
returns-else-unfinished c =
    let a = c.args in
    let p = c.requires.count_bound in
    let e = c.combine_columns.ensures in
    record { work_after = λ b q vectors. comes_to_end a.l a.k a.c a.r a.applied a.s a.trial.f a.work.now c.combine_columns.new.work (omega (arith, p.0, p.4)) p.1 p.3 e (setting_at a.l b a.k q vectors) _ _ _ c.next_length.ensures (c.norm2.ensures ∙ ap norm2 (part_window _ _ _)) c.max-err.ensures c.counted-report.ensures (sym (c.unfinished.ensures _ _) ∙ c.if-unfinished.false); kept = step_kept a.l a.k a.c a.r a.applied a.s a.trial.f a.work.now c.combine_columns.new.work (omega (arith, p.0, p.4)) p.1 p.3 e a.l.q p.2 }
