-- `exports_paused::write_counts` meets its contract. Assumes nothing.
use borrow.Author.Rules.{rules}
use mathlib.Core.Path.{refl, ◌∙◌}
use Rattle.exports_paused.proofs.Slices.{eight}
use Rattle.exports_paused.proofs.write_counts.Goals as goal

pub bounds-counts-4 : goal.bounds-counts-4
bounds-counts-4 c = search rules depth 14

pub bounds-counts-5 : goal.bounds-counts-5
bounds-counts-5 c = search rules depth 14

pub bounds-counts-6 : goal.bounds-counts-6
bounds-counts-6 c = search rules depth 14

pub bounds-counts-7 : goal.bounds-counts-7
bounds-counts-7 c = search rules depth 14

pub returns : goal.returns
returns c =
    let r = c.args.run in
    eight c.args.counts.now r.report.matvecs r.report.substeps r.report.rejected r.m r.limit r.n r.count c.flag.result c.requires ∙ rw c.flag.ensures refl
