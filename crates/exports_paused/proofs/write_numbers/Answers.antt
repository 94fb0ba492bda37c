-- `exports_paused::write_numbers` meets its contract. Assumes nothing.
use borrow.Author.Rules.{rules}
use Rattle.exports_paused.proofs.Slices.{tenth, ten}
use Rattle.exports_paused.proofs.write_numbers.Goals as goal

pub bounds-numbers-4 : goal.bounds-numbers-4
bounds-numbers-4 c = search rules depth 14

pub bounds-numbers-5 : goal.bounds-numbers-5
bounds-numbers-5 c = search rules depth 14

pub bounds-numbers-6 : goal.bounds-numbers-6
bounds-numbers-6 c = search rules depth 14

pub bounds-numbers-7 : goal.bounds-numbers-7
bounds-numbers-7 c = search rules depth 14

pub bounds-numbers-8 : goal.bounds-numbers-8
bounds-numbers-8 c = search rules depth 14

pub bounds-numbers-9 : goal.bounds-numbers-9
bounds-numbers-9 c =
    let a = c.args in
    tenth a.numbers.now a.run.time a.run.next a.run.report.est_error a.run.report.shortest a.run.report.last a.run.eta a.run.factors.down a.run.factors.up a.run.norm c.requires

pub returns : goal.returns
returns c =
    let a = c.args in
    ten a.numbers.now a.run.time a.run.next a.run.report.est_error a.run.report.shortest a.run.report.last a.run.eta a.run.factors.down a.run.factors.up a.run.norm a.run.tol c.requires
