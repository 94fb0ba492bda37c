-- `taylor_terms::add_in` meets its contract. Assumes nothing.
use native.Mathlib.Omega.{arith}
use Prim.Native.Nat.{◌-◌}
use mathlib.Core.Path.{◌∙◌}
use lib.Ieee.{nan}
use Rattle.lists.proofs.Loop.{started, turned, finished, read_here, read_apart, zip_with_windows}
use Rattle.doubles.specs.F64.{◌⊕◌}
use Rattle.taylor_terms.proofs.add_in.Goals as goal

pub loop-i-init : goal.loop-i-init
loop-i-init c = (omega arith, started _ _ _)

pub loop-i-preserved : goal.loop-i-preserved
loop-i-preserved c =
    let inv = c.loop-i.invariant in
    let there = read_apart inv.1 c.args.w c.args.len c.loop-i.i nan c.requires.apart inv.0 (omega arith) in
    (omega arith, turned inv.1 (λ j. read_here inv.1 nan j ⊕ there j))

pub returns : goal.returns
returns c =
    let a = c.args in
    finished c.loop-i.invariant.1 a.len (omega arith) (omega arith)
    ∙ rw (zip_with_windows ◌⊕◌ a.y a.w a.len a.work.now a.work.now nan (omega arith) (omega arith))
