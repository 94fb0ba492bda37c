-- `phi_action_helpers::generator_terms_in` meets its contract. Assumes nothing.
use native.Mathlib.Omega.{arith}
use mathlib.Core.Path.{◌∙◌}
use lib.Ieee.{nan}
use Rattle.lists.proofs.Loop.{started, turned, finished, read_here, read_apart}
use Rattle.phi_action_helpers.proofs.generator_terms_in.Goals as goal

pub loop-i-init : goal.loop-i-init
loop-i-init c = (omega arith, started _ _ _)

pub loop-i-preserved : goal.loop-i-preserved
loop-i-preserved c =
    let a = c.args in
    let inv = c.loop-i.invariant in
    let here = read_here inv.1 nan in
    let there = read_apart inv.1 a.av a.n c.loop-i.i nan c.requires.apart inv.0 (omega arith) in
    (omega arith, turned inv.1 (c.generator_term.ensures ∙ rw (here, there)))

pub returns : goal.returns
returns c = finished c.loop-i.invariant.1 _ (omega arith) (omega arith)
