-- `phi_action_helpers::chain_in` meets its contract. Assumes nothing.
use native.Mathlib.Omega.{arith}
use Prim.Native.Nat.{◌+◌, ◌≤◌}
use mathlib.Core.Path.{◌∙◌}
use lib.ListN.{length}
use lib.Ieee.{nan}
use Rattle.lists.proofs.Window.{part_window, length_window}
use Rattle.lists.proofs.Loop.{started, turned, finished, read_window}
use Rattle.phi_action_helpers.specs.Augmented.{bottom}
use Rattle.phi_action_helpers.proofs.Augmented.{chain_reads}
use Rattle.phi_action_helpers.proofs.chain_in.Goals as goal

pub loop-i-init : goal.loop-i-init
loop-i-init c = (omega arith, started _ _ _)

pub chain_term-v-requires : goal.chain_term-v-requires
chain_term-v-requires c =
    let a = c.args in
    let fits : a.c + a.d ≤ length c.loop-i.work = omega arith in
    rw (part_window, length_window) (omega arith)

pub loop-i-preserved : goal.loop-i-preserved
loop-i-preserved c =
    let a = c.args in
    let i = c.loop-i.i in
    let filled = c.loop-i.invariant.1 in
    let fits : a.c + a.d ≤ length c.loop-i.work = omega arith in (
      omega arith,
      turned filled
          (c.chain_term-v.ensures
          ∙ rw (part_window, length_window)
          (chain_reads a.k a.d _ _ i (read_window filled a.d i nan (omega arith) (omega arith)) (λ h. read_window filled a.d (i + 1) nan (omega arith) h))),
    )

pub returns : goal.returns
unfolding bottom
returns c = finished c.loop-i.invariant.1 _ (omega arith) (omega arith)
