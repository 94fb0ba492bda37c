-- `phi_action_helpers::aug_matvec` meets its contract. Assumes nothing.
use native.Mathlib.Omega.{arith}
use lib.ListN.{length-take, length-drop}
use Rattle.lists.proofs.Window.{part_window}
use Rattle.csr_matvec.proofs.Values.{not_scaled}
use Rattle.phi_action_helpers.specs.Laid.{operator_in}
use Rattle.lists.proofs.Bounds.{part_apart}
use Rattle.phi_action_helpers.proofs.Augmented.{product}
use Rattle.phi_action_helpers.proofs.aug_matvec.Goals as goal

pub apply_generator-requires : goal.apply_generator-requires
apply_generator-requires c =
    let p = c.requires in
    record { valid = p.valid; n_in_bounds = (omega arith, omega arith); apart = part_apart _ _ _ _ _ _ p.apart (omega arith) (omega arith); stored = p.stored }

pub scalars-sc-requires : goal.scalars-sc-requires
scalars-sc-requires c = (omega arith, simp (length-take, length-drop) (omega arith))

pub top_in-requires : goal.top_in-requires
top_in-requires c =
    let p = c.requires in
    record { count_bound = (p.few, p.columns); n_in_bounds = (omega arith, omega arith); apart = (λ h. p.apart (omega arith)) }

pub returns : goal.returns
returns c =
    let a = c.args in
    product (operator_in a.o a.work.now) a.k _ _ _ a.work.now _ _ _ c.requires.w_in c.requires.av_in c.requires.apart
    (rw not_scaled at c.apply_generator.ensures)
    (rw part_window at c.scalars-sc.ensures)
    c.top_in.ensures
    c.chain_in.ensures
