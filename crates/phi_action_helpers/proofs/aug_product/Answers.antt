-- `phi_action_helpers::aug_product` meets its contract. Assumes nothing.
use native.Mathlib.Omega.{arith}
use Rattle.lists.proofs.Window.{part_window}
use Rattle.csr_matvec.proofs.Values.{stored_behind}
use Rattle.phi_action_helpers.specs.Laid.{operator_in}
use Rattle.phi_action_helpers.proofs.Augmented.{straight}
use Rattle.phi_action_helpers.proofs.aug_product.Goals as goal

pub apply_generator-requires : goal.apply_generator-requires
apply_generator-requires c =
    let l = c.args.o.l in
    let p = c.requires.ready in
    record { valid = p.valid; n_in_bounds = (omega arith, omega arith); apart = (λ h. omega arith); stored = stored_behind l.mass l.q _ l.av l.w l.n _ (omega arith) p.stored }

pub returns : goal.returns
returns c =
    let a = c.args in
    straight (operator_in a.o a.work.now) a.k _ _ _ a.work.now _ _ _ _ c.requires.d_bound.0 c.requires.ready.w_in c.requires.d_bound.2
    c.apply_generator.ensures
    c.copy_in.ensures
    (rw part_window at c.scalars-sc.ensures)
    c.columns_in.ensures
    c.chain_in.ensures
