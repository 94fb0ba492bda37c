-- `taylor_terms::single_term_in` meets its contract. Assumes nothing.
use borrow.Author.Rules.{rules}
use native.Mathlib.Omega.{arith}
use lib.ListN.{length-take, length-drop}
use Rattle.lists.proofs.Bounds.{part_apart}
use Rattle.lists.proofs.Window.{part_window}
use Rattle.csr_matvec.proofs.Values.{not_scaled}
use Rattle.phi_action_helpers.specs.Laid.{operator_in}
use Rattle.phi_action_helpers.proofs.SingleTerm.{single_term}
use Rattle.taylor_terms.proofs.single_term_in.Goals as goal

pub apply_generator-requires : goal.apply_generator-requires
apply_generator-requires c =
    let p = c.requires.ready in
    record { valid = p.valid; n_in_bounds = (omega arith, omega arith); apart = part_apart _ _ _ _ _ _ p.apart (omega arith) (omega arith); stored = p.stored }

pub scalars-sc-requires : goal.scalars-sc-requires
scalars-sc-requires c = (omega arith, simp (length-take, length-drop) (omega arith))

pub term_rows_in-requires : goal.term_rows_in-requires
term_rows_in-requires c = record { n_in_bounds = c.requires.ready.columns 0 (omega arith); n_le_w = (omega arith, omega arith, omega arith) }

pub add_in-requires : goal.add_in-requires
add_in-requires c =
    let first = c.requires.lined.0.field_first in
    record { len_in_bounds = (omega arith, omega arith); apart = (λ h. omega (arith, first)) }

pub returns : goal.returns
returns c =
    let a = c.args in
    let p = c.requires in
    single_term (operator_in a.o a.work.now) a.k a.o.l.w a.o.l.av _ a.work.now _ _ _ _ p.lined.0.field_first p.lined.0.then_term p.ready.av_in p.lined.1
    (rw not_scaled at c.apply_generator.ensures)
    (rw part_window at c.scalars-sc.ensures)
    c.term_rows_in.ensures
    c.chain_in.ensures
    c.add_in.ensures
