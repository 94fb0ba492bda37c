-- `csr_matvec::apply_generator` meets its contract: each way is the loop for where the values lie. Assumes nothing.
use borrow.Author.Rules.{rules}
use Rattle.csr_matvec.proofs.Values.{values_stored, values_given, stored_where}
use Rattle.csr_matvec.proofs.apply_generator.Goals as goal

pub quotients_in-requires : goal.quotients_in-requires
quotients_in-requires c =
    let q = stored_where _ _ _ _ _ _ c.if-with_mass.true c.requires.stored in
    record { valid = rw (values_stored _ _ _ _ c.if-with_mass.true) at c.requires.valid; count_in_bounds = (q.0, c.requires.n_in_bounds.0, c.requires.n_in_bounds.1); disjoint = q.1; apart = c.requires.apart }

pub matvec_in-requires : goal.matvec_in-requires
matvec_in-requires c =
    record { valid = rw (values_given _ _ _ _ c.if-with_mass.false) at c.requires.valid; n_in_bounds = c.requires.n_in_bounds.0; n_in_bounds_2 = c.requires.n_in_bounds.1; apart = c.requires.apart }

pub returns-then-with_mass : goal.returns-then-with_mass
returns-then-with_mass c = rw (values_stored _ _ _ _ c.if-with_mass.true) c.quotients_in.ensures

pub returns-else-with_mass : goal.returns-else-with_mass
returns-else-with_mass c = rw (values_given _ _ _ _ c.if-with_mass.false) c.matvec_in.ensures
