-- `taylor_terms::term_in` meets its contract. Assumes nothing.
use borrow.Author.Rules.{rules}
use native.Mathlib.Omega.{arith}
use Rattle.taylor_terms.proofs.term_in.Goals as goal

pub single_term_in-requires : goal.single_term_in-requires
single_term_in-requires c = record { ready = c.requires.ready; lined = (c.requires.lined, omega arith) }

pub returns-else-o-eq1 : goal.returns-else-o-eq1
returns-else-o-eq1 c = rw c.aug_matvec.ensures at c.add_in.ensures
