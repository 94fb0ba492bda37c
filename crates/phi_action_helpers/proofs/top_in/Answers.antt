-- `phi_action_helpers::top_in` meets its contract. Assumes nothing.
use native.Mathlib.Omega.{arith}
use Prim.Native.Nat.{◌+◌}
use lib.Ieee.{nan}
use Rattle.lists.proofs.Loop.{passed}
use Rattle.doubles.specs.F64.{at}
use Rattle.phi_action_helpers.specs.Augmented.{coupled, generator_term}
use Rattle.phi_action_helpers.proofs.top_in.Goals as goal

pub columns_in-requires : goal.columns_in-requires
columns_in-requires c = record { count_bound = c.requires.count_bound; n_in_bounds = omega (arith, c.generator_terms_in.auto.work) }

pub returns : goal.returns
returns c =
    let a = c.args in
    passed a.o.l.w a.o.l.n (λ i. generator_term a.k (at a.work.now (a.o.l.av + i)) (at a.work.now (a.o.l.w + i))) (λ i x. coupled a.o.vectors.now a.o.b.places a.o.b.count a.sc i x) a.work.now nan (omega arith) c.generator_terms_in.ensures c.columns_in.ensures
