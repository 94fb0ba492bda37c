-- `phi_batch::acted_batched` meets its contract. Assumes nothing.
use native.Mathlib.Omega.{arith}
use native.Mathlib.Numerals.{add-one}
use Prim.Native.Nat.{◌+◌}
use mathlib.Core.Path.{refl, sym, ◌∙◌}
use Rattle.lists.proofs.Bounds.{product_within}
use Rattle.checks.proofs.First.{passed_on, ok_first}
use Rattle.taylor_schedule.proofs.Admitted.{index_known}
use Rattle.phi_combination.proofs.Calls.{known_action, runs_batch, refused_index, refused_batch, batch_is}
use Rattle.phi_batch.proofs.acted_batched.Goals as goal

pub returns-in_err-check_index : goal.returns-in_err-check_index
returns-in_err-check_index c gs sound =
    rw (passed_on c.from_residual.ensures.1)
    (let a = c.args in
    refused_index a.mass.now c.requires gs sound a.tau a.cap a.p a.v.now a.out.now a.work.now c.in_err-check_index.was c.check_index.ensures)

pub overflow_add-count : goal.overflow_add-count
overflow_add-count c = omega (arith, index_known c.args.p c.in_ok-check_index.was c.check_index.ensures)

pub overflow_mul-count : goal.overflow_mul-count
overflow_mul-count c =
    let k = index_known c.args.p c.in_ok-check_index.was c.check_index.ensures in
    omega (arith, product_within {a = c.args.p + 1} 4 1000000 (omega (arith, k)) c.requires.valid.few)

pub returns-in_err-j : goal.returns-in_err-j
returns-in_err-j c gs sound =
    rw (passed_on c.from_residual-in_err-j.ensures.1)
    (let a = c.args in
    let refusal = c.in_err-j.was in
    refused_batch a.mass.now c.requires gs sound a.tau a.cap a.p a.v.now a.out.now a.work.now _ (add-one a.p) c.admit_action.ensures refusal)

pub run_batch-requires : goal.run_batch-requires
run_batch-requires c =
    let a = c.args in
    let k = index_known a.p c.in_ok-check_index.was c.check_index.ensures in
    let h = known_action a.g a.tau a.cap a.p a.v.now _ _ _ (sym c.admit_action.ensures ∙ c.in_ok-j.was) in
    let r = runs_batch a.mass.now c.requires a.tau a.cap a.v.now h (sym (ok_first _ _ (sym c.admit_action.ensures ∙ c.in_ok-j.was)).1) refl (omega (arith, k)) in record { allowed = r.0; coupled = r.1.0; d_value = r.1.1 }

pub returns : goal.returns
returns c gs sound =
    let a = c.args in
    batch_is a.mass.now c.requires gs sound a.tau a.cap a.p a.v.now a.out.now a.work.now _ (add-one a.p) c.admit_action.ensures c.in_ok-j.was c.run_batch.ensures
