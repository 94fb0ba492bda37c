-- `phi_action::acted` meets its contract. Assumes nothing.
use mathlib.Core.Path.{refl, sym, ap, ◌∙◌}
use lib.ListN.{length}
use Rattle.lists.proofs.Window.{length_splice}
use Rattle.checks.proofs.First.{passed_on, ok_first}
use Rattle.phi_combination.proofs.Calls.{known_action, allowed_action, runs_action, field_fits, refused_action, acted_is}
use Rattle.phi_action.proofs.acted.Goals as goal

pub returns-in_err-j : goal.returns-in_err-j
returns-in_err-j c gs sound =
    rw (passed_on c.from_residual.ensures.1)
    (let a = c.args in
    refused_action a.mass.now c.requires gs sound a.tau a.cap a.k a.v.now a.out.now a.work.now c.admit_action.ensures c.in_err-j.was)

pub init_aug_vector-requires : goal.init_aug_vector-requires
init_aug_vector-requires c =
    let a = c.args in
    let h = known_action a.g a.tau a.cap a.k a.v.now _ _ _ (sym c.admit_action.ensures ∙ c.in_ok-j.was) in
    let fits = field_fits (allowed_action a.mass.now c.requires a.tau a.cap {work = a.work.now} a.v.now h refl refl) in
    (h.whole, fits, h.index)

pub run_job-requires : goal.run_job-requires
run_job-requires c =
    let a = c.args in
    let h = known_action a.g a.tau a.cap a.k a.v.now _ _ _ (sym c.admit_action.ensures ∙ c.in_ok-j.was) in
    let r = runs_action a.mass.now c.requires a.tau a.cap a.v.now h (sym (ok_first _ _ (sym c.admit_action.ensures ∙ c.in_ok-j.was)).1) (ap length c.init_aug_vector.ensures ∙ length_splice 0 _ a.work.now) in record { allowed = r.0; coupled = r.1 }

pub returns : goal.returns
returns c gs sound =
    let a = c.args in
    acted_is a.mass.now c.requires gs sound a.tau a.cap a.k a.v.now a.out.now a.work.now c.admit_action.ensures c.in_ok-j.was c.init_aug_vector.ensures c.run_job.ensures
