-- `krylov_run::run_job` meets its contract. Assumes nothing.
use native.Mathlib.Omega.{arith}
use Rattle.krylov_job.proofs.Calls.{field_needed}
use Rattle.krylov_job.proofs.Runs.{done}
use Rattle.krylov_run.proofs.run_job.Goals as goal

pub hand_out-requires : goal.hand_out-requires
hand_out-requires c =
    (omega (arith, c.requires.out_len), omega (arith, field_needed c.requires.allowed, c.requires.allowed.enough), omega (arith, c.requires.allowed.enough))

pub returns : goal.returns
returns c =
    done c.args.j _ c.args.work.now c.args.out.now _ _ c.run_expv-end.ensures.work_after c.run_expv-end.ensures.work_unchanged c.hand_out.ensures.out_after c.hand_out.ensures.work_after c.answer_of.ensures c.requires.out_len (omega (arith, field_needed c.requires.allowed, c.requires.allowed.enough))
