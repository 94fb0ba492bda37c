-- `krylov_run::run_expv` meets its contract. Assumes nothing.
use Rattle.krylov_job.proofs.Runs.{store_fits, room, run_is, spared}
use Rattle.krylov_run.proofs.run_expv.Goals as goal

pub store_quotients-requires : goal.store_quotients-requires
store_quotients-requires c =
    record { valid = c.requires.passed.valid; divided = c.requires.passed.divided; vals_in_bounds = store_fits c.args.vectors.now c.args.work.now c.requires c.layout-l.ensures }

pub expv-requires : goal.expv-requires
expv-requires c =
    let e = c.layout-l.ensures in
    record { room = room c.args.vectors.now c.args.work.now c.requires e c.store_quotients.ensures; m_bound = (c.requires.small, c.requires.limited, rw e c.requires.clamped) }

pub returns : goal.returns
returns c =
    let e = c.layout-l.ensures in
    let w = c.args.work.now in
    let v = c.args.vectors.now in
    record { work_after = run_is v w c.requires e c.store_quotients.ensures c.expv.ensures.kept _ c.expv.ensures.work_after; work_unchanged = spared v w c.requires e c.store_quotients.ensures c.expv.ensures.kept }
