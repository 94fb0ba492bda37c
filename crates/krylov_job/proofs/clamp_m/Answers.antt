-- `krylov_job::clamp_m` meets its contract. Assumes nothing.
use mathlib.Core.Path.{ap, ◌∙◌}
use Prim.Native.Nat.{ℕ, min, max}
use Rattle.krylov_job.proofs.Places.{clamp_is}
use Rattle.krylov_job.proofs.clamp_m.Goals as goal

pub returns : goal.returns
returns c =
    let a = c.args in
    c.clamp.ensures ∙ ap (λ (high : ℕ). max 2 (min a.m high)) c.max.ensures ∙ clamp_is a.m a.len
