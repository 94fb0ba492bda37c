-- Everything that is claimed of paused runs (document 02, N5). Assumes nothing.
use Rattle.paused_claims.specs.Claim.{PausedClaim}
use Rattle.paused_claims.proofs.Start.{the_start}
use Rattle.paused_claims.proofs.Stays.{step_stays, left_stays}
use Rattle.paused_claims.proofs.Early.{early}
use Rattle.paused_claims.proofs.Steps.{step_done}
use Rattle.paused_claims.proofs.Limit27.{exactly_27}
use Rattle.paused_claims.proofs.Ended.{ended_exactly}
use Rattle.paused_claims.proofs.Alike.{blind, new_tol}
use Rattle.paused_claims.proofs.Undivided.{undivided_run, zero_whole}

pub paused : PausedClaim
paused =
    record {
      starts = the_start;
      zeros = zero_whole;
      runs = λ o j p l. record { stays = left_stays l; early = λ i h. early l i h; step = λ i. step_done l i; at_limit = λ i. exactly_27 l i; ended = ended_exactly l };
      unchanged = λ o j p l. undivided_run l;
      steps = step_stays;
      blind = blind;
      new_tol = new_tol;
    }
