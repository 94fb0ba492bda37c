-- Everything that is claimed of several barrels on one unit (document 02, N6). Assumes nothing.
use Rattle.rotation_claims.specs.Claim.{RotationClaim}
use Rattle.rotation_claims.proofs.Order.{queue_claim, sixteen, next, fifteen, to_the_end, some_turn}
use Rattle.rotation_claims.proofs.Admission.{any_unit, admission}
use Rattle.rotation_claims.proofs.Leaves.{any_turn, leaves, holds}
use Rattle.rotation_claims.proofs.Isolation.{alone_claim, left_claim, only_31}
use Rattle.rotation_claims.proofs.Exchanged.{exchanged}
use Rattle.rotation_claims.proofs.Never23.{never_23}

pub rotation_claim : RotationClaim
rotation_claim =
    record {
      alone = alone_claim;
      left = left_claim;
      exchanged = exchanged;
      only_31 = only_31;
      queue = queue_claim;
      sixteen = sixteen;
      next = next;
      fifteen = fifteen;
      to_the_end = to_the_end;
      some_turn = some_turn;
      any_unit = any_unit;
      any_turn = any_turn;
      admission = admission;
      leaves = leaves;
      holds = holds;
      never_23 = never_23;
    }
