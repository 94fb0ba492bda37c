-- `round2::decade` meets its contract. Assumes nothing.
use Rattle.std.proofs.Common.{◌≡◌, ◌-◌, ◌<◌, ◌≤◌, rules}
use Rattle.std.proofs.lemmas.List.Sorted.{IsPartitionPoint-from_clause}
use lib.Ieee.{le}
use Rattle.round2.specs.declared.TheConstants.{TENS}
use Rattle.round2.specs.Rounded.{decade}
use Rattle.round2.proofs.Powers.{parted, decade_found}
use Rattle.round2.proofs.Table.{table_is}
use Rattle.round2.proofs.decade.Goals as goal
use Rattle.round2.proofs.decade.Goals.{After-partition_point}

found : (c : After-partition_point) → (1 ≤ c.partition_point.result) × (c.partition_point.result - 1 ≡ decade c.args.x) × (1 ≤ c.partition_point.result - 1) × (c.partition_point.result - 1 < 632)
found c =
    let x = c.args.x in
    let p = c.partition_point in
    decade_found x c.requires TENS table_is p.result
    (IsPartitionPoint-from_clause (λ t. le t x) TENS p.result p.ensures.partitioned (parted x c.requires TENS table_is) (λ a r q k. search rules))
    p.ensures.bound

pub overflow_sub-result : goal.overflow_sub-result
overflow_sub-result c = (found (goal.at.overflow_sub-result c).After-partition_point).0

pub returns : goal.returns
returns c = let f = found (goal.at.returns c).After-partition_point in (f.1, f.2, f.3)
