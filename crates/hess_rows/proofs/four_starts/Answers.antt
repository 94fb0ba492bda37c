-- `hess_rows::four_starts` meets its contract. Assumes nothing.
use native.Mathlib.Omega.{arith}
use Rattle.hess_rows.proofs.four_starts.Goals as goal

pub row_part-requires : goal.row_part-requires
row_part-requires c = record { leading = c.requires.leading; r_le_to = (omega arith, omega arith, omega arith) }

pub row_part-requires-2 : goal.row_part-requires-2
row_part-requires-2 c = record { leading = c.requires.leading; r_le_to = (omega arith, omega arith, omega arith) }

pub row_part-requires-3 : goal.row_part-requires-3
row_part-requires-3 c = record { leading = c.requires.leading; r_le_to = (omega arith, omega arith, omega arith) }

pub row_part-requires-4 : goal.row_part-requires-4
row_part-requires-4 c = record { leading = c.requires.leading; r_le_to = (omega arith, omega arith, omega arith) }

pub returns : goal.returns
returns c =
    let e0 = c.row_part.ensures in
    let e1 = c.row_part-2.ensures in
    let e2 = c.row_part-3.ensures in
    let e3 = c.row_part-4.ensures in
    λ i. record { s0 = e0 i; s1 = e1 i; s2 = e2 i; s3 = e3 i }
