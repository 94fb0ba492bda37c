-- `csr_matvec::csr_matvec` meets its contract. Assumes nothing.
use native.Mathlib.Omega.{arith}
use mathlib.Core.Path.{refl, ◌∙◌}
use Prim.Native.Nat.{◌+◌, ◌-◌}
use Rattle.lists.proofs.Loop.{started, turned₀, finished₀}
use Rattle.general_operator.specs.Csr.{row_product, apply_generator}
use Rattle.general_operator.proofs.Rows.{start_le}
use Rattle.csr_matvec.proofs.csr_matvec.Goals as goal

pub loop-i-init : goal.loop-i-init
loop-i-init c = (started _ _ _, refl)

pub row_product-requires : goal.row_product-requires
row_product-requires c =
    let v = c.requires in
    let top : _ = start_le v.valid (c.loop-i.i + 1) (omega arith) in
    record { from_le_to = (rw c.loop-i.invariant.1 (v.valid.rising c.loop-i.i (omega arith)), (omega (arith, v.valid.paired), top)); by_index = (λ k h. rw v.src_len (v.valid.below k h)) }

pub loop-i-preserved : goal.loop-i-preserved
loop-i-preserved c = let inv = c.loop-i.invariant in (turned₀ inv.0 (c.row_product.ensures ∙ rw inv.1), refl)

pub returns : goal.returns
unfolding apply_generator
returns c = finished₀ c.loop-i.invariant.0 (omega arith) (omega arith)
