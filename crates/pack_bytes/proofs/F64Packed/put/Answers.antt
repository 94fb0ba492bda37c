-- `pack_bytes::F64Packed::put` meets its contract. Assumes nothing.
use mathlib.Core.Path.{◌∙◌}
use Prim.Native.Nat.{◌*◌, ◌/◌, ◌^◌, ◌%◌}
use Rattle.le_bytes.proofs.Over.{left, put}
use Rattle.le_bytes.proofs.Written.{eight_bytes, copied}
use Rattle.pack_bytes.proofs.F64Packed.put.Goals as goal

pub returns-then-stays : goal.returns-then-stays
returns-then-stays c = left c.args.self _ c.args.p c.requires c.stays.ensures c.if-stays.true

pub returns : goal.returns
returns c =
    let w = c.pattern-w.result in
    put c.args.self _ c.args.p w c.stays.ensures c.if-stays.false c.pattern-w.ensures
    (copied c.args.p 8 (λ j. w / 2 ^ (8 * j) % 256) _ _ c.requires c.copy_from_slice.ensures.len (c.copy_from_slice.ensures.after ∙ c.to_le_bytes.ensures ∙ eight_bytes w))
