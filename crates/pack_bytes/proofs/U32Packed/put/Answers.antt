-- `pack_bytes::U32Packed::put` meets its contract. Assumes nothing.
use mathlib.Core.Path.{◌∙◌}
use Rattle.le_bytes.proofs.Written.{four_bytes, copied}
use Rattle.pack_bytes.specs.Elements.{number_byte}
use Rattle.pack_bytes.proofs.U32Packed.put.Goals as goal

pub returns : goal.returns
returns c =
    let a = c.args in
    copied a.p 4 (number_byte a.self a.dst.now a.p) _ _ c.requires c.copy_from_slice.ensures.len (c.copy_from_slice.ensures.after ∙ c.to_le_bytes.ensures ∙ four_bytes _)
