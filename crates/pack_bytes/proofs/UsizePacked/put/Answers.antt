-- `pack_bytes::UsizePacked::put` meets its contract. Assumes nothing.
use mathlib.Core.Path.{◌∙◌}
use Rattle.le_bytes.proofs.Written.{eight_bytes, copied}
use Rattle.pack_bytes.specs.Elements.{number_byte}
use Rattle.pack_bytes.proofs.UsizePacked.put.Goals as goal

pub returns : goal.returns
returns c =
    let a = c.args in
    copied a.p 8 (number_byte a.self a.dst.now a.p) _ _ c.requires c.copy_from_slice.ensures.len (c.copy_from_slice.ensures.after ∙ c.to_le_bytes.ensures ∙ eight_bytes _)
