-- `le_bytes::double_at` meets its contract. Assumes nothing.
use mathlib.Core.Path.{◌∙◌, ap}
use lib.Ieee.{binary64, of_bits}
use Rattle.le_bytes.specs.Bytes.{double_at}
use Rattle.le_bytes.proofs.double_at.Goals as goal

pub returns : goal.returns
unfolding double_at
returns c = c.double.ensures ∙ ap (of_bits binary64) c.word_at.ensures
