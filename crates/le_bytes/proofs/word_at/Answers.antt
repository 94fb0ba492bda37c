-- `le_bytes::word_at` meets its contract. Assumes nothing.
use Rattle.le_bytes.specs.Bytes.{word}
use Rattle.le_bytes.proofs.word_at.Goals as goal

pub returns : goal.returns
unfolding word
returns c = rw (c.half_at.ensures.0, c.half_at-2.ensures.0)
