-- What a call on bytes answers: 255 where it is large, else the call on the lists that its slices stand for (document 01, 'Oracle'; byte_arrays/specs/Large).
-- Definitions only.
use Rattle.std.specs.Prelude.{Bool, true, false, List, ℕ}
use Rattle.combination.specs.Call.{Call}
use Rattle.answers.specs.Told.{Numbers}
use Rattle.le_bytes.specs.Bytes.{written_over}

-- the numbers told, and the bytes of the output and of the working memory
pub record Reply : Type 0 where
  pub told : Numbers
  pub output : List ℕ
  pub memory : List ℕ

abbrev pub replies : Numbers → List ℕ → List ℕ → Reply
replies t output memory = record { told = t; output = output; memory = memory }

-- the answer's numbers, and output and memory written over the bytes handed in
abbrev pub packed : Call Numbers → List ℕ → List ℕ → Reply
packed c output memory = replies c.answer (written_over c.output output) (written_over c.memory memory)

-- a large job changes nothing
unfoldable pub replied : Bool → Reply → Call Numbers → Reply
replied true unchanged c = unchanged
replied false unchanged c = packed c unchanged.output unchanged.memory
