-- `transposed_checks::check_start` meets its contract. Assumes nothing.
use borrow.Author.Rules.{rules}
use native.Mathlib.Omega.{arith}
use Rattle.transpose.proofs.Ways.{refused_start, sound_start}
use Rattle.transposed_checks.proofs.check_start.Goals as goal

pub returns-then-starts-ne0 : goal.returns-then-starts-ne0
returns-then-starts-ne0 c columns entries = refused_start _ c.not_a_number.ensures (omega arith)

pub returns : goal.returns
returns c columns entries = sound_start _ (omega arith)
