-- `pack_bytes::pattern` meets its contract. Assumes nothing.
use mathlib.Core.Path.{refl, sym, ◌∙◌}
use lib.Ieee.{to_bits}
use Rattle.le_bytes.proofs.Patterns.{only_nan}
use Rattle.pack_bytes.proofs.pattern.Goals as goal

pub returns-then-is_nan : goal.returns-then-is_nan
unfolding to_bits
returns-then-is_nan c = rw (only_nan c.args.x (sym c.is_nan.ensures.value ∙ c.if-is_nan.true)) refl
