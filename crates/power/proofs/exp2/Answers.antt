-- `power::exp2` meets its contract. Assumes nothing.
use Rattle.std.proofs.Common.{ℕ, ◌≤◌, Bool, not, T, sym, subst, arith}
use lib.Ieee.{binary64, of_bits, nan_bits}
use lib.Ieee.Bits.{nan_bits_is}
use Rattle.doubles.proofs.Compare.{above_no_nan}
use Rattle.doubles.proofs.Order.{nonneg_number, bits_nonneg}
use Rattle.power.proofs.exp2.Goals as goal

no_nan : (w : ℕ) → w ≤ 9218868437227405312 → T (not (nan_bits binary64 w))
no_nan w h = subst (λ (b : Bool). T (not b)) (sym (nan_bits_is binary64 w)) (nonneg_number (of_bits binary64 w) (bits_nonneg w h))

pub float_to_bits-scale : goal.float_to_bits-scale
float_to_bits-scale c = above_no_nan _ c.if-shifted.true

pub float_from_bits-scale : goal.float_from_bits-scale
float_from_bits-scale c = no_nan _ (omega arith)
