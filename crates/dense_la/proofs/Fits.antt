-- What `dense_exp` gives is a double: its last operation is a sum. Assumes nothing.
use Prim.Native.Nat.{ℕ, zero, suc}
use lib.Dec.{T}
use lib.Ieee.{Float, binary64, fits}
use lib.Ieee.Fits.{add-fits}
use Rattle.lists.specs.Loop.{iter}
use Rattle.dense_la.specs.DenseExp.{series_step, series, squared, dense_exp}

squared_fits : (n : ℕ) (x : Float) → T (fits binary64 x) → T (fits binary64 (squared n x))
unfolding squared iter
squared_fits zero x h = h
squared_fits (suc n) x h = add-fits binary64 _ _

series_fits : (a : Float) → T (fits binary64 (series a 18).result)
unfolding series series_step iter
series_fits a = add-fits binary64 _ _

pub dense_exp_fits : (c : Float) → T (fits binary64 (dense_exp c))
unfolding dense_exp
dense_exp_fits c = squared_fits _ _ (series_fits _)
