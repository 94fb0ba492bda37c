-- The table of the code is the list of `ten 0` to `ten 631`: antt computes each entry of the two lists and compares them. Assumes nothing.
use mathlib.Core.Path.{◌≡◌, refl}
use lib.Ieee.{of_bits, round}
use Rattle.lists.specs.Loop.{tabulate}
use Rattle.round2.specs.Ten.{ten}
use Rattle.round2.specs.declared.TheConstants.{TENS}

pub table_is : TENS ≡ tabulate 632 ten
unfolding ten of_bits round tabulate
table_is = refl
