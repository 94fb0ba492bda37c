-- A job with a load that meets N9's condition, and what `doubled` is, by computation; `scaling_examples` has more. Assumes nothing.
use mathlib.Core.Path.{◌≡◌, refl}
use mathlib.Core.List.{List, [], ◌∷◌}
use lib.IntN.{pos, negsuc}
use lib.Ieee.{Float, neg}
use Rattle.doubles.specs.F64.{bits, +0, 1f, 2f, 1/2f}
use Rattle.doubles.specs.Units.{open_units}
use Rattle.general_operator.specs.Csr.{Csr, csr}
use Rattle.taylor_job.specs.Calls.{open_calls}
use Rattle.scaling.specs.Doubled.{doubled, CleanDoubled, CleanJob}
use Rattle.scaling.proofs.Tested.{clean_job, clean_doubled, open_tested}

-- the signs of zeros stay; 2 ^ 2000 and 2 ^ -2000 are no doubles
twice : doubled (pos 1) (1f ∷ neg +0 ∷ neg 1/2f ∷ []) ≡ 2f ∷ neg +0 ∷ neg 1f ∷ []
unfolding doubled open_calls
twice = refl

far : doubled (pos 2000) (bits 1 ∷ []) ≡ bits 0x79d0_0000_0000_0000 ∷ []
unfolding doubled open_calls
far = refl

back : doubled (negsuc 1999) (bits 0x79d0_0000_0000_0000 ∷ []) ≡ bits 1 ∷ []
unfolding doubled open_calls
back = refl

-- one row with the entry 1/2, tau 1, w_0 = 1 and w_1 = -1/2: two sweeps of 30 terms
abbrev matrix : Csr
matrix = csr 1 (0 ∷ 1 ∷ []) (0 ∷ []) (1/2f ∷ [])

abbrev vectors : List Float
vectors = 1f ∷ neg 1/2f ∷ []

clean : CleanJob matrix 1f 30 2 vectors
clean = clean_job matrix 1f 30 2 vectors (unfold open_tested open_units open_calls in refl)

clean_twice : CleanDoubled (pos 1) vectors
clean_twice = clean_doubled (pos 1) vectors (unfold open_tested open_units open_calls in refl)
