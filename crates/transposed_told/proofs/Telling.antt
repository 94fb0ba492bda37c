-- What is told of a call's answer is told of the call. Assumes nothing.
use mathlib.Core.List.{List}
use mathlib.Core.Path.{◌≡◌, ap}
use lib.Ieee.{Float}
use Rattle.combination.specs.Call.{ends}
use Rattle.answers.specs.Told.{Numbers}
use Rattle.phi_solver.proofs.Dispatch.{answered}
use Rattle.transpose.specs.Transpose.{Buffers}
use Rattle.transposed.specs.Transposed.{Lending, lends}
use Rattle.transposed_told.specs.Telling.{telling, matrix_told}

pub told_of : {A : Type 0} (tell : A → Numbers) {t : Numbers} {r : A} {output memory : List Float} {b : Buffers} (l : Lending A) → t ≡ tell r → lends (ends r output memory) b ≡ l → lends (ends t output memory) b ≡ telling tell l
told_of {A} tell {r = r} l e d =
    let c = answered tell r e (ap (λ (k : Lending A). k.call) d) in
    let b = ap (λ (k : Lending A). k.buffers) d in
    λ i. lends (c i) (b i)

pub matrix_told_of : {t u : Numbers} {b d : Buffers} → t ≡ u → b ≡ d → matrix_told t b ≡ matrix_told u d
matrix_told_of e f = λ i. matrix_told (e i) (f i)
