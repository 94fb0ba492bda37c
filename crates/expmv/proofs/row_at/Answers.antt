-- `expmv::row_at` meets its contract, for every argument: the cast is made only of a ceiling from 1 to 4294967295. Assumes nothing.
use Rattle.std.specs.Prelude.{Some, None}
use borrow.Author.Tests.{le-leb, lt-leb}
use mathlib.Core.Path.{◌≡◌, refl, ap, ◌∙◌}
use mathlib.Core.Bool.{true, false}
use Prim.Native.Nat.{ℕ, ◌≤◌, ◌<◌}
use lib.Dec.{T}
use lib.ListN.{get_or}
use lib.Ieee.{Float, nan, binary64, round, of_int, of_bits, in_unsigned, to_unsigned}
use Rattle.doubles.specs.F64.{◌⊘◌, ◌⋖◌, ◌⩽◌, bits, nat, 1f}
use Rattle.doubles.specs.Whole.{ceil}
use Rattle.expmv.specs.Select.{thetas, degree, quotient, admissible, sweeps, row, row_at}
use Rattle.expmv.proofs.Counted.{counted}
use Rattle.expmv.proofs.row_at.Goals as goal

-- 4294967295.0
abbrev top : Float
top = bits 0x41ef_ffff_ffe0_0000

top-is : top ≡ nat 4294967295
unfolding of_bits of_int round
top-is = refl

cast_fits : (x q : Float) → q ≡ ceil x → (q ⩽ top) ≡ true → (q ⋖ 1f) ≡ false → T (in_unsigned binary64 32 q)
cast_fits x q e most some = rw e (counted x (rw (← e, ← top-is) most) (rw (← e) some)).fits

-- each way out, by the tests
module _ (m_max : ℕ) (arg : Float) (m : ℕ) (theta : Float) (i : ℕ) (e : m ≡ degree i) (f : theta ≡ get_or thetas i nan) where
  above : m_max < m → None ≡ row_at m_max arg i
  unfolding row_at admissible
  above h = rw (← e, lt-leb m m_max h)

  module _ (q : Float) (g : q ≡ ceil (arg ⊘ theta)) (h : m ≤ m_max) where
    quotient_is : q ≡ quotient arg i
    unfolding quotient
    quotient_is = g ∙ ap (λ (y : Float). ceil (arg ⊘ y)) f

    too_many : (q ⩽ top) ≡ false → None ≡ row_at m_max arg i
    unfolding row_at admissible
    too_many most = rw (← e, le-leb m m_max h, ← quotient_is, ← top-is, most)

    single : (q ⩽ top) ≡ true → (q ⋖ 1f) ≡ true → Some (row 1 m) ≡ row_at m_max arg i
    unfolding row_at admissible sweeps
    single most some = rw (← e, le-leb m m_max h, ← quotient_is, ← top-is, most, some)

    several : (q ⩽ top) ≡ true → (q ⋖ 1f) ≡ false → Some (row (to_unsigned 32 q) m) ≡ row_at m_max arg i
    unfolding row_at admissible sweeps
    several most some = rw (← e, le-leb m m_max h, ← quotient_is, ← top-is, most, some)

pub float_to_int-s : goal.float_to_int-s
float_to_int-s c = cast_fits _ _ c.ceil-s.ensures c.if-s.true c.if-s-2.false

pub returns-then-s-2 : goal.returns-then-s-2
returns-then-s-2 c = λ i e f. single _ _ _ _ i e f _ c.ceil-s.ensures c.if-m-m_max.true c.if-s.true c.if-s-2.true

pub returns-else-s-2 : goal.returns-else-s-2
returns-else-s-2 c = λ i e f. several _ _ _ _ i e f _ c.ceil-s.ensures c.if-m-m_max.true c.if-s.true c.if-s-2.false

pub returns-else-s : goal.returns-else-s
returns-else-s c = λ i e f. too_many _ _ _ _ i e f _ c.ceil-s.ensures c.if-m-m_max.true c.if-s.false

pub returns-else-m-m_max : goal.returns-else-m-m_max
returns-else-m-m_max c = λ i e f. above _ _ _ _ i e f c.if-m-m_max.false
