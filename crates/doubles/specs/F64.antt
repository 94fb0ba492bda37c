-- Doubles: Rust's operators under short signs, each the operation of `lib.Ieee` at binary64, rounded once. Definitions only.
use Rattle.std.specs.Prelude.{Bool, true, false, not, List, ℕ, pos, get_or, if◌then◌else◌}
use lib.Ieee.{Float, nan, inf, fin, binary64, add, sub, mul, div, lt, le, of_int, of_bits}

infixl 65 ◌⊕◌
infixl 65 ◌⊖◌
infixl 70 ◌⊗◌
infixl 70 ◌⊘◌
infix 50 ◌⋖◌
infix 50 ◌⩽◌
abbrev pub ◌⊕◌ : Float → Float → Float
◌⊕◌ x y = add binary64 x y

abbrev pub ◌⊖◌ : Float → Float → Float
◌⊖◌ x y = sub binary64 x y

abbrev pub ◌⊗◌ : Float → Float → Float
◌⊗◌ x y = mul binary64 x y

abbrev pub ◌⊘◌ : Float → Float → Float
◌⊘◌ x y = div binary64 x y

abbrev pub ◌⋖◌ : Float → Float → Bool
◌⋖◌ x y = lt x y

abbrev pub ◌⩽◌ : Float → Float → Bool
◌⩽◌ x y = le x y

-- the double whose bit pattern is written: what a literal of the code stands for
abbrev pub bits : ℕ → Float
bits b = of_bits binary64 b

-- a natural number as a double, rounded: exact up to 2 ^ 53
abbrev pub nat : ℕ → Float
nat n = of_int binary64 (pos n)

abbrev pub +0 : Float
+0 = bits 0

abbrev pub 1f : Float
1f = bits 0x3ff0_0000_0000_0000

abbrev pub 2f : Float
2f = bits 0x4000_0000_0000_0000

abbrev pub 1/2f : Float
1/2f = bits 0x3fe0_0000_0000_0000

-- +infinity, and its pattern: those below it are the finite numbers whose sign is clear
abbrev pub INF_BITS : ℕ
INF_BITS = 0x7ff0_0000_0000_0000

abbrev pub +∞ : Float
+∞ = bits INF_BITS

-- element i; a read past the end gives NaN, and no code makes one
abbrev pub at : List Float → ℕ → Float
at x i = get_or x i nan

-- Rust's `f64::abs`: the sign taken off; NaN stays NaN
abbrev pub abs : Float → Float
abs nan = nan
abs (inf s) = inf false
abs (fin s m e) = fin false m e

-- Rust's `f64::is_finite`: neither NaN nor an infinity
abbrev pub is_finite : Float → Bool
is_finite nan = false
is_finite (inf s) = false
is_finite (fin s m e) = true

-- no NaN, and the sign clear
abbrev pub nonneg : Float → Bool
nonneg nan = false
nonneg (inf s) = not s
nonneg (fin s m e) = not s

-- y where x is NaN or the test says so, else x
unfoldable pub replaced : Float → Float → Bool → Float
replaced nan y b = y
replaced (inf s) y b = if b then y else inf s
replaced (fin s m e) y b = if b then y else fin s m e

-- Rust's `f64::max` and `f64::min` (IEEE 754-2008, 5.3.1: max_num, min_num): a NaN operand is dropped; of two equal operands the first is given
unfoldable pub max_num : Float → Float → Float
max_num x y = replaced x y (x ⋖ y)

unfoldable pub min_num : Float → Float → Float
min_num x y = replaced x y (y ⋖ x)

-- to compute: a line `unfolding open_f64` opens every definition of this file and of `lib.Ieee`
unfoldable pub open_f64 : Unit {0}
unfolding replaced max_num min_num lib.Ieee.round lib.Ieee.add lib.Ieee.sub lib.Ieee.mul lib.Ieee.div lib.Ieee.neg lib.Ieee.lt lib.Ieee.le lib.Ieee.eq lib.Ieee.of_int lib.Ieee.of_bits lib.Ieee.to_bits lib.Ieee.to_unsigned lib.Ieee.size
open_f64 = tt
