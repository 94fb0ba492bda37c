-- A ceiling from 1 to 4294967295 is a `u32`: the cast is allowed, and gives a number from 1 to 4294967295. It holds of every double. Assumes nothing.
use mathlib.Core.Path.{◌≡◌, sym, subst}
use mathlib.Core.Bool.{Bool, true, false, true≢false}
use Prim.Native.Nat.{ℕ, zero, suc, ◌*◌, ◌≤◌, ◌<◌}
use native.Mathlib.Omega.{arith}
use lib.Dec.{T}
use lib.Pow.{pow_pos}
use lib.Ieee.{Float, nan, inf, fin, binary64, up, down, round, lt, le, of_int, of_bits, in_unsigned, to_unsigned}
use lib.Ieee.Casts.{to_unsigned-lt}
use Rattle.doubles.specs.F64.{◌⋖◌, ◌⩽◌, nat, 1f}
use Rattle.doubles.specs.Whole.{ceil, whole_below}
use Rattle.doubles.proofs.Total.{⩽_⋖_trans}
use Rattle.doubles.proofs.Monotone.{round_before}
use Rattle.float.proofs.Counts.{count_is}

pub record Count (x : Float) : Type 0 where
  pub fits : T (in_unsigned binary64 32 x)
  pub some : 1 ≤ to_unsigned 32 x
  pub most : to_unsigned 32 x ≤ 4294967295

zero_under : T (round binary64 false 0 1 ⋖ 1f)
unfolding round lt of_bits
zero_under = tt

-- minus a whole number is below 1, -0 included
minus_under : (n : ℕ) → T (round binary64 true n 1 ⋖ 1f)
minus_under n = ⩽_⋖_trans (round binary64 true n 1) (round binary64 false 0 1) 1f (round_before true n 1 false 0 1 (pow_pos 0) (pow_pos 0) (omega arith)) zero_under

contrary : (b : Bool) → T b → b ≡ false → ⊥
contrary true t e = true≢false e
contrary false t e = t

one_at_least : (n : ℕ) → (round binary64 false n 1 ⋖ 1f) ≡ false → 1 ≤ n
one_at_least zero h = absurd (contrary _ zero_under h)
one_at_least (suc n) h = omega arith

pub counted : (x : Float) → (ceil x ⩽ nat 4294967295) ≡ true → (ceil x ⋖ 1f) ≡ false → Count (ceil x)
unfolding ceil le lt of_int of_bits
counted nan most some = absurd (true≢false (sym most))
counted (inf false) most some = absurd (true≢false (sym most))
counted (inf true) most some = absurd (true≢false some)
counted (fin true m e) most some = absurd (contrary _ (minus_under (whole_below (m * up e) (down e))) some)
counted (fin false m e) most some =
    let k = count_is m e (subst T (sym most) tt) in
    record { fits = k.0; some = subst (λ (n : ℕ). 1 ≤ n) (sym k.1) (one_at_least _ some); most = under_most _ (to_unsigned-lt 32 (ceil (fin false m e))) }
  where
    under_most : (n : ℕ) → n < 4294967296 → n ≤ 4294967295
    under_most n h = omega arith
