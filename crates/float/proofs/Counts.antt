-- A ceiling that is at most 4294967295 is a `u32`: the cast is allowed, and gives the whole number. Assumes nothing.
use Rattle.std.proofs.Common.{◌≡◌, ℕ, ◌*◌, ◌<◌, false, T, ℤ, inl, inr, le_trans, le_of_lt, mul-le-mul_right, lit≤, le→leb, pow_pos}
use lib.Ieee.{Float, fin, binary64, up, down, round, le, of_int, in_float, in_unsigned, to_unsigned}
use lib.Ieee.Order.{round_mono}
use lib.Ieee.Back.{unsigned_back}
use Rattle.doubles.specs.Whole.{whole_above, ceil}
use Rattle.doubles.proofs.Order.{nonneg_round, le_trans_nonneg}
use Rattle.lists.proofs.Bounds.{lt_or_le}

-- 4294967295 and 4294967296 as doubles
abbrev pub most : Float
most = round binary64 false 4294967295 1

abbrev over : Float
over = round binary64 false 4294967296 1

most_under : T (le over most) → ⊥
unfolding round le
most_under h = h

whole_most : (n : ℕ) → T (le (round binary64 false n 1) most) → n < 4294967296
whole_most n h = elim (lt_or_le n 4294967296) [
  | inl l ↦ l
  | inr g ↦ absurd (most_under (le_trans_nonneg over (round binary64 false n 1) most (nonneg_round binary64 4294967296 1) (nonneg_round binary64 n 1) (nonneg_round binary64 4294967295 1) (round_mono binary64 4294967296 1 n 1 (pow_pos 0) (pow_pos 0) (mul-le-mul_right 1 g)) h))
]

pub count_is : (m : ℕ) (e : ℤ) → T (le (ceil (fin false m e)) most) → T (in_unsigned binary64 32 (ceil (fin false m e))) × (to_unsigned 32 (ceil (fin false m e)) ≡ whole_above (m * up e) (down e))
unfolding ceil of_int in_float
count_is m e h =
    let n = whole_above (m * up e) (down e) in
    let l : n < 4294967296 = whole_most n h in
    unsigned_back binary64 32 n (le→leb n 9007199254740992 (le_trans (le_of_lt l) (lit≤ tt))) l
