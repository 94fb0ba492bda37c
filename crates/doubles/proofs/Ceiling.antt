-- Bounds of a ceiling: at least 1, and at most a whole number. Assumes nothing.
use mathlib.Core.Path.{refl, sym, subst}
use mathlib.Core.Bool.{true, false, true≢false}
use Prim.Native.Nat.{ℕ, ◌+◌, ◌-◌, ◌*◌, ◌/◌, ◌≤◌, ◌<◌}
use native.Mathlib.Nat.{le_refl, le_trans, le_of_eq, add-le-add, mul-one, one-mul, mul-le-mul_right, le-div_iff_mul-le, le-add_right}
use lib.IntN.{pos}
use lib.Dec.{T}
use lib.Pow.{pow_pos}
use lib.Arith.{digits_div}
use lib.Ieee.{Float, nan, inf, fin, binary64, round, up, down, le, of_bits}
use lib.Ieee.Fits.{down_pos}
use lib.Ieee.Back.{round_whole}
use lib.Ieee.Exact.{HasValue}
use lib.Ieee.Nearest.{div_mono}
use lib.Ieee.Order.{round_mono, transfer}
use Rattle.lists.proofs.Bounds.{pred_lt}
use Rattle.doubles.specs.F64.{◌⩽◌, 1f, is_finite, nonneg}
use Rattle.doubles.specs.Whole.{ceil, whole_above}
use Rattle.doubles.proofs.Order.{nonneg_round, View, endless, number, le→cross}
use Rattle.doubles.proofs.One.{round_one}

-- of at least 1
pub ceil_above_one : {w : Float} → View w → T (1f ⩽ w) → T (nonneg (ceil w)) × T (1f ⩽ ceil w)
unfolding ceil of_bits
ceil_above_one endless h = (tt, h)
ceil_above_one (number m e) h =
    let c = whole_above (m * up e) (down e) in
    let l : 1 ≤ c = one_above (m * up e) (down e) (down_pos e) (le_trans (le_of_eq (sym (one-mul (down e)))) (le_trans (le→cross 1 (pos 0) m e h) (le_of_eq (mul-one (m * up e))))) in
    (nonneg_of c, subst (λ (x : Float). T (x ⩽ round binary64 false c 1)) (round_one 1 (pow_pos 0)) (round_mono binary64 1 1 c 1 (pow_pos 0) (pow_pos 0) (le_trans (le_of_eq (mul-one 1)) (le_trans l (le_of_eq (sym (mul-one c)))))))
  where
    one_above : (a d : ℕ) → 0 < d → d ≤ a → 1 ≤ (a + (d - 1)) / d
    one_above a d p h = (le-div_iff_mul-le p).1 (le_trans (le_of_eq (one-mul d)) (le_trans h (le-add_right a (d - 1))))

    nonneg_of : (c : ℕ) → T (nonneg (round binary64 false c 1))
    nonneg_of c = nonneg_round binary64 c 1

-- of at most a whole number q
pub ceil_under : {w : Float} (q : ℕ) (r : Float) → View w → q ≤ 9007199254740992 → HasValue r false q 1 → T (is_finite w) → T (le w r) → (c : ℕ) × HasValue (ceil w) false c 1 × (c ≤ q)
unfolding ceil
ceil_under q r endless b h n l = absurd n
ceil_under q r (number m e) b h n l =
    let c = whole_above (m * up e) (down e) in
    let a : m * up e ≤ q * down e = at_most q r h l in
    let l : c ≤ q = le_trans (div_mono (m * up e + (down e - 1)) (down e) (q * down e + (down e - 1)) (down e) (down_pos e) (down_pos e) (mul-le-mul_right (down e) (add-le-add a (le_refl (down e - 1))))) (le_of_eq (digits_div q (pred_lt (down e) (down_pos e)))) in
    (c, round_whole binary64 false c (le_trans l b), l)
  where
    at_most : (q : ℕ) (r : Float) → HasValue r false q 1 → T (le (fin false m e) r) → m * up e ≤ q * down e
    at_most q nan h l = absurd h
    at_most q (inf s) h l = absurd h
    at_most q (fin true n d) h l = absurd (true≢false h.0)
    at_most q (fin false n d) h l =
        le_trans (le_of_eq (sym (mul-one (m * up e)))) (transfer (m * up e) q (down e) 1 (m * up e) (n * up d) (down e) (down d) (down_pos e) (down_pos d) refl (sym h.1) (le→cross m e n d l))
