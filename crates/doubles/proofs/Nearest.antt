-- The whole number that a fraction is closest to: rounding misses by at most a half, and a fraction within a half of q is closest to q. Assumes nothing.
use mathlib.Core.Path.{◌≡◌, refl, sym, ap, ◌∙◌, subst}
use mathlib.Core.Logic.{◌⊎◌, inl, inr}
use Prim.Native.Nat.{ℕ, suc, ◌+◌, ◌-◌, ◌*◌, ◌/◌, ◌%◌, ◌^◌, ◌≤◌, ◌<◌, compare, Ordering}
use native.Mathlib.Nat.{le_trans, le_of_eq, le_of_lt, lt_of_lt_of_le, lt_of_le_of_lt, lt_of_not-le, not-le_of_lt, le_antisymm, eq-or-lt_of_le, eq-zero-or-pos, mul_assoc, mul-pos, mul-div_cancel, add-mul, one-mul, suc-mul, lt_of_mul-lt-mul_right, div-add-mod', mod-lt}
use native.Mathlib.Omega.{arith}
use mathlib.Core.Bool.{not}
use lib.Dec.{T, eqb, leb→le, nleb→lt, eqb→eq, eqb_refl, is_le, compare_is_eq}
use lib.Pow.{pow_pos, pow_mono}
use lib.Ieee.{binary64, size, nearest}
use lib.Ieee.Digits.{size-lt, size-le}
use lib.Ieee.Nearest.{closest, closest_same}
use lib.Ieee.Scale.{grid}
use Rattle.lists.proofs.Bounds.{lt_of_le_of_ne}

-- ---- rounding to the nearest multiple of u misses by at most u / 2
abbrev Cmp : Ordering → ℕ → ℕ → Type 0
Cmp Ordering.lt a b = a < b
Cmp Ordering.eq a b = a ≡ b
Cmp Ordering.gt a b = b < a

cmp : (a b : ℕ) → Cmp (compare a b) a b
cmp a b = go (compare a b) (leb→le a b) (nleb→lt a b) (eqb→eq a b) (λ (e : a ≡ b). subst (λ (x : ℕ). T (eqb a x)) e (eqb_refl a))
  where
    go : (o : Ordering) → (T (is_le o) → a ≤ b) → (T (not (is_le o)) → b < a) → (T (compare_is_eq o) → a ≡ b) → (a ≡ b → T (compare_is_eq o)) → Cmp o a b
    go Ordering.lt h k e n = lt_of_le_of_ne a b (h tt) n
    go Ordering.eq h k e n = e tt
    go Ordering.gt h k e n = k tt

abbrev pub Near : ℕ → ℕ → ℕ → Type 0
Near p n u = (2 * p ≤ 2 * n + u) × (2 * n ≤ 2 * p + u)

low_near : (x r u n p : ℕ) → x + r ≡ n → r * 2 ≤ u → p ≡ x → Near p n u
low_near x r u n p e h f = (omega arith, omega arith)

high_near : (x r u n p : ℕ) → x + r ≡ n → u ≤ r * 2 → r < u → p ≡ x + u → Near p n u
high_near x r u n p e h k f = (omega arith, omega arith)

near_by : (o : Ordering) (w u r n : ℕ) → Cmp o (r * 2) u → w * u + r ≡ n → r < u → Near (nearest w o * u) n u
near_by Ordering.lt w u r n c e h = low_near (w * u) r u n (w * u) e (le_of_lt c) refl
near_by Ordering.gt w u r n c e h = high_near (w * u) r u n (suc w * u) e (le_of_lt c) h (suc-mul w u)
near_by Ordering.eq w u r n c e h = elim (eq-zero-or-pos (w % 2)) [
  | inl z ↦ low_near (w * u) r u n ((w + w % 2) * u) e (le_of_eq c) (ap (λ (k : ℕ). k * u) (even w z))
  | inr p ↦ high_near (w * u) r u n ((w + w % 2) * u) e (le_of_eq (sym c)) h (ap (λ (k : ℕ). k * u) (odd w p) ∙ suc-mul w u)
]
  where
    even : (w : ℕ) → w % 2 ≡ 0 → w + w % 2 ≡ w
    even w h = omega arith

    odd : (w : ℕ) → 0 < w % 2 → w + w % 2 ≡ suc w
    odd w h = omega arith

pub closest_near : (n u : ℕ) → 0 < u → Near (closest n u * u) n u
closest_near n u h = near_by (compare (n % u * 2) u) (n / u) u (n % u) n (cmp (n % u * 2) u) (div-add-mod' n u) (mod-lt n h)

-- ---- a fraction within a half of q is closest to q
-- with n = w * u + r: (2 q - 1) u < 2 n < (2 q + 1) u
half_low : (w q : ℕ) → 2 * w < 2 * q + 1 → w ≤ q
half_low w q h = omega arith

half_high : (w q : ℕ) → 0 < q → 2 * q - 1 < 2 * w + 2 → q ≤ suc w
half_high w q p h = omega arith

twice : (x r n : ℕ) → x + r ≡ n → 2 * x ≤ 2 * n
twice x r n h = omega arith

twice_up : (x r n u : ℕ) → x + r ≡ n → r < u → 2 * n ≤ 2 * x + 2 * u
twice_up x r n u h k = omega arith

spread : (w u : ℕ) → (2 * w + 2) * u ≡ 2 * (w * u) + 2 * u
spread w u = add-mul (2 * w) 2 u ∙ ap (λ (z : ℕ). z + 2 * u) (mul_assoc 2 w u)

above_half : (q u : ℕ) → (2 * q + 1) * u ≡ 2 * (q * u) + u
above_half q u = add-mul (2 * q) 1 u ∙ ap (λ (z : ℕ). z + 1 * u) (mul_assoc 2 q u) ∙ ap (λ (z : ℕ). 2 * (q * u) + z) (one-mul u)

pub below_half : (q u : ℕ) → 0 < q → (2 * q - 1) * u + u ≡ 2 * (q * u)
below_half q u p = ap (λ (z : ℕ). (2 * q - 1) * u + z) (sym (one-mul u)) ∙ sym (add-mul (2 * q - 1) 1 u) ∙ ap (λ (z : ℕ). z * u) (back q p) ∙ mul_assoc 2 q u
  where
    back : (q : ℕ) → 0 < q → 2 * q - 1 + 1 ≡ 2 * q
    back q p = omega arith

at_low : (o : Ordering) (w x u r n : ℕ) → Cmp o (r * 2) u → x + r ≡ n → 2 * n < 2 * x + u → nearest w o ≡ w
at_low Ordering.lt w x u r n c e h = refl
at_low Ordering.eq w x u r n c e h = absurd (no c e h)
  where
    no : r * 2 ≡ u → x + r ≡ n → 2 * n < 2 * x + u → ⊥
    no c e h = omega arith
at_low Ordering.gt w x u r n c e h = absurd (no c e h)
  where
    no : u < r * 2 → x + r ≡ n → 2 * n < 2 * x + u → ⊥
    no c e h = omega arith

at_high : (o : Ordering) (w x u r n : ℕ) → Cmp o (r * 2) u → x + r ≡ n → 2 * x + u < 2 * n → nearest w o ≡ suc w
at_high Ordering.lt w x u r n c e h = absurd (no c e h)
  where
    no : r * 2 < u → x + r ≡ n → 2 * x + u < 2 * n → ⊥
    no c e h = omega arith
at_high Ordering.eq w x u r n c e h = absurd (no c e h)
  where
    no : r * 2 ≡ u → x + r ≡ n → 2 * x + u < 2 * n → ⊥
    no c e h = omega arith
at_high Ordering.gt w x u r n c e h = refl

pick : (o : Ordering) (w q u r n : ℕ) → Cmp o (r * 2) u → w * u + r ≡ n → r < u → 0 < q → (2 * q - 1) * u < 2 * n → 2 * n < (2 * q + 1) * u → nearest w o ≡ q
pick o w q u r n c e l p a b =
    go (eq-or-lt_of_le w_le) q_le
  where
    w_le : w ≤ q
    w_le = half_low w q (lt_of_mul-lt-mul_right u (lt_of_le_of_lt (le_trans (le_of_eq (mul_assoc 2 w u)) (twice (w * u) r n e)) b))

    q_le : q ≤ suc w
    q_le = half_high w q p (lt_of_mul-lt-mul_right u (lt_of_lt_of_le a (le_trans (twice_up (w * u) r n u e l) (le_of_eq (sym (spread w u))))))

    carried : (A y x u n : ℕ) → A + u ≡ 2 * y → y ≡ x + u → A < 2 * n → 2 * x + u < 2 * n
    carried A y x u n f g h = omega arith

    go : (w ≡ q) ⊎ (w < q) → q ≤ suc w → nearest w o ≡ q
    go (inl t) y = at_low o w (w * u) u r n c e (subst (λ (z : ℕ). 2 * n < 2 * (z * u) + u) (sym t) (lt_of_lt_of_le b (le_of_eq (above_half q u)))) ∙ t
    go (inr t) y =
        let s : q ≡ suc w = le_antisymm y t in
        at_high o w (w * u) u r n c e (carried ((2 * q - 1) * u) (q * u) (w * u) u n (below_half q u p) (ap (λ (z : ℕ). z * u) s ∙ suc-mul w u) a) ∙ sym s

pub closest_is : (n u q : ℕ) → 0 < u → 0 < q → (2 * q - 1) * u < 2 * n → 2 * n < (2 * q + 1) * u → closest n u ≡ q
closest_is n u q U p a b = pick (compare (n % u * 2) u) (n / u) q u (n % u) n (cmp (n % u * 2) u) (div-add-mod' n u) (mod-lt n U) p a b

-- ---- how many binary digits a number has
pub size_exact : (a n : ℕ) → 2 ^ a ≤ n → n < 2 ^ suc a → size n ≡ suc a
size_exact a n lo hi = le_antisymm (size-le n (suc a) hi) (lt_of_not-le (λ (g : size n ≤ a). not-le_of_lt (lt_of_lt_of_le (size-lt n) (pow_mono g)) lo))

-- ---- a whole number of units, rounded
pub grid_units : (n : ℕ) → grid binary64 n (2 ^ 1074) ≡ closest n (2 ^ (size n - 53)) * 2 ^ (size n - 53)
grid_units n =
    let k = size n - 53 in
    ap (λ (z : ℕ). closest (n * 2 ^ 1074) (2 ^ 1074 * 2 ^ (size z - 53)) * 2 ^ (size z - 53)) (mul-div_cancel n (pow_pos 1074))
    ∙ ap (λ (z : ℕ). z * 2 ^ k) (closest_same (n * 2 ^ 1074) (2 ^ 1074 * 2 ^ k) n (2 ^ k) (mul-pos (pow_pos 1074) (pow_pos k)) (pow_pos k) (mul_assoc n (2 ^ 1074) (2 ^ k)))
