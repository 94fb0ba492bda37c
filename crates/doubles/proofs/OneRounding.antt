-- A sum and a product of two doubles of any signs as one rounding: the sign and the size that `round` is handed, by any fractions that the operands equal. Assumes nothing.
use mathlib.Core.Path.{◌≡◌, refl, sym, ap, ◌∙◌}
use Prim.Native.Nat.{ℕ, ◌+◌, ◌-◌, ◌*◌, ◌≤◌, ◌<◌}
use native.Mathlib.Nat.{mul_comm, mul_assoc, mul_right_comm, mul-mul-mul_comm, mul-pos, mul-sub, add-mul, mul-lt-mul_of_pos_right, lt_of_mul-lt-mul_right}
use native.Mathlib.Omega.{arith}
use mathlib.Core.Bool.{Bool, true, false, not, ◌&&◌, cond, beq}
use lib.Dec.{T, ltb, ltb→lt, lt→ltb, nltb→le}
use lib.Ieee.{Float, nan, inf, fin, binary64, up, down, unlike, round, sum, add, mul}
use lib.Ieee.Fits.{down_pos}
use lib.Ieee.Exact.{HasValue}
use lib.Ieee.Scale.{round_same}
use Rattle.doubles.specs.F64.{◌⊕◌, ◌⊗◌}
use Rattle.doubles.proofs.Total.{over, under, bool_eq}

-- the sign and the size of ±a + ±b; a sum that is exactly zero is -0 where both are negative
abbrev pub sum_sign : Bool → ℕ → Bool → ℕ → Bool
sum_sign s a t b = cond (beq s t) s (cond (ltb a b) t (s && ltb b a))

abbrev pub sum_size : Bool → ℕ → Bool → ℕ → ℕ
sum_size s a t b = cond (beq s t) (a + b) (cond (ltb a b) (b - a) (a - b))

cond_round : (x : Bool) (u v : Bool) (g h c : ℕ) → cond x (round binary64 u g c) (round binary64 v h c) ≡ round binary64 (cond x u v) (cond x g h) c
cond_round true u v g h c = refl
cond_round false u v g h c = refl

-- what `sum` rounds
pub sum_rounds : (s : Bool) (a : ℕ) (t : Bool) (b c : ℕ) → sum binary64 s a t b c ≡ round binary64 (sum_sign s a t b) (sum_size s a t b) c
unfolding sum
sum_rounds true a true b c = refl
sum_rounds false a false b c = refl
sum_rounds true a false b c = cond_round (ltb a b) false (true && ltb b a) (b - a) (a - b) c
sum_rounds false a true b c = cond_round (ltb a b) true (false && ltb b a) (b - a) (a - b) c

-- and that it is ±a + ±b exactly
pub sum_exact : (s : Bool) (a : ℕ) (t : Bool) (b : ℕ) → over (sum_sign s a t b) (sum_size s a t b) + (under s a + under t b) ≡ under (sum_sign s a t b) (sum_size s a t b) + (over s a + over t b)
sum_exact false a false b = omega arith
sum_exact true a true b = omega arith
sum_exact false a true b = go (ltb a b) (ltb→lt a b) (nltb→le a b)
  where
    go : (x : Bool) → (T x → a < b) → (T (not x) → b ≤ a) → over (cond x true false) (cond x (b - a) (a - b)) + (0 + b) ≡ under (cond x true false) (cond x (b - a) (a - b)) + (a + 0)
    go true h k = let l = h tt in omega arith
    go false h k = let l = k tt in omega arith
sum_exact true a false b = go (ltb a b) (ltb→lt a b) (nltb→le a b) (ltb b a) (nltb→le b a)
  where
    go : (x : Bool) → (T x → a < b) → (T (not x) → b ≤ a) → (y : Bool) → (T (not y) → a ≤ b) → over (cond x false y) (cond x (b - a) (a - b)) + (a + 0) ≡ under (cond x false y) (cond x (b - a) (a - b)) + (0 + b)
    go true h k y i = let l = h tt in omega arith
    go false h k true i = let l = k tt in omega arith
    go false h k false i = let l = k tt in let j = i tt in omega arith

-- ---- a common factor
pub ltb_times : (a b k : ℕ) → 0 < k → ltb (a * k) (b * k) ≡ ltb a b
ltb_times a b k h = bool_eq (ltb (a * k) (b * k)) (ltb a b)
    (λ t. lt→ltb a b (lt_of_mul-lt-mul_right k (ltb→lt (a * k) (b * k) t)))
    (λ t. lt→ltb (a * k) (b * k) (mul-lt-mul_of_pos_right (ltb→lt a b t) h))

pub sign_times : (s : Bool) (a : ℕ) (t : Bool) (b k : ℕ) → 0 < k → sum_sign s (a * k) t (b * k) ≡ sum_sign s a t b
sign_times s a t b k h =
    ap (λ (x : Bool). cond (beq s t) s (cond x t (s && ltb (b * k) (a * k)))) (ltb_times a b k h)
    ∙ ap (λ (x : Bool). cond (beq s t) s (cond (ltb a b) t (s && x))) (ltb_times b a k h)

sub_times : (a b k : ℕ) → a * k - b * k ≡ (a - b) * k
sub_times a b k = ap (λ (z : ℕ). z - b * k) (mul_comm a k) ∙ ap (λ (z : ℕ). k * a - z) (mul_comm b k) ∙ sym (mul-sub k a b) ∙ mul_comm k (a - b)

cond_times : (x : Bool) (g h k : ℕ) → cond x (g * k) (h * k) ≡ cond x g h * k
cond_times true g h k = refl
cond_times false g h k = refl

gap_times : (a b k : ℕ) → 0 < k → cond (ltb (a * k) (b * k)) (b * k - a * k) (a * k - b * k) ≡ cond (ltb a b) (b - a) (a - b) * k
gap_times a b k h =
    ap (λ (x : Bool). cond x (b * k - a * k) (a * k - b * k)) (ltb_times a b k h)
    ∙ ap (λ (z : ℕ). cond (ltb a b) z (a * k - b * k)) (sub_times b a k)
    ∙ ap (λ (z : ℕ). cond (ltb a b) ((b - a) * k) z) (sub_times a b k)
    ∙ cond_times (ltb a b) (b - a) (a - b) k

pub size_times : (s : Bool) (a : ℕ) (t : Bool) (b k : ℕ) → 0 < k → sum_size s (a * k) t (b * k) ≡ sum_size s a t b * k
size_times true a true b k h = sym (add-mul a b k)
size_times false a false b k h = sym (add-mul a b k)
size_times true a false b k h = gap_times a b k h
size_times false a true b k h = gap_times a b k h

-- ---- fractions of another denominator
round_scaled : (u : Bool) (g c k : ℕ) → 0 < c → 0 < k → round binary64 u (g * k) (c * k) ≡ round binary64 u g c
round_scaled u g c k C K = round_same binary64 u (g * k) (c * k) g c (mul-pos C K) C (mul_right_comm g k c ∙ mul_assoc g c k)

sum_times : (s : Bool) (a : ℕ) (t : Bool) (b c k : ℕ) → 0 < c → 0 < k → sum binary64 s (a * k) t (b * k) (c * k) ≡ sum binary64 s a t b c
sum_times s a t b c k C K =
    sum_rounds s (a * k) t (b * k) (c * k)
    ∙ ap (λ (u : Bool). round binary64 u (sum_size s (a * k) t (b * k)) (c * k)) (sign_times s a t b k K)
    ∙ ap (λ (g : ℕ). round binary64 (sum_sign s a t b) g (c * k)) (size_times s a t b k K)
    ∙ round_scaled (sum_sign s a t b) (sum_size s a t b) c k C K
    ∙ sym (sum_rounds s a t b c)

-- equal fractions have equal sums
sum_same : (s : Bool) (a : ℕ) (t : Bool) (b c a' b' c' : ℕ) → 0 < c → 0 < c' → a * c' ≡ a' * c → b * c' ≡ b' * c → sum binary64 s a t b c ≡ sum binary64 s a' t b' c'
sum_same s a t b c a' b' c' C C' p q =
    sym (sum_times s a t b c c' C C')
    ∙ ap (λ (z : ℕ). sum binary64 s z t (b * c') (c * c')) p
    ∙ ap (λ (z : ℕ). sum binary64 s (a' * c) t z (c * c')) q
    ∙ ap (λ (z : ℕ). sum binary64 s (a' * c) t (b' * c) z) (mul_comm c c')
    ∙ sum_times s a' t b' c' c C' C

-- ---- the operations on doubles by their values
-- x = ±a / c and y = ±b / c
pub add_by : (x y : Float) (s t : Bool) (a b c : ℕ) → 0 < c → HasValue x s a c → HasValue y t b c → x ⊕ y ≡ round binary64 (sum_sign s a t b) (sum_size s a t b) c
unfolding add
add_by nan y s t a b c C h k = absurd h
add_by (inf u) y s t a b c C h k = absurd h
add_by (fin u m e) nan s t a b c C h k = absurd k
add_by (fin u m e) (inf v) s t a b c C h k = absurd k
add_by (fin u m e) (fin v n d) s t a b c C h k =
    ap (λ (x : Bool). sum binary64 x (m * up e * down d) v (n * up d * down e) (down e * down d)) h.0
    ∙ ap (λ (x : Bool). sum binary64 s (m * up e * down d) x (n * up d * down e) (down e * down d)) k.0
    ∙ sum_same s (m * up e * down d) t (n * up d * down e) (down e * down d) a b c (mul-pos (down_pos e) (down_pos d)) C
    (mul_right_comm (m * up e) (down d) c ∙ ap (λ (z : ℕ). z * down d) h.1 ∙ mul_assoc a (down e) (down d))
    (mul_right_comm (n * up d) (down e) c ∙ ap (λ (z : ℕ). z * down e) k.1 ∙ mul_assoc b (down d) (down e) ∙ ap (λ (z : ℕ). b * z) (mul_comm (down d) (down e)))
    ∙ sum_rounds s a t b c

-- x = ±a / c and y = ±b / d
pub mul_signed : (x y : Float) (s t : Bool) (a c b d : ℕ) → 0 < c → 0 < d → HasValue x s a c → HasValue y t b d → x ⊗ y ≡ round binary64 (unlike s t) (a * b) (c * d)
unfolding mul
mul_signed nan y s t a c b d C D h k = absurd h
mul_signed (inf u) y s t a c b d C D h k = absurd h
mul_signed (fin u m e) nan s t a c b d C D h k = absurd k
mul_signed (fin u m e) (inf v) s t a c b d C D h k = absurd k
mul_signed (fin u m e) (fin v n i) s t a c b d C D h k =
    ap (λ (x : Bool). round binary64 (unlike x v) (m * up e * (n * up i)) (down e * down i)) h.0
    ∙ ap (λ (x : Bool). round binary64 (unlike s x) (m * up e * (n * up i)) (down e * down i)) k.0
    ∙ round_same binary64 (unlike s t) (m * up e * (n * up i)) (down e * down i) (a * b) (c * d) (mul-pos (down_pos e) (down_pos i)) (mul-pos C D)
    (mul-mul-mul_comm (m * up e) (n * up i) c d ∙ ap (λ (z : ℕ). z * (n * up i * d)) h.1 ∙ ap (λ (z : ℕ). a * down e * z) k.1 ∙ mul-mul-mul_comm a (down e) b (down i))
