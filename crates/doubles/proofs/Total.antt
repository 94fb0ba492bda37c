-- The order of all doubles that are no NaN, with their signs and infinities: `le` is reflexive, transitive and total, `lt` is its complement, and a negation turns it round.
-- A signed number ±a is the difference `over` - `under` of two numbers, so that one proof in ℕ serves all signs. Assumes nothing.
use mathlib.Core.Path.{◌≡◌, refl, sym, subst}
use mathlib.Core.Logic.{◌⊎◌, inl, inr}
use Prim.Native.Nat.{ℕ, ◌+◌, ◌*◌, ◌≤◌, ◌<◌}
use native.Mathlib.Nat.{le_refl, le_of_eq, le_of_lt, eq-or-lt_of_le, zero-mul, mul_right_comm, mul-le-mul_right, le_of_mul-le-mul_right, add-mul}
use native.Mathlib.Omega.{arith}
use mathlib.Core.Bool.{Bool, true, false, not, ◌&&◌, ◌||◌, true≢false}
use lib.IntN.{ℤ}
use lib.Dec.{T, eqb, ltb→lt, lt→ltb, eqb→eq, T_not, not_T}
use lib.Ieee.{Float, nan, inf, fin, binary64, up, down, below, level, neg, le, lt, eq, fits, is_nan}
use lib.Ieee.Fits.{down_pos, and_l, and_r, and_i, eq→eqb}
use Rattle.doubles.specs.F64.{◌⩽◌, ◌⋖◌}
use Rattle.doubles.proofs.Unique.{value_unique}
use Rattle.lists.proofs.Bounds.{lt_or_le}

-- ---- signed numbers and fractions
-- ±a is over s a - under s a
abbrev pub over : Bool → ℕ → ℕ
over false a = a
over true a = 0

abbrev pub under : Bool → ℕ → ℕ
under false a = 0
under true a = a

-- ±a / c ≤ ±b / d
abbrev pub Before : Bool → ℕ → ℕ → Bool → ℕ → ℕ → Type 0
Before s a c t b d = over s a * d + under t b * c ≤ over t b * c + under s a * d

pub one_side : (s : Bool) (a : ℕ) → (over s a ≡ 0) ⊎ (under s a ≡ 0)
one_side false a = inr refl
one_side true a = inl refl

pub both_sides : (s : Bool) (a : ℕ) → over s a + under s a ≡ a
both_sides false a = omega arith
both_sides true a = omega arith

pub over_mul : (s : Bool) (a d : ℕ) → over s a * d ≡ over s (a * d)
over_mul false a d = refl
over_mul true a d = zero-mul d

pub under_mul : (s : Bool) (a d : ℕ) → under s a * d ≡ under s (a * d)
under_mul false a d = zero-mul d
under_mul true a d = refl

pub over_not : (s : Bool) (a : ℕ) → over (not s) a ≡ under s a
over_not false a = refl
over_not true a = refl

pub under_not : (s : Bool) (a : ℕ) → under (not s) a ≡ over s a
under_not false a = refl
under_not true a = refl

-- (p - n) / c ≤ (q - m) / d ≤ (r - k) / h
through : (p n c q m d r k h : ℕ) → 0 < d → p * d + m * c ≤ q * c + n * d → q * h + k * d ≤ r * d + m * h → p * h + k * c ≤ r * c + n * h
through p n c q m d r k h D H K =
    let a = simp add-mul at (mul-le-mul_right h H) in
    let b = simp add-mul at (mul-le-mul_right c K) in
    le_of_mul-le-mul_right (simp add-mul (omega (arith, mul_right_comm p h d, mul_right_comm k c d, mul_right_comm r c d, mul_right_comm n h d, mul_right_comm q c h, mul_right_comm m c h))) D

-- ---- the tests of `lt`, `eq` and `le` on ±a and ±b
below_is : (s : Bool) (a : ℕ) (t : Bool) (b : ℕ) → T (below s a t b) → over s a + under t b < over t b + under s a
below_is false a false b h = let l = ltb→lt a b h in omega arith
below_is false a true b h = absurd h
below_is true a false b h = let l = ltb→lt 0 (a + b) h in omega arith
below_is true a true b h = let l = ltb→lt b a h in omega arith

below_of : (s : Bool) (a : ℕ) (t : Bool) (b : ℕ) → over s a + under t b < over t b + under s a → T (below s a t b)
below_of false a false b h = lt→ltb a b (omega arith)
below_of false a true b h = omega arith
below_of true a false b h = lt→ltb 0 (a + b) (omega arith)
below_of true a true b h = lt→ltb b a (omega arith)

level_is : (s : Bool) (a : ℕ) (t : Bool) (b : ℕ) → T (level s a t b) → over s a + under t b ≡ over t b + under s a
level_is false a false b h = let e = eqb→eq a b (and_l (eqb a b) true h) in omega arith
level_is false a true b h = let e = eqb→eq a b (and_l (eqb a b) (eqb a 0) h) in let z = eqb→eq a 0 (and_r (eqb a b) (eqb a 0) h) in omega arith
level_is true a false b h = let e = eqb→eq a b (and_l (eqb a b) (eqb a 0) h) in let z = eqb→eq a 0 (and_r (eqb a b) (eqb a 0) h) in omega arith
level_is true a true b h = let e = eqb→eq a b (and_l (eqb a b) true h) in omega arith

same : (a b : ℕ) (c : Bool) → a ≡ b → T c → T (eqb a b && c)
same a b c e t = and_i (eqb a b) c (eq→eqb e) t

level_of : (s : Bool) (a : ℕ) (t : Bool) (b : ℕ) → over s a + under t b ≡ over t b + under s a → T (level s a t b)
level_of false a false b h = same a b true (omega arith) tt
level_of false a true b h = same a b (eqb a 0) (omega arith) (eq→eqb {a = a} {b = 0} (omega arith))
level_of true a false b h = same a b (eqb a 0) (omega arith) (eq→eqb {a = a} {b = 0} (omega arith))
level_of true a true b h = same a b true (omega arith) tt

or_split : (a b : Bool) → T (a || b) → T a ⊎ T b
or_split true b t = inl tt
or_split false b t = inr t

or_join : (a b : Bool) → T a ⊎ T b → T (a || b)
or_join true b t = tt
or_join false b t = elim t [ inl u ↦ absurd u | inr u ↦ u ]

at_most_is : (s : Bool) (a : ℕ) (t : Bool) (b : ℕ) → T (below s a t b || level s a t b) → over s a + under t b ≤ over t b + under s a
at_most_is s a t b h = elim (or_split (below s a t b) (level s a t b) h) [ inl u ↦ le_of_lt (below_is s a t b u) | inr u ↦ le_of_eq (level_is s a t b u) ]

at_most_of : (s : Bool) (a : ℕ) (t : Bool) (b : ℕ) → over s a + under t b ≤ over t b + under s a → T (below s a t b || level s a t b)
at_most_of s a t b h = or_join (below s a t b) (level s a t b) (elim (eq-or-lt_of_le h) [ inl e ↦ inr (level_of s a t b e) | inr l ↦ inl (below_of s a t b l) ])

-- ---- `le` of two numbers is the order of the signed fractions
pub le→before : (s : Bool) (m : ℕ) (e : ℤ) (t : Bool) (n : ℕ) (d : ℤ) → T (fin s m e ⩽ fin t n d) → Before s (m * up e) (down e) t (n * up d) (down d)
unfolding le
le→before s m e t n d h = simp (over_mul, under_mul) (at_most_is s (m * up e * down d) t (n * up d * down e) h)

pub before→le : (s : Bool) (m : ℕ) (e : ℤ) (t : Bool) (n : ℕ) (d : ℤ) → Before s (m * up e) (down e) t (n * up d) (down d) → T (fin s m e ⩽ fin t n d)
unfolding le
before→le s m e t n d h = at_most_of s (m * up e * down d) t (n * up d * down e) (simp (over_mul, under_mul) at h)

-- `lt` of two numbers is the strict order
pub lt→ahead : (s : Bool) (m : ℕ) (e : ℤ) (t : Bool) (n : ℕ) (d : ℤ) → T (fin s m e ⋖ fin t n d)
    → over s (m * up e) * down d + under t (n * up d) * down e < over t (n * up d) * down e + under s (m * up e) * down d
unfolding lt
lt→ahead s m e t n d h = simp (over_mul, under_mul) (below_is s (m * up e * down d) t (n * up d * down e) h)

-- ---- what `le` says of two doubles: the first is -infinity, or the second +infinity, or both are numbers in order
pub data Le : Float → Float → Type 0 where
  lowest : {y : Float} → T (not (is_nan y)) → Le (inf true) y
  highest : {x : Float} → T (not (is_nan x)) → Le x (inf false)
  numbers : (s : Bool) (m : ℕ) (e : ℤ) (t : Bool) (n : ℕ) (d : ℤ) → Before s (m * up e) (down e) t (n * up d) (down d) → Le (fin s m e) (fin t n d)

-- le_view reads `le`, and view_le writes it
pub le_view : (x y : Float) → T (x ⩽ y) → Le x y
unfolding le is_nan
le_view nan y h = absurd h
le_view (inf s) nan h = absurd h
le_view (inf true) (inf t) h = lowest tt
le_view (inf false) (inf true) h = absurd h
le_view (inf false) (inf false) h = highest tt
le_view (inf true) (fin t n d) h = lowest tt
le_view (inf false) (fin t n d) h = absurd h
le_view (fin s m e) nan h = absurd h
le_view (fin s m e) (inf true) h = absurd h
le_view (fin s m e) (inf false) h = highest tt
le_view (fin s m e) (fin t n d) h = numbers s m e t n d (le→before s m e t n d h)

-- -infinity is below all, and +infinity above
pub le_lowest : (y : Float) → T (not (is_nan y)) → T (inf true ⩽ y)
unfolding le is_nan
le_lowest nan h = absurd h
le_lowest (inf true) h = tt
le_lowest (inf false) h = tt
le_lowest (fin t n d) h = tt

pub le_highest : (x : Float) → T (not (is_nan x)) → T (x ⩽ inf false)
unfolding le is_nan
le_highest nan h = absurd h
le_highest (inf true) h = tt
le_highest (inf false) h = tt
le_highest (fin s m e) h = tt

pub view_le : {x y : Float} → Le x y → T (x ⩽ y)
view_le (lowest {y} h) = le_lowest y h
view_le (highest {x} h) = le_highest x h
view_le (numbers s m e t n d h) = before→le s m e t n d h

no_nan_left : {x y : Float} → Le x y → T (not (is_nan x))
unfolding is_nan
no_nan_left (lowest h) = tt
no_nan_left (highest h) = h
no_nan_left (numbers s m e t n d h) = tt

no_nan_right : {x y : Float} → Le x y → T (not (is_nan y))
unfolding is_nan
no_nan_right (lowest h) = h
no_nan_right (highest h) = tt
no_nan_right (numbers s m e t n d h) = tt

-- what is compared is no NaN
pub le_number_left : (x y : Float) → T (x ⩽ y) → T (not (is_nan x))
le_number_left x y h = no_nan_left (le_view x y h)

pub le_number_right : (x y : Float) → T (x ⩽ y) → T (not (is_nan y))
le_number_right x y h = no_nan_right (le_view x y h)

-- ---- the laws of the order
-- a double that is no NaN is at most itself
pub ⩽_refl : (x : Float) → T (not (is_nan x)) → T (x ⩽ x)
unfolding is_nan
⩽_refl nan h = absurd h
⩽_refl (inf true) h = le_lowest (inf true) tt
⩽_refl (inf false) h = le_highest (inf false) tt
⩽_refl (fin s m e) h = before→le s m e s m e (le_refl _)

trans_view : {x y z : Float} → Le x y → Le y z → Le x z
unfolding is_nan
trans_view (lowest h) k = lowest (no_nan_right k)
trans_view (highest h) (highest k) = highest h
trans_view (numbers s m e t n d h) (highest k) = highest tt
trans_view (numbers s m e t n d h) (numbers _ _ _ u l c k) =
    numbers s m e u l c (through (over s (m * up e)) (under s (m * up e)) (down e) (over t (n * up d)) (under t (n * up d)) (down d) (over u (l * up c)) (under u (l * up c)) (down c) (down_pos d) h k)

-- the order is transitive
pub ⩽_trans : (x y z : Float) → T (x ⩽ y) → T (y ⩽ z) → T (x ⩽ z)
⩽_trans x y z h k = view_le (trans_view (le_view x y h) (le_view y z k))

pub bool_eq : (a b : Bool) → (T a → T b) → (T b → T a) → a ≡ b
bool_eq true true f g = refl
bool_eq true false f g = absurd (f tt)
bool_eq false true f g = absurd (g tt)
bool_eq false false f g = refl

-- off NaN `lt` is the complement of `le`
pub ⋖_is : (x y : Float) → T (not (is_nan x)) → T (not (is_nan y)) → (x ⋖ y) ≡ not (y ⩽ x)
unfolding le is_nan
⋖_is nan y h k = absurd h
⋖_is (inf s) nan h k = absurd k
⋖_is (inf true) (inf true) h k = refl
⋖_is (inf true) (inf false) h k = refl
⋖_is (inf false) (inf true) h k = refl
⋖_is (inf false) (inf false) h k = refl
⋖_is (inf true) (fin t n d) h k = refl
⋖_is (inf false) (fin t n d) h k = refl
⋖_is (fin s m e) nan h k = absurd k
⋖_is (fin s m e) (inf true) h k = refl
⋖_is (fin s m e) (inf false) h k = refl
⋖_is (fin s m e) (fin t n d) h k = opposite s (m * up e * down d) t (n * up d * down e)
  where
    opposite : (s : Bool) (a : ℕ) (t : Bool) (b : ℕ) → below s a t b ≡ not (below t b s a || level t b s a)
    opposite s a t b = bool_eq (below s a t b) (not (below t b s a || level t b s a))
        (λ h. not_T (below t b s a || level t b s a) (λ k. let u = below_is s a t b h in let v = at_most_is t b s a k in omega arith))
        (λ h. below_of s a t b (elim (lt_or_le (over s a + under t b) (over t b + under s a)) [ inl l ↦ l | inr g ↦ absurd (T_not (below t b s a || level t b s a) h (at_most_of t b s a g)) ]))

-- what is below another is, like it, no NaN
pub lt_numbers : (x y : Float) → T (x ⋖ y) → T (not (is_nan x)) × T (not (is_nan y))
unfolding lt is_nan
lt_numbers nan y h = absurd h
lt_numbers (inf s) nan h = absurd h
lt_numbers (inf s) (inf t) h = (tt, tt)
lt_numbers (inf s) (fin t n d) h = (tt, tt)
lt_numbers (fin s m e) nan h = absurd h
lt_numbers (fin s m e) (inf t) h = (tt, tt)
lt_numbers (fin s m e) (fin t n d) h = (tt, tt)

-- so what is below is not above
pub ⋖_not : (x y : Float) → T (x ⋖ y) → T (y ⩽ x) → ⊥
⋖_not x y h k = let n = lt_numbers x y h in T_not (y ⩽ x) (subst T (⋖_is x y n.0 n.1) h) k

-- what is not at most is above
pub not_⩽ : (x y : Float) → T (not (is_nan x)) → T (not (is_nan y)) → (T (x ⩽ y) → ⊥) → T (y ⋖ x)
not_⩽ x y p q f = subst T (sym (⋖_is y x q p)) (not_T (x ⩽ y) f)

-- and the order is total
pub ⩽_or_⋖ : (x y : Float) → T (not (is_nan x)) → T (not (is_nan y)) → T (x ⩽ y) ⊎ T (y ⋖ x)
⩽_or_⋖ x y p q = subst (λ (b : Bool). T (x ⩽ y) ⊎ T b) (sym (⋖_is y x q p)) (go (x ⩽ y))
  where
    go : (b : Bool) → T b ⊎ T (not b)
    go true = inl tt
    go false = inr tt

-- `lt` is part of `le`
pub ⋖_⩽ : (x y : Float) → T (x ⋖ y) → T (x ⩽ y)
unfolding le
⋖_⩽ x y h = or_join (lt x y) (eq x y) (inl h)

-- what is below another does not equal it
pub ⋖_apart : (x y : Float) → T (x ⋖ y) → T (eq x y) → ⊥
unfolding lt eq
⋖_apart nan y h k = h
⋖_apart (inf s) nan h k = h
⋖_apart (inf true) (inf true) h k = h
⋖_apart (inf true) (inf false) h k = k
⋖_apart (inf false) (inf t) h k = h
⋖_apart (inf s) (fin t n d) h k = k
⋖_apart (fin s m e) nan h k = h
⋖_apart (fin s m e) (inf t) h k = k
⋖_apart (fin s m e) (fin t n d) h k =
    let u = below_is s (m * up e * down d) t (n * up d * down e) h in
    let v = level_is s (m * up e * down d) t (n * up d * down e) k in
    omega arith

-- chains of both
pub ⩽_⋖_trans : (x y z : Float) → T (x ⩽ y) → T (y ⋖ z) → T (x ⋖ z)
⩽_⋖_trans x y z h k = not_⩽ z x (lt_numbers y z k).1 (le_number_left x y h) (λ g. ⋖_not y z k (⩽_trans z x y g h))

pub ⋖_⩽_trans : (x y z : Float) → T (x ⋖ y) → T (y ⩽ z) → T (x ⋖ z)
⋖_⩽_trans x y z h k = not_⩽ z x (le_number_right y z k) (lt_numbers x y h).0 (λ g. ⋖_not x y h (⩽_trans y z x k g))

pub neg_number : (x : Float) → T (not (is_nan x)) → T (not (is_nan (neg x)))
unfolding neg is_nan
neg_number nan h = h
neg_number (inf s) h = tt
neg_number (fin s m e) h = tt

neg_view : {x y : Float} → Le x y → Le (neg y) (neg x)
unfolding neg
neg_view (lowest {y} h) = highest (neg_number y h)
neg_view (highest {x} h) = lowest (neg_number x h)
neg_view (numbers s m e t n d h) = numbers (not t) n d (not s) m e (simp (over_not, under_not) (omega arith))

-- a negation turns the order round
pub ⩽_neg : (x y : Float) → T (x ⩽ y) → T (neg y ⩽ neg x)
⩽_neg x y h = view_le (neg_view (le_view x y h))

-- the sign: clear for a NaN
abbrev pub sign : Float → Bool
sign nan = false
sign (inf s) = s
sign (fin s m e) = s

antisymm_view : {x y : Float} → T (fits binary64 x) → T (fits binary64 y) → sign x ≡ sign y → Le x y → Le y x → x ≡ y
antisymm_view f g p (lowest h) (lowest k) = refl
antisymm_view f g p (highest h) (highest k) = refl
antisymm_view f g p (numbers s m e t n d h) (numbers _ _ _ _ _ _ k) = value_unique (fin s m e) (fin t n d) s (m * up e) (down e) (down_pos e) f g (refl, refl) (sym p, sym (cross s t (m * up e) (down e) (n * up d) (down d) p h k))
  where
    cross : (s t : Bool) (a c b d : ℕ) → s ≡ t → Before s a c t b d → Before t b d s a c → a * d ≡ b * c
    cross false false a c b d p h k = omega arith
    cross false true a c b d p h k = absurd (true≢false (sym p))
    cross true false a c b d p h k = absurd (true≢false p)
    cross true true a c b d p h k = omega arith

-- two that fit, of one sign and in order both ways, are one
pub ⩽_antisymm : (x y : Float) → T (fits binary64 x) → T (fits binary64 y) → sign x ≡ sign y → T (x ⩽ y) → T (y ⩽ x) → x ≡ y
⩽_antisymm x y f g p h k = antisymm_view f g p (le_view x y h) (le_view y x k)
