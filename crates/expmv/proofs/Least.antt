-- `select_s_m` takes the first admissible row of least cost, and none exactly where it may take none. Assumes nothing.
use Rattle.std.specs.Prelude.{Option, Some, None, if◌then◌else◌}
use mathlib.Core.Path.{◌≡◌, refl, sym, ◌∙◌, subst}
use mathlib.Core.Bool.{Bool, true, false, ◌&&◌, cond, true≢false}
use mathlib.Core.Logic.{⊎_elim}
use Prim.Native.Nat.{ℕ, zero, suc, ◌*◌, ◌≤◌, ◌<◌}
use native.Mathlib.Nat.{le_refl, le_of_lt, lt_of_lt_of_le, not-suc-le-zero, eq-or-lt_of_le, le_of_suc-le-suc}
use native.Mathlib.Omega.{arith}
use lib.Dec.{ltb}
use lib.Ieee.{Float}
use borrow.Author.Tests.{ltb-true, ltb-false}
use Rattle.lists.specs.Loop.{iter}
use Rattle.doubles.specs.F64.{◌⋖◌, +0, is_finite}
use Rattle.expmv.specs.declared.Row.{Row}
use Rattle.expmv.specs.Select.{degree, row, admissible, sweeps, cost, row_at, cheaper, consider, select_s_m, Bounds, Least}
use Rattle.expmv.proofs.Rows.{degree_bounds, degree_most, sweeps_bounds}

-- what the rows below n give
abbrev Best : ℕ → Float → ℕ → Option Row → Type 0
Best m_max arg n None = (j : ℕ) → j < n → admissible m_max arg j ≡ false
Best m_max arg n (Some r) = (i : ℕ) × Least m_max arg n r.s r.m i

-- what holds of the rows below n and of row n holds of those below n + 1
extend : (P : ℕ → Type 0) (n : ℕ) → ((j : ℕ) → j < n → P j) → P n → (j : ℕ) → j < suc n → P j
extend P n all here j l = ⊎_elim (λ (e : j ≡ n). subst P (sym e) here) (λ (h : j < n). all j h) (eq-or-lt_of_le (le_of_suc-le-suc l))

false_true : {b : Bool} → b ≡ false → b ≡ true → ⊥
false_true p q = true≢false (sym q ∙ p)

module _ (m_max : ℕ) (arg : Float) (n : ℕ) where
  stays : {s m i : ℕ} → Least m_max arg n s m i → (admissible m_max arg n ≡ true → cost arg i ≤ cost arg n) → Least m_max arg (suc n) s m i
  stays {i = i} b h = record {
    row = omega (arith, b.row);
    fits = b.fits;
    s_is = b.s_is;
    m_is = b.m_is;
    least = extend (λ j. admissible m_max arg j ≡ true → cost arg i ≤ cost arg j) n b.least h;
    first = b.first;
  }

  enters : admissible m_max arg n ≡ true → ((j : ℕ) → j < n → admissible m_max arg j ≡ true → cost arg n < cost arg j) → Least m_max arg (suc n) (sweeps arg n) (degree n) n
  enters a h = record {
    row = le_refl (suc n);
    fits = a;
    s_is = refl;
    m_is = refl;
    least = extend (λ j. admissible m_max arg j ≡ true → cost arg n ≤ cost arg j) n (λ j k t. le_of_lt (h j k t)) (λ t. le_refl _);
    first = h;
  }

  pub cost_of : {s m i : ℕ} → Least m_max arg n s m i → s * m ≡ cost arg i
  unfolding cost
  cost_of b = rw (b.s_is, b.m_is)

  compared : (s m : ℕ) (t : Bool) → ltb (cost arg n) (s * m) ≡ t → admissible m_max arg n ≡ true → Best m_max arg n (Some (row s m)) → Best m_max arg (suc n) (Some (cond t (row (sweeps arg n) (degree n)) (row s m)))
  compared s m true e a (i, b) =
      let h : cost arg n < cost arg i = rw (cost_of b) at (ltb-true (cost arg n) (s * m) e) in
      (n, enters a (λ j k t. lt_of_lt_of_le h (b.least j k t)))
  compared s m false e a (i, b) = (i, stays b (λ t. rw (cost_of b) at (ltb-false (cost arg n) (s * m) e)))

  taken : (best : Option Row) → admissible m_max arg n ≡ true → Best m_max arg n best → Best m_max arg (suc n) (Some (cheaper (row (sweeps arg n) (degree n)) best))
  unfolding cheaper cost
  taken None a b = (n, enters a (λ j k t. absurd (false_true (b j k) t)))
  taken (Some r) a b = compared r.s r.m _ refl a b

  skipped : (best : Option Row) → admissible m_max arg n ≡ false → Best m_max arg n best → Best m_max arg (suc n) best
  skipped None a b = extend (λ j. admissible m_max arg j ≡ false) n b a
  skipped (Some r) a (i, b) = (i, stays b (λ t. absurd (false_true a t)))

  one_row : (best : Option Row) (t : Bool) → admissible m_max arg n ≡ t → Best m_max arg n best → Best m_max arg (suc n) (cond t (Some (cheaper (row (sweeps arg n) (degree n)) best)) best)
  one_row best true a b = taken best a b
  one_row best false a b = skipped best a b

-- ---- a turn of the loop
entered : (t : Bool) (r x : Row) (best : Option Row) → (if t then Some r else None) ≡ Some x → Some (cheaper x best) ≡ (if t then Some (cheaper r best) else best)
entered true r x best e = let same : r ≡ x = cc in rw same
entered false r x best e = let z : zero ≡ 1 = cc in absurd (omega (arith, z))

left_out : (t : Bool) (r : Row) (best : Option Row) → (if t then Some r else None) ≡ None → best ≡ (if t then Some (cheaper r best) else best)
left_out true r best e = let z : zero ≡ 1 = cc in absurd (omega (arith, z))
left_out false r best e = refl

module _ (m_max : ℕ) (arg : Float) (n : ℕ) (best : Option Row) {x : Option Row} (e : x ≡ row_at m_max arg n) where
  pub row_considered : {r : Row} → x ≡ Some r → Some (cheaper r best) ≡ consider m_max arg n best
  unfolding row_at consider
  row_considered h = entered _ _ _ _ (sym e ∙ h)

  pub none_considered : x ≡ None → best ≡ consider m_max arg n best
  unfolding row_at consider
  none_considered h = left_out _ _ _ (sym e ∙ h)

rows : (m_max : ℕ) (arg : Float) (n : ℕ) → Best m_max arg n (iter (consider m_max arg) n None)
unfolding iter consider
rows m_max arg zero = λ j l. absurd (not-suc-le-zero l)
rows m_max arg (suc n) = one_row m_max arg n (iter (consider m_max arg) n None) _ refl (rows m_max arg n)

-- ---- the argument
pub endless : (m_max : ℕ) (arg : Float) → is_finite arg ≡ false → None ≡ select_s_m m_max arg
unfolding select_s_m
endless m_max arg f = rw f

off : (b : Bool) (x : Option Row) → None ≡ (if b && false then x else None)
off true x = refl
off false x = refl

pub negative : (m_max : ℕ) (arg : Float) → (arg ⋖ +0) ≡ true → None ≡ select_s_m m_max arg
unfolding select_s_m
negative m_max arg g = rw g (off (is_finite arg) _)

pub searched : (m_max : ℕ) (arg : Float) → is_finite arg ≡ true → (arg ⋖ +0) ≡ false → iter (consider m_max arg) 22 None ≡ select_s_m m_max arg
unfolding select_s_m
searched m_max arg f g = rw (f, g)

-- why no row is taken: the argument is not finite, or negative, or no row is admissible
pub data Refused (m_max : ℕ) (arg : Float) : Type 0 where
  not_finite : is_finite arg ≡ false → Refused m_max arg
  below_zero : (arg ⋖ +0) ≡ true → Refused m_max arg
  no_row : ((j : ℕ) → j < 22 → admissible m_max arg j ≡ false) → Refused m_max arg

-- what is given
abbrev Given : ℕ → Float → Option Row → Type 0
Given m_max arg None = Refused m_max arg
Given m_max arg (Some r) = (i : ℕ) × Least m_max arg 22 r.s r.m i

given : (m_max : ℕ) (arg : Float) (x : Option Row) → Best m_max arg 22 x → Given m_max arg x
given m_max arg None b = no_row b
given m_max arg (Some r) b = b

outcome : (m_max : ℕ) (arg : Float) (f g : Bool) → is_finite arg ≡ f → (arg ⋖ +0) ≡ g → Given m_max arg (select_s_m m_max arg)
outcome m_max arg false g f e = subst (Given m_max arg) (endless m_max arg f) (not_finite f)
outcome m_max arg true true f e = subst (Given m_max arg) (negative m_max arg e) (below_zero e)
outcome m_max arg true false f e = subst (Given m_max arg) (searched m_max arg f e) (given m_max arg (iter (consider m_max arg) 22 None) (rows m_max arg 22))

-- ---- the theorems
pub least : (m_max : ℕ) (arg : Float) (s m : ℕ) → select_s_m m_max arg ≡ Some (row s m) → (i : ℕ) × Least m_max arg 22 s m i
least m_max arg s m e = subst (Given m_max arg) e (outcome m_max arg _ _ refl refl)

pub none_only : (m_max : ℕ) (arg : Float) → select_s_m m_max arg ≡ None → Refused m_max arg
none_only m_max arg e = subst (Given m_max arg) e (outcome m_max arg _ _ refl refl)

pub none_if : (m_max : ℕ) (arg : Float) → Refused m_max arg → select_s_m m_max arg ≡ None
none_if m_max arg (not_finite f) = sym (endless m_max arg f)
none_if m_max arg (below_zero g) = sym (negative m_max arg g)
none_if m_max arg (no_row h) = go (select_s_m m_max arg) (outcome m_max arg _ _ refl refl)
  where
    go : (x : Option Row) → Given m_max arg x → x ≡ None
    go None b = refl
    go (Some r) (i, b) = absurd (false_true (h i b.row) b.fits)

pub least_bounds : (m_max : ℕ) (arg : Float) {s m : ℕ} (i : ℕ) → Least m_max arg 22 s m i → Bounds m_max s m
least_bounds m_max arg i b =
    let p = sweeps_bounds m_max arg i b.fits in
    let d = degree_bounds i b.row in
    let a = degree_most m_max arg i b.fits in
    record { s_some = omega (arith, b.s_is); s_most = omega (arith, b.s_is); m_some = omega (arith, b.m_is); m_most = omega (arith, b.m_is); m_allowed = omega (arith, b.m_is) }
