-- `replaced`, of which the maximum and the minimum are made. Assumes nothing.
use Rattle.std.specs.Prelude.{if◌then◌else◌}
use mathlib.Core.Path.{◌≡◌, refl, sym, ◌∙◌, subst}
use mathlib.Core.Bool.{Bool, true, false, not, true≢false}
use mathlib.Core.Logic.{◌⊎◌, inl, inr}
use lib.Dec.{T}
use lib.Ieee.{Float, nan, inf, fin, ne, lt, is_nan}
use lib.Ieee.Bits.{is_true}
use lib.Ieee.Compare.{nan_differs}
use Rattle.doubles.specs.F64.{◌⩽◌, ◌⋖◌, abs, is_finite, nonneg, replaced, min_num, max_num}
use Rattle.doubles.proofs.Total.{⩽_or_⋖, ⋖_⩽}

pub where_nan : (x y : Float) (b : Bool) → true ≡ is_nan x → y ≡ replaced x y b
unfolding replaced is_nan
where_nan nan y b e = refl
where_nan (inf s) y b e = absurd (true≢false e)
where_nan (fin s m d) y b e = absurd (true≢false e)

pub where_told : (x y : Float) (b : Bool) → b ≡ true → y ≡ replaced x y b
unfolding replaced
where_told nan y b e = refl
where_told (inf s) y b e = rw e
where_told (fin s m d) y b e = rw e

pub where_not : (x y : Float) (b : Bool) → ne x x ≡ false → b ≡ false → x ≡ replaced x y b
unfolding replaced
where_not nan y b n e = absurd (true≢false (sym nan_differs ∙ n))
where_not (inf s) y b n e = rw e
where_not (fin s m d) y b n e = rw e

pub where_number : (x y : Float) (b : Bool) → false ≡ is_nan x → b ≡ false → x ≡ replaced x y b
unfolding replaced is_nan
where_number nan y b n e = absurd (true≢false (sym n))
where_number (inf s) y b n e = rw e
where_number (fin s m d) y b n e = rw e

pub replaced_finite : (x y : Float) (b : Bool) → is_finite x ≡ true → is_finite y ≡ true → is_finite (replaced x y b) ≡ true
unfolding replaced
replaced_finite nan y b p q = q
replaced_finite (inf s) y b p q = absurd (subst T (sym p) tt)
replaced_finite (fin s m d) y true p q = q
replaced_finite (fin s m d) y false p q = p

pub replaced_nonneg : (x y : Float) (b : Bool) → T (nonneg x) → T (nonneg y) → T (nonneg (replaced x y b))
unfolding replaced
replaced_nonneg nan y b p q = q
replaced_nonneg (inf s) y true p q = q
replaced_nonneg (inf s) y false p q = p
replaced_nonneg (fin s m e) y true p q = q
replaced_nonneg (fin s m e) y false p q = p

pub nonneg_max : (m v : Float) → T (nonneg m) → T (nonneg (max_num m (abs v)))
unfolding max_num replaced lt
nonneg_max nan v h = absurd h
nonneg_max (inf true) v h = absurd h
nonneg_max (inf false) nan h = tt
nonneg_max (inf false) (inf s) h = tt
nonneg_max (inf false) (fin s n d) h = tt
nonneg_max (fin true m e) v h = absurd h
nonneg_max (fin false m e) nan h = tt
nonneg_max (fin false m e) (inf s) h = tt
nonneg_max (fin false m e) (fin s n d) h = go (fin false m e ⋖ fin false n d)
  where
    go : (b : Bool) → T (nonneg (if b then fin false n d else fin false m e))
    go true = tt
    go false = tt

pub replaced_number : (x y : Float) (b : Bool) → T (not (is_nan x)) → replaced x y b ≡ (if b then y else x)
unfolding replaced is_nan
replaced_number nan y b p = absurd p
replaced_number (inf s) y b p = refl
replaced_number (fin s m d) y b p = refl

-- the minimum of two numbers is the one that is at most the other
pub min_of_two : (x y : Float) → T (not (is_nan x)) → T (not (is_nan y)) → ((min_num x y ≡ x) × T (x ⩽ y)) ⊎ ((min_num x y ≡ y) × T (y ⩽ x))
unfolding min_num
min_of_two x y p q = rw (replaced_number x y (y ⋖ x) p) (go (y ⋖ x) refl (⩽_or_⋖ x y p q))
  where
    go : (b : Bool) → (y ⋖ x) ≡ b → T (x ⩽ y) ⊎ T (y ⋖ x) → (((if b then y else x) ≡ x) × T (x ⩽ y)) ⊎ (((if b then y else x) ≡ y) × T (y ⩽ x))
    go true e h = inr (refl, ⋖_⩽ y x (subst T (sym e) tt))
    go false e (inl l) = inl (refl, l)
    go false e (inr g) = absurd (true≢false (sym (is_true (y ⋖ x) g) ∙ e))
