-- What a matrix is known to have that passes the checks. Assumes nothing.
use mathlib.Core.Bool.{Bool, true, false, not, ◌||◌, ◌&&◌, true≢false}
use mathlib.Core.List.{List, ◌++◌}
use mathlib.Core.Path.{◌≡◌, refl, sym, ◌∙◌}
use mathlib.Core.Logic.{⊎_elim}
use Prim.Native.Nat.{ℕ, ◌+◌, ◌-◌, ◌≤◌, ◌<◌}
use native.Mathlib.Nat.{eq-zero-or-pos}
use native.Mathlib.Omega.{arith}
use lib.Dec.{eqb}
use lib.ListN.{length, get_or}
use lib.Ieee.{Float}
use borrow.Author.Tests.{eqb-true, eqb-false, not-false, ltb-false, leb-false}
use Rattle.lists.specs.Find.{exists}
use Rattle.lists.proofs.Find.{none_below}
use Rattle.checks.specs.First.{first}
use Rattle.checks.proofs.First.{sound_cons, sound_append}
use Rattle.checks.specs.First.{Checked}
use Rattle.doubles.specs.F64.{is_finite, at}
use Rattle.general_operator.specs.Csr.{Csr, Valid}
use Rattle.general_operator.specs.Checks.{wrong_rows, wrong_entries, too_large, falls, bad_column, bad_entry, shape_checks, row_checks, entry_checks, matrix_checks}
use Rattle.checks.specs.Reasons.{Sound}

-- ---- 1 to 3
pub record Shape (n : ℕ) (starts : List ℕ) (columns entries : ℕ) : Type 0 where
  pub some : 0 < n
  pub rows : length starts ≡ n + 1
  pub paired : columns ≡ entries
  pub last : get_or starts n 0 ≡ entries
  pub few : n ≤ 1000000
  pub light : entries ≤ 16777216

pub or_false : (a b : Bool) → (a || b) ≡ false → (a ≡ false) × (b ≡ false)
or_false true b e = (e, cc)
or_false false b e = (refl, e)

pub and_false : (a b : Bool) → (a && b) ≡ false → a ≡ true → b ≡ false
and_false true b e f = e
and_false false b e f = absurd (true≢false (sym f))

pub rows_right : (n len : ℕ) → wrong_rows n len ≡ false → (0 < n) × (len ≡ n + 1)
unfolding wrong_rows
rows_right n len e =
    let q = or_false (eqb n 0) (not (eqb len (n + 1))) e in
    let z = eqb-false n 0 q.0 in
    (⊎_elim (λ (g : n ≡ 0). absurd (z g)) (λ (g : 0 < n). g) (eq-zero-or-pos n), eqb-true len (n + 1) (not-false (eqb len (n + 1)) q.1))

pub shape_sound : (n : ℕ) (starts : List ℕ) (columns entries : ℕ) → Sound ≡ first (shape_checks n starts columns entries) → Shape n starts columns entries
unfolding shape_checks wrong_entries too_large
shape_sound n starts columns entries e =
    let a = sound_cons _ _ _ _ e in
    let b = sound_cons _ _ _ _ a.1 in
    let c = sound_cons _ _ _ _ b.1 in
    let r = rows_right n (length starts) a.0 in
    let s = or_false _ _ b.0 in
    let t = or_false _ _ c.0 in
    record {
      some = r.0;
      rows = r.1;
      paired = eqb-true _ _ (not-false _ s.0);
      last = eqb-true _ _ (not-false _ s.1);
      few = ltb-false _ _ t.0;
      light = ltb-false _ _ t.1;
    }

-- the same of an answer s of the function that makes the checks
module _ (n : ℕ) (starts : List ℕ) (columns entries : ℕ) {s : Checked} (e : s ≡ Sound) (d : s ≡ first (shape_checks n starts columns entries)) where
  pub shape_rows : length starts - 1 ≡ n
  shape_rows = let h = shape_sound n starts columns entries (sym e ∙ d) in omega arith

  pub shape_paired : columns ≡ entries
  shape_paired = (shape_sound n starts columns entries (sym e ∙ d)).paired

-- ---- 4
rows_sound : (n : ℕ) (starts : List ℕ) → Sound ≡ first (row_checks n starts) → (i : ℕ) → i < n → get_or starts i 0 ≤ get_or starts (i + 1) 0
unfolding row_checks falls
rows_sound n starts e i l = ltb-false _ _ (none_below (falls starts) n (sound_cons _ _ _ _ e).0 i l)

-- ---- 5 and 6
fine_entry : (n : ℕ) (columns : List ℕ) (entries : List Float) → Sound ≡ first (entry_checks n columns entries) → (k : ℕ) → k < length entries → (bad_column n columns k ≡ false) × (not (is_finite (at entries k)) ≡ false)
unfolding entry_checks bad_entry exists
fine_entry n columns entries e k l =
    or_false _ _ (none_below (bad_entry n columns entries) (length entries) (sound_cons _ _ _ _ (sound_cons _ _ _ _ e).1).0 k l)

-- ---- the whole
module _ (a : Csr) (e : Sound ≡ first (matrix_checks a)) where
  parts : (Sound ≡ first (shape_checks a.n a.starts (length a.columns) (length a.entries))) × (Sound ≡ first (row_checks a.n a.starts)) × (Sound ≡ first (entry_checks a.n a.columns a.entries))
  unfolding matrix_checks
  parts =
      let s = sound_append (shape_checks a.n a.starts (length a.columns) (length a.entries)) (row_checks a.n a.starts ++ entry_checks a.n a.columns a.entries) e in
      let r = sound_append (row_checks a.n a.starts) (entry_checks a.n a.columns a.entries) s.1 in
      (s.0, r.0, r.1)

  pub sound_valid : Valid a
  unfolding bad_column
  sound_valid =
      let p = parts in
      let s = shape_sound _ _ _ _ p.0 in
      record {
        some = s.some;
        few = s.few;
        light = s.light;
        rows = s.rows;
        rising = rows_sound _ _ p.1;
        last = s.last;
        paired = s.paired;
        below = λ k l. leb-false _ _ (fine_entry _ _ _ p.2 k (omega arith)).0;
      }

  pub sound_finite : (k : ℕ) → k < length a.entries → is_finite (at a.entries k) ≡ true
  sound_finite k l = not-false _ (fine_entry _ _ _ parts.2 k l).1
