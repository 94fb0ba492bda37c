-- A unit in two slices, place by place. Assumes nothing.
use Rattle.std.specs.Prelude.{if◌then◌else◌}
use mathlib.Core.Path.{◌≡◌, refl, sym, ap, ◌∙◌}
use mathlib.Core.Bool.{Bool, true, false, ◌&&◌}
use mathlib.Core.List.{List, ◌++◌}
use Prim.Native.Nat.{ℕ, zero, suc, ◌+◌, ◌-◌, ◌*◌, ◌≤◌}
use native.Mathlib.Nat.{zero-add, zero-mul, suc-mul}
use native.Mathlib.Omega.{arith}
use lib.Dec.{eqb}
use lib.ListN.{length, length-append, get_or, take, drop}
use lib.Ieee.{Float, nan}
use borrow.Author.Tests.{eqb-true}
use Rattle.lists.specs.Loop.{tabulate, stack}
use Rattle.lists.specs.Window.{window, splice}
use Rattle.lists.proofs.Loop.{length_tabulate}
use Rattle.lists.proofs.Stack.{Stacked, stack_turn}
use Rattle.lists.proofs.Window.{part_window, length_window, part_back, splice_more, splice_whole}
use Rattle.paused_run.specs.declared.PausedRun.{PausedRun}
use Rattle.rotation.specs.Unit.{run_at}
use Rattle.rotation.specs.declared.Rotation.{Rotation}
use Rattle.lists.proofs.Tests.{and_both}
use Rattle.exports_paused.specs.Told.{numbers_of, counts_of, fits, held, no_run, run_of, State, state, written}
use Rattle.exports_rotation.specs.Told.{unit_counts, unit_fits, kept_or}

-- ---- the lengths
pub fitting_unit : (numbers : List Float) (counts : List ℕ) → unit_fits numbers counts ≡ true → (length numbers ≡ 160) × (length counts ≡ 144)
unfolding unit_fits
fitting_unit numbers counts e =
    let q = and_both (eqb (length numbers) 160) (eqb (length counts) 144) e in
    (eqb-true _ _ q.0, eqb-true _ _ q.1)

pub unit_fitting : (numbers : List Float) (counts : List ℕ) → length numbers ≡ 160 → length counts ≡ 144 → unit_fits numbers counts ≡ true
unfolding unit_fits
unit_fitting numbers counts ln lc = rw (ln, lc) refl

-- ---- one place
module _ (numbers : List Float) (counts : List ℕ) (a b : ℕ) (la : a + 10 ≤ length numbers) (lb : b + 8 ≤ length counts) where
  fits_here : fits (window a 10 numbers) (window b 8 counts) ≡ true
  unfolding fits
  fits_here = rw (length_window a 10 numbers la, length_window b 8 counts lb) refl

  pub run_held : run_of (window a 10 numbers) (window b 8 counts) ≡ held (window a 10 numbers) (window b 8 counts)
  unfolding run_of
  run_held = ap (λ (x : Bool). if x then held (window a 10 numbers) (window b 8 counts) else no_run) fits_here

  pub read_held : {r : PausedRun} → r ≡ run_of (take (a + 10 - a) (drop a numbers)) (take (b + 8 - b) (drop b counts)) → r ≡ held (window a 10 numbers) (window b 8 counts)
  read_held e = (rw (part_window a 10 numbers, part_window b 8 counts) at e) ∙ run_held

  module _ (s : PausedRun) {ys : List Float} {zs : List ℕ} (h : (k : ℕ) (x : Float) → state k x ys zs ≡ written k x s (take (a + 10 - a) (drop a numbers)) (take (b + 8 - b) (drop b counts))) where
    put : state 0 nan ys zs ≡ state 0 nan (numbers_of s) (counts_of s)
    unfolding written
    put =
        (rw (part_window a 10 numbers, part_window b 8 counts) at (h 0 nan))
        ∙ ap (λ (x : Bool). if x then state 0 nan (numbers_of s) (counts_of s) else state 0 nan (window a 10 numbers) (window b 8 counts)) fits_here

    pub numbers_put : take a numbers ++ (ys ++ drop (a + 10 - a) (drop a numbers)) ≡ splice a (numbers_of s) numbers
    numbers_put =
        let e : ys ≡ numbers_of s = ap (λ (x : State). x.numbers) put in
        part_back a 10 (λ x. numbers_of s) ys numbers la (ap length e ∙ sym (ap length (part_window a 10 numbers) ∙ length_window a 10 numbers la)) e

    pub counts_put : take b counts ++ (zs ++ drop (b + 8 - b) (drop b counts)) ≡ splice b (counts_of s) counts
    counts_put =
        let e : zs ≡ counts_of s = ap (λ (x : State). x.counts) put in
        part_back b 8 (λ x. counts_of s) zs counts lb (ap length e ∙ sym (ap length (part_window b 8 counts) ∙ length_window b 8 counts lb)) e

-- ---- place after place
pub row_more : {A : Type 0} {n i : ℕ} {r : ℕ → List A} {w₀ w : List A} → Stacked 0 n i r w₀ w → (w₁ : List A) → length (r i) ≡ n → w₁ ≡ splice (i * n) (r i) w → Stacked 0 n (i + 1) r w₀ w₁
row_more {A} {n} {i} {r} {w₀} {w} h w₁ l e = stack_turn h w₁ l (e ∙ ap (λ (k : ℕ). splice k (r i) w) (sym (zero-add (i * n))))

-- all rows have one length
pub stack_long : {A : Type 0} (n : ℕ) (r : ℕ → List A) → ((p : ℕ) → length (r p) ≡ n) → (i : ℕ) → length (stack i r) ≡ i * n
unfolding stack
stack_long n r l zero = sym (zero-mul n)
stack_long n r l (suc i) = length-append (stack i r) (r i) ∙ (λ k. stack_long n r l i k + l i k) ∙ sym (suc-mul i n)

-- the numbers: the runs' and the queue's
pub counts_whole : (u : Rotation) (counts₀ : List ℕ) {counts₁ counts₂ : List ℕ} → length counts₀ ≡ 144 → counts₁ ≡ splice 0 (stack 16 (λ p. counts_of (run_at u p))) counts₀
    → counts₂ ≡ splice 128 (tabulate 16 (λ k. get_or u.queue k 0)) counts₁
    → counts₂ ≡ unit_counts u
counts_whole u counts₀ l e₁ e₂ =
    let rows = stack 16 (λ p. counts_of (run_at u p)) in
    let queue = tabulate 16 (λ k. get_or u.queue k 0) in
    let size : length rows ≡ 128 = stack_long 8 (λ p. counts_of (run_at u p)) (λ p. refl) 16 in
    e₂
    ∙ ap (splice 128 queue) e₁
    ∙ splice_more 0 128 rows queue counts₀ size
    ∙ splice_whole (rows ++ queue) counts₀ (length-append rows queue ∙ (let z : length rows + length queue ≡ length counts₀ = omega (arith, size, length_tabulate 16 (λ k. get_or u.queue k 0), l) in z))

-- ---- kept
pub kept_all : {A : Type 0} {a b : Bool} {x after : A} (before : A) → a ≡ true → b ≡ true → x ≡ after → x ≡ kept_or (a && b) after before
kept_all before ea eb e = e ∙ rw (ea, eb) refl

pub kept_not : {A : Type 0} (a : Bool) {b : Bool} (after before : A) → b ≡ false → before ≡ kept_or (a && b) after before
kept_not true after before eb = rw eb refl
kept_not false after before eb = refl

pub kept_none : {A : Type 0} {a : Bool} (b : Bool) (after before : A) → a ≡ false → before ≡ kept_or (a && b) after before
kept_none b after before ea = rw ea refl
