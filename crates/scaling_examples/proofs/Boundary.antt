-- Why N9's condition is put on the exact result (docs/DIFFERENCES.md). A product just below 2 ^ -1022 may round to 2 ^ -1022: it gives a number of at least 2 ^ -1022 in size, and has lost a
-- digit that it keeps for twice the vectors. Each operation of the two jobs below meets document 02's words, and the second output is not twice the first. Assumes nothing.
use mathlib.Core.Bool.{Bool, true, false, not, ◌||◌, ◌&&◌, cond, true≢false}
use mathlib.Core.List.{List, [], ◌∷◌}
use mathlib.Core.Option.{none}
use mathlib.Core.Path.{◌≡◌, refl, sym, ap}
use Prim.Native.Nat.{ℕ, ◌^◌, ◌≤◌}
use native.Mathlib.Omega.{arith}
use lib.Dec.{T, eqb, leb, eqb→eq, leb→le, lit<}
use lib.IntN.{pos, nat_abs, ◌+ℤ◌, ◌*ℤ◌}
use lib.ListN.{length, replicate}
use lib.Ieee.{Float, eq}
use borrow.Author.Tests.{not-false}
use Rattle.lists.specs.Find.{exists}
use Rattle.lists.proofs.Find.{none_below}
use Rattle.doubles.specs.F64.{◌⊕◌, ◌⊗◌, bits, +0, 1f, 2f, at, is_finite}
use Rattle.doubles.specs.Units.{units, open_units}
use Rattle.doubles.proofs.Units.{tiny_between}
use Rattle.general_operator.specs.Csr.{Csr, csr}
use Rattle.generator_action.specs.Generator.{forward}
use Rattle.pow2.specs.Pow2.{exact_pow2, eta_of}
use Rattle.phi_shift.specs.Plan.{plan}
use Rattle.combination.specs.Call.{Call, ends}
use Rattle.taylor_job.specs.declared.TaylorReport.{TaylorReport}
use Rattle.taylor_job.specs.Calls.{TaylorAnswer}
use Rattle.taylor_job.specs.Calls.{phi_combination, open_calls}
use Rattle.scaling.specs.Doubled.{doubled, scaling_of, InJob, CleanJob}
use Rattle.scaling.proofs.Tested.{job_bad, in_job, open_tested}
use Rattle.scaling_examples.specs.Words.{Normal, Words⊗, Words⊕, WordsDoubled}
use Rattle.std.specs.Prelude.{Ok}

-- ---- document 02's words as a test
unfoldable normal : Float → Bool
normal x = is_finite x && leb (2 ^ 52) (nat_abs (units x))

unfoldable words⊗ : Float → Float → Bool
words⊗ x y = not (eqb (nat_abs (units x *ℤ units y)) 0 || normal (x ⊗ y))

unfoldable words⊕ : Float → Float → Bool
words⊕ x y = not (eqb (nat_abs (units x +ℤ units y)) 0 || normal (x ⊕ y))

is_normal : (x : Float) → normal x ≡ true → Normal x
unfolding normal
is_normal x e = go (is_finite x) (leb (2 ^ 52) (nat_abs (units x))) refl (leb→le (2 ^ 52) (nat_abs (units x))) e
  where
    go : (f l : Bool) → is_finite x ≡ f → (T l → 2 ^ 52 ≤ nat_abs (units x)) → (f && l) ≡ true → Normal x
    go true true h k e = record { finite = h; large = k tt }
    go true false h k e = absurd (true≢false (sym e))
    go false l h k e = absurd (true≢false (sym e))

meets : (z : ℕ) (x : Float) → not (eqb z 0 || normal x) ≡ false → (z ≡ 0 → ⊥) → Normal x
meets z x e n = go (eqb z 0) (normal x) (eqb→eq z 0) refl (not-false _ e)
  where
    go : (a b : Bool) → (T a → z ≡ 0) → normal x ≡ b → (a || b) ≡ true → Normal x
    go true b f g h = absurd (n (f tt))
    go false true f g h = is_normal x g
    go false false f g h = absurd (true≢false (sym h))

words_job : (q : Csr) (tau : Float) (cap count : ℕ) (w : List Float) → job_bad words⊗ words⊕ q tau cap count w ≡ false → InJob Words⊗ Words⊕ q tau cap count w
unfolding words⊗ words⊕
words_job = in_job Words⊗ Words⊕ words⊗ words⊕ (λ x y e f g n. meets _ (x ⊗ y) e n) (λ x y e f g n. meets _ (x ⊕ y) e n)

-- ---- the job: three rows, of which the first has one entry, 2 ^ -22 - 2 ^ -75 in column 1; tau 4; w_0 = (0, 2 ^ -1000, 0), w_1 = (0, 0, 1); and the one with twice these vectors
abbrev matrix : Csr
matrix = csr 3 (0 ∷ 1 ∷ 1 ∷ 1 ∷ []) (1 ∷ []) (bits 0x3e8f_ffff_ffff_ffff ∷ [])

abbrev tau : Float
tau = bits 0x4010_0000_0000_0000

abbrev vectors : List Float
vectors = +0 ∷ bits 0x0170_0000_0000_0000 ∷ +0 ∷ +0 ∷ +0 ∷ 1f ∷ []

abbrev twice : List Float
twice = +0 ∷ bits 0x0180_0000_0000_0000 ∷ +0 ∷ +0 ∷ +0 ∷ 2f ∷ []

twice_is : doubled (pos 1) vectors ≡ twice
unfolding doubled open_calls
twice_is = refl

abbrev job : List Float → Call TaylorAnswer
job w = phi_combination (forward matrix none) tau 30 2 w (replicate 3 +0) (replicate 11 +0)

abbrev told : TaylorReport
told = record { s = 2; m = 25; mu = +0; applications = 50 }

-- both are accepted, and these are their outputs
once_out : job vectors ≡ ends (Ok told) (bits 0x8030_0000_0000_0000 ∷ bits 0x0170_0000_0000_0000 ∷ bits 0x4010_0000_0000_0000 ∷ []) (replicate 11 +0)
unfolding open_calls
once_out = refl

twice_out : job twice ≡ ends (Ok told) (bits 0x803f_ffff_ffff_ffff ∷ bits 0x0180_0000_0000_0000 ∷ bits 0x4020_0000_0000_0000 ∷ []) (replicate 11 +0)
unfolding open_calls
twice_out = refl

-- the scaling exponents are 2 and 3, far from their clamp
once_exponent : scaling_of matrix tau 2 vectors ≡ eta_of (pos 2)
unfolding open_calls
once_exponent = refl

twice_exponent : scaling_of matrix tau 2 twice ≡ eta_of (pos 3)
unfolding open_calls
twice_exponent = refl

-- each operation of both runs, and of the multiplication, meets the words
once_words : InJob Words⊗ Words⊕ matrix tau 30 2 vectors
once_words = words_job matrix tau 30 2 vectors (unfold normal words⊗ words⊕ open_tested open_units open_calls in refl)

twice_words : InJob Words⊗ Words⊕ matrix tau 30 2 twice
twice_words = words_job matrix tau 30 2 twice (unfold normal words⊗ words⊕ open_tested open_units open_calls in refl)

multiplied_words : WordsDoubled (pos 1) vectors
multiplied_words i l f n = meets (nat_abs (units (at vectors i))) (at vectors i ⊗ exact_pow2 (pos 1)) (none_below _ (length vectors) all i l) n
  where
    all : exists (λ i. not (eqb (nat_abs (units (at vectors i))) 0 || normal (at vectors i ⊗ exact_pow2 (pos 1)))) (length vectors) ≡ false
    all = unfold normal open_tested open_units open_calls in refl

-- and yet the second output is not twice the first
first_value : (job twice).output ≡ doubled (pos 1) (job vectors).output → bits 0x803f_ffff_ffff_ffff ≡ bits 0x8040_0000_0000_0000
unfolding doubled open_calls
first_value e = ap (λ (x : List Float). at x 0) e

apart : bits 0x803f_ffff_ffff_ffff ≡ bits 0x8040_0000_0000_0000 → ⊥
unfolding open_calls
apart e = let z : ◌≡◌ {A = ℕ} 0 1 = ap (λ (x : Float). cond (eq x (bits 0x8040_0000_0000_0000)) 1 0) e in absurd (omega (arith, z))

pub not_doubled : (job twice).output ≡ doubled (pos 1) (job vectors).output → ⊥
not_doubled e = apart (first_value e)

-- the theorem's condition is not met: the product that lost its digit is the first of the first term
pub not_clean : CleanJob matrix tau 30 2 vectors → ⊥
unfolding open_units open_calls
not_clean c =
    tiny_between (2 ^ 1126) (units (bits 0x3e8f_ffff_ffff_ffff) *ℤ units (bits 0x0170_0000_0000_0000)) (lit< tt) (lit< tt)
    ((((c.sweeps (plan 2 25 +0) refl 0 (omega arith)).terms 0 (omega arith)).product.rows 0 (omega arith)).products 0 (omega arith)).not_tiny
