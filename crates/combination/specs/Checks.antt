-- The checks of a job, in the order in which they are met (document 01, 'Whoever sends the job', 'Matrix and job together', 'The host'; phi_action.rs,
-- `validate_combination`, `eta_scaled_columns`, `phi_schedule`). Definitions only.
use Rattle.std.specs.Prelude.{Bool, true, false, not, ◌||◌, List, [], ◌∷◌, ◌++◌, ℕ, ◌+◌, ◌*◌, ltb, eqb, length, Float, Option, Some, None}
use Rattle.std.specs.Float.{nan}
use Rattle.lists.specs.Find.{find, exists, open_find}
use Rattle.doubles.specs.F64.{◌⊗◌, ◌⋖◌, +0, nat, at, is_finite}
use Rattle.checks.specs.First.{Check, refuse}
use Rattle.expmv.specs.Select.{select_s_m, M_MAX}
use Rattle.expmv.specs.declared.Row.{Row}
use Rattle.phi_shift.specs.Plan.{argument, open_plan}
use Rattle.combination.specs.Combination.{magnitude, gain, eta_of, open_combination}
use Rattle.checks.specs.declared.Reason.TheVariants.{VectorCount, IndexRange, TauRange, OutputLength, VectorLength, VectorNotFinite, MagnitudeNotFinite, GainNotFinite, ArgumentNotFinite, NoAdmissibleRow, WorkLength, DegreeRange}

-- vectors not 1 to 4
unfoldable pub count_checks : ℕ → List Check
count_checks count = refuse VectorCount (eqb count 0 || ltb 4 count) (nat count) ∷ []

-- k or p above 3
unfoldable pub index_checks : ℕ → List Check
index_checks k = refuse IndexRange (ltb 3 k) (nat k) ∷ []

-- negative or not finite (`phi_schedule`, of tau; of the norm it was 23, which never occurs: N14)
unfoldable pub out_of_range : Float → Bool
out_of_range x = not (is_finite x) || x ⋖ +0

-- tau negative or not finite
unfoldable pub time_checks : Float → List Check
time_checks tau = refuse TauRange (out_of_range tau) tau ∷ []

-- the highest degree of a plan not 1 to 30 (document 02, N7)
unfoldable pub degree_checks : ℕ → List Check
degree_checks cap = refuse DegreeRange (eqb cap 0 || ltb M_MAX cap) nan ∷ []

-- the output's and the vectors' lengths: what is handed in, and what is wanted
unfoldable pub length_checks : ℕ → ℕ → ℕ → ℕ → List Check
length_checks output wanted vectors expected =
    refuse OutputLength (not (eqb output wanted)) (nat output) ∷ refuse VectorLength (not (eqb vectors expected)) (nat vectors) ∷ []

unfoldable pub not_finite_at : List Float → ℕ → Bool
not_finite_at w i = not (is_finite (at w i))

unfoldable pub finite_checks : List Float → List Check
finite_checks w = refuse VectorNotFinite (exists (not_finite_at w) (length w)) (at w (find (not_finite_at w) (length w))) ∷ []

-- of the further vectors f: tau ^ (j + 1) * eta of w_(j+1)
unfoldable pub bad_gain : ℕ → List Float → Float → Float → ℕ → Bool
bad_gain n f tau eta j = not (is_finite (gain n f tau j ⊗ eta))

-- eta is the job's own, or what a run began with
unfoldable pub magnitude_checks : ℕ → List Float → Float → ℕ → Float → List Check
magnitude_checks n f tau d eta =
    refuse MagnitudeNotFinite (not (is_finite (magnitude n f tau d))) (magnitude n f tau d) ∷ refuse GainNotFinite (exists (bad_gain n f tau eta) d) nan ∷ []

abbrev pub no_row : Option Row → Bool
no_row None = true
no_row (Some r) = false

-- the argument not finite, no admissible row up to the degree m_max. (23, the norm negative or not finite, never occurs, and its number is not used again: document 02, N14.)
unfoldable pub schedule_checks : ℕ → Float → Float → List Check
schedule_checks m_max norm tau =
    refuse ArgumentNotFinite (not (is_finite (argument tau norm))) (argument tau norm)
    ∷ refuse NoAdmissibleRow (no_row (select_s_m m_max (argument tau norm))) (argument tau norm)
    ∷ []

-- the working memory is shorter than what is needed
unfoldable pub memory_checks : ℕ → ℕ → List Check
memory_checks memory need = refuse WorkLength (ltb memory need) nan ∷ []

-- what a Taylor job needs: 3 n + 2 d, and what its generator stores
unfoldable pub taylor_need : ℕ → ℕ → ℕ → ℕ
taylor_need n d stored = 3 * n + 2 * d + stored

-- ---- groups of these
-- 14 and 33 of a Taylor job
unfoldable pub plan_checks : Float → ℕ → List Check
plan_checks tau cap = time_checks tau ++ degree_checks cap

-- 12 to 17 of a combination of `count` vectors with the values w; `of_time` is 14, and of a Taylor job 33 behind it, `of_lengths` are 15 and 16
unfoldable pub vector_checks_by : List Check → List Check → ℕ → List Float → List Check
vector_checks_by of_time of_lengths count w = count_checks count ++ (of_time ++ (of_lengths ++ finite_checks w))

-- of vectors in one slice
unfoldable pub vector_checks : ℕ → List Check → ℕ → List Float → ℕ → List Check
vector_checks n of_time count w output = vector_checks_by of_time (length_checks output n (length w) (count * n)) count w

-- 21, 22 and 24 to 26 of a Taylor combination with the further vectors f
unfoldable pub sweep_checks : ℕ → Float → ℕ → ℕ → List Float → Float → ℕ → ℕ → List Check
sweep_checks n tau cap d f norm memory need =
    magnitude_checks n f tau d (eta_of n f tau d).eta ++ (schedule_checks cap norm tau ++ memory_checks memory need)

-- 13 to 17, 33 behind 14, and 24 to 26 of an action on v, of n values (17: document 02, N2)
unfoldable pub job_checks : ℕ → Float → ℕ → ℕ → ℕ → List Float → ℕ → Float → ℕ → ℕ → List Check
job_checks k tau cap output wanted v n norm memory need =
    index_checks k
    ++ (plan_checks tau cap ++ (length_checks output wanted (length v) n ++ (finite_checks v ++ (schedule_checks cap norm tau ++ memory_checks memory need))))

-- to compute: a line `unfolding open_checks` opens every definition of this file and of those below it
unfoldable pub open_checks : Unit {0}
unfolding count_checks index_checks out_of_range time_checks degree_checks plan_checks length_checks not_finite_at finite_checks bad_gain magnitude_checks schedule_checks memory_checks taylor_need vector_checks_by vector_checks sweep_checks job_checks open_find open_combination open_plan
open_checks = tt
