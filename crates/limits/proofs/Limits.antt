-- The numbers of a job at their limits (document 01, 'Whoever sends the job', 'The host', 'Boundary jobs'; document 02, N7): the last that passes and the first that is
-- refused, computed; of 26 all of them. Assumes nothing.
use mathlib.Core.List.{[], ◌∷◌, map}
use mathlib.Core.Path.{◌≡◌, refl}
use Prim.Native.Nat.{ℕ, ◌≤◌, ◌<◌}
use lib.Ieee.{Float, nan}
use borrow.Author.Tests.{lt-ltb, le-ltb}
use Rattle.doubles.specs.F64.{bits, nat, 1f, +0, +∞}
use Rattle.checks.specs.First.{first}
use Rattle.checks.specs.First.{Checked}
use Rattle.combination.specs.Checks.{count_checks, index_checks, time_checks, degree_checks, memory_checks, taylor_need, open_checks}
use Rattle.krylov_advance.specs.Run.{clamp_m}
use Rattle.krylov_job.specs.KrylovCall.{option_checks, krylov_need, open_krylov_call}
use Rattle.checks.specs.Reasons.{Sound, Refused}
use Rattle.checks.specs.declared.Reason.TheVariants.{VectorCount, IndexRange, TauRange, TolRange, NoSubsteps, OptionTooLarge, WorkLength, DegreeRange}

-- the smallest double, its negative, and the doubles below 1 and of the largest size
abbrev tiny : Float
tiny = bits 0x1

abbrev -tiny : Float
-tiny = bits 0x8000_0000_0000_0001

abbrev below_1 : Float
below_1 = bits 0x3fef_ffff_ffff_ffff

abbrev largest : Float
largest = bits 0x7fef_ffff_ffff_ffff

-- 12: 1 to 4 vectors
vectors : map (λ (k : ℕ). first (count_checks k)) (0 ∷ 1 ∷ 4 ∷ 5 ∷ []) ≡ Refused VectorCount +0 ∷ Sound ∷ Sound ∷ Refused VectorCount (nat 5) ∷ []
unfolding open_checks first
vectors = refl

-- 13: k and p up to 3
indices : map (λ (k : ℕ). first (index_checks k)) (0 ∷ 3 ∷ 4 ∷ []) ≡ Sound ∷ Sound ∷ Refused IndexRange (nat 4) ∷ []
unfolding open_checks first
indices = refl

-- 14: finite, and not negative; -0 passes
times : map (λ (x : Float). first (time_checks x)) (bits 0x8000_0000_0000_0000 ∷ tiny ∷ largest ∷ -tiny ∷ +∞ ∷ nan ∷ []) ≡ Sound ∷ Sound ∷ Sound ∷ Refused TauRange -tiny ∷ Refused TauRange +∞ ∷ Refused TauRange nan ∷ []
unfolding open_checks first
times = refl

-- 33: a cap of 1 to 30
caps : map (λ (k : ℕ). first (degree_checks k)) (0 ∷ 1 ∷ 30 ∷ 31 ∷ []) ≡ Refused DegreeRange nan ∷ Sound ∷ Sound ∷ Refused DegreeRange nan ∷ []
unfolding open_checks first
caps = refl

-- 18: tol strictly between 0 and 1
abbrev by_tol : Float → Checked
by_tol tol = first (option_checks (record { tol = tol; m = 2; max_substeps = 1 }) 2)

tolerances : map by_tol (tiny ∷ below_1 ∷ +0 ∷ 1f ∷ nan ∷ []) ≡ Sound ∷ Sound ∷ Refused TolRange +0 ∷ Refused TolRange 1f ∷ Refused TolRange nan ∷ []
unfolding open_krylov_call first
tolerances = refl

-- 19 and 20: 1 to 1,000,000 substeps
abbrev by_limit : ℕ → Checked
by_limit limit = first (option_checks (record { tol = below_1; m = 2; max_substeps = limit }) 2)

limits : map by_limit (0 ∷ 1 ∷ 1000000 ∷ 1000001 ∷ []) ≡ Refused NoSubsteps +0 ∷ Sound ∷ Sound ∷ Refused OptionTooLarge nan ∷ []
unfolding open_krylov_call first
limits = refl

-- 20: M up to 128, which is m clamped to 2 .. max(2, n + d): n = 200 with m 128 and 129, n = 5 with m 1000, n = 1 with m 0
abbrev by_dimension : ℕ → ℕ → Checked
by_dimension m n = first (option_checks (record { tol = below_1; m = m; max_substeps = 1 }) (clamp_m m n))

dimensions : by_dimension 128 200 ∷ by_dimension 129 200 ∷ by_dimension 1000 5 ∷ by_dimension 0 1 ∷ [] ≡ Sound ∷ Refused OptionTooLarge nan ∷ Sound ∷ Sound ∷ []
unfolding open_krylov_call first
dimensions = refl

clamped : clamp_m 1000 5 ∷ clamp_m 0 1 ∷ clamp_m 3 200 ∷ [] ≡ 5 ∷ 2 ∷ 3 ∷ []
unfolding clamp_m
clamped = refl

-- 26: exactly where less is lent than is needed, whatever that is
pub enough : (memory need : ℕ) → need ≤ memory → first (memory_checks memory need) ≡ Sound
unfolding memory_checks first
enough memory need h = rw (le-ltb memory need h)

pub too_short : (memory need : ℕ) → memory < need → first (memory_checks memory need) ≡ Refused WorkLength nan
unfolding memory_checks first
too_short memory need h = rw (lt-ltb memory need h)

-- 3n + 2d; n + (M + 3)(n + d) + (M + 2)²; the entries of a mass
needs : taylor_need 100 3 0 ∷ taylor_need 100 3 7 ∷ krylov_need 100 3 30 0 ∷ krylov_need 100 3 30 7 ∷ [] ≡ 306 ∷ 313 ∷ 4523 ∷ 4530 ∷ []
unfolding taylor_need krylov_need
needs = refl
