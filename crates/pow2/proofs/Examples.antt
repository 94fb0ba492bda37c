-- The starred jobs of `eta_scaling`, and further boundary values. Assumes nothing.
use mathlib.Core.Path.{◌≡◌, refl}
use mathlib.Core.Bool.{true, false}
use mathlib.Core.List.{[], ◌∷◌, map}
use lib.IntN.{pos, negsuc}
use lib.Ieee.{Float, nan, inf, fin, neg}
use Rattle.std.specs.Prelude.{Some, None}
use Rattle.doubles.specs.F64.{nat, bits, +0, 1f}
use Rattle.pow2.specs.declared.Scaling.{Scaling}
use Rattle.pow2.specs.Pow2.{ceil_log2, eta_scaling, pow2_scale, scale_of, factors, open_pow2}

abbrev etas : Float → Float → Scaling
etas e i = record { eta = e; inv = i }

-- 3, 1 and 0; then the largest double, a subnormal, minus 3, an infinity and NaN
eta : map eta_scaling (nat 3 ∷ nat 1 ∷ +0 ∷ bits 0x7fef_ffff_ffff_ffff ∷ bits 1 ∷ neg (nat 3) ∷ inf false ∷ nan ∷ [])
    ≡ etas (fin false 1 (negsuc 1)) (nat 4) ∷ etas 1f 1f ∷ etas 1f 1f ∷ etas (fin false 1 (negsuc 999)) (fin false 1 (pos 1000)) ∷ etas (fin false 1 (pos 1000)) (fin false 1 (negsuc 999)) ∷ etas 1f 1f ∷ etas 1f 1f ∷ etas 1f 1f ∷ []
unfolding open_pow2
eta = refl

-- 3, 1, 2 ^ -1022, the largest double, an infinity, NaN, 0 and a subnormal
logs : map ceil_log2 (nat 3 ∷ nat 1 ∷ bits 0x10_0000_0000_0000 ∷ bits 0x7fef_ffff_ffff_ffff ∷ inf true ∷ nan ∷ +0 ∷ bits 1 ∷ [])
    ≡ pos 2 ∷ pos 0 ∷ negsuc 1021 ∷ pos 1024 ∷ pos 1024 ∷ pos 1025 ∷ negsuc 999 ∷ negsuc 999 ∷ []
unfolding open_pow2
logs = refl

-- (3, -1), the empty list, zeros of both signs, a NaN beside them, the smallest double, 2 ^ -1023, the largest double, an infinity
scales : map pow2_scale ((nat 3 ∷ neg 1f ∷ []) ∷ [] ∷ (+0 ∷ neg +0 ∷ []) ∷ (nan ∷ neg +0 ∷ []) ∷ (bits 1 ∷ []) ∷ (bits 0x8_0000_0000_0000 ∷ []) ∷ (bits 0x7fef_ffff_ffff_ffff ∷ []) ∷ (nan ∷ inf true ∷ 1f ∷ []) ∷ [])
    ≡ Some (scale_of (pos 1)) ∷ None ∷ None ∷ None ∷ Some (scale_of (negsuc 1022)) ∷ Some (scale_of (negsuc 1022)) ∷ Some (scale_of (pos 1023)) ∷ Some (scale_of (pos 1023)) ∷ []
unfolding open_pow2
scales = refl

-- the farthest exponents that have factors, and those next to them
reach : map factors (negsuc 1023 ∷ negsuc 1022 ∷ pos 1023 ∷ pos 1024 ∷ []) ≡ None ∷ Some (scale_of (negsuc 1022)) ∷ Some (scale_of (pos 1023)) ∷ None ∷ []
unfolding open_pow2
reach = refl
