-- `pow2::eta_scaling` meets its contract. Assumes nothing.
use mathlib.Core.Path.{◌≡◌, sym, ◌∙◌}
use mathlib.Core.Bool.{true}
use Prim.Native.Nat.{◌≤◌}
use native.Mathlib.Omega.{arith}
use lib.IntN.{ℤ, pos, negsuc, ◌-ℤ◌}
use lib.Signed.{mag}
use lib.Ieee.{Float}
use mir.Syntax.{w32}
use mir.Val.{to_z, of_z}
use Rattle.doubles.specs.F64.{◌⋖◌, +0, is_finite}
use Rattle.pow2.specs.declared.Scaling.{Scaling}
use Rattle.pow2.specs.Pow2.{clamp, ceil_log2, exact_pow2, eta_scaling}
use Rattle.pow2.proofs.Integers.{held, negated, clamp_is, clamp_mag}
use Rattle.pow2.proofs.eta_scaling.Goals as goal
use Rattle.pow2.proofs.eta_scaling.Goals.{else-max_mag-via-then-max_mag+else-is_finite, else-max_mag-via-else-max_mag}

scaled : (x : Float) (k e : ℤ) (a b : Float) → (+0 ⋖ x) ≡ true → is_finite x ≡ true → to_z w32 (of_z w32 k) ≡ ceil_log2 x → e ≡ clamp (to_z w32 (of_z w32 k)) (negsuc 999) (pos 1000) → mag e ≤ 1000
    → a ≡ exact_pow2 (to_z w32 (of_z w32 (pos 0 -ℤ to_z w32 (of_z w32 e)))) → b ≡ exact_pow2 (to_z w32 (of_z w32 e)) → ◌≡◌ {A = Scaling} (record { eta = a; inv = b }) (eta_scaling x)
unfolding eta_scaling
scaled x k e a b p f q r w i j =
    let n = negated e (omega arith) in
    let h = held e (omega arith) in
    rw (p, f, i, j, n, h, r, q)

pub returns-then-is_finite : goal.returns-then-is_finite
returns-then-is_finite c =
    let clamped : c.clamp-e.result ≡ clamp (to_z w32 (of_z w32 c.ceil_log2.result)) (negsuc 999) (pos 1000) = c.clamp-e.ensures.value ∙ clamp_is 999 _ in
    let within : mag c.clamp-e.result ≤ 1000 = rw clamped (clamp_mag 999 _) in
    scaled _ c.ceil_log2.result _ _ _ c.if-max_mag.true (sym c.is_finite.ensures ∙ c.if-is_finite.true) (held c.ceil_log2.result c.ceil_log2.type_inv ∙ c.ceil_log2.ensures)
    clamped within c.exact_pow2.ensures c.exact_pow2-then-is_finite.ensures

pub returns : goal.returns
unfolding eta_scaling
returns c = elim c.else-max_mag.branch [
  | else-max_mag-via-then-max_mag+else-is_finite w ↦ rw (w.if-max_mag.true, sym w.is_finite.ensures ∙ w.if-is_finite.false)
  | else-max_mag-via-else-max_mag w ↦ rw w.if-max_mag.false
]
