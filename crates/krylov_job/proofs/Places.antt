-- The Krylov dimension, and the places of a Krylov call in the lent memory. Assumes nothing.
use mathlib.Core.Path.{◌≡◌, refl}
use mathlib.Core.Bool.{Bool, true, false}
use mathlib.Core.List.{List}
use Prim.Native.Nat.{ℕ, ◌+◌, ◌*◌, ◌≤◌, min, max}
use native.Mathlib.Omega.{arith}
use lib.Dec.{ltb}
use lib.ListN.{length}
use lib.Ieee.{Float}
use borrow.Author.Tests.{ltb-true, ltb-false}
use Rattle.std.specs.Prelude.{if◌then◌else◌, Option, Some, None}
use Rattle.lists.proofs.Bounds.{product_within}
use Rattle.pow2.specs.declared.Scale.{Scale}
use Rattle.pow2.specs.Pow2.{pow2_scale}
use Rattle.phi_action_helpers.specs.Augmented.{Augmented}
use Rattle.krylov_advance.specs.Run.{clamp_m, expv_by, expv}

-- ---- M
pub clamp_is : (m len : ℕ) → max 2 (min m (max len 2)) ≡ clamp_m m len
unfolding clamp_m
clamp_is m len = go (ltb m 2) (ltb len 2) refl refl
  where
    go : (s t : Bool) → ltb m 2 ≡ s → ltb len 2 ≡ t → max 2 (min m (max len 2)) ≡ (if s then 2 else min m (if t then 2 else len))
    go true t p q = omega (arith, ltb-true m 2 p)
    go false true p q = omega (arith, ltb-false m 2 p, ltb-true len 2 q)
    go false false p q = omega (arith, ltb-false m 2 p, ltb-false len 2 q)

-- a clamped number stays
pub clamp_twice : (m len : ℕ) → clamp_m (clamp_m m len) len ≡ clamp_m m len
clamp_twice m len =
    let once = clamp_is m len in
    let twice = clamp_is (clamp_m m len) len in
    omega (arith, once, twice)

-- a run clamps its dimension: a clamped one makes the same run
pub expv_clamped : (b : Augmented) (tau anorm tol : Float) (m limit : ℕ) (y : List Float) → expv b tau anorm tol (clamp_m m (length y)) limit y ≡ expv b tau anorm tol m limit y
unfolding expv expv_by
expv_clamped b tau anorm tol m limit y = go (pow2_scale y)
  where
    go : (s : Option Scale) → expv_by b tau anorm tol (clamp_m m (length y)) limit y s ≡ expv_by b tau anorm tol m limit y s
    go None = refl
    go (Some f) = rw (clamp_twice m (length y)) refl

-- ---- the places are numbers of a machine
pub record Within (n d m : ℕ) : Type 0 where
  pub columns : (m + 1) * (n + d) ≤ 129000387
  pub small_at : (m + 2) * (n + d) ≤ 130000390
  pub before_small : (m + 3) * (n + d) ≤ 131000393
  pub small : (m + 2) * (m + 2) ≤ 16900

pub within : {n d m : ℕ} → n ≤ 1000000 → d ≤ 3 → m ≤ 128 → Within n d m
within hn hd hm =
    record {
      columns = product_within 129 1000003 (omega arith) (omega arith);
      small_at = product_within 130 1000003 (omega arith) (omega arith);
      before_small = product_within 131 1000003 (omega arith) (omega arith);
      small = product_within 130 130 (omega arith) (omega arith);
    }
