-- The floor of a double is minus the ceiling of its negative. Assumes nothing.
use Rattle.std.proofs.Common.{◌≡◌, ℕ, zero, suc, ◌+◌, ◌*◌, ◌^◌, Bool, true, false, cond, not, ltb, refl, ap, sym, ◌∙◌}
use lib.Ieee.{Float, nan, inf, fin, Format, binary64, prec, emax, low, up, down, odd, units, round, neg}
use lib.Ieee.Fits.{round_is}
use Rattle.doubles.specs.Whole.{whole_above, whole_below, ceil, floor}

-- ---- a sign goes through `round`
neg_odd : (d : ℕ) (s : Bool) (q k l : ℕ) → neg (odd d s q k l) ≡ odd d (not s) q k l
unfolding neg odd
neg_odd d s zero k l = refl
neg_odd d s (suc q) k l = refl

neg_units : (f : Format) (s : Bool) (q k : ℕ) → neg (units f s q k) ≡ units f (not s) q k
unfolding units
neg_units f s q k = go (ltb (q * 2 ^ k) (2 ^ (low f + suc (emax f))))
  where
    go : (b : Bool) → neg (cond b (odd (suc (prec f)) s q k (low f)) (inf s)) ≡ cond b (odd (suc (prec f)) (not s) q k (low f)) (inf (not s))
    go true = neg_odd (suc (prec f)) s q k (low f)
    go false = unfold neg in refl

pub neg_round : (f : Format) (s : Bool) (a c : ℕ) → neg (round f s a c) ≡ round f (not s) a c
neg_round f s a c = ap neg (round_is f s a c) ∙ neg_units f s _ _ ∙ sym (round_is f (not s) a c)

-- ---- the floor of x is minus the ceiling of -x
pub floor_is : (x : Float) → neg (ceil (neg x)) ≡ floor x
unfolding ceil floor neg
floor_is nan = refl
floor_is (inf true) = refl
floor_is (inf false) = refl
floor_is (fin true m e) = neg_round binary64 false (whole_above (m * up e) (down e)) 1
floor_is (fin false m e) = neg_round binary64 true (whole_below (m * up e) (down e)) 1
