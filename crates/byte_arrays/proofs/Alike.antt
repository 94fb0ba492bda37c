-- Two lists of checks that refuse alike: the same number, and the same double but of the check numbered k. Assumes nothing.
use mathlib.Core.Bool.{Bool, true, false, not, cond}
use mathlib.Core.List.{List, [], ◌∷◌, ◌++◌}
use mathlib.Core.Path.{◌≡◌, refl, sym, ◌∙◌, ap}
use native.Mathlib.Omega.{arith}
use Prim.Native.Nat.{ℕ, ◌≤◌, ◌<◌}
use lib.Dec.{eqb}
use lib.Ieee.{Float}
use borrow.Author.Tests.{eq-eqb, ne_eqb}
use Rattle.doubles.specs.F64.{nat}
use Rattle.checks.specs.First.{Check, refuse, first, Checked, same as same_number, before}
use Rattle.checks.proofs.First.{and_then, first_cons, first_append, stops, not_ne}
use Rattle.checks.proofs.Numbers.{not_by, alike_before}
use Rattle.checks.specs.Reasons.{number, Refused}
use Rattle.std.specs.Prelude.{Ok, Err}
use Rattle.checks.specs.declared.Reason.{Reason}

-- both refuse; where it is for the reason k, the first reports x
pub record Alike (k : Reason) (x : Float) (c d : Checked) : Type 0 where
  pub reason : Reason
  pub reported : Float
  pub here : c ≡ Refused reason (cond (same_number reason k) x reported)
  pub there : d ≡ Refused reason reported

module _ {k : Reason} {x : Float} where
  -- the same refusal, by a check of another number
  same : {c d : Checked} (j : Reason) (y : Float) → (number j ≡ number k → ⊥) → c ≡ Refused j y → d ≡ Refused j y → Alike k x c d
  same j y other ec ed = record { reason = j; reported = y; here = ec ∙ ap (λ (b : Bool). Refused j (cond b x y)) (sym (ne_eqb (number j) (number k) other)); there = ed }

  -- the check numbered k holds in both: whatever stands behind it
  pub stopped : {b₁ b₂ : Bool} (y : Float) (cs ds : List Check) → b₁ ≡ true → b₂ ≡ true → Alike k x (first (refuse k b₁ x ∷ cs)) (first (refuse k b₂ y ∷ ds))
  stopped y cs ds e₁ e₂ =
      record { reason = k; reported = y; here = sym (stops cs e₁ refl) ∙ ap (λ (b : Bool). Refused k (cond b x y)) (sym (eq-eqb (number k) (number k) refl)); there = sym (stops ds e₂ refl) }

  -- whatever stands behind two lists that refuse alike
  pub in_front : (ps qs cs ds : List Check) → Alike k x (first ps) (first qs) → Alike k x (first (ps ++ cs)) (first (qs ++ ds))
  unfolding and_then
  in_front ps qs cs ds a = record { reason = a.reason; reported = a.reported; here = rw (first_append ps cs, a.here); there = rw (first_append qs ds, a.there) }

  -- behind checks of other numbers
  pub behind : (ps cs ds : List Check) → before k ps ≡ ps → Alike k x (first cs) (first ds) → Alike k x (first (ps ++ cs)) (first (ps ++ ds))
  unfolding and_then
  behind ps cs ds none a = go (first ps) refl
    where
      go : (r : Checked) → r ≡ first ps → Alike k x (first (ps ++ cs)) (first (ps ++ ds))
      go (Ok _) e = rw (first_append ps cs, first_append ps ds, ← e) a
      go (Err r) e = same r.reason r.value (λ n. not_by r.reason ps (alike_before r.reason k n ps ∙ none) e) (rw (first_append ps cs, ← e)) (rw (first_append ps ds, ← e))

  -- behind one check of another number, which then fails
  pub past : (c : Check) (cs ds : List Check) → (number c.reason ≡ number k → ⊥) → (c.holds ≡ false → Alike k x (first cs) (first ds)) → Alike k x (first (c ∷ cs)) (first (c ∷ ds))
  past c cs ds other h = go c.holds refl
    where
      go : (b : Bool) → c.holds ≡ b → Alike k x (first (c ∷ cs)) (first (c ∷ ds))
      go true e = same c.reason c.reported other (sym (stops cs e refl)) (sym (stops ds e refl))
      go false e = rw (first_cons c.reason c.holds c.reported cs, first_cons c.reason c.holds c.reported ds, e) (h e)

-- two lengths that are refused by number k: neither is the one wanted, unless the check `limit` before it refuses
module _ (k : Reason) (ps : List Check) (limit : Check) (qs : List Check) (len₁ len₂ wanted : ℕ) (cs ds : List Check) where
  abbrev wrong : ℕ → Check
  wrong len = refuse k (not (eqb len wanted)) (nat len)

  pub wrong_lengths : before k ps ≡ ps → (number limit.reason ≡ number k → ⊥) → before k qs ≡ qs → (limit.holds ≡ false → wanted ≤ 256) → 256 < len₁ → 256 < len₂ → Alike k (nat len₁) (first (ps ++ (limit ∷ (qs ++ (wrong len₁ ∷ cs))))) (first (ps ++ (limit ∷ (qs ++ (wrong len₂ ∷ ds)))))
  wrong_lengths np nl nq few l₁ l₂ =
      behind ps (limit ∷ (qs ++ (wrong len₁ ∷ cs))) (limit ∷ (qs ++ (wrong len₂ ∷ ds))) np
      (past limit (qs ++ (wrong len₁ ∷ cs)) (qs ++ (wrong len₂ ∷ ds)) nl
      (λ e. behind qs (wrong len₁ ∷ cs) (wrong len₂ ∷ ds) nq (stopped (nat len₂) cs ds (not_ne {a = len₁} {b = wanted} (λ q. absurd (omega (arith, few e, l₁, q)))) (not_ne {a = len₂} {b = wanted} (λ q. absurd (omega (arith, few e, l₂, q)))))))
