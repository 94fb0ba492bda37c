-- The number of the check that refuses, and the checks in front of it. Assumes nothing.
use mathlib.Core.Bool.{Bool, true, false}
use mathlib.Core.List.{List, [], ◌∷◌, ◌++◌, append-nil}
use mathlib.Core.Path.{◌≡◌, refl, sym, ap, ◌∙◌}
use mathlib.Core.Logic.{◌⊎◌, inl, inr, ⊎_elim}
use Prim.Native.Nat.{ℕ, zero}
use native.Mathlib.Omega.{arith}
use lib.Dec.{eqb}
use lib.Ieee.{Float}
use borrow.Author.Tests.{eq-eqb, eqb-false}
use Rattle.checks.specs.First.{Check, refuse, first, unless_named, same, before}
use Rattle.checks.specs.Reasons.{number}
use Rattle.checks.specs.declared.Reason.{Reason}
use Rattle.checks.specs.First.{Checked}
use Rattle.checks.proofs.First.{same_reason, same_double, and_then, unless, first_cons, first_append, sound_append, sound_on, stops}
use Rattle.checks.specs.Reasons.{Sound, Refused}
use Rattle.std.specs.Prelude.{Ok, Err}

-- ---- `before k xs ≡ xs` says that no check of xs is numbered k
tail_of : {c d : Check} {cs ds : List Check} → c ∷ cs ≡ d ∷ ds → cs ≡ ds
tail_of e = cc

pub before_append : (k : Reason) (xs ys : List Check) → before k xs ≡ xs → before k (xs ++ ys) ≡ xs ++ before k ys
unfolding before
before_append k [] ys h = refl
before_append k (c ∷ cs) ys h = go (same c.reason k) h (before_append k cs ys)
  where
    go : (t : Bool) → unless_named t c (before k cs) ≡ c ∷ cs → (before k cs ≡ cs → before k (cs ++ ys) ≡ cs ++ before k ys) → unless_named t c (before k (cs ++ ys)) ≡ c ∷ (cs ++ before k ys)
    go true h i = let z : zero ≡ 1 = cc in absurd (omega (arith, z))
    go false h i = ap (λ (r : List Check). c ∷ r) (i (tail_of h))

-- ---- a refusal's number is that of a check of the list
reason_of : (k : Reason) (b : Bool) (y : Float) (r : Checked) {j : Reason} {x : Float} → Refused j x ≡ unless b k y r → (j ≡ k) ⊎ (Refused j x ≡ r)
reason_of k true y r f = inl (same_reason f)
reason_of k false y r f = inr f

taken : (k : Reason) (c : Check) (cs : List Check) (t : Bool) {j : Reason} {x : Float} → same c.reason k ≡ t → (Refused j x ≡ first cs → j ≡ k → ⊥) → Refused j x ≡ first (unless_named t c cs) → j ≡ k → ⊥
unfolding first
taken k c cs true e h f g = let z : zero ≡ 1 = cc in absurd (omega (arith, z))
taken k c cs false {j} {x} e h f g =
    ⊎_elim
    (λ (n : j ≡ c.reason). eqb-false (number c.reason) (number k) e (ap number (sym n ∙ g)))
    (λ (r : Refused j x ≡ first cs). h r g)
    (reason_of c.reason c.holds c.reported (first cs) (f ∙ first_cons c.reason c.holds c.reported cs))

pub before_number : (k : Reason) (cs : List Check) {j : Reason} {x : Float} → Refused j x ≡ first (before k cs) → j ≡ k → ⊥
unfolding before first
before_number k [] f g = let z : zero ≡ 1 = cc in absurd (omega (arith, z))
before_number k (c ∷ cs) f g = taken k c (before k cs) (same c.reason k) refl (before_number k cs) f g

-- a list that has no check numbered k does not refuse by k
pub not_by : (k : Reason) (xs : List Check) {x : Float} → before k xs ≡ xs → Refused k x ≡ first xs → ⊥
not_by k xs none f = before_number k xs (f ∙ ap first (sym none)) refl

-- two reasons of one number take the same checks away
pub alike_before : (j k : Reason) → number j ≡ number k → (cs : List Check) → before j cs ≡ before k cs
unfolding before
alike_before j k e [] = refl
alike_before j k e (c ∷ cs) = λ i. unless_named (eqb (number c.reason) (e i)) c (alike_before j k e cs i)

-- the same of a reason that has the number of k
pub not_numbered : (k : Reason) (cs : List Check) {j : Reason} {x : Float} → before k cs ≡ cs → number j ≡ number k → Refused j x ≡ first cs → ⊥
not_numbered k cs {j} none e f = not_by j cs (alike_before j k e cs ∙ none) f

-- ---- checks of other numbers before others: a refusal by k is of the others
and_then_past : (k : Reason) (r s : Checked) {x : Float} → ((y : Float) → Refused k y ≡ r → ⊥) → Refused k x ≡ and_then r s → (Sound ≡ r) × (Refused k x ≡ s)
unfolding and_then
and_then_past k (Ok _) s h f = (refl, f)
and_then_past k (Err r) s {x} h f = absurd (h x f)

pub refused_past : (k : Reason) (xs ys : List Check) {x : Float} → before k xs ≡ xs → Refused k x ≡ first (xs ++ ys) → (Sound ≡ first xs) × (Refused k x ≡ first ys)
refused_past k xs ys none f = and_then_past k (first xs) (first ys) (λ y g. not_by k xs none g) (f ∙ first_append xs ys)

-- a check numbered k that refuses
by_itself : (k : Reason) (b : Bool) (y : Float) (r : Checked) {x : Float} → (Refused k x ≡ r → ⊥) → Refused k x ≡ unless b k y r → (b ≡ true) × (x ≡ y)
by_itself k true y r h f = (refl, same_double f)
by_itself k false y r h f = absurd (h f)

pub refused_here : (k : Reason) (b : Bool) (y : Float) (cs : List Check) {x : Float} → (Refused k x ≡ first cs → ⊥) → Refused k x ≡ first (refuse k b y ∷ cs) → (b ≡ true) × (x ≡ y)
refused_here k b y cs h f = by_itself k b y (first cs) h (f ∙ first_cons k b y cs)

-- ---- a list with one check numbered k refuses by k exactly where those in front of it pass and its condition holds, with its double
module _ (k : Reason) (b : Bool) (y : Float) (gs xs ys : List Check) (ng : before k gs ≡ gs) (nx : before k xs ≡ xs) (ny : before k ys ≡ ys) where
  abbrev with_one : List Check
  with_one = gs ++ (xs ++ (refuse k b y ∷ ys))

  before_one : before k (refuse k b y ∷ ys) ≡ []
  unfolding before
  before_one = rw (eq-eqb (number k) (number k) refl) refl

  in_front : before k with_one ≡ gs ++ xs
  in_front = before_append k gs _ ng ∙ ap (λ (r : List Check). gs ++ r) (before_append k xs _ nx ∙ ap (λ (r : List Check). xs ++ r) before_one ∙ append-nil xs)

  pub only_by : {x : Float} → Refused k x ≡ first with_one → (Sound ≡ first (before k with_one)) × ((b ≡ true) × (x ≡ y))
  only_by e =
      let g = refused_past k gs _ ng e in
      let h = refused_past k xs _ nx g.1 in
      (sound_on gs xs refl g.0 h.0 ∙ ap first (sym in_front), refused_here k b y ys (not_by k ys ny) h.1)

  pub if_by : {x : Float} → Sound ≡ first (before k with_one) → b ≡ true → x ≡ y → Refused k x ≡ first with_one
  if_by e h f = let s = sound_append gs xs (e ∙ ap first in_front) in sound_on gs _ refl s.0 (sound_on xs _ refl s.1 (stops ys h f))
