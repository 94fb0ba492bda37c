-- The first check of a list that holds: lists in a row, a chain of tests, and what a sound list tells. Assumes nothing.
use mathlib.Core.Bool.{Bool, true, false, not}
use mathlib.Core.List.{List, [], ◌∷◌, ◌++◌}
use mathlib.Core.Path.{◌≡◌, refl, sym, ◌∙◌, ap}
use Prim.Native.Nat.{ℕ, ◌≤◌, ◌<◌}
use lib.Dec.{eqb}
use lib.IntN.{pos}
use lib.ListN.{get_or}
use borrow.Author.Tests.{eq-eqb, ne_eqb, lt-ltb, le-ltb}
use lib.Ieee.{Float, nan, binary64, of_int}
use Rattle.lists.specs.Find.{find, exists}
use Rattle.lists.specs.Positions.{NoneBelow}
use Rattle.lists.proofs.Positions.{position_found, position_exists, none_exists}
use Rattle.checks.specs.First.{Check, refuse, first, passing, or_first}
use Rattle.checks.specs.declared.Reason.{Reason}
use Rattle.checks.specs.declared.Refusal.{Refusal}
use Rattle.std.specs.Prelude.{Result}
use Rattle.std.specs.Result.{IsErrAnd}
use Rattle.std.proofs.lemmas.Result.{err_from_is_err_and}
use Rattle.checks.specs.First.{Checked}
use Rattle.checks.specs.Reasons.{Sound, Refused}
use Rattle.std.specs.Prelude.{Ok, Err}

-- what is answered where the checks before have passed
unfoldable pub and_then : Checked → Checked → Checked
and_then (Ok _) r = r
and_then (Err e) r = Err e

-- one check before the others: by a function of its condition, which `rw` and `simp` look into
abbrev pub unless : Bool → Reason → Float → Checked → Checked
unless true k x r = Refused k x
unless false k x r = r

pub first_cons : (k : Reason) (b : Bool) (x : Float) (cs : List Check) → first (refuse k b x ∷ cs) ≡ unless b k x (first cs)
unfolding first
first_cons k true x cs = refl
first_cons k false x cs = refl

pub first_none : first [] ≡ Sound
unfolding first
first_none = refl

append_by : (b : Bool) (k : Reason) (x : Float) (r t u : Checked) → r ≡ and_then t u → unless b k x r ≡ and_then (unless b k x t) u
unfolding and_then
append_by true k x r t u e = refl
append_by false k x r t u e = e

pub first_append : (xs ys : List Check) → first (xs ++ ys) ≡ and_then (first xs) (first ys)
unfolding first and_then
first_append [] ys = refl
first_append (c ∷ cs) ys =
    first_cons c.reason c.holds c.reported (cs ++ ys)
    ∙ append_by c.holds c.reason c.reported (first (cs ++ ys)) (first cs) (first ys) (first_append cs ys)
    ∙ ap (λ (r : Checked). and_then r (first ys)) (sym (first_cons c.reason c.holds c.reported cs))

-- ---- what a function that makes some of the checks hands to its caller
-- two refusals are one where their reasons and their doubles are
pub err_is : {A E : Type 0} {x y : E} → ◌≡◌ {A = Result A E} (Err x) (Err y) → x ≡ y
err_is e = cc

pub ok_is : {A E : Type 0} {x y : A} → ◌≡◌ {A = Result A E} (Ok x) (Ok y) → x ≡ y
ok_is e = cc

pub same_reason : {A : Type 0} {j k : Reason} {x y : Float} → Refused {A = A} j x ≡ Refused {A = A} k y → j ≡ k
same_reason e = ap (λ (r : Refusal). r.reason) (err_is e)

pub same_double : {A : Type 0} {j k : Reason} {x y : Float} → Refused {A = A} j x ≡ Refused {A = A} k y → x ≡ y
same_double e = ap (λ (r : Refusal). r.value) (err_is e)

-- what is no refusal is sound
pub sound_left : {c : Checked} → ((r : Refusal) → c ≡ Err r → ⊥) → c ≡ Sound
sound_left {c} h = go c h
  where
    go : (c : Checked) → ((r : Refusal) → c ≡ Err r → ⊥) → c ≡ Sound
    go (Ok _) h = refl
    go (Err r) h = absurd (h r refl)

-- what `?` returns is the error that it was given
pub passed_on : {A E : Type 0} {r : Result A E} {e : E} → IsErrAnd r (λ d. d ≡ e) → r ≡ Err e
passed_on {r = r} h = let p = err_from_is_err_and r h in p.1 ∙ ap Err p.2

pub refused_up : (xs ys : List Check) {r : Checked} {k : Reason} {x : Float} → r ≡ Refused k x → r ≡ first xs → r ≡ first (xs ++ ys)
unfolding and_then
refused_up xs ys e d = rw (first_append xs ys, ← d, e)

pub sound_on : (xs ys : List Check) {s r : Checked} → s ≡ Sound → s ≡ first xs → r ≡ first ys → r ≡ first (xs ++ ys)
unfolding and_then
sound_on xs ys e d f = rw (first_append xs ys, ← d, e) f

-- ---- a value that checks guard: refused exactly by the first that holds, and told exactly where none does
err_by : {A : Type 0} (c : Checked) (x : A) {e : Refusal} → passing c x ≡ Err e → c ≡ Err e
err_by (Ok _) x h = cc
err_by (Err r) x h = ap Err (err_is h)

pub err_first : {A : Type 0} (cs : List Check) (x : A) {e : Refusal} → or_first cs x ≡ Err e → first cs ≡ Err e
unfolding or_first
err_first cs x h = err_by (first cs) x h

pub first_err : {A : Type 0} (cs : List Check) (x : A) {e : Refusal} → first cs ≡ Err e → or_first cs x ≡ Err e
unfolding or_first
first_err cs x h = rw h refl

ok_by : {A : Type 0} (c : Checked) (x : A) {v : A} → passing c x ≡ Ok v → (c ≡ Sound) × (x ≡ v)
ok_by (Ok _) x h = (refl, ok_is h)
ok_by (Err r) x h = (cc, cc)

pub ok_first : {A : Type 0} (cs : List Check) (x : A) {v : A} → or_first cs x ≡ Ok v → (first cs ≡ Sound) × (x ≡ v)
unfolding or_first
ok_first cs x h = ok_by (first cs) x h

pub first_ok : {A : Type 0} (cs : List Check) (x : A) → first cs ≡ Sound → or_first cs x ≡ Ok x
unfolding or_first
first_ok cs x h = rw h refl

-- two lists in a row: the first refuses, or all is as the second says
append_passing : {A : Type 0} (c d : Checked) (x : A) → passing (and_then c d) x ≡ elim c [ Ok _ ↦ passing d x | Err r ↦ Err r ]
unfolding and_then
append_passing (Ok _) d x = refl
append_passing (Err r) d x = refl

pub or_append : {A : Type 0} (xs ys : List Check) (x : A) → or_first (xs ++ ys) x ≡ elim (first xs) [ Ok _ ↦ or_first ys x | Err r ↦ Err r ]
unfolding or_first
or_append xs ys x = rw (first_append xs ys) (append_passing (first xs) (first ys) x)

-- what `?` leaves of the first list: its refusal, the same beside a value, or the second list
pub refused_or : {A : Type 0} (xs ys : List Check) (x : A) {r : Checked} {e : Refusal} → r ≡ Err e → r ≡ first xs → Err e ≡ or_first (xs ++ ys) x
refused_or xs ys x h d = rw (or_append xs ys x, ← d, h) refl

pub stopped_or : {A B : Type 0} (xs ys : List Check) (x : A) (y : B) {r : Result B Refusal} {e : Refusal} → r ≡ Err e → r ≡ or_first xs y → Err e ≡ or_first (xs ++ ys) x
stopped_or xs ys x y h d = refused_or xs ys x (err_first xs y (sym d ∙ h)) refl

pub sound_or : {A : Type 0} (xs ys : List Check) (x : A) {s : Checked} {r : Result A Refusal} → s ≡ Sound → s ≡ first xs → r ≡ or_first ys x → r ≡ or_first (xs ++ ys) x
sound_or xs ys x h d f = rw (or_append xs ys x, ← d, h) f

pub told_or : {A B : Type 0} (xs ys : List Check) (x : A) (y : B) {s : Result B Refusal} {v : B} {r : Result A Refusal} → s ≡ Ok v → s ≡ or_first xs y → r ≡ or_first ys x → r ≡ or_first (xs ++ ys) x
told_or xs ys x y h d f = sound_or xs ys x (ok_first xs y (sym d ∙ h)).0 refl f

-- no check of a list holds: the first fails, and no other holds
unless_sound : (k : Reason) (b : Bool) (x : Float) (r : Checked) → Sound ≡ unless b k x r → (b ≡ false) × (Sound ≡ r)
unless_sound k true x r e = (cc, cc)
unless_sound k false x r e = (refl, e)

pub sound_cons : (k : Reason) (b : Bool) (x : Float) (cs : List Check) → Sound ≡ first (refuse k b x ∷ cs) → (b ≡ false) × (Sound ≡ first cs)
sound_cons k b x cs e = unless_sound k b x (first cs) (e ∙ first_cons k b x cs)

and_then_sound : (r s : Checked) → Sound ≡ and_then r s → (Sound ≡ r) × (Sound ≡ s)
unfolding and_then
and_then_sound (Ok _) s e = (refl, e)
and_then_sound (Err r) s e = (cc, cc)

-- no check of two lists in a row holds
pub sound_append : (xs ys : List Check) → Sound ≡ first (xs ++ ys) → (Sound ≡ first xs) × (Sound ≡ first ys)
sound_append xs ys e = and_then_sound (first xs) (first ys) (e ∙ first_append xs ys)

-- ---- a check that cannot hold where those of gs pass may stand behind them or not
module _ (c : Check) where
  same_behind : (p : Check) (xs ys : List Check) → first xs ≡ first ys → first (p ∷ xs) ≡ first (p ∷ ys)
  same_behind p xs ys e = first_cons p.reason p.holds p.reported xs ∙ ap (unless p.holds p.reason p.reported) e ∙ sym (first_cons p.reason p.holds p.reported ys)

  skipped : c.holds ≡ false → (ps cs : List Check) → first (ps ++ (c ∷ cs)) ≡ first (ps ++ cs)
  skipped e [] cs = first_cons c.reason c.holds c.reported cs ∙ rw e refl
  skipped e (p ∷ ps) cs = same_behind p _ _ (skipped e ps cs)

  pub never_holds : (gs ps cs : List Check) → (Sound ≡ first gs → c.holds ≡ false) → first (gs ++ (ps ++ (c ∷ cs))) ≡ first (gs ++ (ps ++ cs))
  unfolding first
  never_holds [] ps cs h = skipped (h refl) ps cs
  never_holds (g ∷ gs) ps cs h =
      first_cons g.reason g.holds g.reported (gs ++ (ps ++ (c ∷ cs)))
      ∙ by (λ k. never_holds gs ps cs k) g.holds refl
      ∙ sym (first_cons g.reason g.holds g.reported (gs ++ (ps ++ cs)))
    where
      by : ((Sound ≡ first gs → c.holds ≡ false) → first (gs ++ (ps ++ (c ∷ cs))) ≡ first (gs ++ (ps ++ cs))) → (b : Bool) → g.holds ≡ b
          → unless b g.reason g.reported (first (gs ++ (ps ++ (c ∷ cs)))) ≡ unless b g.reason g.reported (first (gs ++ (ps ++ cs)))
      by f true e = refl
      by f false e = ap (unless false g.reason g.reported) (f (λ s. h (s ∙ sym (first_cons g.reason g.holds g.reported gs ∙ rw e refl))))

-- ---- a chain of tests: what `search` needs. A check whose condition fails, and one whose condition holds
pub passes : (k : Reason) {b : Bool} (x : Float) (cs : List Check) {r : Checked} → b ≡ false → r ≡ first cs → r ≡ first (refuse k b x ∷ cs)
passes k {b} x cs e g = rw (first_cons, e) g

pub stops : {k : Reason} {b : Bool} {x y : Float} (cs : List Check) → b ≡ true → y ≡ x → Refused k y ≡ first (refuse k b x ∷ cs)
stops {k} {b} {x} {y} cs e g = rw (first_cons, e, g)

pub ends_sound : Sound ≡ first []
ends_sound = sym first_none

-- the same where a condition is decided by the answer t of a function, or by its negation
pub passes_told : (k : Reason) {t b : Bool} (x : Float) (cs : List Check) {r : Checked} → t ≡ b → t ≡ false → r ≡ first cs → r ≡ first (refuse k b x ∷ cs)
passes_told k x cs e f g = passes k x cs (sym e ∙ f) g

pub stops_told : {k : Reason} {t b : Bool} {x y : Float} (cs : List Check) → t ≡ b → t ≡ true → y ≡ x → Refused k y ≡ first (refuse k b x ∷ cs)
stops_told cs e f g = stops cs (sym e ∙ f) g

pub passes_not : (k : Reason) {t b : Bool} (x : Float) (cs : List Check) {r : Checked} → t ≡ b → not t ≡ false → r ≡ first cs → r ≡ first (refuse k (not b) x ∷ cs)
passes_not k x cs e f g = passes k x cs (ap not (sym e) ∙ f) g

pub stops_not : {k : Reason} {t b : Bool} {x y : Float} (cs : List Check) → t ≡ b → not t ≡ true → y ≡ x → Refused k y ≡ first (refuse k (not b) x ∷ cs)
stops_not cs e f g = stops cs (ap not (sym e) ∙ f) g

-- the same where it is decided by a comparison of numbers: with `lt-ltb`, `le-ltb`, `eq-eqb`, `ne_eqb`
pub not_eq : {a b : ℕ} → a ≡ b → not (eqb a b) ≡ false
not_eq {a} {b} e = ap not (eq-eqb a b e)

pub not_ne : {a b : ℕ} → (a ≡ b → ⊥) → not (eqb a b) ≡ true
not_ne {a} {b} e = ap not (ne_eqb a b e)

-- the same where it is decided by a search, whose place i is told: the element there is reported
pub passes_find : (k : Reason) (x : Float) (cs : List Check) (p : ℕ → Bool) (n : ℕ) {i : ℕ} {r : Checked} → i ≡ find p n → n ≤ i → r ≡ first cs → r ≡ first (refuse k (exists p n) x ∷ cs)
unfolding exists
passes_find k x cs p n {i} e l g = passes k x cs (rw (← e) (le-ltb i n l)) g

pub stops_find : (k : Reason) (w : List Float) (cs : List Check) (p : ℕ → Bool) (n : ℕ) {i : ℕ} → i ≡ find p n → i < n → Refused k (get_or w i nan) ≡ first (refuse k (exists p n) (get_or w (find p n) nan) ∷ cs)
unfolding exists
stops_find k w cs p n {i} e l = stops cs (rw (← e) (lt-ltb i n l)) (ap (λ (j : ℕ). get_or w j nan) e)

-- the same of an iterator's `position`, which answered that there is none or the place i
pub passes_none : (k : Reason) (x : Float) (cs : List Check) (p : ℕ → Bool) (n : ℕ) {r : Checked} → NoneBelow p n → r ≡ first cs → r ≡ first (refuse k (exists p n) x ∷ cs)
passes_none k x cs p n h g = passes k x cs (sym (none_exists p n h)) g

pub stops_position : (k : Reason) (w : List Float) (cs : List Check) (p : ℕ → Bool) (n : ℕ) {i : ℕ} → (i < n) × (p i ≡ true) × NoneBelow p i → Refused k (get_or w i nan) ≡ first (refuse k (exists p n) (get_or w (find p n) nan) ∷ cs)
stops_position k w cs p n h = stops_find k w cs p n (position_found p n h) h.0

pub stops_place : (k : Reason) (cs : List Check) (p : ℕ → Bool) (n : ℕ) {i : ℕ} {y : Float} → (i < n) × (p i ≡ true) × NoneBelow p i → y ≡ of_int binary64 (pos i) → Refused k y ≡ first (refuse k (exists p n) (of_int binary64 (pos (find p n))) ∷ cs)
stops_place k cs p n h d = stops cs (sym (position_exists p n h)) (d ∙ ap (λ (j : ℕ). of_int binary64 (pos j)) (position_found p n h))

-- every return of a chain: `search chain`, from five checks on `search chain depth 9`
pub ruleset chain = (refl, passes, stops, ends_sound, passes_told, stops_told, passes_not, stops_not, not_eq, not_ne, eq-eqb, ne_eqb, lt-ltb, le-ltb, stops_position, stops_place)
