-- The three slices at the end: temperatures, extremes of their windows, and places without a result. Assumes nothing.
use mathlib.Core.Path.{◌≡◌, sym, ap, ◌∙◌, subst}
use mathlib.Core.Bool.{true, false, not}
use mathlib.Core.Logic.{◌⊎◌, inl, inr, ⊎_elim}
use mathlib.Core.List.{List, [], ◌∷◌, ◌++◌}
use Prim.Native.Nat.{ℕ, zero, suc, ◌+◌, ◌≤◌, ◌<◌}
use native.Mathlib.Omega.{arith}
use lib.Dec.{T}
use lib.ListN.{length, length-append, get_or-append}
use lib.Seq.{get_or-append-add}
use lib.Ieee.{Float, nan, eq, is_nan}
use Rattle.lists.specs.Loop.{tabulate}
use Rattle.lists.specs.Window.{splice}
use Rattle.lists.proofs.Bounds.{lt_or_le}
use Rattle.lists.proofs.Loop.{length_tabulate, get_d_tabulate}
use Rattle.lists.proofs.Window.{length_splice, get_or_splice_in, get_or_splice_after}
use Rattle.doubles.specs.F64.{+0, at, ◌⩽◌}
use Rattle.extremes.specs.Extremes.{largest, smallest}
use Rattle.extremes.proofs.Kept as extremes
use Rattle.checks.specs.First.{first}
use Rattle.checks.proofs.First.{sound_append}
use Rattle.generator_action.specs.Generator.{Generator}
use Rattle.ambient_checks.specs.Log.{Log, records_of, field_checks}
use Rattle.ambient_checks.proofs.Checks.{log_known}
use Rattle.ambient_turns.specs.declared.AmbientAnswer.{AmbientAnswer}
use Rattle.ambient_turns.specs.declared.AmbientAnswer.TheVariants.{Logged}
use Rattle.ambient_turns.specs.Ambient.{ambient_checks, ended, Results, places_of, Logging, written}
use Rattle.ambient_turns.specs.Inner.{results_of}
use Rattle.ambient_claims.specs.Ran.{Ran}
use Rattle.ambient_claims.specs.Claims.{Hit, Windowed, But}
use Rattle.ambient_claims.proofs.Answers.{whole, End, all, at_nan, at_refusal, end, leaves}
use Rattle.checks.specs.Reasons.{Sound}

-- ---- of i records with results there are i temperatures, none of them NaN
snoc_cases : (xs : List Float) (t : Float) (P : Float → Type 0) → ((j : ℕ) → j < length xs → P (at xs j)) → P t → (j : ℕ) → j < length (xs ++ (t ∷ [])) → P (at (xs ++ (t ∷ [])) j)
snoc_cases xs t P h p j l =
    ⊎_elim
    (λ (a : j < length xs). subst P (sym (get_or-append xs (t ∷ []) nan j a)) (h j a))
    (λ (a : length xs ≤ j). let e : length xs + 0 ≡ j = omega (arith, a, l, length-append xs (t ∷ [])) in subst (λ (k : ℕ). P (at (xs ++ (t ∷ [])) k)) e (subst P (sym (get_or-append-add xs (t ∷ []) 0 nan)) p))
    (lt_or_le j (length xs))

module _ (g : Generator) (log : Log) (start load : List Float) (node : ℕ) (output memory : List Float) where
  pub ran_long : (i : ℕ) (f o m xs : List Float) → Ran g log start load node output memory i f o m xs → length xs ≡ i
  unfolding Ran
  ran_long zero f o m xs r = ap length r.3
  ran_long (suc i) f o m xs r = ap length r.temperatures_are ∙ length-append r.shown _ ∙ omega (arith, ran_long i r.field r.out r.lent r.shown r.earlier)

  pub ran_numbers : (i : ℕ) (f o m xs : List Float) → Ran g log start load node output memory i f o m xs → (j : ℕ) → j < length xs → is_nan (at xs j) ≡ false
  unfolding Ran
  ran_numbers zero f o m xs r j l = absurd (omega (arith, l, ap length r.3))
  ran_numbers (suc i) f o m xs r j l =
      subst (λ (ys : List Float). is_nan (at ys j) ≡ false) (sym r.temperatures_are)
      (snoc_cases r.shown _ (λ (x : Float). is_nan x ≡ false) (ran_numbers i r.field r.out r.lent r.shown r.earlier) r.number j (subst (λ (ys : List Float). j < length ys) r.temperatures_are l))

moved : {a b c d : Float} → a ≡ c → b ≡ d → T (c ⩽ d) → T (a ⩽ b)
moved {a} {b} {c} {d} e f h = subst (λ (x : Float). T (x ⩽ b)) (sym e) (subst (λ (y : Float). T (c ⩽ y)) (sym f) h)

-- ---- what is written
module _ (W : ℕ) (r : Results) (xs : List Float) where
  abbrev now : Results
  now = (written W r (ended Logged [] [] xs)).results

  place_is : (vs w : List Float) (j : ℕ) → j < length vs → length vs ≤ length w → at (splice 0 vs w) j ≡ at vs j
  place_is vs w j l m = let e : 0 + j ≡ j = omega arith in subst (λ (k : ℕ). at (splice 0 vs w) k ≡ at vs j) e (get_or_splice_in 0 vs w j nan l (omega arith))

  module _ (fits_t : length xs ≤ length r.temperatures) (fits_h : length xs ≤ length r.largest) (fits_l : length xs ≤ length r.smallest) where
    temperature_is : (j : ℕ) → j < length xs → at now.temperatures j ≡ at xs j
    unfolding written
    temperature_is j l = place_is xs r.temperatures j l fits_t

    table : (f : ℕ → Float) (w : List Float) (j : ℕ) → j < length xs → length xs ≤ length w → at (splice 0 (tabulate (length xs) f) w) j ≡ f j
    table f w j l m = place_is (tabulate (length xs) f) w j (omega (arith, l, length_tabulate (length xs) f)) (omega (arith, m, length_tabulate (length xs) f)) ∙ get_d_tabulate (length xs) f j nan l

    largest_is : (j : ℕ) → j < length xs → at now.largest j ≡ largest W xs j
    unfolding written
    largest_is j l = table (largest W xs) r.largest j l fits_h

    smallest_is : (j : ℕ) → j < length xs → at now.smallest j ≡ smallest W xs j
    unfolding written
    smallest_is j l = table (smallest W xs) r.smallest j l fits_l

    number_of : (x : Float) → is_nan x ≡ false → T (not (is_nan x))
    number_of x e = rw e tt

    pub windowed : 1 ≤ W → ((j : ℕ) → j < length xs → is_nan (at xs j) ≡ false) → (i : ℕ) → i < length xs → Windowed W now i
    windowed wide numbers i l =
        let hi = extremes.largest_known W xs i wide (λ j a b. number_of (at xs j) (numbers j (omega (arith, a, l)))) in
        let lo = extremes.smallest_known W xs i wide (λ j a b. number_of (at xs j) (numbers j (omega (arith, a, l)))) in
        record {
          number = subst (λ (x : Float). is_nan x ≡ false) (sym (temperature_is i l)) (numbers i l);
          largest = hit (largest_is i l) hi.place hi.before hi.within hi.one;
          smallest = hit (smallest_is i l) lo.place lo.before lo.within lo.one;
          above = λ j a. moved (temperature_is j (omega (arith, a.0, l))) (largest_is i l) (hi.beyond j a.0 a.1);
          below = λ j a. moved (smallest_is i l) (temperature_is j (omega (arith, a.0, l))) (lo.beyond j a.0 a.1);
          largest_unsigned = λ e. largest_is i l ∙ hi.unsigned (subst (λ (x : Float). eq x +0 ≡ true) (largest_is i l) e);
          smallest_unsigned = λ e. smallest_is i l ∙ lo.unsigned (subst (λ (x : Float). eq x +0 ≡ true) (smallest_is i l) e);
        }
      where
        hit : {e d : Float} → d ≡ e → (p : ℕ) → p ≤ i → i < p + W → (e ≡ at xs p) ⊎ ((eq (at xs p) +0 ≡ true) × (e ≡ +0)) → Hit W now.temperatures i d
        hit q p a b o =
            let t = temperature_is p (omega (arith, a, l)) in
            record {
              place = p;
              inside = (a, b);
              one = ⊎_elim (λ u. inl (q ∙ u ∙ sym t)) (λ u. inr (subst (λ (x : Float). eq x +0 ≡ true) (sym t) u.0, q ∙ u.1)) o;
            }

  pub but_first : But (length xs) r now
  unfolding written
  but_first =
      record {
        temperatures_long = length_splice 0 xs r.temperatures;
        largest_long = length_splice 0 (tabulate (length xs) (largest W xs)) r.largest;
        smallest_long = length_splice 0 (tabulate (length xs) (smallest W xs)) r.smallest;
        temperatures = λ k l. get_or_splice_after 0 xs r.temperatures k nan (omega (arith, l));
        largest = λ k l. get_or_splice_after 0 (tabulate (length xs) (largest W xs)) r.largest k nan (omega (arith, l, length_tabulate (length xs) (largest W xs)));
        smallest = λ k l. get_or_splice_after 0 (tabulate (length xs) (smallest W xs)) r.smallest k nan (omega (arith, l, length_tabulate (length xs) (smallest W xs)));
      }

-- ---- of the whole
module _ (g : Generator) (log : Log) (start load : List Float) (W node : ℕ) (output memory : List Float) (r : Results) (sound : Sound ≡ first (ambient_checks g log start load W node (length output) (places_of r))) where
  abbrev left : Logging
  left = whole g log start load W node output memory r

  abbrev number : ℕ
  number = results_of left.call.answer (records_of log)

  -- the temperatures of the records with a result
  pub record Shown : Type 0 where
    pub temperatures : List Float
    pub is : left.results ≡ (written W r (ended Logged [] [] temperatures)).results
    pub long : length temperatures ≡ number
    pub few : length temperatures ≤ records_of log
    pub numbers : (j : ℕ) → j < length temperatures → is_nan (at temperatures j) ≡ false

  shown_by : (a : AmbientAnswer) (o m xs : List Float) → left ≡ written W r (ended a o m xs) → length xs ≡ results_of a (records_of log) → length xs ≤ records_of log → ((j : ℕ) → j < length xs → is_nan (at xs j) ≡ false) → Shown
  unfolding written
  shown_by a o m xs e l few n =
      record {
        temperatures = xs;
        is = ap (λ (x : Logging). x.results) e;
        long = l ∙ ap (λ (x : Logging). results_of x.call.answer (records_of log)) (sym e);
        few = few;
        numbers = n;
      }

  pub shown : Shown
  unfolding results_of
  shown = go (end g log start load W node output memory r)
    where
      go : End g log start load W node output memory r → Shown
      go (all p h c) =
          let l = ran_long g log start load node output memory (records_of log) p.field p.output p.memory p.temperatures h in
          shown_by _ _ _ p.temperatures (leaves g log start load W node output memory r sound c) l (omega (arith, l)) (ran_numbers g log start load node output memory (records_of log) p.field p.output p.memory p.temperatures h)
      go (at_nan i p b h u v c) =
          let l = ran_long g log start load node output memory i p.field p.output p.memory p.temperatures h in
          shown_by _ _ _ p.temperatures (leaves g log start load W node output memory r sound c) (omega (arith, l)) (omega (arith, l, b)) (ran_numbers g log start load node output memory i p.field p.output p.memory p.temperatures h)
      go (at_refusal i k x p b h u c) =
          let l = ran_long g log start load node output memory i p.field p.output p.memory p.temperatures h in
          shown_by _ _ _ p.temperatures (leaves g log start load W node output memory r sound c) (omega (arith, l)) (omega (arith, l, b)) (ran_numbers g log start load node output memory i p.field p.output p.memory p.temperatures h)

  -- every place with a result
  pub windows : (i : ℕ) → i < number → Windowed W left.results i
  unfolding ambient_checks
  windows i l =
      let k = log_known g.matrix.n log W node (places_of r) (sound_append (field_checks g.matrix.n start load (length output)) _ (sound_append g.checks _ sound).1).1 in
      let s = shown in
      subst (λ (x : Results). Windowed W x i) (sym s.is)
      (windowed W r s.temperatures (omega (arith, s.few, k.temperatures)) (omega (arith, s.few, k.largest)) (omega (arith, s.few, k.smallest)) k.wide s.numbers i (omega (arith, l, s.long)))

  -- and the places without one
  pub but : But number r left.results
  but = let s = shown in subst (λ (x : Results). But number r x) (sym s.is) (subst (λ (n : ℕ). But n r (written W r (ended Logged [] [] s.temperatures)).results) s.long (but_first W r s.temperatures))
