-- Checks of a job whose slices were cut: what they answer on the whole lists is what they answer on the parts, with the lengths handed in; and where they
-- pass, nothing was cut. Assumes nothing.
use mathlib.Core.Bool.{Bool, true, false, not, cond}
use mathlib.Core.List.{List, [], ◌∷◌, ◌++◌, append_assoc}
use mathlib.Core.Logic.{inl, inr}
use mathlib.Core.Option.{none, some}
use mathlib.Core.Path.{◌≡◌, refl, sym, ◌∙◌, ap, subst}
use native.Mathlib.Omega.{arith}
use Prim.Native.Nat.{ℕ, zero, ◌≤◌, ◌<◌}
use lib.Dec.{eqb}
use lib.ListN.{length}
use lib.Ieee.{Float}
use borrow.Author.Tests.{lt-ltb, le-ltb}
use Rattle.doubles.specs.F64.{nat}
use Rattle.checks.specs.First.{Check, refuse, first, Checked, before}
use Rattle.checks.proofs.First.{and_then, first_append, refused_up}
use Rattle.checks.proofs.Numbers.{before_append}
use Rattle.generator_action.specs.Mass.{Mass, given}
use Rattle.byte_arrays.specs.Inner.{long_told, lengths_told}
use Rattle.byte_arrays.proofs.Alike.{Alike, in_front, behind, wrong_lengths}
use Rattle.byte_arrays.proofs.Parts.{Part, Columns}
use Rattle.checks.specs.Reasons.{number, Sound, Refused}
use Rattle.std.specs.Prelude.{Ok, Err}
use Rattle.checks.specs.declared.Reason.TheVariants.{RowStartsLength, MassLength, OutputLength, VectorLength}
use Rattle.checks.specs.declared.Reason.{Reason}

-- ---- an answer, with the double of number k where a list of c elements was cut
unfoldable pub again : ℕ → ℕ → Checked → Checked
again k c (Ok _) = Sound
again k c (Err r) = Refused r.reason (long_told k c (number r.reason) r.value)

pub long_few : (k c j : ℕ) (x : Float) → c ≤ 512 → long_told k c j x ≡ x
unfolding long_told
long_few k c j x few = rw (le-ltb 512 c few)

again_few : (k c : ℕ) (y : Checked) → c ≤ 512 → y ≡ again k c y
unfolding again
again_few k c (Ok _) few = refl
again_few k c (Err r) few = ap (Refused r.reason) (sym (long_few k c (number r.reason) r.value few))

again_alike : {k : Reason} {c : ℕ} {x y : Checked} → 512 < c → Alike k (nat c) x y → x ≡ again (number k) c y
unfolding again long_told
again_alike {k} {c} {x} {y} l α = α.here ∙ h ∙ ap (again (number k) c) (sym α.there)
  where
    h : Refused α.reason (cond (eqb (number α.reason) (number k)) (nat c) α.reported) ≡ again (number k) c (Refused α.reason α.reported)
    h = rw (lt-ltb 512 c l) refl

again_sound : (k c : ℕ) {x y : Checked} → x ≡ again k c y → y ≡ Sound → x ≡ Sound
unfolding again
again_sound k c e s = e ∙ ap (again k c) s

pub not_sound : {A : Type 0} {j : Reason} {x : Float} → ◌≡◌ {A = Checked} (Refused j x) Sound → A
not_sound e = let z : zero ≡ 1 = cc in absurd (omega (arith, z))

-- x is what a list answers, y what its part does
pub record Step (k c : ℕ) (x y : Checked) (Same : Type 0) : Type 0 where
  pub told : x ≡ again k c y
  pub same : y ≡ Sound → Same × (c ≤ 512)

by_part : {A : Type 0} (k : Reason) (c : ℕ) {l p : List A} (f : List A → Checked) → (512 < c → length l ≡ c → 512 ≤ length p → Alike k (nat c) (f l) (f p)) → Part c l p → Step (number k) c (f l) (f p) (p ≡ l)
by_part k c {p = p} f h (inl (e, few)) = record { told = ap f (sym e) ∙ again_few (number k) c (f p) few; same = λ s. (e, few) }
by_part k c f h (inr (l, e, m)) = let α = h l e m in record { told = again_alike l α; same = λ s. not_sound (sym α.there ∙ s) }

recount : {k : Reason} {len c : ℕ} {x y : Checked} → len ≡ c → Alike k (nat len) x y → Alike k (nat c) x y
recount {k} {x = x} {y = y} e α = subst (λ (i : ℕ). Alike k (nat i) x y) e α

-- ---- two lists that are refused for one reason with one double
pub record Both (x y : Checked) : Type 0 where
  pub reason : Reason
  pub reported : Float
  pub here : x ≡ Refused reason reported
  pub there : y ≡ Refused reason reported

pub both_on : (xs ys cs ds : List Check) → Both (first xs) (first ys) → Both (first (xs ++ cs)) (first (ys ++ ds))
both_on xs ys cs ds β = record { reason = β.reason; reported = β.reported; here = sym (refused_up xs cs refl (sym β.here)); there = sym (refused_up ys ds refl (sym β.there)) }

both_in : (ps xs ys cs ds : List Check) → Both (first xs) (first ys) → (first (ps ++ (xs ++ cs)) ≡ first (ps ++ (ys ++ ds))) × (first (ps ++ (ys ++ ds)) ≡ Sound → ⊥)
unfolding and_then
both_in ps xs ys cs ds β = (e xs cs β.here ∙ sym (e ys ds β.there), λ s. never (first ps) (sym (e ys ds β.there) ∙ s))
  where
    e : (zs rs : List Check) → first zs ≡ Refused β.reason β.reported → first (ps ++ (zs ++ rs)) ≡ and_then (first ps) (Refused β.reason β.reported)
    e zs rs d = first_append ps (zs ++ rs) ∙ ap (and_then (first ps)) (first_append zs rs ∙ ap (λ (r : Checked). and_then r (first rs)) d)

    never : (r : Checked) → and_then r (Refused β.reason β.reported) ≡ Sound → ⊥
    never (Ok _) s = not_sound s
    never (Err r) s = not_sound s

-- ---- the checks of a matrix, by its row starts, columns and mass: too long lists are refused alike, and none of the checks is numbered 15 or 16
pub record Refuses (entries : ℕ) (G : List ℕ → List ℕ → Mass → List Check) : Type 0 where
  pub long_starts : (s t cols : List ℕ) (mass : Mass) → 512 < length s → 512 ≤ length t → Alike RowStartsLength (nat (length s)) (first (G s cols mass)) (first (G t cols mass))
  pub long_mass : (s cols : List ℕ) (m p : List Float) → 512 < length m → 512 ≤ length p → Alike MassLength (nat (length m)) (first (G s cols (some m))) (first (G s cols (some p)))
  pub other_columns : (s cols other : List ℕ) (mass : Mass) → (length cols ≡ entries → ⊥) → (length other ≡ entries → ⊥) → Both (first (G s cols mass)) (first (G s other mass))
  pub not_15 : (s cols : List ℕ) (mass : Mass) → before OutputLength (G s cols mass) ≡ G s cols mass
  pub not_16 : (s cols : List ℕ) (mass : Mass) → before VectorLength (G s cols mass) ≡ G s cols mass

-- with more checks behind
pub refuses_on : {entries : ℕ} {G : List ℕ → List ℕ → Mass → List Check} → Refuses entries G → (H : List ℕ → List ℕ → Mass → List Check) → ((s cols : List ℕ) (mass : Mass) → before OutputLength (H s cols mass) ≡ H s cols mass) → ((s cols : List ℕ) (mass : Mass) → before VectorLength (H s cols mass) ≡ H s cols mass) → Refuses entries (λ s cols mass. G s cols mass ++ H s cols mass)
refuses_on {G = G} R H h h' =
    record {
      long_starts = λ s t cols mass ls lt. in_front _ _ _ _ (R.long_starts s t cols mass ls lt);
      long_mass = λ s cols m p lm lp. in_front _ _ _ _ (R.long_mass s cols m p lm lp);
      other_columns = λ s cols other mass d d'. both_on _ _ _ _ (R.other_columns s cols other mass d d');
      not_15 = λ s cols mass. before_append OutputLength (G s cols mass) (H s cols mass) (R.not_15 s cols mass) ∙ ap (λ r. G s cols mass ++ r) (h s cols mass);
      not_16 = λ s cols mass. before_append VectorLength (G s cols mass) (H s cols mass) (R.not_16 s cols mass) ∙ ap (λ r. G s cols mass ++ r) (h' s cols mass);
    }

-- nothing of a matrix was cut
abbrev pub Uncut : List ℕ → List ℕ → List ℕ → List ℕ → Mass → Mass → ℕ → ℕ → Type 0
Uncut s s₁ cols cols₁ mass mass₁ cs cm = (s₁ ≡ s) × (cols₁ ≡ cols) × (mass₁ ≡ mass) × (cs ≤ 512) × (cm ≤ 512)

-- ---- between checks ps in front and checks J behind
module _ (entries : ℕ) (few : entries ≤ 512) (G : List ℕ → List ℕ → Mass → List Check) (R : Refuses entries G) (ps : List Check) (free_1 : before RowStartsLength ps ≡ ps) (free_7 : before MassLength ps ≡ ps) (J : List ℕ → List ℕ → Mass → List Check) where
  abbrev pub answers : List ℕ → List ℕ → Mass → Checked
  answers s cols mass = first (ps ++ (G s cols mass ++ J s cols mass))

  part_starts : {c : ℕ} {s p : List ℕ} (cols : List ℕ) (mass : Mass) → Part c s p → Step 1 c (answers s cols mass) (answers p cols mass) (p ≡ s)
  part_starts {c} {s} {p} cols mass =
      by_part RowStartsLength c (λ l. answers l cols mass)
      (λ l e m. recount e (behind ps _ _ free_1 (in_front _ _ _ _ (R.long_starts s p cols mass (omega (arith, l, e)) m))))

  part_mass : {c : ℕ} {m p : List Float} (s cols : List ℕ) (b : Bool) → (b ≡ true → Part c m p) → (b ≡ false → c ≤ 512) → Step 7 c (answers s cols (given b m)) (answers s cols (given b p)) (given b p ≡ given b m)
  part_mass {c} {m} {p} s cols true h h' =
      let t = by_part MassLength c (λ l. answers s cols (some l)) (λ l e i. recount e (behind ps _ _ free_7 (in_front _ _ _ _ (R.long_mass s cols m p (omega (arith, l, e)) i)))) (h refl) in
      record { told = t.told; same = λ z. (ap some (t.same z).0, (t.same z).1) }
  part_mass {c} s cols false h h' = record { told = again_few 7 c (answers s cols none) (h' refl); same = λ z. (refl, h' refl) }

  part_columns : {cols other : List ℕ} (s : List ℕ) (mass : Mass) → Columns cols other → (answers s cols mass ≡ answers s other mass) × (answers s other mass ≡ Sound → other ≡ cols)
  part_columns s mass (inl e) = (ap (λ l. answers s l mass) (sym e), λ z. e)
  part_columns {cols} {other} s mass (inr (l, m)) =
      let t = both_in ps (G s cols mass) (G s other mass) (J s cols mass) (J s other mass) (R.other_columns s cols other mass (λ q. omega (arith, q, few, l)) (λ q. omega (arith, q, few, m))) in
      (t.0, λ z. absurd (t.1 z))

  pub matrix_cut : {cs cm : ℕ} {s s₁ cols cols₁ : List ℕ} {m m₁ : List Float} (b : Bool) → Part cs s s₁ → Columns cols cols₁ → (b ≡ true → Part cm m m₁) → (b ≡ false → cm ≤ 512)
      → (answers s cols (given b m) ≡ again 7 cm (again 1 cs (answers s₁ cols₁ (given b m₁)))) × (answers s₁ cols₁ (given b m₁) ≡ Sound → Uncut s s₁ cols cols₁ (given b m) (given b m₁) cs cm)
  matrix_cut {cs} {cm} {s} {s₁} {cols} {cols₁} {m} {m₁} b hs hc hm hm' =
      let u = part_mass {c = cm} {m = m} {p = m₁} s cols b hm hm' in
      let v = part_starts cols (given b m₁) hs in
      let w = part_columns s₁ (given b m₁) hc in (
        u.told ∙ ap (again 7 cm) (v.told ∙ ap (again 1 cs) w.0),
        λ z.
            let z₁ = w.0 ∙ z in
            let z₂ = again_sound 1 cs v.told z₁ in
            ((v.same z₁).0, w.1 z, (u.same z₂).0, (v.same z₁).1, (u.same z₂).1),
      )

-- ---- what a job answers on the whole lists and on their parts
abbrev pub retold : ℕ → ℕ → ℕ → ℕ → Checked → Checked
retold cs cm co cv y = again 16 cv (again 15 co (again 7 cm (again 1 cs y)))

pub record Recut (cs cm co cv : ℕ) (x y : Checked) (Same : Type 0) : Type 0 where
  pub told : x ≡ retold cs cm co cv y
  pub same : y ≡ Sound → Same × (co ≤ 512) × (cv ≤ 512)

pub retold_refused : (cs cm co cv : ℕ) (j : Reason) (x : Float) → retold cs cm co cv (Refused j x) ≡ Refused j (lengths_told cs cm co cv (number j) x)
unfolding again
retold_refused cs cm co cv j x = refl

-- where nothing was cut, the double stays
pub few_told : (cs cm co cv j : ℕ) (x : Float) → cs ≤ 512 → cm ≤ 512 → co ≤ 512 → cv ≤ 512 → lengths_told cs cm co cv j x ≡ x
few_told cs cm co cv j x ls lm lo lv =
    ap (λ (y : Float). long_told 16 cv j (long_told 15 co j (long_told 7 cm j y))) (long_few 1 cs j x ls)
    ∙ ap (λ (y : Float). long_told 16 cv j (long_told 15 co j y)) (long_few 7 cm j x lm)
    ∙ ap (long_told 16 cv j) (long_few 15 co j x lo)
    ∙ long_few 16 cv j x lv

-- ---- a job: a limit, checks `times`, 15 and 16, and others
module _ (entries : ℕ) (few : entries ≤ 512) (G : List ℕ → List ℕ → Mass → List Check) (R : Refuses entries G) (ps : List Check) (free : (before RowStartsLength ps ≡ ps) × (before MassLength ps ≡ ps) × (before OutputLength ps ≡ ps) × (before VectorLength ps ≡ ps))
    (limit : Check) (low : number limit.reason ≤ 13) (times : List Check) (not_15 : before OutputLength times ≡ times) (not_16 : (c : Check) → before VectorLength (times ++ (refuse OutputLength c.holds c.reported ∷ [])) ≡ times ++ (refuse OutputLength c.holds c.reported ∷ []))
    (wanted expected : List ℕ → List ℕ → Mass → ℕ) (few_wanted : (s cols : List ℕ) (mass : Mass) → limit.holds ≡ false → wanted s cols mass ≤ 256) (few_expected : (s cols : List ℕ) (mass : Mass) → limit.holds ≡ false → expected s cols mass ≤ 256)
    (others : List ℕ → List ℕ → Mass → List Float → List Check) where
  abbrev of_job : ℕ → List Float → List ℕ → List ℕ → Mass → List Check
  of_job o v s cols mass =
      limit ∷ (times ++ (refuse OutputLength (not (eqb o (wanted s cols mass))) (nat o) ∷ refuse VectorLength (not (eqb (length v) (expected s cols mass))) (nat (length v)) ∷ others s cols mass v))

  abbrev pub job_answers : List ℕ → List ℕ → Mass → List Float → ℕ → Checked
  job_answers s cols mass v o = first (ps ++ (G s cols mass ++ of_job o v s cols mass))

  alike_output : (s cols : List ℕ) (mass : Mass) (v : List Float) (o p : ℕ) → 512 < o → 512 ≤ p → Alike OutputLength (nat o) (job_answers s cols mass v o) (job_answers s cols mass v p)
  alike_output s cols mass v o p lo lp =
      behind ps _ _ free.2
      (wrong_lengths OutputLength (G s cols mass) limit times o p (wanted s cols mass) _ _ (R.not_15 s cols mass) (λ e. omega (arith, low, e)) not_15 (few_wanted s cols mass) (omega (arith, lo)) (omega (arith, lp)))

  abbrev of_output : List ℕ → List ℕ → Mass → ℕ → Check
  of_output s cols mass o = refuse OutputLength (not (eqb o (wanted s cols mass))) (nat o)

  abbrev of_vectors : List ℕ → List ℕ → Mass → List Float → List Check
  of_vectors s cols mass v = refuse VectorLength (not (eqb (length v) (expected s cols mass))) (nat (length v)) ∷ others s cols mass v

  alike_vectors : (s cols : List ℕ) (mass : Mass) (v p : List Float) (o : ℕ) → 512 < length v → 512 ≤ length p → Alike VectorLength (nat (length v)) (job_answers s cols mass v o) (job_answers s cols mass p o)
  alike_vectors s cols mass v p o lv lp =
      behind ps _ _ free.3
      (rw (lengths_on times (of_output s cols mass o) (of_vectors s cols mass v), lengths_on times (of_output s cols mass o) (of_vectors s cols mass p))
      (wrong_lengths VectorLength (G s cols mass) limit (times ++ (of_output s cols mass o ∷ [])) (length v) (length p) (expected s cols mass) _ _ (R.not_16 s cols mass) (λ e. omega (arith, low, e)) (not_16 (of_output s cols mass o)) (few_expected s cols mass) (omega (arith, lv)) (omega (arith, lp))))
    where
      lengths_on : (ts : List Check) (c : Check) (rest : List Check) → ts ++ (c ∷ rest) ≡ (ts ++ (c ∷ [])) ++ rest
      lengths_on ts c rest = sym (append_assoc ts (c ∷ []) rest)

  part_vectors : {c : ℕ} {v p : List Float} (s cols : List ℕ) (mass : Mass) (o : ℕ) → Part c v p → Step 16 c (job_answers s cols mass v o) (job_answers s cols mass p o) (p ≡ v)
  part_vectors {c} {v} {p} s cols mass o = by_part VectorLength c (λ l. job_answers s cols mass l o) (λ l e m. recount e (alike_vectors s cols mass v p o (omega (arith, l, e)) m))

  part_output : {c : ℕ} {o p : List Float} (s cols : List ℕ) (mass : Mass) (v : List Float) → Part c o p → Step 15 c (job_answers s cols mass v (length o)) (job_answers s cols mass v (length p)) (p ≡ o)
  part_output {c} {o} {p} s cols mass v = by_part OutputLength c (λ l. job_answers s cols mass v (length l)) (λ l e m. recount e (alike_output s cols mass v (length o) (length p) (omega (arith, l, e)) m))

  pub job_cut : {cs cm co cv : ℕ} {s s₁ cols cols₁ : List ℕ} {m m₁ v v₁ o o₁ : List Float} (b : Bool) → Part cs s s₁ → Columns cols cols₁ → (b ≡ true → Part cm m m₁) → (b ≡ false → cm ≤ 512) → Part co o o₁ → Part cv v v₁
      → Recut cs cm co cv (job_answers s cols (given b m) v (length o)) (job_answers s₁ cols₁ (given b m₁) v₁ (length o₁)) (Uncut s s₁ cols cols₁ (given b m) (given b m₁) cs cm × (v₁ ≡ v))
  job_cut {cs} {cm} {co} {cv} {s} {s₁} {cols} {cols₁} {m} {m₁} {v} {v₁} {o} {o₁} b hs hc hm hm' ho hv =
      let x = part_vectors s cols (given b m) (length o) hv in
      let y = part_output s cols (given b m) v₁ ho in
      let z = matrix_cut entries few G R ps free.0 free.1 (of_job (length o₁) v₁) b hs hc hm hm' in
      record {
        told = x.told ∙ ap (again 16 cv) (y.told ∙ ap (again 15 co) z.0);
        same =
            λ e.
            let e₁ : job_answers s cols (given b m) v₁ (length o₁) ≡ Sound = z.0 ∙ again_sounds e in
            let e₂ = again_sound 15 co y.told e₁ in
            ((z.1 e, (x.same e₂).0), (y.same e₁).1, (x.same e₂).1);
      }
    where
      again_sounds : {y : Checked} → y ≡ Sound → again 7 cm (again 1 cs y) ≡ Sound
      again_sounds e = again_sound 7 cm refl (again_sound 1 cs refl e)
