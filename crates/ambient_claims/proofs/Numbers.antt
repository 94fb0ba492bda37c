-- Which refusals occur: 23 never, 26 at record 1 alone; and when 38 to 40 pass. Assumes nothing.
use Rattle.std.specs.Prelude.{if◌then◌else◌}
use mathlib.Core.Path.{◌≡◌, refl, sym, ap, ◌∙◌}
use mathlib.Core.Bool.{Bool, true, false}
use mathlib.Core.Option.{none, some}
use mathlib.Core.List.{List, [], ◌++◌}
use Prim.Native.Nat.{ℕ, zero, suc, ◌+◌, ◌-◌, ◌*◌, ◌<◌}
use native.Mathlib.Omega.{arith}
use lib.Dec.{ltb}
use lib.ListN.{length}
use lib.Ieee.{Float, nan}
use borrow.Author.Tests.{ne_eqb, le-ltb, lt-ltb, lt-leb, ltb-true}
use Rattle.vectors.specs.Vectors.{scale}
use Rattle.doubles.specs.F64.{at}
use Rattle.checks.specs.First.{Check, first, before}
use Rattle.checks.specs.First.{Checked}
use Rattle.checks.proofs.First.{sound_append, passes, ends_sound, not_eq}
use Rattle.checks.proofs.Numbers.{before_append, not_by, only_by, if_by}
use Rattle.general_operator.specs.Csr.{Csr, row_sum_norm}
use Rattle.general_operator.specs.Checks.{matrix_checks, shape_checks, row_checks, entry_checks}
use Rattle.generator_action.specs.Mass.{Mass, given, normalise, quotients, quotient_need, mass_checks, sum_checks, norm_checks, bound_checks, generator_checks}
use Rattle.generator_action.specs.Generator.{Generator, forward}
use Rattle.combination.specs.Combination.{further, eta_of}
use Rattle.combination.specs.Call.{ends}
use Rattle.combination.specs.Checks.{count_checks, time_checks, degree_checks, plan_checks, length_checks, finite_checks, magnitude_checks, schedule_checks, memory_checks, vector_checks_by, vector_checks, sweep_checks, taylor_need}
use Rattle.taylor_job.specs.Calls.{combination_checks}
use Rattle.demand_3.proofs.Never23.{InRange, combination_no_number}
use Rattle.ambient_checks.specs.Log.{Log, records_of, Places, field_checks, log_checks}
use Rattle.ambient_checks.proofs.Checks.{Logged, log_known}
use Rattle.ambient_turns.specs.declared.AmbientAnswer.TheVariants.{Refusal}
use Rattle.ambient_record.specs.Record.{wider}
use Rattle.ambient_turns.specs.Ambient.{ambient_checks, Results, places_of, Logging, written, unless_log_refused, ambient}
use Rattle.ambient_claims.specs.Ran.{record_need, Ran, RefusedAt}
use Rattle.ambient_claims.proofs.Answers.{whole, refused_at, at_refused_leaves, refusal_is}
use Rattle.ambient_claims.proofs.Memory.{room_ran}
use Rattle.checks.specs.Reasons.{refusal, Sound, Refused}
use Rattle.std.specs.Prelude.{Ok, Err}
use Rattle.checks.specs.declared.Reason.TheVariants.{NormRange, WorkLength, WindowOrNode, RecordCount, ResultsLength}
use Rattle.checks.specs.declared.Reason.{Reason}

-- ---- 38 to 40 pass where W, the node, the records and the slices are as document 02 wants them, and (`ambient_checks/proofs/Checks: log_known`) nowhere else
pub log_sound : (n : ℕ) (log : Log) (W node : ℕ) (r : Places) → Logged n log W node r → Sound ≡ first (log_checks n log W node r)
unfolding log_checks
log_sound n log W node r k =
    passes WindowOrNode _ _ (rw (ne_eqb W 0 (λ e. absurd (omega (arith, k.wide, e))), le-ltb 1024 W k.narrow, lt-leb n node k.known) refl)
    (passes RecordCount _ _ (rw (ne_eqb (records_of log) 0 (λ e. absurd (omega (arith, k.some, e))), le-ltb 100000 (records_of log) k.most, not_eq k.paired) refl)
    (passes ResultsLength _ [] (rw (le-ltb r.temperatures (records_of log) k.temperatures, le-ltb r.largest (records_of log) k.largest, le-ltb r.smallest (records_of log) k.smallest) refl) ends_sound))

-- ---- a record's generator is in range where its matrix's is (N14)
pub wider_in_range : (g : Generator) → InRange g → InRange (wider g)
wider_in_range g h = record { ranged = h.ranged; unnumbered = h.unnumbered }

module _ (g : Generator) (log : Log) (start load : List Float) (W node : ℕ) (output memory : List Float) (r : Results) where
  abbrev left : Logging
  left = whole g log start load W node output memory r

  abbrev early : List Check
  early = ambient_checks g log start load W node (length output) (places_of r)

  refused_early : {k : Reason} {x : Float} → first early ≡ Refused k x → left.call.answer ≡ Refusal (refusal k x) 0
  unfolding ambient unless_log_refused
  refused_early e = rw e refl

  -- a refusal is by those checks or by a record's
  module _ (k : Reason) (x : Float) (j : ℕ) (e : left.call.answer ≡ Refusal (refusal k x) j) (A : Type 0) (by_early : first early ≡ Refused k x → A) (by_record : (i : ℕ) (o m xs : List Float) → Sound ≡ first early → j ≡ i + 1 → RefusedAt g log start load node output memory i k x o m xs → A) where
    by_either : A
    by_either = go (first early) refl
      where
        go : (c : Checked) → first early ≡ c → A
        go (Err r) h = let q = refusal_is (sym (refused_early h) ∙ e) in by_early (h ∙ (λ i. Refused (q.0 i) (q.1 i)))
        go (Ok _) h =
            let R = refused_at g log start load W node output memory r (sym h) k x j left.call.output left.call.memory (λ i. ends (e i) left.call.output left.call.memory) in
            by_record R.0 _ _ R.1.0 (sym h) R.1.1.0 R.1.1.1.0

  -- ---- 23
  early_no_23 : before NormRange g.checks ≡ g.checks → before NormRange early ≡ early
  unfolding before ambient_checks field_checks log_checks length_checks finite_checks
  early_no_23 h = before_append NormRange g.checks _ h

  pub never_23 : InRange g → (x : Float) (j : ℕ) → left.call.answer ≡ Refusal (refusal NormRange x) j → ⊥
  never_23 h x j e =
      by_either NormRange x j e ⊥
      (λ f. not_by NormRange early (early_no_23 h.unnumbered) (sym f))
      (λ i o m xs s n c. not_by NormRange _ (combination_no_number g h _ 30 2 _ _ _) (sym c.refused))

  -- ---- 26: at record 1 alone, where all other checks of it pass
  module _ (plain : before WorkLength g.checks ≡ g.checks) where
    early_no_26 : before WorkLength early ≡ early
    unfolding before ambient_checks field_checks log_checks length_checks finite_checks
    early_no_26 = before_append WorkLength g.checks _ plain

    -- the checks of a record, of which 26 is the last
    abbrev listed : Float → List Float → ℕ → ℕ → List Check
    listed tau w o m = combination_checks g tau 30 2 w o (m - g.matrix.n)

    only_26 : (tau : Float) (w : List Float) (o m : ℕ) {x : Float} → first (listed tau w o m) ≡ Refused WorkLength x → (Sound ≡ first (before WorkLength (listed tau w o m))) × ((ltb (m - g.matrix.n) (taylor_need g.matrix.n 1 g.stored) ≡ true) × (x ≡ nan))
    unfolding combination_checks sweep_checks vector_checks vector_checks_by count_checks plan_checks time_checks degree_checks length_checks finite_checks magnitude_checks schedule_checks memory_checks before
    only_26 tau w o m e =
        let n = g.matrix.n in
        only_by WorkLength (ltb (m - n) (taylor_need n 1 g.stored)) nan g.checks (vector_checks n (plan_checks tau 30) 2 w o ++ (magnitude_checks n (further n w) tau 1 (eta_of n (further n w) tau 1).eta ++ schedule_checks 30 (row_sum_norm g.matrix) tau)) [] plain refl refl (sym e)

    if_26 : (tau : Float) (w : List Float) (o m : ℕ) → Sound ≡ first (before WorkLength (listed tau w o m)) → ltb (m - g.matrix.n) (taylor_need g.matrix.n 1 g.stored) ≡ true → first (listed tau w o m) ≡ Refused WorkLength nan
    unfolding combination_checks sweep_checks vector_checks vector_checks_by count_checks plan_checks time_checks degree_checks length_checks finite_checks magnitude_checks schedule_checks memory_checks before
    if_26 tau w o m s b =
        let n = g.matrix.n in
        sym (if_by WorkLength (ltb (m - n) (taylor_need n 1 g.stored)) nan g.checks (vector_checks n (plan_checks tau 30) 2 w o ++ (magnitude_checks n (further n w) tau 1 (eta_of n (further n w) tau 1).eta ++ schedule_checks 30 (row_sum_norm g.matrix) tau)) [] plain refl refl s b refl)

    short_known : (m : ℕ) → ltb (m - g.matrix.n) (taylor_need g.matrix.n 1 g.stored) ≡ true → m < record_need g
    unfolding taylor_need
    short_known m b = let l = ltb-true (m - g.matrix.n) (taylor_need g.matrix.n 1 g.stored) b in omega (arith, l)

    short_told : (m : ℕ) → m < record_need g → ltb (m - g.matrix.n) (taylor_need g.matrix.n 1 g.stored) ≡ true
    unfolding taylor_need
    short_told m l = lt-ltb (m - g.matrix.n) (taylor_need g.matrix.n 1 g.stored) (omega (arith, l))

    -- of record 1
    abbrev at_first : List Check
    at_first = listed (at log.durations 0) (start ++ scale (at log.levels 0) load) (length output) (length memory)

    pub record Short (x : Float) (j : ℕ) : Type 0 where
      pub logged : Sound ≡ first early
      pub others : Sound ≡ first (before WorkLength at_first)
      pub short : length memory < 4 * g.matrix.n + 2 + g.stored
      pub one : j ≡ 1
      pub no_double : x ≡ nan

    pub short_only : (x : Float) (j : ℕ) → left.call.answer ≡ Refusal (refusal WorkLength x) j → Short x j
    unfolding Ran
    short_only x j e = by_either WorkLength x j e (Short x j) (λ f. absurd (not_by WorkLength early early_no_26 (sym f))) by_record
      where
        by_record : (i : ℕ) (o m xs : List Float) → Sound ≡ first early → j ≡ i + 1 → RefusedAt g log start load node output memory i WorkLength x o m xs → Short x j
        by_record zero o m xs s n c =
            let f : first at_first ≡ Refused WorkLength x = (λ i. first (listed (at log.durations 0) (sym c.ran.0 i ++ scale (at log.levels 0) load) (length (sym c.ran.1 i)) (length (sym c.ran.2 i)))) ∙ c.refused in
            let q = only_26 _ _ _ _ f in
            record { logged = s; others = q.0; short = short_known (length memory) q.1.0; one = omega (arith, n); no_double = q.1.1 }
        by_record (suc i) o m xs s n c =
            let q = only_26 _ _ _ _ c.refused in
            absurd (omega (arith, short_known (length c.lent) q.1.0, room_ran g log start load node output memory i c.field c.out c.lent xs c.ran))

    pub short_refused : (x : Float) (j : ℕ) → Short x j → left.call.answer ≡ Refusal (refusal WorkLength x) j
    unfolding Ran written ambient_checks
    short_refused x j h =
        let some = (log_known g.matrix.n log W node (places_of r) (sound_append (field_checks g.matrix.n start load (length output)) _ (sound_append g.checks _ h.logged).1).1).some in
        let c : RefusedAt g log start load node output memory 0 WorkLength nan output memory [] = record { reached = omega (arith, some); field = start; out = output; lent = memory; ran = (refl, refl, refl, refl); refused = if_26 _ _ _ _ h.others (short_told (length memory) h.short); output_is = refl; memory_is = refl } in
        ap (λ (l : Logging). l.call.answer) (at_refused_leaves g log start load W node output memory r h.logged 0 WorkLength nan output memory [] c) ∙ (λ i. Refusal (refusal WorkLength (sym h.no_double i)) (sym h.one i))

-- ---- of a matrix and a mass: no check is numbered 26, and a mass adds its entries to what is needed
pub forward_no_26 : (a : Csr) (mass : Mass) → before WorkLength (generator_checks a mass) ≡ generator_checks a mass
unfolding before generator_checks matrix_checks shape_checks row_checks entry_checks bound_checks mass_checks sum_checks norm_checks
forward_no_26 a none = refl
forward_no_26 a (some mass) = refl

pub need_forward : (a : Csr) (b : Bool) (mass : List Float) → record_need (forward a (given b mass)) ≡ 4 * a.n + 2 + (if b then length a.entries else 0)
unfolding quotients normalise quotient_need
need_forward a true mass = refl
need_forward a false mass = refl
