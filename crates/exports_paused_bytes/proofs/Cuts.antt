-- A start or a step whose slices were cut answers what it answers on the whole slices, with the lengths handed in. Assumes nothing.
use mathlib.Core.Bool.{Bool, cond}
use mathlib.Core.List.{List, ◌++◌}
use mathlib.Core.Path.{◌≡◌, refl, sym, ◌∙◌, ap}
use Prim.Native.Nat.{ℕ, ◌/◌, ◌≤◌, ◌<◌}
use lib.ListN.{length, get_or, take, drop}
use lib.Ieee.{Float}
use Rattle.checks.specs.First.{first, Checked}
use Rattle.general_operator.specs.Csr.{csr}
use Rattle.generator_action.specs.Mass.{Mass, given}
use Rattle.paused_run.specs.Paused.{Job, rows}
use Rattle.exports_paused.specs.Told.{Told, told, state}
use Rattle.le_bytes.specs.Bytes.{numbers_of, doubles_of, words_of, words_over, written_over}
use Rattle.byte_arrays.specs.Inner.{Cut, lengths_told}
use Rattle.byte_arrays.proofs.Parts.{whole, not_cut, numbers_part, doubles_part, words_part, columns_part, mass_part}
use Rattle.byte_arrays.proofs.Bytes.{back, left, left_words}
use Rattle.byte_arrays.proofs.Cuts.{Recut, retold, retold_refused, few_told, Uncut}
use Rattle.paused_byte_calls.specs.Replies.{Slices, slices, Reply, replies, packs}
use Rattle.paused_byte_calls.specs.Inner.{job, called_run}
use Rattle.paused_byte_calls.specs.declared.RunCall.{RunCall}
use Rattle.exports_paused_bytes.proofs.Checks.{checks, refused, same_checks, whole_lent, few_rows, checks_cut}
use Rattle.std.specs.Prelude.{Ok, Err}

module _ (call : RunCall) (n : ℕ) (vals : List Float) (few : n ≤ 64) (entries : length vals ≤ 512) (b : Bool) (tau : Float) (count : ℕ) (starts cols mass w out work field numbers counts : List ℕ) (len a d m p r f h k : ℕ) where
  abbrev wholes : Slices
  wholes = slices out work field numbers counts

  abbrev cuts : Slices
  cuts = slices (take r out) work (take f field) (take h numbers) (take k counts)

  abbrev joined : Slices → Slices
  joined s = slices (s.output ++ drop r out) s.memory (s.field ++ drop f field) (s.numbers ++ drop h numbers) (s.counts ++ drop k counts)

  abbrev over_lists : List ℕ → List ℕ → Mass → List Float → Job
  over_lists s c u v = job (csr n s c vals) u tau count v

  abbrev j : Job
  j = over_lists (numbers_of starts) (numbers_of cols) (given b (doubles_of mass)) (doubles_of w)

  abbrev j₁ : Job
  j₁ = over_lists (numbers_of (take a starts)) (numbers_of (take d cols)) (given b (doubles_of (take m mass))) (doubles_of (take p w))

  abbrev q : Told
  q = called_run call j (doubles_of out) (doubles_of work) (doubles_of field) (doubles_of numbers) (words_of counts)

  abbrev q₁ : Told
  q₁ = called_run call j₁ (doubles_of (take r out)) (doubles_of work) (doubles_of (take f field)) (doubles_of (take h numbers)) (words_of (take k counts))

  abbrev lengths : ℕ → Float → Float
  lengths = lengths_told (length starts / 4) (len / 8) (length out / 8) (length w / 8)

  -- the reply to the cut slices, with the lengths handed in and what was cut off
  abbrev mended : Reply → Reply
  mended t = replies t.number (lengths t.number t.value) (joined t.slices)

  rows_of : (s c : List ℕ) (u : Mass) (v : List Float) → rows (over_lists s c u v) ≤ 64
  rows_of s c u v = few_rows call n vals few entries tau count (doubles_of work) 0 (doubles_of numbers) (words_of counts) s c u v

  by_refusal : {i : ℕ} {x : Float} → ((i : ℕ) → get_or out i 0 < 256) → ((i : ℕ) → get_or field i 0 < 256) → ((i : ℕ) → get_or numbers i 0 < 256) → ((i : ℕ) → get_or counts i 0 < 256) → q₁ ≡ told (state i x (doubles_of (take h numbers)) (words_of (take k counts))) (doubles_of (take r out)) (doubles_of work) (doubles_of (take f field)) → q ≡ told (state i (lengths i x) (doubles_of numbers) (words_of counts)) (doubles_of out) (doubles_of work) (doubles_of field) → mended (packs q₁ cuts) ≡ packs q wholes
  by_refusal {i} {x} bo bf bn bk e₁ e =
      ap (λ (t : Told). mended (packs t cuts)) e₁
      ∙ (λ z. replies i (lengths i x) (slices (left out r bo z) (written_over (doubles_of work) work) (left field f bf z) (left numbers h bn z) (left_words counts k bk z)))
      ∙ ap (λ (t : Told). packs t wholes) (sym e)

  by_lists : j₁ ≡ j → r ≡ length out → f ≡ length field → h ≡ length numbers → k ≡ length counts → length starts / 4 ≤ 512 → len / 8 ≤ 512 → length out / 8 ≤ 512 → length w / 8 ≤ 512 → mended (packs q₁ cuts) ≡ packs q wholes
  by_lists ej er ef eh ek ls lm lo lw =
      let e : q₁ ≡ q = λ i. called_run call (ej i) (doubles_of (whole {b = out} er i)) (doubles_of work) (doubles_of (whole {b = field} ef i)) (doubles_of (whole {b = numbers} eh i)) (words_of (whole {b = counts} ek i)) in
      ap (λ (t : Told). mended (packs t cuts)) e
      ∙ (λ z. replies q.state.number (few_told (length starts / 4) (len / 8) (length out / 8) (length w / 8) q.state.number q.state.value ls lm lo lw z) (slices (back (written_over q.output) out er z) (written_over q.memory work) (back (written_over q.field) field ef z) (back (written_over q.state.numbers) numbers eh z) (back (words_over q.state.counts) counts ek z)))

  module _ (bo : (i : ℕ) → get_or out i 0 < 256) (bf : (i : ℕ) → get_or field i 0 < 256) (bn : (i : ℕ) → get_or numbers i 0 < 256) (bk : (i : ℕ) → get_or counts i 0 < 256) (el : len ≡ cond b (length mass) 0) (ca : Cut (length starts) 2051 a) (cd : Cut (length cols) 2055 d) (cm : Cut len 4103 m) (cp : Cut (length w) 4103 p) (cr : Cut (length out) 4103 r) (cf : Cut (length field) 4103 f) (ch : Cut (length numbers) 4103 h) (ck : Cut (length counts) 4103 k) where
    abbrev checked₁ : Checked
    checked₁ = first (checks call j₁ (doubles_of (take r out)) (doubles_of work) (length (doubles_of (take f field))) (doubles_of (take h numbers)) (words_of (take k counts)))

    recut : Recut (length starts / 4) (len / 8) (length out / 8) (length w / 8) (first (checks call j (doubles_of out) (doubles_of work) (length (doubles_of field)) (doubles_of numbers) (words_of counts))) checked₁ (Uncut (numbers_of starts) (numbers_of (take a starts)) (numbers_of cols) (numbers_of (take d cols)) (given b (doubles_of mass)) (given b (doubles_of (take m mass))) (length starts / 4) (len / 8) × (doubles_of (take p w) ≡ doubles_of w))
    recut =
        let z = mass_part b mass len el cm in
        let ρ = checks_cut call n vals few entries tau count (doubles_of work) (length (doubles_of (take f field))) (doubles_of (take h numbers)) (words_of (take k counts)) b (numbers_part starts ca) (columns_part cols cd) z.0 z.1 (doubles_part out cr) (doubles_part w cp) in
        record { told = same_checks (doubles_part field cf) (doubles_part numbers ch) (words_part counts ck) call j (doubles_of out) (doubles_of work) (rows_of (numbers_of starts) (numbers_of cols) (given b (doubles_of mass)) (doubles_of w)) ∙ ρ.told; same = ρ.same }

    replied_cut : mended (packs q₁ cuts) ≡ packs q wholes
    replied_cut = go checked₁ refl
      where
        go : (c : Checked) → checked₁ ≡ c → mended (packs q₁ cuts) ≡ packs q wholes
        go (Err e₁) e =
            by_refusal bo bf bn bk (refused call (csr n (numbers_of (take a starts)) (numbers_of (take d cols)) vals) (given b (doubles_of (take m mass))) tau count (doubles_of (take p w)) (doubles_of (take r out)) (doubles_of work) (doubles_of (take f field)) (doubles_of (take h numbers)) (words_of (take k counts)) e)
            (refused call (csr n (numbers_of starts) (numbers_of cols) vals) (given b (doubles_of mass)) tau count (doubles_of w) (doubles_of out) (doubles_of work) (doubles_of field) (doubles_of numbers) (words_of counts) (recut.told ∙ ap (retold (length starts / 4) (len / 8) (length out / 8) (length w / 8)) e ∙ retold_refused (length starts / 4) (len / 8) (length out / 8) (length w / 8) e₁.reason e₁.value))
        go (Ok _) e =
            let z = recut.same e in
            let u = z.0.0 in
            let l = whole_lent (doubles_part field cf) (doubles_part numbers ch) (words_part counts ck) call j₁ (doubles_of (take r out)) (doubles_of work) (rows_of (numbers_of (take a starts)) (numbers_of (take d cols)) (given b (doubles_of (take m mass))) (doubles_of (take p w))) (sym e) in
            by_lists (λ i. over_lists (u.0 i) (u.1 i) (u.2 i) (z.0.1 i)) (not_cut cr z.1) (not_cut cf l.0.1) (not_cut ch l.1.0.1) (not_cut ck l.1.1.1) u.3 u.4 z.1 z.2

    pub job_cut : {i : ℕ} {x y : Float} {s₁ : Slices} → replies i x s₁ ≡ packs q₁ cuts → y ≡ lengths i x → replies i y (joined s₁) ≡ packs q wholes
    job_cut {i} {s₁ = s₁} e ey = ap (λ (v : Float). replies i v (joined s₁)) ey ∙ ap mended e ∙ replied_cut
