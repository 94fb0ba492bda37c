-- A transposed job whose slices were cut answers what it answers on the whole slices, with the lengths handed in, and leaves the same in the lent buffers.
-- Assumes nothing.
use mathlib.Core.Bool.{Bool, true, false, ◌||◌, cond}
use mathlib.Core.List.{List, [], ◌∷◌, ◌++◌, append-nil}
use mathlib.Core.Option.{none, some}
use mathlib.Core.Path.{◌≡◌, refl, sym, ◌∙◌, ap}
use native.Mathlib.Omega.{arith}
use Prim.Native.Nat.{ℕ, ◌+◌, ◌/◌, ◌≤◌, ◌<◌}
use lib.ListN.{length, get_or, take, drop}
use lib.Seq.{length-take-le}
use lib.Ieee.{Float, nan}
use Rattle.lists.specs.Window.{splice}
use Rattle.checks.specs.First.{Check, refuse, first, before}
use Rattle.checks.specs.First.{Checked}
use Rattle.general_operator.specs.Csr.{Csr, csr}
use Rattle.general_operator.specs.Checks.{shape_checks, row_checks, entry_checks, matrix_checks}
use Rattle.generator_action.specs.Mass.{Mass, given, quotients, mass_checks, sum_checks, norm_checks}
use Rattle.generator_action.specs.Generator.{Generator}
use Rattle.generator_action.specs.Answer.{unless_refused}
use Rattle.transpose.specs.Transpose.{Lent, Buffers, buffers, lengths, transpose, start_checks, forward_checks, short, lent_checks, before_transposing, transposed_checks, filled, buffers_after, transposed, transposed_answer}
use Rattle.transpose.proofs.Passed.{transposable, transposed_valid, transposed_length}
use Rattle.combination.specs.Call.{Call}
use Rattle.taylor_schedule.proofs.Stored.{quotients_rows}
use Rattle.answers.specs.Told.{Numbers, numbers, run_numbers, matrix_numbers}
use Rattle.le_bytes.specs.Bytes.{numbers_of, doubles_of, written_over}
use Rattle.le_bytes.proofs.Counts.{count_numbers, count_doubles}
use Rattle.le_bytes.proofs.Fronts.{numbers_cut, doubles_cut}
use Rattle.byte_arrays.specs.Inner.{Cut, long_told, lengths_told}
use Rattle.byte_arrays.proofs.Alike.{in_front}
use Rattle.byte_arrays.proofs.Parts.{Part, Columns, numbers_part, doubles_part, columns_part, mass_part, enough}
use Rattle.byte_arrays.proofs.Bytes.{left, left_numbers}
use Rattle.byte_arrays.proofs.Cuts.{Refuses, both_on, refuses_on, again, long_few, few_told, Uncut, matrix_cut}
use Rattle.byte_arrays.proofs.Forward.{alike_starts, alike_mass, other_columns}
use Rattle.byte_calls.specs.Inner.{told, called, revalued}
use Rattle.byte_calls.specs.declared.Told.{Told}
use Rattle.byte_calls.specs.declared.PhiCall.{PhiCall}
use Rattle.byte_calls.proofs.Jobs.{checks_cut}
use Rattle.byte_calls.proofs.Calls.{CallCut, retell, told_again, call_cut}
use Rattle.transposed_byte_calls.specs.Replies.{Lent as Bytes, lent, unpacked, packed, Reply, replies, packs, MatrixReply, matrix_replies, matrix_packs}
use Rattle.transposed_byte_calls.specs.Inner.{called_transposed, checked_transposed}
use Rattle.checks.specs.Reasons.{Sound, Refused, number}
use Rattle.std.specs.Prelude.{Ok, Err}
use Rattle.checks.specs.declared.Reason.TheVariants.{OutputLength, VectorLength, TransposedLength}
use Rattle.checks.specs.declared.Reason.{Reason}

-- ---- the checks up to 30, and the 11 behind it, where a list is too long
none_15 : (a : Csr) (mass : Mass) (l : Lent) → before OutputLength (before_transposing a mass l) ≡ before_transposing a mass l
unfolding before before_transposing forward_checks lent_checks start_checks mass_checks sum_checks norm_checks matrix_checks shape_checks row_checks entry_checks
none_15 a none l = refl
none_15 a (some mass) l = refl

none_16 : (a : Csr) (mass : Mass) (l : Lent) → before VectorLength (before_transposing a mass l) ≡ before_transposing a mass l
unfolding before before_transposing forward_checks lent_checks start_checks mass_checks sum_checks norm_checks matrix_checks shape_checks row_checks entry_checks
none_16 a none l = refl
none_16 a (some mass) l = refl

norm_15 : (a : Csr) → before OutputLength (norm_checks a) ≡ norm_checks a
unfolding before norm_checks
norm_15 a = refl

norm_16 : (a : Csr) → before VectorLength (norm_checks a) ≡ norm_checks a
unfolding before norm_checks
norm_16 a = refl

before_refuses : (n : ℕ) (vals : List Float) (l : Lent) → n ≤ 64 → Refuses (length vals) (λ s cols mass. before_transposing (csr n s cols vals) mass l)
unfolding before_transposing forward_checks mass_checks
before_refuses n vals l few =
    record {
      long_starts = λ s t cols mass ls lt. in_front _ _ _ _ (alike_starts n s t cols vals few ls lt);
      long_mass = λ s cols m p lm lp. alike_mass (csr n s cols vals) m p _ _ few lm lp;
      other_columns = λ s cols other mass h h'. both_on _ _ _ _ (other_columns n vals s cols other h h');
      not_15 = λ s cols mass. none_15 (csr n s cols vals) mass l;
      not_16 = λ s cols mass. none_16 (csr n s cols vals) mass l;
    }

transposed_refuses : (n : ℕ) (vals : List Float) (l : Lent) → n ≤ 64 → Refuses (length vals) (λ s cols mass. transposed_checks (csr n s cols vals) mass l)
unfolding transposed_checks
transposed_refuses n vals l few = refuses_on (before_refuses n vals l few) (λ s cols mass. norm_checks (transpose (quotients (csr n s cols vals) mass))) (λ s cols mass. norm_15 _) (λ s cols mass. norm_16 _)

-- ---- buffers that were cut are short where the whole ones are
abbrev Parts : Buffers → Buffers → ℕ → ℕ → ℕ → Type 0
Parts b b₁ cs cc cv = Part cs b.starts b₁.starts × Part cc b.columns b₁.columns × Part cv b.values b₁.values

module _ {b b₁ : Buffers} {cs cc cv : ℕ} (h : Parts b b₁ cs cc cv) (a : Csr) (few : a.n ≤ 64) (fits : length a.entries ≤ 512) where
  same_short : short a (lengths b₁) ≡ short a (lengths b)
  unfolding short
  same_short =
      let x = enough h.0 (a.n + 1) (omega (arith, few)) in
      let y = enough h.1 (length a.entries) fits in
      let z = enough h.2 (length a.entries) fits in
      λ i. x i || (y i || z i)

  same_before : (mass : Mass) → before_transposing a mass (lengths b₁) ≡ before_transposing a mass (lengths b)
  unfolding before_transposing lent_checks
  same_before mass = ap (λ (t : Bool). matrix_checks a ++ (forward_checks a mass ++ (refuse TransposedLength t nan ∷ []))) same_short

  same_generator : (mass : Mass) → transposed a mass (lengths b₁) ≡ transposed a mass (lengths b)
  unfolding transposed_checks
  same_generator mass = ap (λ (cs : List Check). let g = transposed a mass (lengths b) in record { checks = cs ++ norm_checks (transpose (quotients a mass)); matrix = g.matrix; stored = g.stored }) (same_before mass)

-- ---- what the buffers hold
after_refused : (a : Csr) (mass : Mass) (b : Buffers) {j : Reason} {x : Float} → first (before_transposing a mass (lengths b)) ≡ Refused j x → buffers_after a mass b ≡ b
unfolding buffers_after filled
after_refused a mass b e = rw e refl

after_sound : (a : Csr) (mass : Mass) (b : Buffers) → first (before_transposing a mass (lengths b)) ≡ Sound → buffers_after a mass b ≡ buffers (splice 0 (transpose (quotients a mass)).starts b.starts) (splice 0 (transpose (quotients a mass)).columns b.columns) (splice 0 (transpose (quotients a mass)).entries b.values)
unfolding buffers_after filled
after_sound a mass b e = rw e refl

answer_refused : (a : Csr) (mass : Mass) (l : Lent) {j : Reason} {x : Float} → first (transposed_checks a mass l) ≡ Refused j x → matrix_numbers (transposed_answer a mass l) ≡ numbers (number j) x 0 0 0
unfolding transposed_answer unless_refused matrix_numbers
answer_refused a mass l e = rw e refl

same_answer : (a : Csr) (mass : Mass) (l₁ l : Lent) → transposed_checks a mass l₁ ≡ transposed_checks a mass l → transposed_answer a mass l₁ ≡ transposed_answer a mass l
unfolding transposed_answer
same_answer a mass l₁ l e = ap (λ (cs : List Check). unless_refused (first cs) (transpose (quotients a mass))) e

-- the numbers that are told, where they are stored
pub telling_row : {t₁ t : Numbers} {l : Bytes} {r : MatrixReply} → t₁ ≡ t → matrix_replies t l ≡ r → matrix_replies t₁ l ≡ r
telling_row {l = l} et e = ap (λ x. matrix_replies x l) et ∙ e

-- the checks of a matrix alone
module _ (entries : ℕ) (few : entries ≤ 512) (G : List ℕ → List ℕ → Mass → List Check) (R : Refuses entries G) where
  alone_cut : {cs cm : ℕ} {s s₁ cols cols₁ : List ℕ} {m m₁ : List Float} (b : Bool) → Part cs s s₁ → Columns cols cols₁ → (b ≡ true → Part cm m m₁) → (b ≡ false → cm ≤ 512)
      → (first (G s cols (given b m)) ≡ again 7 cm (again 1 cs (first (G s₁ cols₁ (given b m₁))))) × (first (G s₁ cols₁ (given b m₁)) ≡ Sound → Uncut s s₁ cols cols₁ (given b m) (given b m₁) cs cm)
  unfolding before
  alone_cut {cs} {cm} {s} {s₁} {cols} {cols₁} {m} {m₁} b hs hc hm hm' =
      let t = matrix_cut entries few G R [] refl refl (λ s c g. []) b hs hc hm hm' in
      (ap first (sym (append-nil (G s cols (given b m)))) ∙ t.0 ∙ ap (λ (u : List Check). again 7 cm (again 1 cs (first u))) (append-nil (G s₁ cols₁ (given b m₁))), λ z. t.1 (ap first (append-nil (G s₁ cols₁ (given b m₁))) ∙ z))

again_refused : (cs cm : ℕ) (j : Reason) (x : Float) → again 7 cm (again 1 cs (Refused j x)) ≡ Refused j (long_told 7 cm (number j) (long_told 1 cs (number j) x))
unfolding again
again_refused cs cm j x = refl

module _ (tb tc tv : List ℕ) (x y z : ℕ) (bytes_b : (i : ℕ) → get_or tb i 0 < 256) (bytes_c : (i : ℕ) → get_or tc i 0 < 256) (bytes_v : (i : ℕ) → get_or tv i 0 < 256) (lx : x ≤ length tb) (ly : y ≤ length tc) (lz : z ≤ length tv) where
  abbrev wholes : Bytes
  wholes = lent tb tc tv

  abbrev cuts : Bytes
  cuts = lent (take x tb) (take y tc) (take z tv)

  -- what is left of them behind
  abbrev pub joined : Bytes → Bytes
  joined l = lent (l.starts ++ drop x tb) (l.columns ++ drop y tc) (l.values ++ drop z tv)

  unwritten : joined (packed (unpacked cuts) cuts) ≡ packed (unpacked wholes) wholes
  unwritten = λ i. lent (left_numbers tb x bytes_b i) (left_numbers tc y bytes_c i) (left tv z bytes_v i)

  written : (a : Csr) (mass : Mass) → Sound ≡ first (before_transposing a mass (lengths (unpacked cuts))) → (let q = transpose (quotients a mass) in joined (packed (buffers (splice 0 q.starts (numbers_of (take x tb))) (splice 0 q.columns (numbers_of (take y tc))) (splice 0 q.entries (doubles_of (take z tv)))) cuts) ≡ packed (buffers (splice 0 q.starts (numbers_of tb)) (splice 0 q.columns (numbers_of tc)) (splice 0 q.entries (doubles_of tv))) wholes)
  unfolding transpose
  written a mass e =
      let t = transposable a mass (lengths (unpacked cuts)) e in
      let q = transpose (quotients a mass) in
      let v = transposed_valid t in
      let n : length q.starts ≡ a.n + 1 = omega (arith, v.rows, quotients_rows a mass) in
      let k : length q.entries ≡ length a.entries = transposed_length t in
      let s = numbers_cut tb bytes_b x lx q.starts (omega (arith, n, t.room.starts, count_numbers (take x tb), length-take-le x tb lx)) in
      let c = numbers_cut tc bytes_c y ly q.columns (omega (arith, k, v.paired, t.room.columns, count_numbers (take y tc), length-take-le y tc ly)) in
      let d = doubles_cut tv bytes_v z lz q.entries (omega (arith, k, t.room.values, count_doubles (take z tv), length-take-le z tv lz)) in
      λ i. lent (s i) (c i) (d i)

  -- ---- the matrix cut too
  module _ (n : ℕ) (vals : List Float) (few : n ≤ 64) (fits : length vals ≤ 512) (b : Bool) (starts cols mass : List ℕ) (len a d m : ℕ) where
    abbrev matrix : List ℕ → List ℕ → Csr
    matrix s c = csr n s c vals

    abbrev q : Csr
    q = matrix (numbers_of starts) (numbers_of cols)

    abbrev q₁ : Csr
    q₁ = matrix (numbers_of (take a starts)) (numbers_of (take d cols))

    abbrev g : Mass
    g = given b (doubles_of mass)

    abbrev g₁ : Mass
    g₁ = given b (doubles_of (take m mass))

    module _ (el : len ≡ cond b (length mass) 0) (ca : Cut (length starts) 2051 a) (cd : Cut (length cols) 2055 d) (cm : Cut len 4103 m) (cx : Cut (length tb) 2051 x) (cy : Cut (length tc) 2051 y) (cz : Cut (length tv) 4103 z) where
      lent_parts : Parts (unpacked wholes) (unpacked cuts) (length tb / 4) (length tc / 4) (length tv / 8)
      lent_parts = (numbers_part tb cx, numbers_part tc cy, doubles_part tv cz)

      before_cut : (first (before_transposing q g (lengths (unpacked wholes))) ≡ again 7 (len / 8) (again 1 (length starts / 4) (first (before_transposing q₁ g₁ (lengths (unpacked wholes)))))) × (first (before_transposing q₁ g₁ (lengths (unpacked wholes))) ≡ Sound → Uncut (numbers_of starts) (numbers_of (take a starts)) (numbers_of cols) (numbers_of (take d cols)) g g₁ (length starts / 4) (len / 8))
      before_cut =
          let h = mass_part b mass len el cm in
          alone_cut (length vals) fits (λ s c u. before_transposing (matrix s c) u (lengths (unpacked wholes))) (before_refuses n vals (lengths (unpacked wholes)) few) b (numbers_part starts ca) (columns_part cols cd) h.0 h.1

      pub buffers_cut : joined (packed (buffers_after q₁ g₁ (unpacked cuts)) cuts) ≡ packed (buffers_after q g (unpacked wholes)) wholes
      buffers_cut = go (first (before_transposing q₁ g₁ (lengths (unpacked wholes)))) refl
        where
          same : before_transposing q₁ g₁ (lengths (unpacked cuts)) ≡ before_transposing q₁ g₁ (lengths (unpacked wholes))
          same = same_before lent_parts q₁ few fits g₁

          go : (c : Checked) → first (before_transposing q₁ g₁ (lengths (unpacked wholes))) ≡ c → joined (packed (buffers_after q₁ g₁ (unpacked cuts)) cuts) ≡ packed (buffers_after q g (unpacked wholes)) wholes
          go (Err r) e =
              ap (λ (u : Buffers). joined (packed u cuts)) (after_refused q₁ g₁ (unpacked cuts) (ap first same ∙ e))
              ∙ unwritten
              ∙ ap (λ (u : Buffers). packed u wholes) (sym (after_refused q g (unpacked wholes) (before_cut.0 ∙ ap (λ (u : Checked). again 7 (len / 8) (again 1 (length starts / 4) u)) e ∙ again_refused (length starts / 4) (len / 8) r.reason r.value)))
          go (Ok _) e =
              let u = before_cut.1 e in
              let eq : q₁ ≡ q = λ i. matrix (u.0 i) (u.1 i) in
              let here : first (before_transposing q g (lengths (unpacked cuts))) ≡ Sound = (λ i. first (before_transposing (sym eq i) (sym u.2 i) (lengths (unpacked cuts)))) ∙ ap first same ∙ e in
              let there : first (before_transposing q g (lengths (unpacked wholes))) ≡ Sound = (λ i. first (before_transposing (sym eq i) (sym u.2 i) (lengths (unpacked wholes)))) ∙ e in
              (λ i. joined (packed (buffers_after (eq i) (u.2 i) (unpacked cuts)) cuts))
              ∙ ap (λ (v : Buffers). joined (packed v cuts)) (after_sound q g (unpacked cuts) here)
              ∙ written q g (sym here)
              ∙ ap (λ (v : Buffers). packed v wholes) (sym (after_sound q g (unpacked wholes) there))

      -- ---- the check of the matrix
      told_cut : matrix_numbers (transposed_answer q g (lengths (unpacked wholes))) ≡ retell (length starts / 4) (len / 8) 0 0 (matrix_numbers (transposed_answer q₁ g₁ (lengths (unpacked cuts))))
      told_cut = go (first (transposed_checks q₁ g₁ (lengths (unpacked wholes)))) refl
        where
          t : (first (transposed_checks q g (lengths (unpacked wholes))) ≡ again 7 (len / 8) (again 1 (length starts / 4) (first (transposed_checks q₁ g₁ (lengths (unpacked wholes)))))) × (first (transposed_checks q₁ g₁ (lengths (unpacked wholes))) ≡ Sound → Uncut (numbers_of starts) (numbers_of (take a starts)) (numbers_of cols) (numbers_of (take d cols)) g g₁ (length starts / 4) (len / 8))
          t =
              let h = mass_part b mass len el cm in
              alone_cut (length vals) fits (λ s c u. transposed_checks (matrix s c) u (lengths (unpacked wholes))) (transposed_refuses n vals (lengths (unpacked wholes)) few) b (numbers_part starts ca) (columns_part cols cd) h.0 h.1

          re : Numbers → Numbers
          re = retell (length starts / 4) (len / 8) 0 0

          same : transposed_answer q₁ g₁ (lengths (unpacked cuts)) ≡ transposed_answer q₁ g₁ (lengths (unpacked wholes))
          same = same_answer q₁ g₁ (lengths (unpacked cuts)) (lengths (unpacked wholes)) (ap (λ (s : Generator). s.checks) (same_generator lent_parts q₁ few fits g₁))

          go : (c : Checked) → first (transposed_checks q₁ g₁ (lengths (unpacked wholes))) ≡ c → matrix_numbers (transposed_answer q g (lengths (unpacked wholes))) ≡ re (matrix_numbers (transposed_answer q₁ g₁ (lengths (unpacked cuts))))
          go (Err r) e =
              answer_refused q g (lengths (unpacked wholes)) (t.0 ∙ ap (λ (u : Checked). again 7 (len / 8) (again 1 (length starts / 4) u)) e ∙ again_refused (length starts / 4) (len / 8) r.reason r.value)
              ∙ ap (λ (x : Float). numbers (number r.reason) x 0 0 0) (sym (long_few 15 0 (number r.reason) _ (omega arith)) ∙ sym (long_few 16 0 (number r.reason) _ (omega arith)))
              ∙ ap re (sym (answer_refused q₁ g₁ (lengths (unpacked wholes)) e) ∙ ap matrix_numbers (sym same))
          go (Ok _) e =
              let u = t.1 e in
              let x = matrix_numbers (transposed_answer q₁ g₁ (lengths (unpacked wholes))) in
              (λ i. matrix_numbers (transposed_answer (matrix (sym u.0 i) (sym u.1 i)) (sym u.2 i) (lengths (unpacked wholes))))
              ∙ ap (λ (y : Float). run_numbers x.number y x.first x.second x.third x.shortest x.last) (sym (few_told (length starts / 4) (len / 8) 0 0 x.number x.value u.3 u.4 (omega arith) (omega arith)))
              ∙ ap re (ap matrix_numbers (sym same))

      pub check_cut : {k row : ℕ} {x y : Float} {l₁ : Bytes} → matrix_replies (numbers k x row 0 0) l₁ ≡ matrix_packs (checked_transposed q₁ g₁ (unpacked cuts)) cuts → y ≡ lengths_told (length starts / 4) (len / 8) 0 0 k x → matrix_replies (numbers k y row 0 0) (joined l₁) ≡ matrix_packs (checked_transposed q g (unpacked wholes)) wholes
      unfolding checked_transposed
      check_cut {k} {row} {l₁ = l₁} e ey =
          ap (λ (v : Float). matrix_replies (numbers k v row 0 0) (joined l₁)) ey
          ∙ ap (λ (r : MatrixReply). matrix_replies (retell (length starts / 4) (len / 8) 0 0 r.told) (joined r.buffers)) e
          ∙ (λ i. matrix_replies (sym told_cut i) (buffers_cut i))

      -- ---- a whole job
      module _ (call : PhiCall) (tau : Float) (k : ℕ) (v out work : List ℕ) (p r : ℕ) (bytes_o : (i : ℕ) → get_or out i 0 < 256) (cp : Cut (length v) 4103 p) (cr : Cut (length out) 4103 r) where
        abbrev over : List ℕ → List ℕ → Mass → Generator
        over s c u = transposed (matrix s c) u (lengths (unpacked wholes))

        few_rows : (s c : List ℕ) (u : Mass) → (over s c u).matrix.n ≤ 64
        unfolding transpose
        few_rows s c u = omega (arith, quotients_rows (matrix s c) u, few)

        calls : CallCut (called call (over (numbers_of starts) (numbers_of cols) g) tau k (doubles_of v) (doubles_of out) (doubles_of work)) (called call (over (numbers_of (take a starts)) (numbers_of (take d cols)) g₁) tau k (doubles_of (take p v)) (doubles_of (take r out)) (doubles_of work)) (length starts / 4) (len / 8) (length out / 8) (length v / 8) out r
        calls =
            let h = mass_part b mass len el cm in
            call_cut call tau k (doubles_of work) _ _ (doubles_of v) (doubles_of (take p v)) out r (length starts / 4) (len / 8) (length v / 8) bytes_o cr
            (λ e. ((λ i. over (e.0.0 i) (e.0.1 i) (e.0.2 i)), e.1, e.0.3, e.0.4))
            (checks_cut call (length vals) fits over (transposed_refuses n vals (lengths (unpacked wholes)) few) few_rows tau k (length (doubles_of work)) b (numbers_part starts ca) (columns_part cols cd) h.0 h.1 (doubles_part out cr) (doubles_part v cp))

        pub job_cut : (t u : Told) {out₁ work₁ : List ℕ} {l₁ : Bytes}
            → replies (told call t) out₁ work₁ l₁ ≡ packs (called_transposed call q₁ g₁ (unpacked cuts) tau k (doubles_of (take p v)) (doubles_of (take r out)) (doubles_of work)) (take r out) work cuts
            → u ≡ revalued t (lengths_told (length starts / 4) (len / 8) (length out / 8) (length v / 8) t.number t.value)
            → replies (told call u) (out₁ ++ drop r out) work₁ (joined l₁) ≡ packs (called_transposed call q g (unpacked wholes) tau k (doubles_of v) (doubles_of out) (doubles_of work)) out work wholes
        unfolding called_transposed
        job_cut t u {out₁} {work₁} {l₁} e eu =
            let κ = calls in
            let re = retell (length starts / 4) (len / 8) (length out / 8) (length v / 8) in
            let here : Generator → Call Numbers = λ s. called call s tau k (doubles_of (take p v)) (doubles_of (take r out)) (doubles_of work) in
            ap (λ (x : Numbers). replies x (out₁ ++ drop r out) work₁ (joined l₁)) (ap (told call) eu ∙ told_again call t (length starts / 4) (len / 8) (length out / 8) (length v / 8))
            ∙ ap (λ (x : Reply). replies (re x.told) (x.output ++ drop r out) x.memory (joined x.buffers)) e
            ∙ ap (λ (s : Generator). replies (re (here s).answer) (written_over (here s).output (take r out) ++ drop r out) (written_over (here s).memory work) (joined (packed (buffers_after q₁ g₁ (unpacked cuts)) cuts))) (same_generator lent_parts q₁ few fits g₁)
            ∙ (λ i. replies (sym κ.answer i) (κ.output i) (written_over (sym κ.memory i) work) (buffers_cut i))
