-- A job whose slices were cut answers what it answers on the whole slices, with the lengths handed in. Assumes nothing.
use mathlib.Core.Bool.{Bool, cond}
use mathlib.Core.List.{List, ◌++◌}
use mathlib.Core.Path.{◌≡◌, ◌∙◌, ap, sym}
use native.Mathlib.Omega.{arith}
use Prim.Native.Nat.{ℕ, ◌/◌, ◌≤◌, ◌<◌}
use lib.ListN.{length, get_or, take, drop}
use lib.Ieee.{Float}
use Rattle.general_operator.specs.Csr.{csr}
use Rattle.generator_action.specs.Mass.{Mass, given}
use Rattle.generator_action.specs.Generator.{Generator, forward}
use Rattle.combination.specs.Call.{Call}
use Rattle.taylor_schedule.proofs.Stored.{quotients_rows}
use Rattle.answers.specs.Told.{Numbers}
use Rattle.le_bytes.specs.Bytes.{numbers_of, doubles_of, written_over}
use Rattle.byte_arrays.specs.Inner.{Cut, lengths_told}
use Rattle.byte_arrays.proofs.Parts.{numbers_part, doubles_part, columns_part, mass_part}
use Rattle.byte_arrays.proofs.Forward.{forward_refuses}
use Rattle.byte_calls.specs.Inner.{told, called, revalued}
use Rattle.byte_calls.specs.declared.Told.{Told}
use Rattle.byte_calls.specs.declared.PhiCall.{PhiCall}
use Rattle.byte_calls.proofs.Jobs.{checks_cut}
use Rattle.byte_calls.proofs.Calls.{CallCut, retell, told_again, call_cut}
use Rattle.array_calls.specs.Replies.{Reply, replies, packed}

module _ (call : PhiCall) (n : ℕ) (vals : List Float) (tau : Float) (k : ℕ) (work : List ℕ) (few : n ≤ 64) (fits : length vals ≤ 512) (b : Bool) (starts cols mass v out : List ℕ) (len a d m p r : ℕ) where
  abbrev matrix : List ℕ → List ℕ → Mass → Generator
  matrix s c g = forward (csr n s c vals) g

  few_rows : (s c : List ℕ) (g : Mass) → (matrix s c g).matrix.n ≤ 64
  few_rows s c g = omega (arith, quotients_rows (csr n s c vals) g, few)

  abbrev q : Call Numbers
  q = called call (matrix (numbers_of starts) (numbers_of cols) (given b (doubles_of mass))) tau k (doubles_of v) (doubles_of out) (doubles_of work)

  abbrev q₁ : Call Numbers
  q₁ = called call (matrix (numbers_of (take a starts)) (numbers_of (take d cols)) (given b (doubles_of (take m mass)))) tau k (doubles_of (take p v)) (doubles_of (take r out)) (doubles_of work)

  calls : ((i : ℕ) → get_or out i 0 < 256) → len ≡ cond b (length mass) 0 → Cut (length starts) 2051 a → Cut (length cols) 2055 d → Cut len 4103 m → Cut (length v) 4103 p → Cut (length out) 4103 r → CallCut q q₁ (length starts / 4) (len / 8) (length out / 8) (length v / 8) out r
  calls byte el ca cd cm cp cr =
      let h = mass_part b mass len el cm in
      call_cut call tau k (doubles_of work) _ _ (doubles_of v) (doubles_of (take p v)) out r (length starts / 4) (len / 8) (length v / 8) byte cr
      (λ z. ((λ i. matrix (z.0.0 i) (z.0.1 i) (z.0.2 i)), z.1, z.0.3, z.0.4))
      (checks_cut call (length vals) fits matrix (forward_refuses n vals few) few_rows tau k (length (doubles_of work)) b (numbers_part starts ca) (columns_part cols cd) h.0 h.1 (doubles_part out cr) (doubles_part v cp))

  pub job_cut : (t u : Told) {out₁ work₁ : List ℕ} → ((i : ℕ) → get_or out i 0 < 256) → len ≡ cond b (length mass) 0 → Cut (length starts) 2051 a → Cut (length cols) 2055 d → Cut len 4103 m → Cut (length v) 4103 p → Cut (length out) 4103 r
      → replies (told call t) out₁ work₁ ≡ packed q₁ (take r out) work
      → u ≡ revalued t (lengths_told (length starts / 4) (len / 8) (length out / 8) (length v / 8) t.number t.value)
      → replies (told call u) (out₁ ++ drop r out) work₁ ≡ packed q out work
  job_cut t u {out₁} {work₁} byte el ca cd cm cp cr e eu =
      let κ = calls byte el ca cd cm cp cr in
      ap (λ (x : Numbers). replies x (out₁ ++ drop r out) work₁) (ap (told call) eu ∙ told_again call t (length starts / 4) (len / 8) (length out / 8) (length v / 8))
      ∙ ap (λ (x : Reply). replies (retell (length starts / 4) (len / 8) (length out / 8) (length v / 8) x.told) (x.output ++ drop r out) x.memory) e
      ∙ (λ i. replies (sym κ.answer i) (κ.output i) (written_over (sym κ.memory i) work))
