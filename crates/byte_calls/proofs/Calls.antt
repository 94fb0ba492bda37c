-- A call on the parts of its lists answers what it answers on the whole lists, with the lengths handed in. Assumes nothing.
use mathlib.Core.List.{List, ◌++◌}
use mathlib.Core.Path.{◌≡◌, refl, sym, ◌∙◌, ap}
use Prim.Native.Nat.{ℕ, ◌/◌, ◌≤◌, ◌<◌}
use lib.ListN.{length, get_or, take, drop}
use lib.Ieee.{Float}
use Rattle.checks.specs.First.{first}
use Rattle.checks.specs.First.{Checked}
use Rattle.generator_action.specs.Generator.{Generator}
use Rattle.combination.specs.Call.{Call, ends}
use Rattle.answers.specs.Told.{Numbers, numbers, run_numbers}
use Rattle.le_bytes.specs.Bytes.{doubles_of, written_over}
use Rattle.byte_arrays.specs.Inner.{Cut, lengths_told}
use Rattle.byte_arrays.proofs.Parts.{whole, not_cut}
use Rattle.byte_arrays.proofs.Bytes.{back, left}
use Rattle.byte_arrays.proofs.Cuts.{Recut, retold, retold_refused, few_told}
use Rattle.byte_calls.specs.Inner.{told, called, revalued}
use Rattle.byte_calls.specs.declared.Told.{Told}
use Rattle.byte_calls.specs.declared.PhiCall.{PhiCall}
use Rattle.byte_calls.specs.declared.PhiCall.TheVariants.{Combination, Action, Batch, Krylov}
use Rattle.byte_calls.proofs.Jobs.{checks, refused}
use Rattle.std.specs.Prelude.{Ok, Err}

-- ---- the double that is told
abbrev pub retell : ℕ → ℕ → ℕ → ℕ → Numbers → Numbers
retell cs cm co cv t = run_numbers t.number (lengths_told cs cm co cv t.number t.value) t.first t.second t.third t.shortest t.last

pub told_again : (call : PhiCall) (t : Told) (cs cm co cv : ℕ) → told call (revalued t (lengths_told cs cm co cv t.number t.value)) ≡ retell cs cm co cv (told call t)
unfolding told
told_again (Combination degree) t cs cm co cv = refl
told_again (Action degree) t cs cm co cv = refl
told_again (Batch degree) t cs cm co cv = refl
told_again (Krylov tol m most) t cs cm co cv = refl

-- ---- a call on whole lists and on their parts
pub record CallCut (q q₁ : Call Numbers) (cs cm co cv : ℕ) (out : List ℕ) (r : ℕ) : Type 0 where
  pub answer : q.answer ≡ retell cs cm co cv q₁.answer
  pub output : written_over q₁.output (take r out) ++ drop r out ≡ written_over q.output out
  pub memory : q.memory ≡ q₁.memory

module _ (call : PhiCall) (tau : Float) (k : ℕ) (memory : List Float) (g g₁ : Generator) (v v₁ : List Float) (out : List ℕ) (r cs cm cv : ℕ) where
  abbrev q : Call Numbers
  q = called call g tau k v (doubles_of out) memory

  abbrev q₁ : Call Numbers
  q₁ = called call g₁ tau k v₁ (doubles_of (take r out)) memory

  by_refusal : {j : ℕ} {x : Float} → ((i : ℕ) → get_or out i 0 < 256) → q₁ ≡ ends (numbers j x 0 0 0) (doubles_of (take r out)) memory → q ≡ ends (numbers j (lengths_told cs cm (length out / 8) cv j x) 0 0 0) (doubles_of out) memory → CallCut q q₁ cs cm (length out / 8) cv out r
  by_refusal byte e₁ e =
      record {
        answer = ap (λ (c : Call Numbers). c.answer) e ∙ ap (λ (c : Call Numbers). retell cs cm (length out / 8) cv c.answer) (sym e₁);
        output = ap (λ (c : Call Numbers). written_over c.output (take r out) ++ drop r out) e₁ ∙ left out r byte ∙ ap (λ (c : Call Numbers). written_over c.output out) (sym e);
        memory = ap (λ (c : Call Numbers). c.memory) e ∙ ap (λ (c : Call Numbers). c.memory) (sym e₁);
      }

  uncut : g₁ ≡ g → v₁ ≡ v → r ≡ length out → cs ≤ 512 → cm ≤ 512 → length out / 8 ≤ 512 → cv ≤ 512 → CallCut q q₁ cs cm (length out / 8) cv out r
  uncut eg ev er ls lm lo lv =
      let e : q₁ ≡ q = λ i. called call (eg i) tau k (ev i) (doubles_of (whole {b = out} er i)) memory in
      record {
        answer = ap (λ (c : Call Numbers). c.answer) (sym e) ∙ ap (λ (y : Float). run_numbers q₁.answer.number y q₁.answer.first q₁.answer.second q₁.answer.third q₁.answer.shortest q₁.answer.last) (sym (few_told cs cm (length out / 8) cv q₁.answer.number q₁.answer.value ls lm lo lv));
        output = ap (λ (c : Call Numbers). written_over c.output (take r out) ++ drop r out) e ∙ back (written_over q.output) out er;
        memory = ap (λ (c : Call Numbers). c.memory) (sym e);
      }

  pub call_cut : {Same : Type 0} → ((i : ℕ) → get_or out i 0 < 256) → Cut (length out) 4103 r → (Same → (g₁ ≡ g) × (v₁ ≡ v) × (cs ≤ 512) × (cm ≤ 512))
      → Recut cs cm (length out / 8) cv (first (checks call g tau k v (length (doubles_of out)) (length memory))) (first (checks call g₁ tau k v₁ (length (doubles_of (take r out))) (length memory))) Same
      → CallCut q q₁ cs cm (length out / 8) cv out r
  call_cut byte cut same ρ = go (first (checks call g₁ tau k v₁ (length (doubles_of (take r out))) (length memory))) refl
    where
      go : (c : Checked) → first (checks call g₁ tau k v₁ (length (doubles_of (take r out))) (length memory)) ≡ c → CallCut q q₁ cs cm (length out / 8) cv out r
      go (Ok _) e =
          let z = ρ.same e in
          let s = same z.0 in
          uncut s.0 s.1 (not_cut cut z.1) s.2 s.3 z.1 z.2
      go (Err refusal) e =
          by_refusal byte (refused call g₁ tau k v₁ (doubles_of (take r out)) memory e)
          (refused call g tau k v (doubles_of out) memory (ρ.told ∙ ap (retold cs cm (length out / 8) cv) e ∙ retold_refused cs cm (length out / 8) cv refusal.reason refusal.value))
