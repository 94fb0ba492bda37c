-- A call on the unpacked lists, its output and its memory packed. Assumes nothing.
use mathlib.Core.Bool.{Bool, true, false}
use mathlib.Core.List.{List}
use mathlib.Core.Path.{◌≡◌, ◌∙◌, ap}
use Prim.Native.Nat.{ℕ}
use lib.Ieee.{Float}
use Rattle.combination.specs.Call.{Call, ends}
use Rattle.answers.specs.Told.{Numbers}
use Rattle.le_bytes.specs.Bytes.{written_over}
use Rattle.array_calls.specs.Replies.{Reply, replies, packed, replied}

pub packing : {t : Numbers} {f g : List Float} (out work : List ℕ) {out₁ work₁ : List ℕ} (call : Call Numbers) → ends t f g ≡ call → out₁ ≡ written_over f out → work₁ ≡ written_over g work → replies t out₁ work₁ ≡ packed call out work
packing {t} {f} {g} out work call e eo ew = (λ i. replies t (eo i) (ew i)) ∙ ap (λ c. packed c out work) e

-- by whether the job is large
pub refused_large : {large : Bool} (r : Reply) (call : Call Numbers) → large ≡ true → r ≡ replied large r call
unfolding replied
refused_large r call e = rw e

pub not_large : {large : Bool} {r : Reply} (u : Reply) (call : Call Numbers) → large ≡ false → r ≡ packed call u.output u.memory → r ≡ replied large u call
unfolding replied
not_large u call e d = rw e d

-- the numbers that are told, where they are stored
pub telling : {t₁ t : Numbers} {out₁ work₁ : List ℕ} {r : Reply} → t₁ ≡ t → replies t out₁ work₁ ≡ r → replies t₁ out₁ work₁ ≡ r
telling {out₁ = out₁} {work₁ = work₁} et e = ap (λ x. replies x out₁ work₁) et ∙ e
