-- A start or a step on the unpacked lists, and what it leaves packed. Assumes nothing.
use mathlib.Core.Bool.{Bool, true, false}
use mathlib.Core.List.{List}
use mathlib.Core.Path.{◌≡◌, ◌∙◌, ap}
use Prim.Native.Nat.{ℕ}
use lib.Ieee.{Float}
use Rattle.le_bytes.specs.Bytes.{words_over, written_over}
use Rattle.exports_paused.specs.Told.{Told, told, state}
use Rattle.paused_byte_calls.specs.Replies.{Slices, slices, Reply, replies, packs, replied}

pub packing : (k : ℕ) (x : Float) (f g h e : List Float) (c : List ℕ) (s : Slices) {f₁ g₁ h₁ e₁ c₁ : List ℕ} (call : Told) → told (state k x e c) f g h ≡ call → f₁ ≡ written_over f s.output → g₁ ≡ written_over g s.memory → h₁ ≡ written_over h s.field → e₁ ≡ written_over e s.numbers → c₁ ≡ words_over c s.counts → replies k x (slices f₁ g₁ h₁ e₁ c₁) ≡ packs call s
packing k x f g h e c s call d ef eg eh ee ec = (λ i. replies k x (slices (ef i) (eg i) (eh i) (ee i) (ec i))) ∙ ap (λ q. packs q s) d

-- by whether the job is large
pub refused_large : {large : Bool} (r : Reply) (t : Told) → large ≡ true → r ≡ replied large r t
unfolding replied
refused_large r t e = rw e

pub not_large : {large : Bool} {r : Reply} (u : Reply) (t : Told) → large ≡ false → r ≡ packs t u.slices → r ≡ replied large u t
unfolding replied
not_large u t e d = rw e d
