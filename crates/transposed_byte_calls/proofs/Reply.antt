-- A call on the unpacked lists, and what it leaves packed. Assumes nothing.
use mathlib.Core.Bool.{Bool, true, false}
use mathlib.Core.List.{List}
use mathlib.Core.Path.{◌≡◌, ◌∙◌, ap}
use Prim.Native.Nat.{ℕ}
use lib.Ieee.{Float}
use Rattle.combination.specs.Call.{ends}
use Rattle.le_bytes.specs.Bytes.{numbers_over, written_over}
use Rattle.transpose.specs.Transpose.{buffers}
use Rattle.transposed.specs.Transposed.{Lending, lends}
use Rattle.answers.specs.Told.{Numbers}
use Rattle.transposed_told.specs.Telling.{MatrixTold, matrix_told}
use Rattle.transposed_byte_calls.specs.Replies.{Lent, lent, Reply, replies, packs, replied, MatrixReply, matrix_replies, matrix_packs, matrix_replied}

pub packing : (t : Numbers) (f g e : List Float) (s c : List ℕ) (out work : List ℕ) (l : Lent) {out₁ work₁ s₁ c₁ e₁ : List ℕ} (call : Lending Numbers) → lends (ends t f g) (buffers s c e) ≡ call → out₁ ≡ written_over f out → work₁ ≡ written_over g work → s₁ ≡ numbers_over s l.starts → c₁ ≡ numbers_over c l.columns → e₁ ≡ written_over e l.values → replies t out₁ work₁ (lent s₁ c₁ e₁) ≡ packs call out work l
packing t f g e s c out work l call h eo ew es ec ee = (λ i. replies t (eo i) (ew i) (lent (es i) (ec i) (ee i))) ∙ ap (λ q. packs q out work l) h

-- by whether the job is large
pub refused_large : {large : Bool} (r : Reply) (call : Lending Numbers) → large ≡ true → r ≡ replied large r call
unfolding replied
refused_large r call e = rw e

pub not_large : {large : Bool} {r : Reply} (u : Reply) (call : Lending Numbers) → large ≡ false → r ≡ packs call u.output u.memory u.buffers → r ≡ replied large u call
unfolding replied
not_large u call e d = rw e d

-- the numbers that are told, where they are stored
pub telling : {t₁ t : Numbers} {out₁ work₁ : List ℕ} {l₁ : Lent} {r : Reply} → t₁ ≡ t → replies t out₁ work₁ l₁ ≡ r → replies t₁ out₁ work₁ l₁ ≡ r
telling {out₁ = out₁} {work₁ = work₁} {l₁ = l₁} et e = ap (λ x. replies x out₁ work₁ l₁) et ∙ e

-- of the matrix
pub packing_matrix : (t : Numbers) (s c : List ℕ) (e : List Float) (l : Lent) {s₁ c₁ e₁ : List ℕ} (told : MatrixTold) → matrix_told t (buffers s c e) ≡ told → s₁ ≡ numbers_over s l.starts → c₁ ≡ numbers_over c l.columns → e₁ ≡ written_over e l.values → matrix_replies t (lent s₁ c₁ e₁) ≡ matrix_packs told l
packing_matrix t s c e l told h es ec ee = (λ i. matrix_replies t (lent (es i) (ec i) (ee i))) ∙ ap (λ q. matrix_packs q l) h

pub matrix_large : {large : Bool} (r : MatrixReply) (t : MatrixTold) → large ≡ true → r ≡ matrix_replied large r t
unfolding matrix_replied
matrix_large r t e = rw e

pub matrix_not_large : {large : Bool} {r : MatrixReply} (u : MatrixReply) (t : MatrixTold) → large ≡ false → r ≡ matrix_packs t u.buffers → r ≡ matrix_replied large u t
unfolding matrix_replied
matrix_not_large u t e d = rw e d
