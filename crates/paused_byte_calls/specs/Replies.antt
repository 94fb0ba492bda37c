-- What a start or a step on bytes answers (document 01, 'Oracle'; document 02, N5): 255 where the job is large (byte_arrays/specs/Large), and then nothing is
-- changed; else the start or the step on the lists that its slices stand for. The state is ten doubles and eight numbers of eight bytes each, lowest
-- first. Slices of other lengths hold no state, and a field of another length is refused by 26 at its place. Definitions only.
use Rattle.std.specs.Prelude.{Bool, true, false, List, ℕ, Float}
use Rattle.le_bytes.specs.Bytes.{words_over, written_over}
use Rattle.exports_paused.specs.Told.{Told}

-- the bytes of output, working memory, field and state
pub record Slices : Type 0 where
  pub output : List ℕ
  pub memory : List ℕ
  pub field : List ℕ
  pub numbers : List ℕ
  pub counts : List ℕ

abbrev pub slices : List ℕ → List ℕ → List ℕ → List ℕ → List ℕ → Slices
slices output memory field numbers counts = record { output = output; memory = memory; field = field; numbers = numbers; counts = counts }

-- what is left, written over the bytes handed in
abbrev pub packed : Told → Slices → Slices
packed t s =
    slices (written_over t.output s.output) (written_over t.memory s.memory) (written_over t.field s.field)
    (written_over t.state.numbers s.numbers) (words_over t.state.counts s.counts)

-- 0 or the refusal's number, the double reported, and the bytes of the five slices
pub record Reply : Type 0 where
  pub number : ℕ
  pub value : Float
  pub slices : Slices

abbrev pub replies : ℕ → Float → Slices → Reply
replies k x s = record { number = k; value = x; slices = s }

abbrev pub packs : Told → Slices → Reply
packs t s = replies t.state.number t.state.value (packed t s)

-- a large job changes nothing
unfoldable pub replied : Bool → Reply → Told → Reply
replied true unchanged t = unchanged
replied false unchanged t = packs t unchanged.slices
