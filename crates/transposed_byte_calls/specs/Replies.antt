-- What a call on bytes over the transposed matrix answers (document 01, 'Oracle'; document 02, N3): 255 where the job is large (byte_arrays/specs/Large), and
-- then output, working memory and lent buffers are unchanged; else the call on the lists that its slices stand for. In the buffers, row starts and columns
-- have four bytes, values eight. Buffers that are longer than needed, by however much, serve. Definitions only.
use Rattle.std.specs.Prelude.{Bool, true, false, List, ℕ}
use Rattle.le_bytes.specs.Bytes.{numbers_of, doubles_of, numbers_over, written_over}
use Rattle.transpose.specs.Transpose.{Buffers, buffers}
use Rattle.transposed.specs.Transposed.{Lending}
use Rattle.answers.specs.Told.{Numbers}
use Rattle.transposed_told.specs.Telling.{MatrixTold}

-- the bytes of the lent buffers
pub record Lent : Type 0 where
  pub starts : List ℕ
  pub columns : List ℕ
  pub values : List ℕ

abbrev pub lent : List ℕ → List ℕ → List ℕ → Lent
lent starts columns values = record { starts = starts; columns = columns; values = values }

-- the lists that they stand for
abbrev pub unpacked : Lent → Buffers
unpacked l = buffers (numbers_of l.starts) (numbers_of l.columns) (doubles_of l.values)

-- buffers written over the bytes handed in
abbrev pub packed : Buffers → Lent → Lent
packed b l = lent (numbers_over b.starts l.starts) (numbers_over b.columns l.columns) (written_over b.values l.values)

-- the numbers told, and the bytes of output, working memory and buffers
pub record Reply : Type 0 where
  pub told : Numbers
  pub output : List ℕ
  pub memory : List ℕ
  pub buffers : Lent

abbrev pub replies : Numbers → List ℕ → List ℕ → Lent → Reply
replies t output memory l = record { told = t; output = output; memory = memory; buffers = l }

-- the answer's numbers, and what the call leaves written over the bytes handed in
abbrev pub packs : Lending Numbers → List ℕ → List ℕ → Lent → Reply
packs c output memory l = replies c.call.answer (written_over c.call.output output) (written_over c.call.memory memory) (packed c.buffers l)

-- a large job changes nothing
unfoldable pub replied : Bool → Reply → Lending Numbers → Reply
replied true unchanged c = unchanged
replied false unchanged c = packs c unchanged.output unchanged.memory unchanged.buffers

-- ---- of the matrix alone
pub record MatrixReply : Type 0 where
  pub told : Numbers
  pub buffers : Lent

abbrev pub matrix_replies : Numbers → Lent → MatrixReply
matrix_replies t l = record { told = t; buffers = l }

abbrev pub matrix_packs : MatrixTold → Lent → MatrixReply
matrix_packs t l = matrix_replies t.told (packed t.buffers l)

unfoldable pub matrix_replied : Bool → MatrixReply → MatrixTold → MatrixReply
matrix_replied true unchanged t = unchanged
matrix_replied false unchanged t = matrix_packs t unchanged.buffers
