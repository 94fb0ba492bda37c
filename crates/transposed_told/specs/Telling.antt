-- A call on the transposed matrix as the numbers that an exported function hands back, with output, working memory and lent buffers (document 02, N3). Definitions only.
use Rattle.answers.specs.Told.{Numbers}
use Rattle.phi_solver.specs.Combine.{answering}
use Rattle.transpose.specs.Transpose.{Buffers}
use Rattle.transposed.specs.Transposed.{Lending, lends}

-- what is told of a call's answer
abbrev pub telling : {A : Type 0} → (A → Numbers) → Lending A → Lending Numbers
telling tell l = lends (answering tell l.call) l.buffers

-- of the matrix alone: the numbers, and the buffers
pub record MatrixTold : Type 0 where
  pub told : Numbers
  pub buffers : Buffers

abbrev pub matrix_told : Numbers → Buffers → MatrixTold
matrix_told t b = record { told = t; buffers = b }
