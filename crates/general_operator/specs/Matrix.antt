-- The matrix that the code hands on. Definitions only.
use Rattle.general_operator.specs.declared.CsrMatrix.{CsrMatrix}
use Rattle.general_operator.specs.Csr.{Csr, csr}

abbrev pub matrix : CsrMatrix → Csr
matrix a = csr a.n a.starts.now a.cols.now a.vals.now
