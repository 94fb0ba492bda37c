-- What a transposed call needs, and what it leaves in the lent buffers (document 02, N3). Assumes nothing.
use mathlib.Core.Path.{◌≡◌, refl}
use lib.Ieee.{Float}
use Rattle.checks.specs.First.{first}
use Rattle.checks.proofs.First.{sound_append}
use Rattle.general_operator.specs.Csr.{Csr}
use Rattle.generator_action.specs.Mass.{Mass, quotients}
use Rattle.generator_action.specs.Generator.{forward}
use Rattle.transpose.specs.Transpose.{Lent, Buffers, lengths, transpose, filled, buffers_after, before_transposing, transposed_checks, transposed}
use Rattle.checks.specs.Reasons.{Sound, Refused}
use Rattle.checks.specs.declared.Reason.{Reason}

-- working memory is needed as for a forward soak: it depends on the rows and on the places stored
pub needs_as_forward : (a : Csr) (mass : Mass) (l : Lent) → ((transposed a mass l).matrix.n ≡ (forward a mass).matrix.n) × ((transposed a mass l).stored ≡ (forward a mass).stored)
unfolding transpose
needs_as_forward a mass l = (refl, refl)

module _ (a : Csr) (mass : Mass) (b : Buffers) where
  -- refused up to 30: the buffers are as they were
  pub buffers_kept : {k : Reason} {x : Float} → Refused k x ≡ first (before_transposing a mass (lengths b)) → buffers_after a mass b ≡ b
  unfolding buffers_after filled
  buffers_kept e = rw (← e) refl

  -- past 30, whatever is answered: they hold the transposed quotients
  pub buffers_filled : Sound ≡ first (before_transposing a mass (lengths b)) → buffers_after a mass b ≡ filled Sound (transpose (quotients a mass)) b
  unfolding buffers_after
  buffers_filled e = rw (← e) refl

  -- a generator that passed is past 30
  pub passed_30 : Sound ≡ first (transposed_checks a mass (lengths b)) → Sound ≡ first (before_transposing a mass (lengths b))
  unfolding transposed_checks
  passed_30 e = (sound_append (before_transposing a mass (lengths b)) _ e).0
