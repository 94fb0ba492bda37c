-- The values by where they lie, and a product by a factor. Assumes nothing.
use mathlib.Core.Path.{◌≡◌, refl, sym, ap, ◌∙◌}
use mathlib.Core.Bool.{Bool, true, false, true≢false}
use mathlib.Core.List.{List}
use Prim.Native.Nat.{ℕ, ◌+◌, ◌≤◌, ◌<◌}
use native.Mathlib.Omega.{arith}
use lib.ListN.{length}
use lib.Ieee.{Float, nan}
use Rattle.lists.specs.Window.{window}
use Rattle.lists.specs.Bounds.{Disjoint}
use Rattle.lists.proofs.Loop.{length_tabulate, get_d_tabulate}
use Rattle.doubles.specs.F64.{◌⊗◌, at}
use Rattle.general_operator.specs.Csr.{Csr, apply_generator}
use Rattle.csr_matvec.specs.Values.{values, Stored, factored, generator_by}

pub values_stored : (b : Bool) (at : ℕ) (vals work : List Float) → b ≡ true → values b at vals work ≡ window at (length vals) work
unfolding values
values_stored true at vals work e = refl
values_stored false at vals work e = absurd (true≢false (sym e))

pub values_given : (b : Bool) (at : ℕ) (vals work : List Float) → b ≡ false → values b at vals work ≡ vals
unfolding values
values_given true at vals work e = absurd (true≢false e)
values_given false at vals work e = refl

pub stored_where : (b : Bool) (at count dst n long : ℕ) → b ≡ true → Stored b at count dst n long → (at + count ≤ long) × Disjoint dst n at count
stored_where true at count dst n long e s = s
stored_where false at count dst n long e s = absurd (true≢false (sym e))

-- the values lie beside all that ends before them
pub stored_behind : (b : Bool) (at count dst to n long : ℕ) → to + n ≤ at → Stored b at count dst n long → Stored b at count to n long
stored_behind true at count dst to n long h s = (s.0, λ g. omega arith)
stored_behind false at count dst to n long h s = s

-- no factor: `apply_generator` of the Rust
pub not_scaled : (tau : Float) (q : Csr) (x : List Float) → generator_by false tau q x ≡ apply_generator q x
unfolding generator_by factored apply_generator
not_scaled tau q x = refl

pub length_by : (scaled : Bool) (tau : Float) (q : Csr) (x : List Float) → length (generator_by scaled tau q x) ≡ q.n
unfolding generator_by
length_by scaled tau q x = length_tabulate q.n _

-- a factor: each value of G x by tau
pub scaled_at : (tau : Float) (q : Csr) (x : List Float) (i : ℕ) → i < q.n → at (generator_by true tau q x) i ≡ tau ⊗ at (apply_generator q x) i
unfolding generator_by factored apply_generator
scaled_at tau q x i h = get_d_tabulate q.n _ i nan h ∙ ap (λ y. tau ⊗ y) (sym (get_d_tabulate q.n _ i nan h))
