-- The rows of the product by parts, as functions of their own give them. Definitions only.
use Rattle.std.specs.Prelude.{List, ℕ, ◌+◌, ◌-◌, ◌*◌, ◌≤◌, eqb, length, set, Float, if◌then◌else◌}
use Rattle.lists.specs.Loop.{iter}
use Rattle.doubles.specs.F64.{◌⊕◌, ◌⊗◌, +0, at}
use Rattle.doubles.specs.Sum.{sum}
use Rattle.hess_rows.specs.declared.Four.{Four}
use Rattle.hess_rows.specs.HessProduct.{place}

-- row r of H w, from column r - 1 on
abbrev pub hess_row : List Float → ℕ → ℕ → List Float → ℕ → Float
hess_row h dim mx w r = sum (mx - (r - 1)) (λ i. at h (place dim r (r - 1 + i)) ⊗ at w (r - 1 + i))

-- the same by parts, x being w at r - 1: column r - 1, which row 0 has not, and then the columns from r up to `to`
unfoldable pub left_product : List Float → ℕ → Float → ℕ → Float
left_product h dim x r = if eqb r 0 then +0 else (+0 ⊕ at h (place dim r (r - 1)) ⊗ x)

unfoldable pub row_part : List Float → ℕ → Float → List Float → ℕ → ℕ → Float
row_part h dim x w r to = iter (λ i s. s ⊕ at h (place dim r (r + i)) ⊗ at w (r + i)) (to - r) (left_product h dim x r)

-- rows r to r + 3
abbrev pub four_parts : List Float → ℕ → Float → List Float → ℕ → ℕ → Four
four_parts h dim x w r to =
    record {
      s0 = row_part h dim x w r to;
      s1 = row_part h dim (at w r) w (r + 1) to;
      s2 = row_part h dim (at w (r + 1)) w (r + 2) to;
      s3 = row_part h dim (at w (r + 2)) w (r + 3) to;
    }

-- one column more, whose entries of four rows stand from place p on, times y
abbrev pub added : List Float → ℕ → Float → Four → Four
added h p y s =
    record { s0 = s.s0 ⊕ at h p ⊗ y; s1 = s.s1 ⊕ at h (p + 1) ⊗ y; s2 = s.s2 ⊕ at h (p + 2) ⊗ y; s3 = s.s3 ⊕ at h (p + 3) ⊗ y }

-- f s in places r to r + 3 of w
abbrev pub put : List Float → ℕ → Float → Four → List Float
put w r f s = set (set (set (set w r (f ⊗ s.s0)) (r + 1) (f ⊗ s.s1)) (r + 2) (f ⊗ s.s2)) (r + 3) (f ⊗ s.s3)

-- the leading mx rows and columns lie within h
pub record Leading (h : List Float) (dim mx : ℕ) : Type 0 where
  pub across : mx ≤ dim
  pub down : mx * dim ≤ length h
