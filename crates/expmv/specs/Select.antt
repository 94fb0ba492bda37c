-- `select_s_m` over `THETA_M` (expmv.rs; Al-Mohy and Higham 2011, Table 3.1 and Algorithm 3.2). Definitions only.
use Rattle.std.specs.Prelude.{Bool, true, false, not, ◌&&◌, ◌≡◌, List, [], ◌∷◌, ℕ, ◌*◌, ◌^◌, ◌≤◌, ◌<◌, leb, ltb, get_or, Float, Option, Some, None, if◌then◌else◌}
use Rattle.std.specs.Float.{nan, binary64}
use Rattle.std.specs.Float.Ieee.{round, to_unsigned}
use Rattle.lists.specs.Loop.{iter, open_loop}
use Rattle.doubles.specs.F64.{◌⊘◌, ◌⋖◌, ◌⩽◌, nat, +0, 1f, is_finite, open_f64}
use Rattle.doubles.specs.Whole.{ceil, open_whole}
use Rattle.expmv.specs.declared.Row.{Row}

-- `THETA_M`: 22 degrees
unfoldable pub degrees : List ℕ
degrees = 1 ∷ 2 ∷ 3 ∷ 4 ∷ 5 ∷ 6 ∷ 7 ∷ 8 ∷ 9 ∷ 10 ∷ 11 ∷ 12 ∷ 13 ∷ 14 ∷ 15 ∷ 16 ∷ 17 ∷ 18 ∷ 19 ∷ 20 ∷ 25 ∷ 30 ∷ []

-- the double nearest to m * 10 ^ -e
unfoldable pub decimal : ℕ → ℕ → Float
decimal m e = round binary64 false m (10 ^ e)

-- `THETA_M`: theta of each degree
unfoldable pub thetas : List Float
thetas =
    decimal 2220 19 ∷ decimal 2581 11 ∷ decimal 1386 8 ∷ decimal 3397 7 ∷ decimal 2401 6 ∷ decimal 9066 6
    ∷ decimal 2384 5 ∷ decimal 4991 5 ∷ decimal 8958 5 ∷ decimal 1442 4 ∷ decimal 2142 4 ∷ decimal 2996 4
    ∷ decimal 3998 4 ∷ decimal 5139 4 ∷ decimal 6411 4 ∷ decimal 7803 4 ∷ decimal 9305 4 ∷ decimal 1091 3
    ∷ decimal 1260 3 ∷ decimal 1438 3 ∷ decimal 2429 3 ∷ decimal 3540 3
    ∷ []

-- `M_MAX`: the highest degree
abbrev pub M_MAX : ℕ
M_MAX = 30

unfoldable pub degree : ℕ → ℕ
degree i = get_or degrees i 0

-- the ceiling of the rounded quotient argument / theta
unfoldable pub quotient : Float → ℕ → Float
quotient arg i = ceil (arg ⊘ get_or thetas i nan)

-- a row is admissible if its degree is at most the highest, and the ceiling at most 4,294,967,295
unfoldable pub admissible : ℕ → Float → ℕ → Bool
admissible m_max arg i = leb (degree i) m_max && quotient arg i ⩽ nat 4294967295

-- s is that ceiling, at least 1
unfoldable pub sweeps : Float → ℕ → ℕ
sweeps arg i = if quotient arg i ⋖ 1f then 1 else to_unsigned 32 (quotient arg i)

-- a row's cost, s * m
unfoldable pub cost : Float → ℕ → ℕ
cost arg i = sweeps arg i * degree i

-- s sweeps of degree m
abbrev pub row : ℕ → ℕ → Row
row s m = record { s = s; m = m }

-- row i, if it is admissible
unfoldable pub row_at : ℕ → Float → ℕ → Option Row
row_at m_max arg i = if admissible m_max arg i then Some (row (sweeps arg i) (degree i)) else None

-- the cheaper of a row and what was found before; at equal cost the earlier
unfoldable pub cheaper : Row → Option Row → Row
cheaper r None = r
cheaper r (Some r₀) = if ltb (r.s * r.m) (r₀.s * r₀.m) then r else r₀

unfoldable pub consider : ℕ → Float → ℕ → Option Row → Option Row
consider m_max arg i best = if admissible m_max arg i then Some (cheaper (row (sweeps arg i) (degree i)) best) else best

-- the first admissible row of least cost; none for an argument that is negative or not finite
unfoldable pub select_s_m : ℕ → Float → Option Row
select_s_m m_max arg = if is_finite arg && not (arg ⋖ +0) then iter (consider m_max arg) 22 None else None

-- row i is the first of least cost among the admissible rows below n, and s and m are its
pub record Least (m_max : ℕ) (arg : Float) (n s m i : ℕ) : Type 0 where
  pub row : i < n
  pub fits : admissible m_max arg i ≡ true
  pub s_is : s ≡ sweeps arg i
  pub m_is : m ≡ degree i
  pub least : (j : ℕ) → j < n → admissible m_max arg j ≡ true → cost arg i ≤ cost arg j
  pub first : (j : ℕ) → j < i → admissible m_max arg j ≡ true → cost arg i < cost arg j

-- what s and m of a row chosen lie within
pub record Bounds (m_max s m : ℕ) : Type 0 where
  pub s_some : 1 ≤ s
  pub s_most : s ≤ 4294967295
  pub m_some : 1 ≤ m
  pub m_most : m ≤ 30
  pub m_allowed : m ≤ m_max

-- to compute: a line `unfolding open_select` opens every definition of this file and of those below it
unfoldable pub open_select : Unit {0}
unfolding degrees decimal thetas degree quotient admissible sweeps cost row_at cheaper consider select_s_m open_whole open_f64 open_loop
open_select = tt
