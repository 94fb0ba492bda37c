-- The Krylov half of demand 3: what a run did, at every moment and where it was accepted, and when 27 refuses (document 01, 'What demand 3 counts'). Every line
-- speaks of the substeps accepted, the products made, the lengths tried and the field reached. Definitions only.
use Rattle.std.specs.Prelude.{◌≡◌, ◌⊎◌, true, false, List, [], ◌∷◌, map, ℕ, suc, ◌+◌, ◌-◌, ◌*◌, ◌≤◌, ◌<◌, T, length, get_or, take, Float}
use Rattle.std.specs.Float.{nan, binary64}
use Rattle.std.specs.Float.Ieee.{eq, fits}
use Rattle.lists.specs.Window.{window}
use Rattle.doubles.specs.F64.{◌⊕◌, ◌⊖◌, ◌⊘◌, ◌⩽◌, ◌⋖◌, +0, 1f, at, nonneg}
use Rattle.checks.specs.First.{Check, first}
use Rattle.combination.specs.Call.{Call}
use Rattle.sqrt.specs.Sqrt.{sqrt}
use Rattle.vectors.specs.Vectors.{scale}
use Rattle.dot.specs.Dot.{dot}
use Rattle.gram_schmidt.specs.Basis.{Setting, dim, Basis, breakdown, full, apply, orthogonal}
use Rattle.krylov_advance.specs.Run.{columns_of}
use Rattle.krylov_advance.specs.declared.KrylovPhiReport.{KrylovPhiReport}
use Rattle.krylov_job.specs.KrylovCall.{KrylovAnswer}
use Rattle.demand_3.specs.Trace.{Accepted, Attempt, total, Run, last_after, accepted_by, tried_by, time_of, field_of, left_by, estimate_of, relative}
use Rattle.checks.specs.Reasons.{Sound, Refused}
use Rattle.checks.specs.declared.Reason.TheVariants.{SubstepLimit, LengthsRejected, NoInnerPlan}
use Rattle.checks.specs.declared.Reason.{Reason}

-- the norm meant: the rounded Euclidean one of all values
abbrev pub euclidean : List Float → Float
euclidean y = sqrt (dot y y)

abbrev pub Each : {A : Type 0} → (A → Type 0) → List A → Type 0
Each P [] = Unit {0}
Each P (a ∷ l) = P a × Each P l

-- zeros of either sign
abbrev pub Zeros : List Float → Type 0
Zeros y = (i : ℕ) → i < length y → eq (at y i) +0 ≡ true

-- a double with the sign clear that is at most x
pub record Within (x t : Float) : Type 0 where
  pub fit : T (fits binary64 t)
  pub clear : T (nonneg t)
  pub most : T (t ⩽ x)

-- a double above 0 that is at most x
pub record Step (x t : Float) : Type 0 where
  pub fit : T (fits binary64 t)
  pub above : T (+0 ⋖ t)
  pub most : T (t ⩽ x)

-- NaN, or at most the rounded 1 - time
abbrev pub Short : Attempt → Type 0
Short a = (a.t ≡ nan) ⊎ T (a.t ⩽ 1f ⊖ a.time)

-- each of them was tried at this time, and the last is the step
abbrev pub Landed : Float → Float → List Attempt → Type 0
Landed time t [] = ⊥
Landed time t (x ∷ []) = (x.time ≡ time) × (x.t ≡ t)
Landed time t (x ∷ y ∷ l) = (x.time ≡ time) × Landed time t (y ∷ l)

-- what is left of product j of the columns v, less its parts along columns 0 to j
abbrev pub left_of : Setting → List (List Float) → List (List Float) → ℕ → List Float
left_of p v w j = (orthogonal (λ k. get_or v k []) (dim p) j (j + 1) (record { z = get_or w j []; h = [] })).z

-- w has one product for each of the columns v, and each further column is what is left of the product before it, by its norm
pub record Built (p : Setting) (v w : List (List Float)) : Type 0 where
  pub as_many : length w ≡ length v
  pub each : (j : ℕ) → j < length v → get_or w j [] ≡ apply p (get_or v j [])
  pub next : (j : ℕ) → suc j < length v → get_or v (suc j) [] ≡ scale (1f ⊘ euclidean (left_of p v w j)) (left_of p v w j)

-- a basis is built of its products, and the last of them is measured: for the size that a breakdown leaves out, or for the error estimate
abbrev pub Based : Setting → Basis → List (List Float) → Type 0
Based p (breakdown b) w = Built p b.columns.v w × (b.hn ≡ euclidean (left_of p b.columns.v w (length w - 1)))
Based p (full b avnorm) w = Built p b.v w × (avnorm ≡ euclidean (get_or w (length w - 1) []))

-- the first column is the field by its norm
abbrev pub Begun : Basis → Float → List Float → Type 0
Begun b norm y = get_or (columns_of b) 0 [] ≡ scale (1f ⊘ norm) y

-- the length of one of these substeps
abbrev pub OneOf : Float → List Accepted → Type 0
OneOf t [] = ⊥
OneOf t (a ∷ l) = (t ≡ a.t) ⊎ OneOf t l

-- the shortest length (document 02, N10): that of a substep, and at most that of each; of no substep +0
abbrev pub Shortest : List Accepted → Float → Type 0
Shortest [] t = t ≡ +0
Shortest (a ∷ l) t = OneOf t (a ∷ l) × Each (λ b. T (t ⩽ b.t)) (a ∷ l)

-- where another substep follows, the norm is not 0
abbrev pub Unended : List Float → List Accepted → Type 0
Unended y [] = Unit {0}
Unended y (a ∷ l) = eq (euclidean y) +0 ≡ false

-- each substep starts from the field that the one before it gave, at a time from +0 to below 1; its length is no NaN, above 0 and within the rounded 1 - time
abbrev pub Steps : Float → List Float → List Accepted → Type 0
Steps time y [] = Unit {0}
Steps time y (a ∷ l) = (a.from ≡ y) × (a.norm ≡ euclidean y) × Within 1f time × T (time ⋖ 1f) × Step (1f ⊖ time) a.t × Each Short a.tried × Landed time a.t a.tried × Begun a.basis a.norm a.from × Based a.setting a.basis a.products × Unended a.to l × Steps (time ⊕ a.t) a.to l

-- a run u of dimension M at any moment, ended or not, with the report r
pub record Counted (M limit : ℕ) (u : Run) (r : KrylovPhiReport) : Type 0 where
  -- each count is the number made: substeps accepted, products, and lengths tried and not accepted
  pub substeps : r.substeps ≡ length (accepted_by u)
  pub applications : r.matvecs ≡ total (λ a. length a.products) (accepted_by u)
  pub rejections : r.substeps + r.rejected ≡ total (λ a. length a.tried) (accepted_by u)
  -- and bounded
  pub few_substeps : r.substeps ≤ limit
  pub few_applications : r.matvecs ≤ suc M * r.substeps
  pub few_rejections : r.rejected ≤ 10 * r.substeps
  -- the substeps accepted are the first, each made with its own setting
  pub settings : map (λ a. a.setting) (accepted_by u) ≡ take (length (accepted_by u)) u.settings
  -- no length tried is above the rounded 1 - time, and the steps run below 1
  pub short : Each Short (tried_by u)
  pub steps : Steps +0 u.field (accepted_by u)
  -- the shortest and the last length accepted, both +0 where there is none
  pub shortest : Shortest (accepted_by u) r.shortest
  pub last : r.last ≡ last_after +0 (accepted_by u)

-- ---- where a run stands at a moment (document 02, N5)
-- it goes on: its substeps so far are all accepted, their rounded sum is below 1, and the norm after one is not 0
pub record GoesOn (u : Run) : Type 0 where
  pub all : length (accepted_by u) ≡ length u.settings
  pub below_one : T (time_of u ⋖ 1f)
  pub norm_left : 0 < length (accepted_by u) → eq (euclidean (field_of u)) +0 ≡ false

-- a substep ended it with a result: the rounded sum of the steps is 1, or the norm of the field reached is 0
pub record Finished (u : Run) : Type 0 where
  pub some : 0 < length (accepted_by u)
  pub reached : (eq (euclidean (field_of u)) +0 ≡ true) ⊎ (time_of u ≡ 1f)

-- a substep that is not accepted ended it by k: 28 with its eleventh rejection, or 29
pub record Failed (u : Run) (k : Reason) : Type 0 where
  pub number : (k ≡ LengthsRejected) ⊎ (k ≡ NoInnerPlan)
  pub eleven : k ≡ LengthsRejected → length (tried_by u) ≡ total (λ a. length a.tried) (accepted_by u) + 11
  pub fewer : length (accepted_by u) < length u.settings
  pub below_one : T (time_of u ⋖ 1f)
  pub norm_left : 0 < length (accepted_by u) → eq (euclidean (field_of u)) +0 ≡ false

-- ---- whole calls
-- an accepted job of n rows and dimension M: `start` are its n + d values, `output` is what it left, u is its run, r its report
pub record KrylovCost (n M limit : ℕ) (start output : List Float) (u : Run) (r : KrylovPhiReport) : Type 0 where
  pub counted : Counted M limit u r
  -- no substep exactly where all values are zeros; else the rounded sum of the steps is 1, or the norm of the field reached is 0
  pub idle : (accepted_by u ≡ [] → Zeros start) × (Zeros start → accepted_by u ≡ [])
  pub reached : Zeros start ⊎ ((eq (euclidean (field_of u)) +0 ≡ true) ⊎ (time_of u ≡ 1f))
  -- the estimate is that of the substeps, relative to the norm of the first field
  pub estimate : r.est_error ≡ relative (estimate_of u) u.field u.prescale
  -- the output is the field reached
  pub fields : output ≡ window 0 n (left_by u)

-- 27 refuses with x: no check does, the limit's substeps are accepted, their rounded sum is below 1 and the norm of the field reached is not 0; x is the estimate
pub record AtLimit (cs : List Check) (limit : ℕ) (u : Run) (x : Float) : Type 0 where
  pub passed : Sound ≡ first cs
  pub substeps : length (accepted_by u) ≡ limit
  pub below_one : T (time_of u ⋖ 1f)
  pub norm_left : eq (euclidean (field_of u)) +0 ≡ false
  pub told : x ≡ estimate_of u

-- a call is refused by 27 exactly so
abbrev pub Exactly27 : Call KrylovAnswer → List Check → ℕ → Run → Type 0
Exactly27 c cs limit u = (x : Float) → (c.answer ≡ Refused SubstepLimit x → AtLimit cs limit u x) × (AtLimit cs limit u x → c.answer ≡ Refused SubstepLimit x)
