-- A unit comes back from its slices as it was left (document 02, N6: 'coming back as left'). Definitions only.
use Rattle.std.specs.Prelude.{◌≡◌, true, List, ℕ, length, Float}
use Rattle.krylov_job.specs.declared.KrylovPhiOptions.{KrylovPhiOptions}
use Rattle.paused_run.specs.Paused.{Job, Input}
use Rattle.rotation.specs.Unit.{empty, next_place, UnitCall, join, turn}
use Rattle.rotation.specs.declared.Rotation.{Rotation}
use Rattle.exports_paused.specs.Told.{fits, State, start_state, step_state, told}
use Rattle.exports_rotation.specs.Told.{unit_numbers, unit_counts, unit_fits, unit_of, UnitTold, unit_told, join_told, turn_told, next_told, cleared, clear_told}

-- all of a call in slices: the unit after it too, whatever its place
abbrev pub in_slices : {A : Type 0} → UnitCall A → State → UnitTold
in_slices r s = unit_told (told s r.call.output r.call.memory r.call.field) r.place (unit_numbers r.unit) (unit_counts r.unit)

-- of a unit of sixteen places and sixteen numbers, as every one is that a call left (rotation_claims: SixteenClaim)
pub record SlicesClaim (u : Rotation) : Type 0 where
  pub long : unit_fits (unit_numbers u) (unit_counts u) ≡ true
  pub same : unit_of (unit_numbers u) (unit_counts u) ≡ u
  pub next : next_told (unit_counts u) ≡ next_place u
  pub joins :
      (o : KrylovPhiOptions) (j : Job) (output memory field numbers : List Float) (counts : List ℕ)
      → fits numbers counts ≡ true
      → join_told o j output memory field (unit_numbers u) (unit_counts u) numbers counts
      ≡ in_slices (join u o j output memory field) (start_state (join u o j output memory field).call.answer numbers counts)
  pub turns :
      (i : Input) (field numbers : List Float) (counts : List ℕ)
      → turn_told i field (unit_numbers u) (unit_counts u) numbers counts ≡ in_slices (turn u field i) (step_state (turn u field i).call.answer numbers counts)
  pub clears : clear_told (unit_numbers u) (unit_counts u) ≡ cleared 0 (unit_numbers empty) (unit_counts empty)

abbrev pub UnitSlices : Type 0
UnitSlices = (u : Rotation) → length u.places ≡ 16 → length u.queue ≡ 16 → SlicesClaim u
