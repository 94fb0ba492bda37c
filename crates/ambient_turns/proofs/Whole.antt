-- The whole: refused before any record, or the records and the extremes of their temperatures. Assumes nothing.
use mathlib.Core.Path.{◌≡◌, refl, ap, ◌∙◌}
use mathlib.Core.List.{List, ◌++◌}
use Prim.Native.Nat.{ℕ, ◌≤◌}
use native.Mathlib.Omega.{arith}
use lib.ListN.{length}
use lib.Ieee.{Float}
use Rattle.lists.specs.Loop.{tabulate}
use Rattle.lists.specs.Walk.{on, walk}
use Rattle.lists.specs.Window.{window, splice}
use Rattle.lists.proofs.Window.{length_splice}
use Rattle.doubles.specs.F64.{max_num, min_num}
use Rattle.extremes.specs.Extremes.{largest, smallest}
use Rattle.extremes.proofs.Windows.{extremes_of_front}
use Rattle.checks.specs.First.{first}
use Rattle.checks.specs.First.{Checked}
use Rattle.checks.proofs.First.{sound_on, refused_up}
use Rattle.general_operator.specs.Csr.{Csr}
use Rattle.generator_action.specs.Mass.{Mass, generator_checks}
use Rattle.generator_action.specs.Generator.{Generator, forward}
use Rattle.combination.specs.Call.{ends}
use Rattle.taylor_schedule.proofs.Stored.{quotients_rows}
use Rattle.ambient_checks.specs.Log.{Log, records_of, Places, field_checks, log_checks}
use Rattle.ambient_checks.specs.Inner.{places}
use Rattle.ambient_checks.proofs.Checks.{fields_known, log_known}
use Rattle.ambient_turns.specs.declared.AmbientAnswer.{AmbientAnswer}
use Rattle.ambient_turns.specs.declared.AmbientAnswer.TheVariants.{Refusal}
use Rattle.ambient_turns.specs.Ambient.{ended, record_step, ambient_checks, written, concluded, begun, unless_log_refused, ambient}
use Rattle.ambient_turns.specs.Inner.{results_of, shown_in, Logs, results, logging}
use Rattle.checks.specs.Reasons.{refusal, Sound, Refused}
use Rattle.checks.specs.declared.Reason.{Reason}

-- ---- what the slices hold at the end
module _ (W n : ℕ) (t₁ w₀ w₁ : List Float) (wide : 1 ≤ W) (fits : n ≤ length t₁) where
  largest_in : w₁ ≡ splice 0 (tabulate n (largest W t₁)) w₀ → w₁ ≡ splice 0 (tabulate (length (window 0 n t₁)) (largest W (window 0 n t₁))) w₀
  unfolding largest
  largest_in e = e ∙ ap (λ (x : List Float). splice 0 x w₀) (extremes_of_front max_num W n t₁ wide fits)

  smallest_in : w₁ ≡ splice 0 (tabulate n (smallest W t₁)) w₀ → w₁ ≡ splice 0 (tabulate (length (window 0 n t₁)) (smallest W (window 0 n t₁))) w₀
  unfolding smallest
  smallest_in e = e ∙ ap (λ (x : List Float). splice 0 x w₀) (extremes_of_front min_num W n t₁ wide fits)

module _ (g : Generator) (log : Log) (field load : List Float) (W node : ℕ) (out₀ w₀ t₀ hi₀ lo₀ : List Float) {r : Checked} (told : r ≡ first (ambient_checks g log field load W node (length out₀) (places (length t₀) (length hi₀) (length lo₀)))) where
  pub ambient_refused : {k : Reason} {x : Float} → r ≡ Refused k x → logging (Refusal (refusal k x) 0) out₀ w₀ t₀ hi₀ lo₀ ≡ ambient g log field load W node out₀ w₀ (results t₀ hi₀ lo₀)
  unfolding ambient unless_log_refused
  ambient_refused e = rw (← told, e) refl

  pub ambient_is : {a : AmbientAnswer} {out₁ w₁ hi₁ lo₁ : List Float} (t₁ : List Float) {n : ℕ} → r ≡ Sound → 1 ≤ W → records_of log ≤ length t₀
      → ended a out₁ w₁ (shown_in a (records_of log) t₁) ≡ concluded (walk (record_step g log load node) (records_of log) 0 (on (begun field out₀ w₀)))
      → results_of a (records_of log) ≤ records_of log
      → t₁ ≡ splice 0 (shown_in a (records_of log) t₁) t₀
      → n ≡ results_of a (records_of log)
      → hi₁ ≡ splice 0 (tabulate n (largest W t₁)) hi₀
      → lo₁ ≡ splice 0 (tabulate n (smallest W t₁)) lo₀
      → logging a out₁ w₁ t₁ hi₁ lo₁ ≡ ambient g log field load W node out₀ w₀ (results t₀ hi₀ lo₀)
  unfolding ambient unless_log_refused written
  ambient_is {a} {out₁} {w₁} {hi₁} {lo₁} t₁ {n} e wide room ee most et en eh el =
      let N = results_of a (records_of log) in
      let fits : N ≤ length t₁ = omega (arith, ap length et, length_splice 0 (shown_in a (records_of log) t₁) t₀, most, room) in
      let hi = largest_in W N t₁ hi₀ hi₁ wide fits (rw en at eh) in
      let lo = smallest_in W N t₁ lo₀ lo₁ wide fits (rw en at el) in
      let made : logging a out₁ w₁ t₁ hi₁ lo₁ ≡ written W (results t₀ hi₀ lo₀) (ended a out₁ w₁ (shown_in a (records_of log) t₁)) = λ i. record { call = ends a out₁ w₁; results = results (et i) (hi i) (lo i) } in
      made ∙ ap (written W (results t₀ hi₀ lo₀)) ee ∙ rw (← told, e) refl

-- ---- the checks before the records
pub checks_told : (a : Csr) (mass : Mass) (log : Log) (field load : List Float) (W node output : ℕ) (p : Places) {r : Checked} → Sound ≡ first (generator_checks a mass) → r ≡ first (field_checks a.n field load output ++ log_checks a.n log W node p)
    → r ≡ first (ambient_checks (forward a mass) log field load W node output p)
unfolding ambient_checks
checks_told a mass log field load W node output p sound e = sound_on (generator_checks a mass) _ refl sound (rw (quotients_rows a mass) e)

pub matrix_refused : (a : Csr) (mass : Mass) (log : Log) (field load : List Float) (W node output : ℕ) (p : Places) {k : Reason} {x : Float} → Refused k x ≡ first (generator_checks a mass)
    → Refused k x ≡ first (ambient_checks (forward a mass) log field load W node output p)
unfolding ambient_checks
matrix_refused a mass log field load W node output p e = refused_up (generator_checks a mass) _ refl e

-- what they leave
pub logs_known : (n : ℕ) (log : Log) (field load : List Float) (W node output : ℕ) (t hi lo : ℕ) → Sound ≡ first (field_checks n field load output) → Sound ≡ first (log_checks n log W node (places t hi lo))
    → Logs n (records_of log) (length log.levels) (length field) (length load) output t node
logs_known n log field load W node output t hi lo e f =
    let a = fields_known n field load output e in
    let b = log_known n log W node (places t hi lo) f in
    record { most = b.most; paired = b.paired; fielded = a.fielded; loaded = a.loaded; out = a.out; room = b.temperatures; known = b.known }
