-- What the checks of field, load and log leave. Assumes nothing.
use mathlib.Core.Path.{◌≡◌}
use mathlib.Core.List.{List}
use Prim.Native.Nat.{ℕ, ◌≤◌, ◌<◌}
use lib.Dec.{eqb, ltb}
use lib.ListN.{length}
use lib.Ieee.{Float}
use borrow.Author.Tests.{eqb-true, eqb-false, not-false, ltb-false, leb-false}
use Rattle.checks.specs.First.{first}
use Rattle.checks.proofs.First.{sound_cons, sound_append}
use Rattle.general_operator.proofs.Sound.{or_false}
use Rattle.combination.specs.Checks.{length_checks}
use Rattle.lists.proofs.Tests.{above_0}
use Rattle.ambient_checks.specs.Log.{Log, records_of, Places, field_checks, log_checks}
use Rattle.checks.specs.Reasons.{Sound}

-- ---- 15 to 17
pub record Fields (n field load output : ℕ) : Type 0 where
  pub fielded : field ≡ n
  pub loaded : load ≡ n
  pub out : output ≡ n

pub fields_known : (n : ℕ) (field load : List Float) (output : ℕ) → Sound ≡ first (field_checks n field load output) → Fields n (length field) (length load) output
unfolding field_checks length_checks
fields_known n field load output e =
    let l = sound_append (length_checks output n (length field) n) _ e in
    let a = sound_cons _ _ _ _ l.0 in
    let b = sound_cons _ _ _ _ a.1 in
    let c = sound_cons _ _ _ _ l.1 in
    record {
      fielded = eqb-true _ n (not-false _ b.0);
      loaded = eqb-true _ n (not-false _ c.0);
      out = eqb-true output n (not-false _ a.0);
    }

-- ---- 38 to 40
pub record Logged (n : ℕ) (log : Log) (W node : ℕ) (r : Places) : Type 0 where
  pub wide : 1 ≤ W
  pub narrow : W ≤ 1024
  pub known : node < n
  pub some : 1 ≤ records_of log
  pub most : records_of log ≤ 100000
  pub paired : length log.levels ≡ records_of log
  pub temperatures : records_of log ≤ r.temperatures
  pub largest : records_of log ≤ r.largest
  pub smallest : records_of log ≤ r.smallest

pub log_known : (n : ℕ) (log : Log) (W node : ℕ) (r : Places) → Sound ≡ first (log_checks n log W node r) → Logged n log W node r
unfolding log_checks
log_known n log W node r e =
    let k = records_of log in
    let a = sound_cons _ _ _ _ e in
    let b = sound_cons _ _ _ _ a.1 in
    let c = sound_cons _ _ _ _ b.1 in
    let a₁ = or_false (eqb W 0) _ a.0 in
    let a₂ = or_false (ltb 1024 W) _ a₁.1 in
    let b₁ = or_false (eqb k 0) _ b.0 in
    let b₂ = or_false (ltb 100000 k) _ b₁.1 in
    let c₁ = or_false (ltb r.temperatures k) _ c.0 in
    let c₂ = or_false (ltb r.largest k) _ c₁.1 in
    record {
      wide = above_0 W (eqb-false W 0 a₁.0);
      narrow = ltb-false 1024 W a₂.0;
      known = leb-false n node a₂.1;
      some = above_0 k (eqb-false k 0 b₁.0);
      most = ltb-false 100000 k b₂.0;
      paired = eqb-true _ k (not-false _ b₂.1);
      temperatures = ltb-false _ k c₁.0;
      largest = ltb-false _ k c₂.0;
      smallest = ltb-false _ k c₂.1;
    }
