-- `exports_rotation::write_queue` meets its contract. Assumes nothing.
use mathlib.Core.Path.{◌≡◌, sym, ap, ◌∙◌}
use native.Mathlib.Omega.{arith}
use Prim.Native.Nat.{ℕ}
use lib.ListN.{length, get_or}
use Rattle.lists.specs.Loop.{tabulate}
use Rattle.lists.specs.Window.{window, splice}
use Rattle.lists.proofs.Loop.{tabulate_get_or}
use Rattle.lists.proofs.Window.{length_window}
use Rattle.lists.proofs.Slices.{put_splice}
use Rattle.exports_rotation.proofs.write_queue.Goals as goal

pub returns : goal.returns
unfolding window
returns c =
    let w = c.args.counts.now in
    let q = c.args.queue in
    let after = c.copy_from_slice.ensures.after in
    let part : length c.copy_from_slice.new.self ≡ 16 = c.copy_from_slice.ensures.len ∙ length_window 128 16 w (omega (arith, c.requires)) in
    let long : length q ≡ 16 = sym (ap length after) ∙ part in
    put_splice 128 16 w _ (omega (arith, c.requires)) part ∙ ap (λ v. splice 128 v w) (after ∙ sym (tabulate_get_or q 0) ∙ ap (λ (n : ℕ). tabulate n (λ k. get_or q k 0)) long)
