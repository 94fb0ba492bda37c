-- `pack_bytes::pack` meets its contract. Assumes nothing.
use mathlib.Core.Path.{◌≡◌, sym, ap, subst, ◌∙◌}
use native.Mathlib.Nat.{mul-suc, mul-le-mul_left}
use native.Mathlib.Omega.{arith}
use Prim.Native.Nat.{ℕ, suc, ◌+◌, ◌*◌}
use Rattle.std.proofs.lemmas.List.{get_or_default}
use Rattle.lists.proofs.Loop.{Filled, started, finished}
use Rattle.pack_bytes.proofs.Packing.{byte_of, next}
use Rattle.pack_bytes.proofs.pack.Goals as goal

pub loop-k-init : goal.loop-k-init
loop-k-init g c = let m = g.T.LittleEndian.SIZE in subst (λ (n : ℕ). Filled 0 n (byte_of m g.T.Packed.byte g.T.Packed.beyond c.args.src.now c.args.dst.now) c.args.dst.now c.args.dst.now) (omega arith) (started _ _ _)

pub loop-k-preserved : goal.loop-k-preserved
loop-k-preserved g c =
    let m = g.T.LittleEndian.SIZE in
    let e : suc c.loop-k.k ≡ c.loop-k.k + 1 = omega arith in
    next m g.T.Packed.byte g.T.Packed.beyond g.met.T.Packed.from_here c.args.src.now _ _ _ c.loop-k.k (m * (c.loop-k.k + 1)) c.loop-k.invariant (c.index-src-k.is ∙ get_or_default c.args.src.now c.loop-k.k _ _ c.loop-k-test.true) (sym (mul-suc m c.loop-k.k) ∙ ap (λ (n : ℕ). m * n) e) (rw c.SIZE.ensures at c.put.ensures)

pub returns : goal.returns
returns g c = finished c.loop-k.invariant _ (mul-le-mul_left g.T.LittleEndian.SIZE (omega arith)) (mul-le-mul_left g.T.LittleEndian.SIZE (omega arith)) ∙ sym (g.met.T.Packed.put_each c.args.src.now c.args.dst.now)
