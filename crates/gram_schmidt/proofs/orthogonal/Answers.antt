-- `gram_schmidt::orthogonal` meets its contract. Assumes nothing.
use native.Mathlib.Omega.{arith}
use mathlib.Core.Path.{◌≡◌, refl, ◌∙◌}
use mathlib.Core.List.{List}
use native.Mathlib.Nat.{zero-add, zero-mul}
use Prim.Native.Nat.{ℕ, ◌+◌, ◌-◌, ◌*◌, ◌≤◌, ◌<◌}
use lib.ListN.{set, take, drop, length-set}
use lib.Ieee.{Float}
use Rattle.lists.specs.Window.{window}
use Rattle.lists.proofs.Bounds.{column_within, cell_within}
use Rattle.lists.proofs.Window.{part_window}
use Rattle.gram_schmidt.specs.Basis.{orthogonal}
use Rattle.gram_schmidt.proofs.GramSchmidt.{began, turn, next_size}
use Rattle.gram_schmidt.proofs.orthogonal.Goals as goal

first_part : (n : ℕ) (w : List Float) → take (n - 0) (drop 0 w) ≡ window 0 n w
first_part n w = rw zero-add at (part_window 0 n w)

pub loop-i-init : goal.loop-i-init
loop-i-init c = (omega arith, refl, began _ _ _ _ _ _, rw zero-mul (rw (part_window c.args.z_at c.args.len _, first_part c.args.len _) at c.dot-c.ensures))

pub overflow_mul-at : goal.overflow_mul-at
overflow_mul-at c =
    let col : (let a = c.args in c.loop-i.i * a.len + a.len + a.len ≤ a.z_at) = let a = c.args in
    omega (arith, column_within c.loop-i.i a.j a.len c.loop-i-test.true) in
    omega (arith, col)

pub overflow_mul-e : goal.overflow_mul-e
overflow_mul-e c =
    let cell : (let a = c.args in a.j * a.dim + c.loop-i.i < a.dim * a.dim) = let a = c.args in
    cell_within a.j a.dim a.dim c.loop-i.i (omega arith) (omega arith) in
    omega (arith, cell)

pub overflow_add-e : goal.overflow_add-e
overflow_add-e c =
    let cell : (let a = c.args in a.j * a.dim + c.loop-i.i < a.dim * a.dim) = let a = c.args in
    cell_within a.j a.dim a.dim c.loop-i.i (omega arith) (omega arith) in
    omega (arith, cell)

pub overflow_add-work : goal.overflow_add-work
overflow_add-work c =
    let cell : (let a = c.args in a.j * a.dim + c.loop-i.i < a.dim * a.dim) = let a = c.args in
    cell_within a.j a.dim a.dim c.loop-i.i (omega arith) (omega arith) in
    omega (arith, cell, c.loop-i.invariant.1)

pub offset_bounds-work-h_at : goal.offset_bounds-work-h_at
offset_bounds-work-h_at c =
    let cell : (let a = c.args in a.j * a.dim + c.loop-i.i < a.dim * a.dim) = let a = c.args in
    cell_within a.j a.dim a.dim c.loop-i.i (omega arith) (omega arith) in
    omega (arith, cell, c.loop-i.invariant.1)

pub bounds-work-h_at : goal.bounds-work-h_at
bounds-work-h_at c =
    let cell : (let a = c.args in a.j * a.dim + c.loop-i.i < a.dim * a.dim) = let a = c.args in
    cell_within a.j a.dim a.dim c.loop-i.i (omega arith) (omega arith) in
    omega (arith, cell, c.loop-i.invariant.1)

pub overflow_add-at : goal.overflow_add-at
overflow_add-at c =
    let col : (let a = c.args in c.loop-i.i * a.len + a.len + a.len ≤ a.z_at) = let a = c.args in
    omega (arith, column_within c.loop-i.i a.j a.len c.loop-i-test.true) in
    omega (arith, col)

pub axpy_dot_in-c-requires : goal.axpy_dot_in-c-requires
axpy_dot_in-c-requires c =
    let col : (let a = c.args in c.loop-i.i * a.len + a.len + a.len ≤ a.z_at) = let a = c.args in
    omega (arith, column_within c.loop-i.i a.j a.len c.loop-i-test.true) in
    let f = col in
    record { len_in_bounds = (simp length-set (omega (arith, c.loop-i.invariant.1)), simp length-set (omega (arith, c.loop-i.invariant.1)), simp length-set (omega (arith, c.loop-i.invariant.1))); apart = (omega arith, omega arith) }

pub loop-i-preserved : goal.loop-i-preserved
loop-i-preserved c =
    let a = c.args in
    let pre = c.requires in
    let inv = c.loop-i.invariant in
    let i = c.loop-i.i in
    let t = set c.loop-i.work (a.h_at + (a.j * a.dim + i)) c.loop-i.c in
    let e = c.axpy_dot_in-c.ensures in
    (omega arith, c.axpy_dot_in-c.auto.work ∙ simp length-set inv.1, turn _ _ _ _ _ _ _ _ _ _ pre.len_bound pre.len_bound_2 pre.dim_in_bounds pre.j_lt_dim (omega arith) inv.2 inv.3 e.work_after, next_size a.len a.z_at a.j i t _ _ _ pre.len_bound (simp length-set (omega (arith, inv.1))) c.loop-i-test.true e.work_after e.value)

pub overflow_mul-e-2 : goal.overflow_mul-e-2
overflow_mul-e-2 c =
    let last : (let a = c.args in a.j * a.dim + a.j < a.dim * a.dim) = let a = c.args in cell_within a.j a.dim a.dim a.j (omega arith) (omega arith) in
    omega (arith, last)

pub overflow_add-e-2 : goal.overflow_add-e-2
overflow_add-e-2 c =
    let last : (let a = c.args in a.j * a.dim + a.j < a.dim * a.dim) = let a = c.args in cell_within a.j a.dim a.dim a.j (omega arith) (omega arith) in
    omega (arith, last)

pub overflow_add-work-2 : goal.overflow_add-work-2
overflow_add-work-2 c =
    let last : (let a = c.args in a.j * a.dim + a.j < a.dim * a.dim) = let a = c.args in cell_within a.j a.dim a.dim a.j (omega arith) (omega arith) in
    omega (arith, last, c.loop-i.invariant.1)

pub offset_bounds-work-h_at-2 : goal.offset_bounds-work-h_at-2
offset_bounds-work-h_at-2 c =
    let last : (let a = c.args in a.j * a.dim + a.j < a.dim * a.dim) = let a = c.args in cell_within a.j a.dim a.dim a.j (omega arith) (omega arith) in
    omega (arith, last, c.loop-i.invariant.1)

pub bounds-work-h_at-2 : goal.bounds-work-h_at-2
bounds-work-h_at-2 c =
    let last : (let a = c.args in a.j * a.dim + a.j < a.dim * a.dim) = let a = c.args in cell_within a.j a.dim a.dim a.j (omega arith) (omega arith) in
    omega (arith, last, c.loop-i.invariant.1)

pub axpy_in-requires : goal.axpy_in-requires
axpy_in-requires c =
    record { len_in_bounds = simp length-set (omega (arith, c.loop-i.invariant.1)); len_in_bounds_2 = simp length-set (omega (arith, c.loop-i.invariant.1)); apart = omega arith }

pub shape_of-work : goal.shape_of-work
shape_of-work c = c.axpy_in.auto.work ∙ simp length-set c.loop-i.invariant.1

pub returns : goal.returns
returns c =
    let pre = c.requires in
    let e : c.loop-i.i ≡ c.args.j = omega arith in
    turn _ _ _ _ _ _ _ _ _ _ pre.len_bound pre.len_bound_2 pre.dim_in_bounds pre.j_lt_dim (omega arith) (rw e at c.loop-i.invariant.2) (rw e at c.loop-i.invariant.3) c.axpy_in.ensures
