-- `basis_column::push` meets its contract. Assumes nothing.
use native.Mathlib.Omega.{arith}
use Prim.Native.Nat.{◌+◌, ◌*◌, ◌<◌}
use lib.ListN.{length-set}
use Rattle.lists.proofs.Bounds.{cell_within}
use Rattle.lists.proofs.Frame.{wrote_set, untouched}
use Rattle.basis_column.proofs.push.Goals as goal

pub overflow_mul-e : goal.overflow_mul-e
overflow_mul-e c =
    let cell : (let a = c.args in a.j * a.dim + (a.j + 1) < a.dim * a.dim) = let a = c.args in
    cell_within a.j a.dim a.dim (a.j + 1) (omega arith) (omega arith) in
    omega (arith, cell)

pub overflow_add-e : goal.overflow_add-e
overflow_add-e c =
    let cell : (let a = c.args in a.j * a.dim + (a.j + 1) < a.dim * a.dim) = let a = c.args in
    cell_within a.j a.dim a.dim (a.j + 1) (omega arith) (omega arith) in
    omega (arith, cell)

pub overflow_add-work : goal.overflow_add-work
overflow_add-work c =
    let cell : (let a = c.args in a.j * a.dim + (a.j + 1) < a.dim * a.dim) = let a = c.args in
    cell_within a.j a.dim a.dim (a.j + 1) (omega arith) (omega arith) in
    omega (arith, cell)

pub offset_bounds-work-h_at : goal.offset_bounds-work-h_at
offset_bounds-work-h_at c =
    let cell : (let a = c.args in a.j * a.dim + (a.j + 1) < a.dim * a.dim) = let a = c.args in
    cell_within a.j a.dim a.dim (a.j + 1) (omega arith) (omega arith) in
    omega (arith, cell)

pub bounds-work-h_at : goal.bounds-work-h_at
bounds-work-h_at c =
    let cell : (let a = c.args in a.j * a.dim + (a.j + 1) < a.dim * a.dim) = let a = c.args in
    cell_within a.j a.dim a.dim (a.j + 1) (omega arith) (omega arith) in
    omega (arith, cell)

pub scaled_in-requires : goal.scaled_in-requires
scaled_in-requires c = record { len_in_bounds = simp length-set (omega arith); len_in_bounds_2 = simp length-set (omega arith); apart = omega arith }

pub shape_of-work : goal.shape_of-work
shape_of-work c =
    let a = c.args in
    omega (arith, length-set a.work.now (a.h_at + (a.j * a.dim + (a.j + 1))) a.hn)

pub returns : goal.returns
returns c =
    let cell : (let a = c.args in a.j * a.dim + (a.j + 1) < a.dim * a.dim) = let a = c.args in
    cell_within a.j a.dim a.dim (a.j + 1) (omega arith) (omega arith) in
    let a = c.args in
    let f = cell in
    rw (c.scaled_in.ensures, untouched (wrote_set a.work.now (a.h_at + (a.j * a.dim + (a.j + 1))) a.hn) a.z_at a.len (omega arith))
