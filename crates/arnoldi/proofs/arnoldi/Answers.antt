-- `arnoldi::arnoldi` meets its contract. Assumes nothing.
use native.Mathlib.Omega.{arith}
use Rattle.std.proofs.lemmas.Result.{err_from_is_err_and}
use Rattle.gram_schmidt.proofs.Turns.{room_kept, spared_on}
use Rattle.gram_schmidt.proofs.Answers.{begun, closed_on, closed_broken, made}
use Rattle.arnoldi.proofs.arnoldi.Goals as goal

pub columns-requires : goal.columns-requires
columns-requires c = room_kept _ _ _ (begun _ _ _ _ c.args.o.vectors.now c.args.beta _ _ c.requires c.begin.ensures).1.kept c.requires

pub returns-in_err-applied : goal.returns-in_err-applied
returns-in_err-applied c =
    let a = c.args in
    let e₁ = begun _ _ _ _ c.args.o.vectors.now c.args.beta _ _ c.requires c.begin.ensures in
    let g = c.in_err-applied.ensures in
    let p = err_from_is_err_and c.from_residual.result c.from_residual.ensures.1 in
    let f = g.within.0 in
    rw (p.1, p.2)
    (record { work_after = made a.o.l a.o.b a.k _ _ _ _ _ _ _ _ _ _ _ e₁.0 e₁.1 g.work_after g.within.1 (closed_broken _ _ _ _ _); counted = ((omega (arith, f.0), f.1, f.2), spared_on e₁.1 g.within.1) })

pub end-avnorm-requires : goal.end-avnorm-requires
end-avnorm-requires c =
    let e₁ = begun _ _ _ _ c.args.o.vectors.now c.args.beta _ _ c.requires c.begin.ensures in
    let g = c.in_ok-applied.ensures in
    room_kept _ _ _ (spared_on e₁.1 g.within.1).kept c.requires

pub returns : goal.returns
returns c =
    let a = c.args in
    let e₁ = begun _ _ _ _ c.args.o.vectors.now c.args.beta _ _ c.requires c.begin.ensures in
    let g = c.in_ok-applied.ensures in
    let t = c.end-avnorm.ensures in
    record { work_after = made a.o.l a.o.b a.k _ _ _ _ _ _ _ _ _ _ _ e₁.0 e₁.1 g.work_after g.within.1 (closed_on _ _ _ _ _ _ _ _ _ t); counted = (omega (arith, g.within.0), spared_on e₁.1 (spared_on g.within.1 t.spared)) }
