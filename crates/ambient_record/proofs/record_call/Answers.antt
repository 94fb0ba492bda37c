-- `ambient_record::record_call` meets its contract. Assumes nothing.
use mathlib.Core.Path.{◌≡◌, sym, ap, ◌∙◌}
use mathlib.Core.Bool.{Bool, true, false}
use mathlib.Core.List.{List}
use Prim.Native.Nat.{ℕ}
use lib.ListN.{length}
use lib.Ieee.{Float}
use Rattle.checks.proofs.First.{passed_on}
use Rattle.vectors.proofs.Laws.{length_scale}
use Rattle.combination.specs.Combination.{field_of}
use Rattle.ambient_record.proofs.OneRecord.{spliced_long, record_refused, record_not_admitted, record_fits, record_runs, record_is}
use Rattle.ambient_record.proofs.record_call.Goals as goal

-- w_0 has n values, be it the first field or the output's
either : (b : Bool) (n : ℕ) (field out : List Float) → length field ≡ n → length out ≡ n → length (field_of b field out) ≡ n
either true n field out e f = e
either false n field out e f = f

pub returns-in_err-check_record : goal.returns-in_err-check_record
returns-in_err-check_record c gs sound =
    rw (passed_on c.from_residual.ensures.1)
    (let v : List Float = field_of c.args.initial c.args.field.now c.args.out.now in
    let long : length v ≡ c.args.g.n = either c.args.initial c.args.g.n c.args.field.now c.args.out.now c.requires.field_len.0 c.requires.field_len.2 in
    let a = c.args in
    let refusal = c.in_err-check_record.was in
    record_refused a.mass.now c.requires.passed a.duration a.level v a.load.now a.out.now a.work.now long c.requires.field_len.1 c.requires.field_len.2 gs sound c.check_record.ensures refusal)

pub returns-in_err-j : goal.returns-in_err-j
returns-in_err-j c gs sound =
    rw (passed_on c.from_residual-in_err-j.ensures.1)
    (let v : List Float = field_of c.args.initial c.args.field.now c.args.out.now in
    let long : length v ≡ c.args.g.n = either c.args.initial c.args.g.n c.args.field.now c.args.out.now c.requires.field_len.0 c.requires.field_len.2 in
    let a = c.args in
    let refusal = c.in_err-j.was in
    record_not_admitted a.mass.now c.requires.passed a.duration a.level v a.load.now a.out.now a.work.now long c.requires.field_len.1 c.requires.field_len.2 gs sound c.check_record.ensures c.in_ok-check_record.was c.admit_record.ensures refusal)

pub start_record-requires : goal.start_record-requires
start_record-requires c =
    let v : List Float = field_of c.args.initial c.args.field.now c.args.out.now in
    let long : length v ≡ c.args.g.n = either c.args.initial c.args.g.n c.args.field.now c.args.out.now c.requires.field_len.0 c.requires.field_len.2 in
    let a = c.args in
    (long, record_fits a.mass.now c.requires.passed a.duration a.level v a.load.now a.out.now a.work.now long c.requires.field_len.1 c.requires.field_len.2 (sym c.admit_record.ensures ∙ c.in_ok-j.was))

pub scale_into-requires : goal.scale_into-requires
scale_into-requires c = c.requires.field_len.1 ∙ sym c.requires.field_len.2

pub run_record-requires : goal.run_record-requires
run_record-requires c =
    let v : List Float = field_of c.args.initial c.args.field.now c.args.out.now in
    let long : length v ≡ c.args.g.n = either c.args.initial c.args.g.n c.args.field.now c.args.out.now c.requires.field_len.0 c.requires.field_len.2 in
    let a = c.args in
    let r = record_runs a.mass.now c.requires.passed a.duration a.level v a.load.now a.out.now a.work.now long c.requires.field_len.1 c.requires.field_len.2 (sym c.admit_record.ensures ∙ c.in_ok-j.was) (spliced_long _ _ _ c.start_record.ensures)
    (ap length c.scale_into.ensures ∙ length_scale a.level a.load.now ∙ c.requires.field_len.1) in record { allowed = r.0; coupled = r.1 }

pub returns : goal.returns
returns c gs sound =
    let v : List Float = field_of c.args.initial c.args.field.now c.args.out.now in
    let long : length v ≡ c.args.g.n = either c.args.initial c.args.g.n c.args.field.now c.args.out.now c.requires.field_len.0 c.requires.field_len.2 in
    let a = c.args in
    record_is a.mass.now c.requires.passed a.duration a.level v a.load.now a.out.now a.work.now long c.requires.field_len.1 c.requires.field_len.2 gs sound c.check_record.ensures c.in_ok-check_record.was c.admit_record.ensures c.in_ok-j.was c.start_record.ensures c.scale_into.ensures c.run_record.ensures
