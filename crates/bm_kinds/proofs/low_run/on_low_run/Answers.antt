use Rattle.std.proofs.Common.{◌≡◌, ◌-◌, ◌*◌, ◌%◌, ◌^◌, bit_xor, sym, subst, arith}
use Rattle.std.proofs.lemmas.Nat.{one_shl}
use Rattle.bm_butter.specs.Records.{record_at_place}
use Rattle.bm_kinds.specs.Parts.{IsPart, IsDone}
use Rattle.bm_kinds.proofs.LowRunLemmas.{IsPart-run, IsDone-run}
use Rattle.bm_kinds.proofs.low_run.on_low_run.Goals as goal

pub returns-clause-part : goal.returns-clause-part
returns-clause-part g c =
    let low = c.low_run-low.result in
    let one : 1 * 2 ^ low % 2 ^ 64 ≡ 2 ^ low = one_shl low 64 (omega (arith, c.low_run-low.ensures.within, c.args.a.now.few)) in
    subst (λ k. IsPart (bit_xor c.args.set (k - 1)) c.args.set) (sym one)
    (IsPart-run c.args.set low c.low_run-low.ensures.held)

pub returns-clause-done : goal.returns-clause-done
returns-clause-done g c =
    let low = c.low_run-low.result in
    let a = c.args.a.now in
    let f = g.K.Kernel.meaning c.args.kernel.now in
    let old = record_at_place a c.args.plus c.args.buf.now in
    let new = record_at_place a c.args.plus c.lowest_at.new.buf in
    let one : 1 * 2 ^ low % 2 ^ 64 ≡ 2 ^ low = one_shl low 64 (omega (arith, c.low_run-low.ensures.within, a.few)) in
    subst (λ k. IsDone f a.n c.args.set (bit_xor c.args.set (k - 1)) old new) (sym one)
    (IsDone-run f a.n c.args.set low old new c.low_run-low.ensures.within c.lowest_at.ensures.records)
