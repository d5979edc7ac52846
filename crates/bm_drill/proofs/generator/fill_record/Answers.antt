use Rattle.std.proofs.Common.{◌%◌, arith}
use Rattle.std.specs.Int.{byte_at}
use Rattle.bm_bufs.proofs.StepLemmas.{entry_more}
use Rattle.bm_drill.proofs.GeneratedLemmas.{filled_all}
use Rattle.bm_drill.proofs.generator.fill_record.Goals as goal

pub loop-i-init : goal.loop-i-init
loop-i-init c k below = omega (arith, below)

pub loop-i-preserved : goal.loop-i-preserved
loop-i-preserved c = entry_more (λ k. byte_at (k % 8) c.args.number) c.loop-i.bytes c.loop-i.i _
    (let l = c.loop-i.auto.bytes in let t = c.loop-i-test.true in omega (arith, l, t)) c.byte_of.ensures c.loop-i.invariant

pub returns : goal.returns
returns c = filled_all c.args.number c.loop-i.bytes _ c.loop-i.auto.bytes
    (λ k below. c.loop-i.invariant k (let f = c.loop-i-test.false in omega (arith, f, below)))
