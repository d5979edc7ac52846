use Rattle.std.proofs.Common.{slice_index, arith}
use Rattle.bm_kinds.proofs.MemberLemmas.{set_of-start, set_of-more}
use Rattle.bm_kinds.proofs.few_bits.set_of_bits.Goals as goal

pub loop-j-init : goal.loop-j-init
loop-j-init g c = set_of-start (slice_index c.args.bits.now)

pub loop-j-preserved : goal.loop-j-preserved
loop-j-preserved g c =
    let test = c.loop-j-test.true in
    set_of-more (slice_index c.args.bits.now) c.loop-j.j c.loop-j.set (c.requires c.loop-j.j (omega arith)) c.loop-j.invariant
