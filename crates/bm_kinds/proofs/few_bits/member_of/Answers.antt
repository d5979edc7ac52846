use Rattle.std.proofs.Common.{slice_index, ◌∙◌, arith}
use Rattle.bm_kinds.proofs.MemberLemmas.{member_none, member_taken, member_left}
use Rattle.bm_kinds.proofs.few_bits.member_of.Goals.{then-t-j-eq1, else-t-j-eq1}
use Rattle.bm_kinds.proofs.few_bits.member_of.Goals as goal

pub loop-j-init : goal.loop-j-init
loop-j-init g c = member_none (slice_index c.args.bits.now) c.args.t

pub overflow_shr-t : goal.overflow_shr-t
overflow_shr-t g c = let test = c.loop-j-test.true in omega (arith, c.requires.few)

pub loop-j-preserved : goal.loop-j-preserved
loop-j-preserved g c =
    let test = c.loop-j-test.true in
    elim c.if-t-j-eq1.branch [
      | then-t-j-eq1 w ↦ w.number-is ∙ member_taken (slice_index c.args.bits.now) c.loop-j.j c.args.t c.loop-j.number
          (c.requires.bits c.loop-j.j (omega arith)) w.if-t-j-eq1.true c.loop-j.invariant
      | else-t-j-eq1 w ↦ w.number-is ∙ member_left (slice_index c.args.bits.now) c.loop-j.j c.args.t c.loop-j.number
          w.if-t-j-eq1.false c.loop-j.invariant
    ]
