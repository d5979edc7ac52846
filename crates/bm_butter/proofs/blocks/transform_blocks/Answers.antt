use Rattle.std.proofs.Common.{◌≡◌, ◌+◌, ◌*◌, ◌/◌, ◌^◌, ◌≤◌, inr, length, sym, ◌∙◌, subst, arith}
use Rattle.std.proofs.Math.Nat.{add-mul}
use Rattle.bm_base.specs.Records.{SameRecords}
use Rattle.bm_butter.specs.OnBits.{kernel_digits}
use Rattle.bm_butter.specs.Records.{record_in_order}
use Rattle.bm_butter.proofs.SizeLemmas.{whole_count, blocks_reach}
use Rattle.bm_butter.proofs.BlockLemmas.{blocks_more, SameRecords-start}
use Rattle.bm_butter.proofs.blocks.transform_blocks.Goals as goal

pub returns-then-bits-eq0-clause-records : goal.returns-then-bits-eq0-clause-records
returns-then-bits-eq0-clause-records g c =
    let old = record_in_order c.args.buf.now in
    subst (λ k. SameRecords (length c.args.buf.now / 8) old (kernel_digits (g.K.Kernel.meaning c.args.kernel.now) k old))
    (sym c.if-bits-eq0.true)
    (SameRecords-start (g.K.Kernel.meaning c.args.kernel.now) (length c.args.buf.now / 8) old)

pub loop-block-preserved : goal.loop-block-preserved
loop-block-preserved g c =
    let inv = c.loop-block.invariant in
    let bits = c.args.bits in
    let block = c.loop-block.block in
    let next : (block + 1) * 2 ^ bits ≡ block * 2 ^ bits + 1 * 2 ^ bits = add-mul block 1 (2 ^ bits) in
    record {
      size = c.transform_block.ensures.size ∙ inv.size;
      done = blocks_more (g.K.Kernel.meaning c.args.kernel.now) bits block c.args.buf.now c.loop-block.buf c.transform_block.new.buf
          inv.done inv.left
          c.transform_block.ensures.done c.transform_block.ensures.others;
      left = λ x from. c.transform_block.ensures.others x (inr (omega arith)) ∙ inv.left x (omega arith);
    }

pub returns-clause-records : goal.returns-clause-records
returns-clause-records g c x inside =
    let bits = c.args.bits in
    let size = length c.args.buf.now in
    let test = c.loop-block-test.false in
    let reach : size / 8 ≤ c.loop-block.block * 2 ^ bits =
    blocks_reach (size / 8) (2 ^ bits) c.loop-block.block (whole_count size bits c.requires.whole) (omega arith) in
    c.loop-block.invariant.done x (omega arith)
