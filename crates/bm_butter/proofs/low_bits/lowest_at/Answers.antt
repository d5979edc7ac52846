use Rattle.std.proofs.Common.{◌≡◌, ◌/◌, ◌^◌, length, subst, arith}
use Rattle.bm_base.specs.Records.{SameRecords}
use Rattle.bm_butter.specs.OnBits.{kernel_digits}
use Rattle.bm_butter.specs.Records.{record_in_order, record_at_place}
use Rattle.bm_butter.proofs.BlockLemmas.{blocks_at_places, power_blocks_whole}
use Rattle.bm_butter.proofs.low_bits.lowest_at.Goals as goal

pub transform_blocks-requires-clause-whole : goal.transform_blocks-requires-clause-whole
transform_blocks-requires-clause-whole g c =
    let within = c.block_bits-on_blocks.ensures.within in
    power_blocks_whole (length c.args.buf.now) c.args.a.now.n c.block_bits-on_blocks.result c.requires.whole
    (omega (arith, within, c.min.ensures, c.requires.low))

pub returns-clause-records : goal.returns-clause-records
returns-clause-records g c =
    let f = g.K.Kernel.meaning c.args.kernel.now in
    let a = c.args.a.now in
    let old = c.args.buf.now in
    let mid = c.transform_blocks.new.buf in
    let bits = c.block_bits-on_blocks.result in
    let within = c.block_bits-on_blocks.ensures.within in
    let count : length old / 8 ≡ 2 ^ a.n = omega (arith, c.requires.whole) in
    c.sweep_at.ensures.records (record_at_place a c.args.plus old)
    (blocks_at_places f a c.args.plus bits c.run_bits.result old mid c.requires.plus c.run_bits.ensures.keeps
    (omega (arith, within, c.min.ensures))
    (subst (λ k. SameRecords k (record_in_order mid) (kernel_digits f bits (record_in_order old))) count
    c.transform_blocks.ensures.records))
