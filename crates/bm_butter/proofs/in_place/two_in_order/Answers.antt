use Rattle.std.proofs.Common.{◌≡◌, ◌+◌, ◌-◌, ◌*◌, ◌/◌, ◌^◌, ◌≤◌, length, ap, arith}
use Rattle.std.specs.Int.{bit_at}
use Rattle.std.proofs.lemmas.Nat.Bits.{bit_at_above}
use Rattle.bm_butter.proofs.SizeLemmas.{few_bits, whole_count, blocks_reach}
use Rattle.bm_butter.proofs.CornerLemmas.{GroupsDone-as}
use Rattle.bm_butter.proofs.LoneLemmas.{SameRecords-order}
use Rattle.bm_butter.proofs.in_place.two_in_order.Goals as goal

pub of-requires : goal.of-requires
of-requires g c =
    let few = few_bits (length c.args.buf.now) (c.args.i + 2) c.requires.some (omega arith) c.requires.whole in
    omega arith

pub returns-clause-records : goal.returns-clause-records
returns-clause-records g c =
    let f = g.K.Kernel.meaning c.args.kernel.now in
    let i = c.args.i in
    let size = length c.args.buf.now in
    let m = size / 8 / 2 ^ (i + 2) in
    let corners = c.of-corners.result in
    let old = c.args.buf.now in
    let new = c.mix_two.new.buf in
    let nothing : bit_at 0 i ≡ 0 = bit_at_above 0 0 i (omega arith) (omega arith) in
    let nothing_above : bit_at 0 (i + 1) ≡ 0 = bit_at_above 0 0 (i + 1) (omega arith) (omega arith) in
    let inner = c.of.ensures.clear nothing in
    let outer = c.of-2.ensures.clear nothing_above in
    let reach : size / 8 ≤ m * 2 ^ (i + 2) = blocks_reach (size / 8) (2 ^ (i + 2)) m (whole_count size (i + 2) c.requires.whole)
    (omega arith) in
    let same : 2 ^ (i + 2) ≡ 2 ^ (i + 1 + 1) = ap (λ k. 2 ^ k) (let e : i + 2 ≡ i + 1 + 1 = omega arith in e) in
    let is_high : corners.high ≡ i + 1 = omega (arith, c.of-corners.ensures.high, c.of.ensures.bit, c.of-2.ensures.bit) in
    SameRecords-order f i (size / 8) m old new (omega (arith, ap (λ k. m * k) same))
    (GroupsDone-as f corners.low corners.high corners.first corners.second corners.third corners.fourth _
    i (i + 1) 0 (2 ^ i) (2 ^ (i + 1)) (2 ^ i + 2 ^ (i + 1)) _ old new
    (omega (arith, c.of-corners.ensures.low, c.of.ensures.bit, c.of-2.ensures.bit)) is_high
    (omega (arith, c.of-corners.ensures.first, inner.0, outer.0)) (omega (arith, c.of-corners.ensures.second, inner.1, outer.0))
    (omega (arith, c.of-corners.ensures.third, inner.0, outer.1)) (omega (arith, c.of-corners.ensures.fourth, inner.1, outer.1))
    (ap (λ k. m * 2 ^ (k - 1)) is_high) c.mix_two.ensures.done)
