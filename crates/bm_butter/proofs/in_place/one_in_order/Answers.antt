use Rattle.std.proofs.Common.{◌≡◌, ◌+◌, ◌*◌, ◌/◌, ◌^◌, ◌<◌, ◌≤◌, length, sym, ap, ◌∙◌, subst, arith}
use Rattle.std.specs.Int.{bit_at}
use Rattle.std.proofs.lemmas.Nat.Bits.{bit_at_above}
use Rattle.bm_butter.proofs.PairLemmas.{SameRecords-upright}
use Rattle.bm_butter.proofs.SizeLemmas.{few_bits, whole_count, blocks_reach}
use Rattle.bm_butter.proofs.in_place.one_in_order.Goals as goal

pub of-requires : goal.of-requires
of-requires g c =
    let few = few_bits (length c.args.buf.now) (c.args.i + 1) c.requires.some (omega arith) c.requires.whole in
    omega arith

pub returns-clause-records : goal.returns-clause-records
returns-clause-records g c =
    let f = g.K.Kernel.meaning c.args.kernel.now in
    let i = c.args.i in
    let count = length c.args.buf.now / 8 in
    let nothing : bit_at 0 i ≡ 0 = bit_at_above 0 0 i (omega arith) (omega arith) in
    let halves = c.of.ensures.clear nothing in
    let reach : count ≤ count / 2 ^ (i + 1) * 2 ^ (i + 1) =
    blocks_reach count (2 ^ (i + 1)) (count / 2 ^ (i + 1)) (whole_count (length c.args.buf.now) (i + 1) c.requires.whole)
    (omega arith) in
    SameRecords-upright f i c.of.result.at_u c.of.result.at_v count c.args.buf.now c.mix_bit.new.buf halves.0 halves.1
    (λ x inside clear. c.mix_bit.ensures.paired x (omega arith)
    (subst (λ b. x < count / 2 ^ (i + 1) * 2 ^ (b + 1)) (sym c.of.ensures.bit)
    (let e : x < count / 2 ^ (i + 1) * 2 ^ (i + 1) = omega arith in e))
    (ap (bit_at x) c.of.ensures.bit ∙ clear))
