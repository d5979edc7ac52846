use Rattle.std.proofs.Common.{◌≡◌, ◌+◌, ◌-◌, ◌*◌, ◌%◌, ◌^◌, ◌<◌, min, max, ap, ◌∙◌, arith}
use Rattle.std.proofs.lemmas.Nat.{one_shl}
use Rattle.bm_butter.proofs.CornerLemmas.{GroupsDone-as}
use Rattle.bm_butter.proofs.LoneLemmas.{HoldHalves, SameRecords-lone}
use Rattle.bm_butter.proofs.NumberLemmas.{corner_blocks}
use Rattle.bm_butter.proofs.at_places.two_at_bits.Goals as goal

pub mix_two-requires : goal.mix_two-requires
mix_two-requires g c =
    let a = c.args.a.now in
    let corners = c.of-corners.result in
    let high_inside : corners.high < a.n =
    omega (arith, c.of-corners.ensures.high, c.of.ensures.bit, c.of-2.ensures.bit, c.requires.inner.inside, c.requires.outer.inside) in
    let all : 2 ^ (a.n - 1 - corners.high) * 2 ^ (corners.high + 1) ≡ 2 ^ a.n =
    (corner_blocks a.n corners.high high_inside (omega (arith, corners.order))).0 in
    let blocks : 1 * 2 ^ (a.n - 1 - corners.high) % 2 ^ 64 * 2 ^ (corners.high + 1) ≡ 2 ^ a.n =
    ap (λ k. k * 2 ^ (corners.high + 1)) (one_shl (a.n - 1 - corners.high) 64 (omega (arith, a.few))) ∙ all in
    record { fits = omega (arith, blocks, c.requires.whole) }

pub returns-clause-records : goal.returns-clause-records
returns-clause-records g c =
    let f = g.K.Kernel.meaning c.args.kernel.now in
    let a = c.args.a.now in
    let h = c.args.h in
    let k = c.args.k in
    let inner = c.of.result in
    let outer = c.of-2.result in
    let corners = c.of-corners.result in
    let old = c.args.buf.now in
    let new = c.mix_two.new.buf in
    let halves : HoldHalves c.args.plus h inner.at_u inner.at_v = record { upright = c.of.ensures.clear; turned = c.of.ensures.set } in
    let halves_above : HoldHalves c.args.plus k outer.at_u outer.at_v =
    record { upright = c.of-2.ensures.clear; turned = c.of-2.ensures.set } in
    let is_low : corners.low ≡ min h k = omega (arith, c.of-corners.ensures.low, c.of.ensures.bit, c.of-2.ensures.bit) in
    let is_high : corners.high ≡ max h k = omega (arith, c.of-corners.ensures.high, c.of.ensures.bit, c.of-2.ensures.bit) in
    let count : 1 * 2 ^ (a.n - 1 - corners.high) % 2 ^ 64 * 2 ^ (corners.high - 1) ≡ 2 ^ (a.n - 1 - max h k) * 2 ^ (max h k - 1) =
    ap (λ n. n * 2 ^ (corners.high - 1)) (one_shl (a.n - 1 - corners.high) 64 (omega (arith, a.few)))
    ∙ ap (λ n. 2 ^ (a.n - 1 - n) * 2 ^ (n - 1)) is_high in
    SameRecords-lone f a c.args.plus c.args.i c.args.j h k inner.at_u inner.at_v outer.at_u outer.at_v old new c.requires.plus
    (omega (arith, c.requires.order, c.requires.bits)) c.requires.bits (λ e. absurd (omega (arith, c.requires.order)))
    c.requires.inner c.requires.outer halves halves_above
    (GroupsDone-as f corners.low corners.high corners.first corners.second corners.third corners.fourth _
    (min h k) (max h k) (inner.at_u + outer.at_u) (inner.at_v + outer.at_u) (inner.at_u + outer.at_v)
    (inner.at_v + outer.at_v) _ old new is_low is_high c.of-corners.ensures.first c.of-corners.ensures.second
    c.of-corners.ensures.third c.of-corners.ensures.fourth count c.mix_two.ensures.done)
