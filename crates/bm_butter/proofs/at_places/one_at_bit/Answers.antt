use Rattle.std.proofs.Common.{◌^◌, ◌<◌, sym, ap, ◌∙◌, subst, arith}
use Rattle.std.specs.Int.{bit_at}
use Rattle.bm_butter.specs.Records.{record_at_place}
use Rattle.bm_butter.proofs.PairLemmas.{IsPair-made, SameRecords-pairs}
use Rattle.bm_butter.proofs.PlaceLemmas.{IsPaired-lone}
use Rattle.bm_butter.proofs.SizeLemmas.{power_blocks}
use Rattle.bm_butter.proofs.at_places.one_at_bit.Goals as goal

pub mix_bit-requires-clause-fits : goal.mix_bit-requires-clause-fits
mix_bit-requires-clause-fits g c =
    let a = c.args.a.now in
    let all = power_blocks a.n c.args.h c.of.result.bit a.few c.requires.lone.inside c.of.ensures.bit in
    omega (arith, all, c.requires.whole)

pub returns-clause-records : goal.returns-clause-records
returns-clause-records g c =
    let f = g.K.Kernel.meaning c.args.kernel.now in
    let a = c.args.a.now in
    let plus = c.args.plus in
    let i = c.args.i in
    let old = c.args.buf.now in
    let new = c.mix_bit.new.buf in
    SameRecords-pairs f i (2 ^ a.n) (record_at_place a plus old) (record_at_place a plus new)
    (λ y inside clear.
    let pair = IsPaired-lone f a plus i c.args.h y c.of.result.at_u c.of.result.at_v old new c.requires.plus c.requires.bit inside
    clear c.requires.lone
    c.of.ensures.clear c.of.ensures.set (λ x below without. c.mix_bit.ensures.paired x (omega arith)
    (subst (λ k. x < k) (sym (power_blocks a.n c.args.h c.of.result.bit a.few c.requires.lone.inside c.of.ensures.bit)) below)
    (ap (bit_at x) c.of.ensures.bit ∙ without)) in
    IsPair-made f i y (record_at_place a plus old) (record_at_place a plus new) clear pair.first pair.second)
