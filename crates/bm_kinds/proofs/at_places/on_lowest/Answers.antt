use Rattle.std.proofs.Common.{◌*◌, ◌<◌, slice_index, arith}
use Rattle.bm_butter.specs.Records.{record_at_place}
use Rattle.bm_kinds.proofs.SetLemmas.{TakesBits-bits, TakesBits-part, IsDone-more}
use Rattle.bm_kinds.proofs.at_places.on_lowest.Goals as goal

pub radix-requires : goal.radix-requires
radix-requires g c =
    let size : g.row.T * 1 < 9223372036854775808 = omega (arith, c.requires.few) in
    let bits = TakesBits-bits c.args.a.now.n c.args.left g.row.T c.lowest-bits.result.1 (slice_index c.lowest-bits.result.0)
    c.requires.left c.lowest-bits.ensures in
    (size, (c.requires.few, (c.requires.nonsingular, (c.requires.plus, (c.requires.whole, bits)))))

pub returns-clause-part : goal.returns-clause-part
returns-clause-part g c =
    TakesBits-part c.args.left g.row.T c.lowest-bits.result.1 (slice_index c.lowest-bits.result.0) c.lowest-bits.ensures

pub returns-clause-ones : goal.returns-clause-ones
returns-clause-ones g c = c.lowest-bits.ensures.ones

pub returns-clause-done : goal.returns-clause-done
returns-clause-done g c set xs part done =
    let a = c.args.a.now in
    IsDone-more (g.K.Kernel.meaning c.args.kernel.now) a.n set c.args.left c.lowest-bits.result.1 g.row.T
    (slice_index c.lowest-bits.result.0) xs
    (record_at_place a c.args.plus c.args.buf.now) (record_at_place a c.args.plus c.radix.new.buf) (g.met.K.Kernel.keeps c.args.kernel.now)
    (g.met.K.Kernel.law c.args.kernel.now) c.requires.left part c.lowest-bits.ensures c.radix.ensures.records done
