use Rattle.std.proofs.Common.{slice_index, ◌∙◌}
use Rattle.bm_base.specs.Butterfly.{record_of}
use Rattle.bm_butter.specs.Records.{record_in_order}
use Rattle.bm_kinds.specs.Groups.{corner}
use Rattle.bm_kinds.proofs.OverLemmas.{kernel_digits-words}
use Rattle.bm_butter.proofs.OnBitLemmas.{word_again}
use Rattle.bm_kinds.proofs.group.transform_group.Goals as goal

pub returns-clause-done : goal.returns-clause-done
returns-clause-done g c = λ t l.
    let f = g.K.Kernel.meaning c.args.kernel.now in
    let place = corner c.args.here (slice_index c.args.offsets.now) in
    let before = slice_index c.gather-before.result in
    c.scatter.ensures.written t l ∙ c.on_digits-after.ensures t l
    ∙ kernel_digits-words f g.row.T (λ k. record_of (before k)) (λ k. record_in_order c.args.buf.now (place k)) c.requires.some
    (λ k m. word_again (before k) (record_in_order c.args.buf.now (place k)) (c.gather-before.ensures.numbers k m)) t l
