use Rattle.std.proofs.Common.{ℕ, ◌/◌, List, length, sym, ap, ◌∙◌, subst}
use Rattle.bm_base.specs.Records.{SameRecords}
use Rattle.bm_butter.specs.Kernels.{WalshBits, pairing}
use Rattle.bm_butter.specs.OnBits.{kernel_digits}
use Rattle.bm_butter.specs.Records.{record_in_order}
use Rattle.bm_butter.proofs.SignLemmas.{sign_digits}
use Rattle.bm_butter.proofs.SizeLemmas.{whole_fewer}
use Rattle.bm_butter.proofs.in_place.butterflies.Goals as goal

pub transform_blocks-requires-clause-whole : goal.transform_blocks-requires-clause-whole
transform_blocks-requires-clause-whole c =
    whole_fewer (length c.args.buf.now) c.args.low c.block_bits-on_blocks.result c.block_bits-on_blocks.ensures.within c.requires.whole

pub returns-clause-records : goal.returns-clause-records
returns-clause-records c x inside =
    let f = pairing WalshBits in
    let low = c.args.low in
    let bits = c.block_bits-on_blocks.result in
    let old = record_in_order c.args.buf.now in
    let mid = record_in_order c.transform_blocks.new.buf in
    let new = record_in_order c.sweep_in_order.new.buf in
    let size = c.transform_blocks.ensures.size in
    subst (λ s. SameRecords (s / 8) new (kernel_digits f low old)) size
    (c.sweep_in_order.ensures.records old
    (subst (λ s. SameRecords (s / 8) mid (kernel_digits f bits old)) (sym size) c.transform_blocks.ensures.records)) x inside
    ∙ ap (λ (ys : ℕ → List ℕ). ys x) (sign_digits low old)
