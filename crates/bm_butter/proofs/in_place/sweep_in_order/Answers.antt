use Rattle.std.proofs.Common.{◌≡◌, ◌+◌, ◌-◌, ◌*◌, ◌/◌, ◌%◌, ◌^◌, length, refl, ap, ◌∙◌, subst, arith}
use Rattle.bm_base.specs.Records.{SameRecords}
use Rattle.bm_butter.specs.OnBits.{kernel_on, kernel_digits}
use Rattle.bm_butter.specs.Records.{record_in_order}
use Rattle.bm_butter.proofs.PairLemmas.{kernel_digits-next}
use Rattle.bm_butter.proofs.GroupLemmas.{kernel_digits-two}
use Rattle.bm_butter.proofs.SizeLemmas.{whole_fewer, whole_count}
use Rattle.bm_butter.proofs.in_place.sweep_in_order.Goals as goal

pub loop-two-init : goal.loop-two-init
loop-two-init g c =
    let f = g.K.Kernel.meaning c.args.kernel.now in
    record {
      size = refl;
      records = λ xs same. subst (λ k. SameRecords (length c.args.buf.now / 8) (record_in_order c.args.buf.now) (kernel_digits f k xs))
          (let e : c.args.from ≡ c.args.from + 2 * 0 = omega arith in e) same;
    }

pub two_in_order-requires-clause-whole : goal.two_in_order-requires-clause-whole
two_in_order-requires-clause-whole g c =
    let test = c.loop-two-test.true in
    let i = c.args.from + 2 * c.loop-two.two in
    ap (λ size. size % (8 * 2 ^ (i + 2))) c.loop-two.invariant.size
    ∙ whole_fewer (length c.args.buf.now) c.args.low (i + 2) (omega arith) c.requires.whole

pub loop-two-preserved : goal.loop-two-preserved
loop-two-preserved g c =
    let f = g.K.Kernel.meaning c.args.kernel.now in
    let inv = c.loop-two.invariant in
    let test = c.loop-two-test.true in
    let i = c.args.from + 2 * c.loop-two.two in
    let size = length c.args.buf.now in
    let now = record_in_order c.loop-two.buf in
    let new = record_in_order c.two_in_order.new.buf in
    let whole : size % (8 * 2 ^ (i + 1)) ≡ 0 = whole_fewer size c.args.low (i + 1) (omega arith) c.requires.whole in
    let wholes : size % (8 * 2 ^ (i + 1 + 1)) ≡ 0 = whole_fewer size c.args.low (i + 1 + 1) (omega arith) c.requires.whole in
    record {
      size = c.two_in_order.ensures.size ∙ inv.size;
      records = λ xs same. subst (λ k. SameRecords (size / 8) new (kernel_digits f k xs))
          (let e : i + 1 + 1 ≡ c.args.from + 2 * (c.loop-two.two + 1) = omega arith in e)
          (kernel_digits-two f i (size / 8) xs now new (whole_count size (i + 1) whole) (whole_count size (i + 1 + 1) wholes)
          (inv.records xs same)
          (subst (λ s. SameRecords (s / 8) new (kernel_on f (i + 1) (kernel_on f i now))) inv.size c.two_in_order.ensures.records));
    }

pub one_in_order-requires-clause-whole : goal.one_in_order-requires-clause-whole
one_in_order-requires-clause-whole g c =
    let odd = c.if-left_over-eq1.true in
    let low = c.args.low in
    ap (λ size. size % (8 * 2 ^ (low - 1 + 1))) c.loop-two.invariant.size
    ∙ whole_fewer (length c.args.buf.now) low (low - 1 + 1) (omega arith) c.requires.whole

pub returns-then-left_over-eq1-clause-records : goal.returns-then-left_over-eq1-clause-records
returns-then-left_over-eq1-clause-records g c = λ xs same.
    let f = g.K.Kernel.meaning c.args.kernel.now in
    let low = c.args.low in
    let inv = c.loop-two.invariant in
    let test = c.loop-two-test.false in
    let odd = c.if-left_over-eq1.true in
    let size = length c.args.buf.now in
    let now = record_in_order c.loop-two.buf in
    let new = record_in_order c.one_in_order.new.buf in
    let end : c.args.from + 2 * c.loop-two.two ≡ low - 1 = omega (arith, c.loop-two.auto.two-end) in
    let whole : size % (8 * 2 ^ (low - 1 + 1)) ≡ 0 = whole_fewer size low (low - 1 + 1) (omega arith) c.requires.whole in
    subst (λ k. SameRecords (size / 8) new (kernel_digits f k xs)) (let e : low - 1 + 1 ≡ low = omega arith in e)
    (kernel_digits-next f (low - 1) (size / 8) xs now new (whole_count size (low - 1 + 1) whole)
    (subst (λ k. SameRecords (size / 8) now (kernel_digits f k xs)) end (inv.records xs same))
    (subst (λ s. SameRecords (s / 8) new (kernel_on f (low - 1) now)) inv.size c.one_in_order.ensures.records))
