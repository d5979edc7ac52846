use Rattle.std.proofs.Common.{◌+◌, ◌-◌, ◌*◌, ◌≡◌, ◌^◌, refl, ◌∙◌, subst, arith}
use Rattle.bm_base.specs.Records.{SameRecords}
use Rattle.bm_butter.specs.OnBits.{kernel_digits}
use Rattle.bm_butter.specs.Records.{record_at_place}
use Rattle.bm_butter.proofs.PairLemmas.{kernel_digits-next}
use Rattle.bm_butter.proofs.GroupLemmas.{kernel_digits-two}
use Rattle.bm_butter.proofs.SizeLemmas.{power_whole}
use Rattle.bm_butter.proofs.low_bits.sweep_at.Goals as goal

pub loop-two-init : goal.loop-two-init
loop-two-init g c =
    let f = g.K.Kernel.meaning c.args.kernel.now in
    let a = c.args.a.now in
    let rec = record_at_place a c.args.plus in
    record {
      size = refl;
      records = λ xs same. subst (λ k. SameRecords (2 ^ a.n) (rec c.args.buf.now) (kernel_digits f k xs))
          (let e : c.args.from ≡ c.args.from + 2 * 0 = omega arith in e) same;
    }

pub loop-two-preserved : goal.loop-two-preserved
loop-two-preserved g c =
    let f = g.K.Kernel.meaning c.args.kernel.now in
    let a = c.args.a.now in
    let inv = c.loop-two.invariant in
    let test = c.loop-two-test.true in
    let i = c.args.from + 2 * c.loop-two.two in
    let rec = record_at_place a c.args.plus in
    record {
      size = c.two_at.ensures.size ∙ inv.size;
      records = λ xs same. subst (λ k. SameRecords (2 ^ a.n) (rec c.two_at.new.buf) (kernel_digits f k xs))
          (let e : i + 1 + 1 ≡ c.args.from + 2 * (c.loop-two.two + 1) = omega arith in e)
          (kernel_digits-two f i (2 ^ a.n) xs (rec c.loop-two.buf) (rec c.two_at.new.buf)
          (power_whole a.n (i + 1) (omega (arith, c.requires.low))) (power_whole a.n (i + 1 + 1) (omega (arith, c.requires.low)))
          (inv.records xs same)
          c.two_at.ensures.records);
    }

pub returns-then-left_over-eq1-clause-records : goal.returns-then-left_over-eq1-clause-records
returns-then-left_over-eq1-clause-records g c = λ xs same.
    let f = g.K.Kernel.meaning c.args.kernel.now in
    let a = c.args.a.now in
    let low = c.args.low in
    let inv = c.loop-two.invariant in
    let test = c.loop-two-test.false in
    let odd = c.if-left_over-eq1.true in
    let rec = record_at_place a c.args.plus in
    let end : c.args.from + 2 * c.loop-two.two ≡ low - 1 = omega (arith, c.loop-two.auto.two-end) in
    subst (λ k. SameRecords (2 ^ a.n) (rec c.one_at.new.buf) (kernel_digits f k xs))
    (let e : low - 1 + 1 ≡ low = omega arith in e)
    (kernel_digits-next f (low - 1) (2 ^ a.n) xs (rec c.loop-two.buf) (rec c.one_at.new.buf)
    (power_whole a.n (low - 1 + 1) (omega (arith, c.requires.low)))
    (subst (λ k. SameRecords (2 ^ a.n) (rec c.loop-two.buf) (kernel_digits f k xs)) end (inv.records xs same))
    c.one_at.ensures.records)
