use Rattle.std.proofs.Common.{ℕ, List, min, slice_index, ap, ◌∙◌}
use Rattle.bm_butter.specs.Records.{record_at_place}
use Rattle.bm_butter.specs.OnBits.{kernel_on}
use Rattle.bm_kinds.proofs.RadixLemmas.{over_none, over_one, over_two}
use Rattle.bm_kinds.proofs.few_bits.radix.Goals as goal

pub returns-then-this-eq0-clause-records : goal.returns-then-this-eq0-clause-records
returns-then-this-eq0-clause-records g c x l =
    ap (λ (ys : ℕ → List ℕ). ys x) (over_none (g.K.Kernel.meaning c.args.kernel.now) c.args.a.now.n g.row.T (slice_index c.args.bits)
    (record_at_place c.args.a.now c.args.plus c.args.buf.now) c.if-this-eq0.true)

pub returns-then-this-eq1-clause-records : goal.returns-then-this-eq1-clause-records
returns-then-this-eq1-clause-records g c x l =
    c.one_at.ensures.records x l
    ∙ ap (λ (ys : ℕ → List ℕ). ys x) (over_one (g.K.Kernel.meaning c.args.kernel.now) c.args.a.now.n g.row.T (slice_index c.args.bits)
    (record_at_place c.args.a.now c.args.plus c.args.buf.now) (g.met.K.Kernel.keeps c.args.kernel.now)
    (g.met.K.Kernel.law c.args.kernel.now) c.if-this-eq1.true c.requires.bits)

pub returns-then-this-eq2-clause-records : goal.returns-then-this-eq2-clause-records
returns-then-this-eq2-clause-records g c x l =
    let f = g.K.Kernel.meaning c.args.kernel.now in
    let bits = slice_index c.args.bits in
    let old = record_at_place c.args.a.now c.args.plus c.args.buf.now in
    c.two_at.ensures.records x l
    ∙ ap (λ (i : ℕ). kernel_on f c.max.result (kernel_on f i old) x) c.min.ensures
    ∙ ap (λ (j : ℕ). kernel_on f j (kernel_on f (min (bits 0) (bits 1)) old) x) c.max.ensures
    ∙ ap (λ (ys : ℕ → List ℕ). ys x) (over_two f c.args.a.now.n g.row.T bits old (g.met.K.Kernel.keeps c.args.kernel.now)
    (g.met.K.Kernel.law c.args.kernel.now) c.if-this-eq2.true c.requires.bits)
