use Rattle.std.proofs.Common.{List, ℕ, ap, ◌∙◌, arith}
use Rattle.bm_butter.specs.Records.{record_at_place}
use Rattle.bm_butter.specs.OnBits.{word, kernel_over}
use Rattle.bm_kinds.proofs.SetLemmas.{IsPart-below, IsDone-all}
use Rattle.bm_kinds.proofs.KindLemmas.{kernel_over-kind}
use Rattle.bm_kinds.proofs.LowRunLemmas.{kernel_over-signs}
use Rattle.bm_kinds.proofs.at_places.kernel_at.Goals as goal

pub loop-left-init : goal.loop-left-init
loop-left-init g c = record {
  size = c.on_low_run-left.ensures.size;
  part = c.on_low_run-left.ensures.part;
  done = c.on_low_run-left.ensures.done;
}

pub on_some-left-requires-clause-left : goal.on_some-left-requires-clause-left
on_some-left-requires-clause-left g c =
    IsPart-below c.loop-left.left c.args.set c.args.a.now.n c.loop-left.invariant.part c.requires.set

pub returns-clause-records : goal.returns-clause-records
returns-clause-records g c =
    let a = c.args.a.now in
    IsDone-all (g.K.Kernel.meaning c.args.kernel.now) a.n c.args.set c.loop-left.left (record_at_place a c.args.plus c.args.buf.now)
    (record_at_place a c.args.plus c.loop-left.buf) (omega (arith, c.loop-left-test.false)) c.loop-left.invariant.done

pub returns-clause-kinds : goal.returns-clause-kinds
returns-clause-kinds g c kind is k below =
    let a = c.args.a.now in
    let old = record_at_place a c.args.plus c.args.buf.now in
    ap word (IsDone-all (g.K.Kernel.meaning c.args.kernel.now) a.n c.args.set c.loop-left.left old
    (record_at_place a c.args.plus c.loop-left.buf) (omega (arith, c.loop-left-test.false)) c.loop-left.invariant.done k below)
    ∙ ap (λ (f : ℕ → ℕ → ℕ × ℕ). word (kernel_over f a.n c.args.set old k)) is
    ∙ kernel_over-kind kind a.n c.args.set old c.requires.set k below

pub returns-clause-butterflies : goal.returns-clause-butterflies
returns-clause-butterflies g c low is all x below =
    let a = c.args.a.now in
    let old = record_at_place a c.args.plus c.args.buf.now in
    IsDone-all (g.K.Kernel.meaning c.args.kernel.now) a.n c.args.set c.loop-left.left old
    (record_at_place a c.args.plus c.loop-left.buf) (omega (arith, c.loop-left-test.false)) c.loop-left.invariant.done x below
    ∙ ap (λ (f : ℕ → ℕ → ℕ × ℕ). kernel_over f a.n c.args.set old x) is
    ∙ ap (λ (ys : ℕ → List ℕ). ys x) (kernel_over-signs a.n low c.args.set old all c.requires.set)
