use Rattle.std.proofs.Common.{rules, ◌≡◌, ◌-◌, ◌*◌, ◌^◌, ◌<◌, refl, subst, ◌∙◌, ap, arith}
use Rattle.bm_base.specs.Shape.{stripes, load_stripes}
use Rattle.bm_base.specs.Records.{record_at}
use Rattle.bm_rack.proofs.CallLemmas.{MovesRows-refl, MovesRows-next, MovesRows-failed, MovesRows-all}
use Rattle.bm_rack.proofs.FrameLemmas.{Keeps-trans, ChangesOnly-trans, ChangesOnly-wider}
use Rattle.bm_stripe.specs.Units.{IsAreaUnit}
use Rattle.bm_pass.specs.LoadMove.{IsTargetUnit}
use Rattle.bm_pass.proofs.LoadLemmas.{load_room}
use Rattle.bm_pass.proofs.PassLemmas.{IsTargetUnit-area, source_stays, rows_within, rows_of_pass}
use Rattle.bm_kinds.specs.OnBits.{kernel_over}
use Rattle.bm_kindjob.proofs.ListMoveLemmas.{ListsMoved-none, ListsMoved-more, ListsMoved-all, mixed_same}
use Rattle.bm_kindjob.proofs.whole_pass.kind_pass.Goals as goal

pub loop-load-init : goal.loop-load-init
loop-load-init g c =
    let now = g.R.Rack.view c.args.rack.now in record {
      only = search rules;
      moved = MovesRows-all 0 (0 * (2 * load_stripes c.args.shape.now)) (Unit {0}) _ _ (omega arith)
          (MovesRows-refl _ _ (Unit {0}) _ (g.met.R.Rack.consistent c.args.rack.now));
      keeps = search rules;
      fits = c.requires.fits;
      records = λ told. ListsMoved-none c.args.shape.now c.args.pass.now c.args.to _ now.contents;
    }

pub returns-in_err-kind_step-clause-only : goal.returns-in_err-kind_step-clause-only
returns-in_err-kind_step-clause-only g c =
    let s = c.args.shape.now in
    let pass = c.args.pass.now in
    ChangesOnly-trans (IsAreaUnit s c.args.to) _ _ _ c.loop-load.invariant.only
    (ChangesOnly-wider (IsTargetUnit s pass c.args.to c.loop-load.load) (IsAreaUnit s c.args.to) _ _
    (λ u. IsTargetUnit-area s pass c.args.to c.loop-load.load u c.requires.pass) c.kind_step.ensures.only)

pub returns-in_err-kind_step-clause-moved : goal.returns-in_err-kind_step-clause-moved
returns-in_err-kind_step-clause-moved g c =
    let s = c.args.shape.now in
    let load = c.loop-load.load in
    let rows = 2 * load_stripes s in
    let inside : load < 2 ^ (s.n - s.m) = subst (λ k. load < k) c.loads-load-end.ensures c.loop-load-test.true in
    MovesRows-failed (load * rows) rows (2 * stripes s) _ _ _ _ _ (rows_within s load inside) (λ ok. search rules)
    c.loop-load.invariant.moved c.in_err-kind_step.ensures.moved

pub loop-load-preserved : goal.loop-load-preserved
loop-load-preserved g c =
    let s = c.args.shape.now in
    let pass = c.args.pass.now in
    let load = c.loop-load.load in
    let rows = 2 * load_stripes s in
    let inv = c.loop-load.invariant in
    let before = g.R.Rack.view c.args.rack.now in
    let now = g.R.Rack.view c.loop-load.rack in
    let after = g.R.Rack.view c.kind_step.new.rack in
    let inside : load < 2 ^ (s.n - s.m) = subst (λ k. load < k) c.loads-load-end.ensures c.loop-load-test.true in
    let f = g.K.Kernel.meaning c.args.kernel.now in
    let old = record_at before.contents s c.args.from in
    let mid = record_at now.contents s c.args.from in
    record {
      only = ChangesOnly-trans (IsAreaUnit s c.args.to) _ _ _ inv.only
          (ChangesOnly-wider (IsTargetUnit s pass c.args.to load) (IsAreaUnit s c.args.to) _ _
          (λ u. IsTargetUnit-area s pass c.args.to load u c.requires.pass) c.kind_step.ensures.only);
      moved = MovesRows-next rows load _ _ _ _ refl inv.moved c.in_ok-kind_step.ensures.moved;
      keeps = Keeps-trans _ _ _ inv.keeps c.kind_step.ensures.keeps;
      fits = c.kind_step.ensures.fits;
      records = λ told. ListsMoved-more s pass c.args.to load (kernel_over f s.m c.args.set old)
          (kernel_over f s.m c.args.set mid) now after
          c.requires.pass inside
          (mixed_same f c.args.set s load old mid (load_room s load inside)
          (source_stays s c.args.from c.args.to before now c.requires.areas inv.only))
          c.kind_step.ensures.only (inv.records told) (c.in_ok-kind_step.ensures.records told);
    }

pub returns-clause-records : goal.returns-clause-records
returns-clause-records g c told =
    let s = c.args.shape.now in
    let all : c.loop-load.load ≡ 2 ^ (s.n - s.m) = omega arith in
    ListsMoved-all s c.args.pass.now c.args.to c.loop-load.load _
    (g.R.Rack.view c.loop-load.rack).contents c.requires.pass all
    (c.loop-load.invariant.records told)

pub returns-clause-moved : goal.returns-clause-moved
returns-clause-moved g c =
    let s = c.args.shape.now in
    let all : c.loop-load.load ≡ 2 ^ (s.n - s.m) = omega arith in
    MovesRows-all (c.loop-load.load * (2 * load_stripes s)) (2 * stripes s) _ _ _
    (ap (λ k. k * (2 * load_stripes s)) all ∙ rows_of_pass s) c.loop-load.invariant.moved
