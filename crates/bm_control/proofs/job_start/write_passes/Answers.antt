use Rattle.std.proofs.Common.{rules, ◌≡◌, ◌+◌, ◌*◌, ℕ, length, refl, subst, arith}
use Rattle.std.proofs.lemmas.Option.{slice_get_read}
use Rattle.bm_rack.specs.Frames.{RaisesCounts}
use Rattle.bm_rack.proofs.FrameLemmas.{DirtiesOnly-wider, DirtiesOnly-trans, Keeps-trans, RaisesCounts-trans}
use Rattle.bm_rack.proofs.CallLemmas.{MakesPageCalls-done}
use Rattle.bm_control.specs.Moments.{PassesAreWritten}
use Rattle.bm_control.specs.PageCalls.{IsPassPage}
use Rattle.bm_control.proofs.PageCallLemmas.{early, later}
use Rattle.bm_control.proofs.StartLemmas.{written_more, earlier_pages, own_pages}
use Rattle.bm_control.proofs.job_start.write_passes.Goals as goal

pub loop-k-preserved : goal.loop-k-preserved
loop-k-preserved g c = record {
  frame = DirtiesOnly-trans (IsPassPage (c.loop-k.k + 1)) _ _ _
      (DirtiesOnly-wider (IsPassPage c.loop-k.k) (IsPassPage (c.loop-k.k + 1)) _ _ (earlier_pages c.loop-k.k) c.loop-k.invariant.frame)
      (DirtiesOnly-wider _ (IsPassPage (c.loop-k.k + 1)) _ _ (own_pages c.loop-k.k) c.write_pass.ensures.call.frame);
  keeps = Keeps-trans _ _ _ c.loop-k.invariant.keeps c.write_pass.ensures.call.keeps;
  counts = (let two = MakesPageCalls-done _ 2 0 _ _ (g.met.R.Rack.consistent c.loop-k.rack) refl c.in_ok-write_pass.ensures.counts in
      subst (λ (n : ℕ). RaisesCounts 0 n 0 (g.R.Rack.view c.args.rack.now) (g.R.Rack.view c.write_pass.new.rack))
      (let e : 2 * c.loop-k.k + 2 ≡ 2 * (c.loop-k.k + 1) = omega arith in e)
      (RaisesCounts-trans 0 (2 * c.loop-k.k) 0 0 2 0 _ _ _ c.loop-k.invariant.counts two));
  written = λ told. written_more c.args.shape.now c.args.plan.now.forms c.loop-k.k c.at.result.now _ _
      (slice_get_read c.args.plan.now.forms _ c.loop-k.k c.at.result.now c.len-k-end.ensures.count c.loop-k-test.true c.at.ensures.form)
      c.write_pass.ensures.call.frame (c.in_ok-write_pass.ensures.body told refl) (c.in_ok-write_pass.ensures.gate told refl)
      (c.loop-k.invariant.written told);
}

pub returns-clause-written : goal.returns-clause-written
returns-clause-written g c told ok =
    let all : c.loop-k.k ≡ length c.args.plan.now.forms = (let e = c.len-k-end.ensures.count in omega (arith, e)) in
    subst (λ (k : ℕ). PassesAreWritten c.args.shape.now c.args.plan.now.forms k (g.R.Rack.view c.loop-k.rack).contents) all
    (c.loop-k.invariant.written told)

pub returns-in_err-write_pass-clause-counts : goal.returns-in_err-write_pass-clause-counts
returns-in_err-write_pass-clause-counts g c =
    early _ _ (2 * c.loop-k.k + 2) 0 (2 * length c.args.plan.now.forms) 0 _ _ (λ ok. search rules)
    (omega (arith, c.loop-k-test.true, c.len-k-end.ensures.count)) (omega arith)
    (later _ (2 * c.loop-k.k) 0 2 0 _ _ _ (g.met.R.Rack.consistent c.args.rack.now) c.loop-k.invariant.counts c.write_pass.ensures.counts)
