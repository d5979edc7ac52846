use Rattle.std.proofs.Common.{◌≡◌, ◌+◌, ◌*◌, Result, ℕ, refl, sym, ◌∙◌, subst, arith}
use Rattle.bm_rack.proofs.CallLemmas.{MakesPageCalls-done}
use Rattle.bm_control.specs.declared.state.ControlError.{ControlError}
use Rattle.bm_control.specs.State.{PassesAnswer, PassesStand}
use Rattle.bm_control.proofs.StateLemmas.{passes_more, passes_bad}
use Rattle.bm_control.proofs.EqualLemmas.{error_is}
use Rattle.bm_rack.specs.Frames.{RaisesCounts}
use Rattle.bm_rack.proofs.FrameLemmas.{SameState-trans, Keeps-trans, RaisesCounts-trans}
use Rattle.bm_control.proofs.pass_pages.read_passes.Goals as goal

pub returns-in_err-done-clause-answer : goal.returns-in_err-done-clause-answer
returns-in_err-done-clause-answer g c told v at =
    subst (λ (r : Result ℕ ControlError). PassesAnswer c.args.shape.now v c.args.passes r)
    (sym (error_is c.from_residual.result _ c.from_residual.ensures.1))
    (passes_bad c.args.shape.now v c.args.passes c.loop-k.k c.loop-k.done _ c.loop-k-test.true (c.loop-k.invariant.answer told v at)
    (c.in_err-done.ensures.answer told v (c.loop-k.invariant.state.contents ∙ at)))

pub loop-k-preserved : goal.loop-k-preserved
loop-k-preserved g c = record {
  done = c.in_ok-done.ensures.done;
  state = SameState-trans _ _ _ c.loop-k.invariant.state c.read_pass_pages.ensures.state;
  keeps = Keeps-trans _ _ _ c.loop-k.invariant.keeps c.read_pass_pages.ensures.keeps;
  counts = (let two = MakesPageCalls-done _ 2 0 _ _ (g.met.R.Rack.consistent c.loop-k.rack) refl c.in_ok-done.ensures.counts in
      subst (λ (n : ℕ). RaisesCounts 0 n 0 (g.R.Rack.view c.args.rack.now) (g.R.Rack.view c.read_pass_pages.new.rack))
      (let e : 2 * c.loop-k.k + 2 ≡ 2 * (c.loop-k.k + 1) = omega arith in e)
      (RaisesCounts-trans 0 (2 * c.loop-k.k) 0 0 2 0 _ _ _ c.loop-k.invariant.counts two));
  answer = λ told v at. passes_more c.args.shape.now v c.loop-k.k c.loop-k.done _ (c.loop-k.invariant.answer told v at)
      (c.in_ok-done.ensures.answer told v (c.loop-k.invariant.state.contents ∙ at));
}

pub returns-clause-answer : goal.returns-clause-answer
returns-clause-answer g c told v at =
    let all : c.loop-k.k ≡ c.args.passes = omega arith in
    subst (λ (k : ℕ). PassesStand c.args.shape.now v k c.loop-k.done) all (c.loop-k.invariant.answer told v at)
