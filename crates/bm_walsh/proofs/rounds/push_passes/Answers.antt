use Rattle.std.proofs.Common.{◌∙◌, arith}
use Rattle.bm_walsh.proofs.PassListLemmas.{pushed_first, pushed_more}
use Rattle.bm_walsh.proofs.rounds.push_passes.Goals as goal

pub loop-i-init : goal.loop-i-init
loop-i-init c = (
  pushed_first c.args.low c.args.plan.now.forms c.args.round.now.forms c.push.new.self.forms c.at-first.result.now
      c.requires.some c.at-first.ensures.form c.in_ok-push.ensures.pushed,
  c.push.ensures.shape,
)

pub loop-i-preserved : goal.loop-i-preserved
loop-i-preserved c = (
  pushed_more c.args.low c.loop-i.i c.args.plan.now.forms c.args.round.now.forms c.loop-i.plan.forms c.push-in-loop-i.new.self.forms
      c.at.result.now c.loop-i.invariant.0 (omega (arith, c.loop-i-test.true, c.len-i-end.ensures.count)) c.at.ensures.form
      c.in_ok-push-2.ensures.pushed,
  c.push-in-loop-i.ensures.shape ∙ c.loop-i.invariant.1,
)
