use Rattle.std.proofs.Common.{ℕ, ◌+◌, ◌++◌, List, sym, ap, ◌∙◌, arith, length}
use Rattle.bm_text.specs.StepCost.{rotation_cost}
use Rattle.bm_text.specs.PlanText.{step_line, round_lines}
use Rattle.bm_text.proofs.PlanTextLemmas.{round_more}
use Rattle.bm_text.proofs.plan_text.round_lines.Goals as goal

pub loop-done-init : goal.loop-done-init
unfolding round_lines
loop-done-init c = record { bytes = c.new-text.ensures; short = omega (arith, ap length c.new-text.ensures) }

pub loop-done-preserved : goal.loop-done-preserved
loop-done-preserved c =
    let s = c.args.shape.now in
    let done = c.loop-done.done in
    let before = round_lines s done in
    let cost = c.rotation_cost-cost.ensures ∙ ap (rotation_cost s) c.m.ensures in
    let line = c.as_str.ensures.value ∙ c.step_line.ensures.line
    ∙ ap (λ (bits : ℕ). step_line (done + 1) bits c.rotation_cost-cost.result) c.m-in-loop-done.ensures
    ∙ ap (step_line (done + 1) s.m) cost in
    let same_length = ap length c.as_str.ensures.value in
    record {
      bytes = c.push_str.ensures.bytes
          ∙ ap (λ (z : List ℕ). z ++ c.as_str.result.now) c.loop-done.invariant.bytes
          ∙ ap (λ (z : List ℕ). before ++ z) line
          ∙ sym (round_more s done);
      short = omega (arith, c.push_str.ensures.len, c.loop-done.invariant.short, same_length, c.step_line.ensures.short);
    }
