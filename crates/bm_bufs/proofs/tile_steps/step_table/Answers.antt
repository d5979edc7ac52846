use Rattle.std.proofs.Common.{◌≡◌, ◌+◌, ◌-◌, ◌*◌, ◌^◌, bit_xor, length-set, refl, ap, ◌∙◌, arith}
use Rattle.bm_gf2.specs.Matrix.{column}
use Rattle.bm_gf2.specs.Vector.{xor_sum}
use Rattle.bm_bufs.proofs.StepLemmas.{step_taken, step_left, step_none, entry_more}
use Rattle.bm_bufs.proofs.tile_steps.step_table.Goals as goal
use Rattle.bm_bufs.proofs.tile_steps.step_table.Goals.{then-first-t, else-first-t}

pub loop-t-init : goal.loop-t-init
loop-t-init c = record {
  long = refl;
  sum = step_none (column c.args.a.now) c.args.count c.args.first;
  each = λ k none. absurd (omega arith);
}

pub loop-t-preserved : goal.loop-t-preserved
loop-t-preserved c =
    let w = column c.args.a.now in
    let t = c.loop-t.t in
    let inv = c.loop-t.invariant in
    let sum : c.if-first-t.sum ≡ xor_sum w c.args.count ((2 ^ (t + 1) - 1) * 2 ^ c.args.first) = elim c.if-first-t.branch [
      | then-first-t b ↦
          b.sum-is ∙ ap (λ x. bit_xor c.loop-t.sum (w x)) b.from.ensures
          ∙ step_taken w c.args.count c.args.first t c.loop-t.sum b.if-first-t.true inv.sum
      | else-first-t b ↦ b.sum-is ∙ step_left w c.args.count c.args.first t c.loop-t.sum b.if-first-t.false inv.sum
    ] in
    record {
      long = length-set c.loop-t.table c.from-in-loop-t.result c.if-first-t.sum ∙ inv.long;
      sum = sum;
      each = rw c.from-in-loop-t.ensures (entry_more (λ k. xor_sum w c.args.count ((2 ^ (k + 1) - 1) * 2 ^ c.args.first)) c.loop-t.table t
          c.if-first-t.sum (omega (arith, inv.long, c.loop-t-test.true)) sum inv.each);
    }
