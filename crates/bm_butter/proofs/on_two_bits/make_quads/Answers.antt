use Rattle.std.proofs.Common.{◌+◌, ◌∙◌, arith}
use Rattle.bm_butter.specs.Groups.{pick, run_place}
use Rattle.bm_butter.proofs.GroupLemmas.{IsGroup-same, GroupsDone-more}
use Rattle.bm_butter.proofs.CornerLemmas.{pick-more}
use Rattle.bm_butter.proofs.on_two_bits.make_quads.Goals as goal

pub loop-k-preserved : goal.loop-k-preserved
unfolding pick
loop-k-preserved g c =
    let inv = c.loop-k.invariant in
    let test = c.loop-k-test.true in
    let p = c.args.p in
    let q = c.args.q in
    let r = c.args.r in
    let s = c.args.s in
    let k = c.loop-k.k in
    let old = c.args.buf.now in
    let now = c.loop-k.buf in
    let new = c.quad.new.buf in
    record {
      size = c.quad.ensures.size ∙ inv.size;
      done = GroupsDone-more (g.K.Kernel.meaning c.args.kernel.now) (run_place p q r s) c.args.count 0 k old now new c.requires.told
          (omega arith) (omega arith) inv.done
          (IsGroup-same (g.K.Kernel.meaning c.args.kernel.now) (pick (p + k) (q + k) (r + k) (s + k)) (run_place p q r s k) now new
          (λ t below. pick-more k p q r s t)
          c.quad.ensures.group)
          (λ x out. c.quad.ensures.others x (out 0 (omega arith)) (out 1 (omega arith)) (out 2 (omega arith)) (out 3 (omega arith)));
    }
