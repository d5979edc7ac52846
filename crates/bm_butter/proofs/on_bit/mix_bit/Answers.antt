use Rattle.std.proofs.Common.{◌≡◌, suc, ◌+◌, ◌*◌, ◌%◌, ◌^◌, ap, ◌∙◌, arith}
use Rattle.std.proofs.Math.Nat.{two-pow-succ}
use Rattle.bm_butter.proofs.PairedLemmas.{BlocksPaired-more}
use Rattle.bm_butter.proofs.on_bit.mix_bit.Goals as goal

pub loop-block-preserved : goal.loop-block-preserved
loop-block-preserved g c =
    let halves = c.args.halves.now in
    let block = c.loop-block.block in
    let inv = c.loop-block.invariant in
    let half = 1 * 2 ^ halves.bit % 2 ^ 64 in
    let size : 2 * half ≡ 2 ^ (halves.bit + 1) =
    omega (arith, inv.half, two-pow-succ halves.bit, ap (λ k. 2 ^ k) (let e : halves.bit + 1 ≡ suc halves.bit = omega arith in e)) in
    record {
      size = c.make_pairs.ensures.size ∙ inv.size;
      half = inv.half;
      blocks = BlocksPaired-more (g.K.Kernel.meaning c.args.kernel.now) halves.bit halves.at_u halves.at_v half
          (block * (2 * half)) c.args.from block c.args.buf.now c.loop-block.buf c.make_pairs.new.buf
          halves.halves inv.half (ap (λ w. block * w) size) c.loop-block.auto.block inv.blocks c.make_pairs.ensures.paired
          c.make_pairs.ensures.others;
    }
