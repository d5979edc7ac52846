use Rattle.std.proofs.Common.{◌+◌, ◌-◌, ◌*◌, ◌≡◌, ◌^◌, refl, sym, ap, subst, ◌∙◌, arith}
use Rattle.std.proofs.Math.Nat.{add-mul}
use Rattle.bm_butter.specs.Groups.{GroupsDone, corner_place}
use Rattle.bm_butter.proofs.GroupLemmas.{GroupsDone-none, GroupsDone-join}
use Rattle.bm_butter.proofs.SpreadLemmas.{split_blocks}
use Rattle.bm_butter.proofs.CornerLemmas.{corners_told, run_count}
use Rattle.bm_butter.proofs.on_two_bits.mix_two.Goals as goal

pub loop-run-init : goal.loop-run-init
loop-run-init g c =
    let k = c.args.corners.now in
    let place = corner_place k.low k.high k.first k.second k.third k.fourth in
    record {
      size = refl;
      end = run_count k.low k.high c.args.blocks k.order (omega (arith, c.requires.fits));
      done = subst (λ n. GroupsDone (g.K.Kernel.meaning c.args.kernel.now) place 0 n c.args.buf.now c.args.buf.now)
          (let e : 0 ≡ 0 * 2 ^ k.low = omega arith in e)
          (GroupsDone-none (g.K.Kernel.meaning c.args.kernel.now) place 0 c.args.buf.now);
    }

pub loop-run-preserved : goal.loop-run-preserved
loop-run-preserved g c =
    let k = c.args.corners.now in
    let inv = c.loop-run.invariant in
    let run = c.loop-run.run in
    let next : (run + 1) * 2 ^ k.low ≡ run * 2 ^ k.low + 1 * 2 ^ k.low = add-mul run 1 (2 ^ k.low) in
    let place = corner_place k.low k.high k.first k.second k.third k.fourth in
    record {
      size = c.transform_run.ensures.size ∙ inv.size;
      end = inv.end;
      done = GroupsDone-join (g.K.Kernel.meaning c.args.kernel.now) place ((run + 1) * 2 ^ k.low) 0 (run * 2 ^ k.low)
          ((run + 1) * 2 ^ k.low) c.args.buf.now c.loop-run.buf
          c.transform_run.new.buf
          (corners_told ((run + 1) * 2 ^ k.low) k.low k.high k.first k.second k.third k.fourth k.order k.corners) (omega arith)
          (omega arith)
          (omega arith) inv.done c.transform_run.ensures.done;
    }

pub returns-clause-done : goal.returns-clause-done
returns-clause-done g c =
    let k = c.args.corners.now in
    let inv = c.loop-run.invariant in
    let test = c.loop-run-test.false in
    let all : c.loop-run.run ≡ c.args.blocks * 2 ^ (k.high - k.low - 1) = omega (arith, inv.end, c.loop-run.auto.run-end) in
    let place = corner_place k.low k.high k.first k.second k.third k.fourth in
    subst (λ n. GroupsDone (g.K.Kernel.meaning c.args.kernel.now) place 0 n c.args.buf.now c.loop-run.buf)
    (ap (λ n. n * 2 ^ k.low) all ∙ sym (split_blocks k.low k.high c.args.blocks k.order)) inv.done
