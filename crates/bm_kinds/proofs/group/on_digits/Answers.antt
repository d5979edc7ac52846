use Rattle.std.proofs.Common.{slice_index, sym, arith}
use Rattle.bm_base.specs.Butterfly.{record_of}
use Rattle.bm_kinds.proofs.OverLemmas.{kernel_digits-more}
use Rattle.bm_kinds.proofs.group.on_digits.Goals as goal
use Rattle.bm_butter.proofs.KernelLemmas.{kernel_digits-start}

pub loop-j-init : goal.loop-j-init
loop-j-init g c = record {
  done = λ t l. sym (kernel_digits-start (g.K.Kernel.meaning c.args.kernel.now) (λ k. record_of (slice_index c.args.from.now k)) t);
}

pub loop-j-preserved : goal.loop-j-preserved
loop-j-preserved g c =
    let test = c.loop-j-test.true in
    record {
      done = kernel_digits-more (g.K.Kernel.meaning c.args.kernel.now) c.loop-j.j g.row.T
          (λ k. record_of (slice_index c.args.from.now k)) (λ k. record_of (slice_index c.loop-j.numbers k))
          (λ k. record_of (slice_index c.on_digit-numbers.result k)) (omega arith) c.loop-j.invariant.done c.on_digit-numbers.ensures;
    }
