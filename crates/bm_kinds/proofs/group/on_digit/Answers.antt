use Rattle.std.proofs.Common.{◌≡◌, length-set, slice_index, ◌∙◌, arith}
use Rattle.std.proofs.lemmas.Nat.{one_shl}
use Rattle.bm_base.specs.Butterfly.{record_of}
use Rattle.bm_butter.specs.OnBits.{kernel_on}
use Rattle.bm_kinds.proofs.GroupLemmas.{written_more, few_numbers}
use Rattle.bm_kinds.proofs.group.on_digit.Goals as goal

pub loop-t-init : goal.loop-t-init
loop-t-init g c = record {
  long = c.zeros-numbers.ensures;
  done = λ s l. absurd (omega arith);
  end = one_shl g.row.T 64 (omega (arith, c.requires.few));
}

pub number_on-requires-clause-number : goal.number_on-requires-clause-number
number_on-requires-clause-number g c =
    let test = c.loop-t-test.true in
    omega (arith, c.loop-t.invariant.end, few_numbers g.row.T c.requires.few)

pub bounds-numbers-t : goal.bounds-numbers-t
bounds-numbers-t g c =
    let test = c.loop-t-test.true in
    omega (arith, c.loop-t.invariant.end, few_numbers g.row.T c.requires.few)

pub loop-t-preserved : goal.loop-t-preserved
loop-t-preserved g c =
    let inv = c.loop-t.invariant in
    let test = c.loop-t-test.true in
    record {
      long = length-set c.loop-t.numbers _ _ ∙ inv.long;
      done = written_more c.loop-t.numbers c.loop-t.t c.number_on.result
          (λ s v. record_of v ≡ kernel_on (g.K.Kernel.meaning c.args.kernel.now) c.args.j (λ k. record_of
          (slice_index c.args.from.now k)) s)
          (omega (arith, inv.end, inv.long, few_numbers g.row.T c.requires.few)) inv.done c.number_on.ensures;
      end = inv.end;
    }
