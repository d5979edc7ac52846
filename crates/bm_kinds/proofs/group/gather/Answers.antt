use Rattle.std.proofs.Common.{◌≡◌, length-set, slice_index, ◌∙◌, arith}
use Rattle.std.proofs.lemmas.Nat.{one_shl}
use Rattle.bm_butter.specs.OnBits.{word}
use Rattle.bm_butter.specs.Records.{record_in_order}
use Rattle.bm_kinds.specs.Groups.{corner}
use Rattle.bm_kinds.proofs.GroupLemmas.{written_more, few_numbers}
use Rattle.bm_kinds.proofs.group.gather.Goals as goal

pub loop-t-init : goal.loop-t-init
loop-t-init g c = record {
  long = c.zeros-numbers.ensures;
  numbers = λ s l. absurd (omega arith);
  end = one_shl g.row.T 64 (omega (arith, c.requires.few));
}

pub bounds-offsets-t : goal.bounds-offsets-t
bounds-offsets-t g c =
    let test = c.loop-t-test.true in
    omega (arith, c.loop-t.invariant.end, few_numbers g.row.T c.requires.few)

pub bounds-numbers-t : goal.bounds-numbers-t
bounds-numbers-t g c =
    let test = c.loop-t-test.true in
    omega (arith, c.loop-t.invariant.end, few_numbers g.row.T c.requires.few)

pub loop-t-preserved : goal.loop-t-preserved
loop-t-preserved g c =
    let inv = c.loop-t.invariant in
    let test = c.loop-t-test.true in
    let place = corner c.args.here (slice_index c.args.offsets.now) in
    record {
      long = length-set c.loop-t.numbers _ _ ∙ inv.long;
      numbers = written_more c.loop-t.numbers c.loop-t.t c.number_at.result (λ s v. v ≡ word (record_in_order c.args.buf.now
          (place s)))
          (omega (arith, inv.end, inv.long, few_numbers g.row.T c.requires.few)) inv.numbers c.number_at.ensures.word;
      end = inv.end;
    }
