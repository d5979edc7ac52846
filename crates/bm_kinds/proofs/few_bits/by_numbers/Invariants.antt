use Rattle.std.proofs.Common.{◌≡◌, ◌%◌, ◌^◌, length, slice_index}
use Rattle.bm_butter.specs.Records.{record_at_place}
use Rattle.bm_kinds.proofs.GroupLemmas.{GroupsBelow}
use Rattle.bm_kinds.proofs.few_bits.by_numbers.Given as goal

abbrev pub invariant-loop-number : goal.invariant-loop-number
invariant-loop-number g l = record {
  size : length l.buf ≡ length l.fn.buf;
  matrix : l.stepper.map.a ≡ l.a;
  plus : l.stepper.map.c ≡ l.plus;
  position : l.stepper.position ≡ l.number % 2 ^ l.a.n;
  end : l.number-end ≡ 2 ^ l.a.n;
  groups : GroupsBelow (g.K.Kernel.meaning l.kernel) l.a.n g.row.T (slice_index l.fn.bits) l.number (record_at_place l.a l.plus l.fn.buf)
      (record_at_place l.a l.plus l.buf);
}
