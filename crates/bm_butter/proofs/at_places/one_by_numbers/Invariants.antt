use Rattle.std.proofs.Common.{◌≡◌, ◌%◌, ◌^◌, length}
use Rattle.bm_gf2.specs.Matrix.{column}
use Rattle.bm_butter.specs.Records.{record_at_place}
use Rattle.bm_butter.proofs.PairLemmas.{PairsBelow}
use Rattle.bm_butter.proofs.at_places.one_by_numbers.Given as goal

abbrev pub invariant-loop-number : goal.invariant-loop-number
invariant-loop-number g l = record {
  size : length l.buf ≡ length l.fn.buf;
  apart : l.apart ≡ column l.a l.i;
  matrix : l.stepper.map.a ≡ l.a;
  plus : l.stepper.map.c ≡ l.plus;
  position : l.stepper.position ≡ l.number % 2 ^ l.a.n;
  end : l.number-end ≡ 2 ^ l.a.n;
  pairs : PairsBelow (g.K.Kernel.meaning l.kernel) l.a.n l.i l.number (record_at_place l.a l.plus l.fn.buf)
      (record_at_place l.a l.plus l.buf);
}
