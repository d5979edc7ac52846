use Rattle.std.proofs.Common.{◌≡◌, ℕ, ◌-◌, ◌^◌, ◌<◌, length}
use Rattle.bm_gf2.specs.Matrix.{column, image}
use Rattle.bm_butter.specs.Groups.{GroupsDone, spread_two}
use Rattle.bm_butter.proofs.NumberLemmas.{number_place}
use Rattle.bm_butter.proofs.at_places.two_by_numbers.Given as goal

abbrev pub invariant-loop-group : goal.invariant-loop-group
invariant-loop-group g l = record {
  size : length l.buf ≡ length l.fn.buf;
  first : l.first ≡ column l.a l.i;
  second : l.second ≡ column l.a l.j;
  bits : l.stepper.map.a.n ≡ l.a.n;
  images : (w : ℕ) → w < 2 ^ (l.a.n - 2) → image l.stepper.map.a w ≡ image l.a (spread_two l.i l.j w);
  plus : l.stepper.map.c ≡ l.plus;
  position : l.stepper.position ≡ l.group;
  end : l.group-end ≡ 2 ^ (l.a.n - 2);
  done : GroupsDone (g.K.Kernel.meaning l.kernel) (number_place l.a l.plus l.i l.j) 0 l.group l.fn.buf l.buf;
}
