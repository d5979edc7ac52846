use Rattle.std.proofs.Common.{◌≡◌, ◌+◌, ◌≤◌}
use Rattle.bm_memrack.specs.BlockCopy.{flag_at}
use Rattle.bm_memrack.specs.CrashChoice.{dirty_count}
use Rattle.bm_memrack.proofs.CrashChoiceLemmas.{UnitsChosen}
use Rattle.bm_memrack.proofs.crash_choice.choose_units.Given as goal

abbrev pub invariant-loop-place : goal.invariant-loop-place
invariant-loop-place l = record {
  unit : l.unit ≡ l.first + dirty_count (flag_at l.dirty) l.place;
  bound : l.unit ≤ l.first + l.place;
  chosen : UnitsChosen l.dirty l.first l.pick l.size l.place l.fn.bytes l.bytes;
}
