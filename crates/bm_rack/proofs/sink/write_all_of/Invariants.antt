use Rattle.std.proofs.Common.{◌≡◌, ◌≤◌, ◌-◌, ◌++◌, IsTrue, length, take}
use Rattle.bm_rack.proofs.sink.write_all_of.Given as goal

abbrev pub invariant-loop-at : goal.invariant-loop-at
invariant-loop-at g l = record {
  within : l.at ≤ length l.bytes;
  taken : IsTrue g.K.Sink.tells → g.K.Sink.taken l.sink ≡ g.K.Sink.taken l.fn.sink ++ take l.at l.bytes;
  quiet : g.K.Sink.faults l.sink ≡ g.K.Sink.faults l.fn.sink;
}

abbrev pub decreases-loop-at : goal.decreases-loop-at
decreases-loop-at g l = length l.bytes - l.at
