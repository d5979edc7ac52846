use Rattle.std.proofs.Common.{◌≡◌, ◌+◌, ◌%◌, ◌^◌}
use Rattle.bm_bufs.specs.Places.{places_by, PlacesRecords}
use Rattle.bm_bufs.proofs.record_copy.place_ones_w.Given as goal

abbrev pub invariant-loop-r : goal.invariant-loop-r
invariant-loop-r g l = record {
  matrix : l.stepper.map.a ≡ l.a;
  plus : l.stepper.map.c ≡ l.plus;
  position : l.stepper.position ≡ (l.first + l.r) % 2 ^ l.a.n;
  placed : PlacesRecords (places_by l.a l.plus) l.a.n g.row.W l.first l.r l.row l.fn.load l.load;
}
