use Rattle.std.proofs.Common.{◌≡◌, ◌+◌, ◌*◌, ◌/◌, ◌^◌}
use Rattle.bm_bufs.specs.Places.{places_by, PlacesRecords}
use Rattle.bm_bufs.proofs.record_copy.place_fours_w.Given as goal

abbrev pub invariant-loop-q : goal.invariant-loop-q
invariant-loop-q g l = record {
  here : l.here ≡ places_by l.a l.plus ((l.first / 4 + l.q) * 2 ^ 2);
  placed : PlacesRecords (places_by l.a l.plus) l.a.n g.row.W l.first (4 * l.q) l.row l.fn.load l.load;
}
