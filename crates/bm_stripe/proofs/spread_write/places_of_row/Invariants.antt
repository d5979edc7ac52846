use Rattle.std.proofs.Common.{◌≡◌, ℕ, ◌<◌, length, Some}
use Rattle.bm_rack.specs.Calls.{place_on}
use Rattle.bm_stripe.specs.Rows.{spread_place}
use Rattle.bm_stripe.proofs.spread_write.places_of_row.Given as goal

abbrev pub invariant-loop-disk : goal.invariant-loop-disk
invariant-loop-disk l = record {
  length_is : length l.places ≡ 64;
  entries : (k : ℕ) → k < l.disk → place_on l.places k ≡ Some (spread_place l.shape l.area l.spread l.row k);
}
