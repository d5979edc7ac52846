use Rattle.std.proofs.Common.{◌≡◌, ℕ, ◌<◌, length, Some}
use Rattle.bm_rack.specs.Calls.{place_on}
use Rattle.bm_rack.proofs.places.same_places.Given as goal

abbrev pub invariant-loop-disk : goal.invariant-loop-disk
invariant-loop-disk l = (length l.places ≡ 64) × ((k : ℕ) → k < l.disk → place_on l.places k ≡ Some l.place)
