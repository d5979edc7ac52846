-- What a placing does with a row.
use Rattle.std.specs.Prelude.{ℕ, ◌≡◌, ◌+◌, ◌*◌, ◌/◌, ◌^◌, ◌<◌, ◌≤◌, length}
use Rattle.bm_gf2.specs.Matrix.{IsNonsingular}
use Rattle.bm_bufs.specs.declared.placing.Placing.{Placing}
use Rattle.bm_bufs.specs.Bufs.{Lists}
use Rattle.bm_bufs.specs.Places.{places_by, PlacesRecords}

-- the number of a row's records
abbrev pub row_records : Placing → Lists → ℕ
row_records p lists = length lists.row / p.width

-- each record of the row has a place of its own in the load
pub record HasPlaces (p : Placing) (first : ℕ) (lists : Lists) : Type 0 where
  pub nonsingular : IsNonsingular p.a
  pub plus : p.plus < 2 ^ p.a.n
  pub load : length lists.load ≡ 2 ^ p.a.n * p.width
  pub numbers : first + row_records p lists ≤ 2 ^ p.a.n

-- the records of the row stand at the places of `first` and of the numbers that follow it, and nothing else changed
pub record PlacesRow (p : Placing) (first : ℕ) (old new : Lists) : Type 0 where
  pub load : PlacesRecords (places_by p.a p.plus) p.a.n p.width first (row_records p old) old.row old.load new.load
  pub row : new.row ≡ old.row
