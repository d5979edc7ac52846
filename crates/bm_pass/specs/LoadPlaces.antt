-- The records of a load at their places in the load list.
use Rattle.std.specs.Prelude.{ℕ, ◌≡◌, ◌+◌, ◌*◌, ◌^◌, ◌<◌, List}
use Rattle.std.specs.Fork.{slice_chunk}
use Rattle.bm_base.specs.declared.shape.Shape.{Shape}
use Rattle.bm_base.specs.declared.area.Area.{Area}
use Rattle.bm_base.specs.Contents.{Contents}
use Rattle.bm_base.specs.Records.{record_at}
use Rattle.bm_gf2.specs.Matrix.{IsNonsingular}
use Rattle.bm_bufs.specs.declared.placing.Placing.{Placing}
use Rattle.bm_bufs.specs.Places.{places_by}

-- each number of a record in a load has a place of its own there
pub record IsOfLoad (s : Shape) (p : Placing) : Type 0 where
  pub bits : p.a.n ≡ s.m
  pub width : p.width ≡ s.width
  pub nonsingular : IsNonsingular p.a
  pub plus : p.plus < 2 ^ p.a.n

-- the record at the place of number i
abbrev pub placed_record : Placing → List ℕ → ℕ → List ℕ
placed_record p bytes i = slice_chunk bytes p.width (places_by p.a p.plus i)

-- the records of the first rows of a load of an area stand at their places
abbrev pub HoldsRowsOfLoad : Shape → Placing → Area → ℕ → Contents → ℕ → List ℕ → Type 0
HoldsRowsOfLoad s p from load contents rows bytes =
    (i : ℕ) → i < rows * 2 ^ (s.b + s.d) → placed_record p bytes i ≡ record_at contents s from (2 ^ s.m * load + i)

-- beside those of the rows before, the records of one more row stand at their places
abbrev pub AddsRow : Shape → Placing → Area → ℕ → Contents → ℕ → List ℕ → List ℕ → Type 0
AddsRow s p from load contents row old new =
    HoldsRowsOfLoad s p from load contents row old → HoldsRowsOfLoad s p from load contents (row + 1) new

-- the records of a load of an area stand at their places
abbrev pub HoldsLoad : Shape → Placing → Area → ℕ → Contents → List ℕ → Type 0
HoldsLoad s p from load contents bytes =
    (i : ℕ) → i < 2 ^ s.m → placed_record p bytes i ≡ record_at contents s from (2 ^ s.m * load + i)
