-- What the record buffers hold, and the shapes that they fit.
use Rattle.std.specs.Prelude.{ℕ, ◌≡◌, ◌+◌, ◌*◌, ◌^◌, List, length}
use Rattle.std.specs.List.{refill}
use Rattle.bm_base.specs.declared.shape.Shape.{Shape}

-- the bytes of the load list and of the row list
pub record Lists : Type 0 where
  pub load : List ℕ
  pub row : List ℕ

-- the load list has the length of a memory load, the row list that of a row of blocks
pub record FitsShape (s : Shape) (lists : Lists) : Type 0 where
  pub load : length lists.load ≡ 2 ^ s.m * s.width
  pub row : length lists.row ≡ 2 ^ (s.b + s.d) * s.width

-- the lists after a write of the load list, which keeps its length
abbrev pub with_load : Lists → List ℕ → Lists
with_load lists bytes = record { load = refill (length lists.load) lists.load bytes; row = lists.row }

-- the lists after a write of the row list, which keeps its length
abbrev pub with_row : Lists → List ℕ → Lists
with_row lists bytes = record { load = lists.load; row = refill (length lists.row) lists.row bytes }
