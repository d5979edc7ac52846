-- A placing in two steps.
use Rattle.std.specs.Prelude.{ℕ, ◌≡◌, ◌^◌, ◌<◌, ◌≤◌}
use Rattle.bm_gf2.specs.Matrix.{IsNonsingular}
use Rattle.bm_bufs.specs.declared.placing.Placing.{Placing}
use Rattle.bm_bufs.specs.Places.{places_by}
use Rattle.bm_bufs.specs.Runs.{KeepsRuns}
use Rattle.bm_split.specs.declared.split.Split.{Split}

-- the placing is one of as many records, of the same width
pub record IsAlike (whole part : Placing) : Type 0 where
  pub count : part.a.n ≡ whole.a.n
  pub width : part.width ≡ whole.width
  pub plus : part.plus < 2 ^ part.a.n

-- The two steps take each record where the placing takes it. The first moves whole runs, and the tiles of the second have at
-- most 2 ^ room records.
pub record IsSplit (whole : Placing) (room : ℕ) (s : Split) : Type 0 where
  pub outer : IsAlike whole s.outer
  pub inner : IsAlike whole s.inner.placing
  pub nonsingular : IsNonsingular s.outer.a
  pub runs : KeepsRuns s.outer.a s.outer.plus s.inner.low
  pub tile : s.inner.tile ≤ room
  pub composes : (x : ℕ) → x < 2 ^ whole.a.n
      → places_by s.inner.placing.a s.inner.placing.plus (places_by s.outer.a s.outer.plus x) ≡ places_by whole.a whole.plus x
