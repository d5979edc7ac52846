-- Placings of whole loads.
use Rattle.std.specs.Prelude.{◌≡◌, ◌^◌, ◌<◌}
use Rattle.bm_base.specs.declared.shape.Shape.{Shape}
use Rattle.bm_gf2.specs.Matrix.{IsNonsingular}
use Rattle.bm_bufs.specs.declared.placing.Placing.{Placing}

-- the placing is one of the records of a load of the shape
pub record IsPlacingOf (s : Shape) (p : Placing) : Type 0 where
  pub nonsingular : IsNonsingular p.a
  pub plus : p.plus < 2 ^ p.a.n
  pub size : p.a.n ≡ s.m
  pub width : p.width ≡ s.width

-- the records are those of one load
abbrev pub IsOneLoad : Shape → Type 0
IsOneLoad s = s.n ≡ s.m
