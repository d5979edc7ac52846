-- The bytes of an area.
use Rattle.std.specs.Prelude.{ℕ, ◌^◌, List}
use Rattle.bm_base.specs.declared.shape.Shape.{Shape}
use Rattle.bm_base.specs.declared.area.Area.{Area}
use Rattle.bm_base.specs.Contents.{Contents}
use Rattle.bm_base.specs.Records.{record_at, bytes_of}

-- the bytes of an area's records in order of address
abbrev pub area_bytes : Contents → Shape → Area → List ℕ
area_bytes contents s area = bytes_of (2 ^ s.n) (record_at contents s area)
