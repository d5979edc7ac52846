-- The numbers of a shape.
use Rattle.std.specs.Prelude.{ℕ, ◌-◌, ◌*◌, ◌^◌}
use Rattle.bm_base.specs.declared.shape.Shape.{Shape}
use Rattle.bm_base.specs.declared.dims.Dims.{Dims}

-- N/BD: the rows of an area
abbrev pub stripes : Shape → ℕ
stripes s = 2 ^ (s.n - s.b - s.d)

-- M/BD: the rows of a memory load
abbrev pub load_stripes : Shape → ℕ
load_stripes s = 2 ^ (s.m - s.b - s.d)

-- N/M: the memory loads of an area
abbrev pub loads_of : Shape → ℕ
loads_of s = 2 ^ (s.n - s.m)

-- the bytes of a memory load
abbrev pub load_size : Shape → ℕ
load_size s = 2 ^ s.m * s.width

-- the bytes of all records
abbrev pub input_size : Shape → ℕ
input_size s = 2 ^ s.n * s.width

-- the rack of a shape: D disks of three areas, in blocks of B records
abbrev pub dims_of : Shape → Dims
dims_of s = record { disks = 2 ^ s.d; places = 3 * stripes s; block = 2 ^ s.b * s.width }
