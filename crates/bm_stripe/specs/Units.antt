-- Which blocks hold which records.
use Rattle.std.specs.Prelude.{◌≡◌, ℕ, ◌+◌, ◌-◌, ◌*◌, ◌/◌, ◌%◌, ◌^◌, ◌<◌, ◌≤◌}
use Rattle.bm_base.specs.declared.shape.Shape.{Shape}
use Rattle.bm_base.specs.declared.area.Area.{Area}
use Rattle.bm_base.specs.Contents.{RackUnit, block_unit, page_unit}
use Rattle.bm_base.specs.Shape.{stripes, load_stripes}
use Rattle.bm_base.specs.Area.{area_start}
use Rattle.bm_gf2.specs.declared.spread.Spread.{Spread}
use Rattle.bm_gf2.specs.Spread.{spread_value}

-- the block that holds record x of an area
abbrev pub record_unit : Shape → Area → ℕ → RackUnit
record_unit s area x = block_unit (x / 2 ^ s.b % 2 ^ s.d) (area_start s area + x / 2 ^ s.b / 2 ^ s.d)

-- block t of a load of an area, in order of address
abbrev pub load_block : Shape → Area → ℕ → ℕ → RackUnit
load_block s area load t = block_unit (t % 2 ^ s.d) (area_start s area + load * load_stripes s + t / 2 ^ s.d)

-- a block of an area
abbrev pub IsAreaUnit : Shape → Area → RackUnit → Type 0
IsAreaUnit s area (block_unit disk place) = (area_start s area ≤ place) × (place < area_start s area + stripes s)
IsAreaUnit s area (page_unit page) = ⊥

-- one of the M/B blocks of a load of an area
abbrev pub IsLoadUnit : Shape → Area → ℕ → RackUnit → Type 0
IsLoadUnit s area load u = (t : ℕ) × (t < 2 ^ (s.m - s.b)) × (u ≡ load_block s area load t)

-- for some t below M/B, block t of the load that the spread gives for t
abbrev pub IsSpreadUnit : Shape → Area → Spread → RackUnit → Type 0
IsSpreadUnit s area spread u = (t : ℕ) × (t < 2 ^ (s.m - s.b)) × (u ≡ load_block s area (spread_value spread t) t)
