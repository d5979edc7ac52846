-- Where an area stands, and which area a pass writes.
use Rattle.std.specs.Prelude.{ℕ, ◌*◌, ◌%◌, ◌==◌, if◌then◌else◌}
use Rattle.bm_base.specs.declared.shape.Shape.{Shape}
use Rattle.bm_base.specs.declared.area.Area.{Area}
use Rattle.bm_base.specs.declared.area.Area.TheVariants.{Input, One, Two}
use Rattle.bm_base.specs.Shape.{stripes}

-- the first place of an area on each disk
abbrev pub area_start : Shape → Area → ℕ
area_start s Input = 0
area_start s One = stripes s
area_start s Two = 2 * stripes s

-- the area that holds the records after so many passes
abbrev pub area_after : ℕ → Area
area_after i = if i == 0 then Input else (if i % 2 == 1 then One else Two)
