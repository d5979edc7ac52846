-- What a transform may change.
use Rattle.std.specs.Prelude.{◌⊎◌}
use Rattle.bm_base.specs.declared.shape.Shape.{Shape}
use Rattle.bm_base.specs.declared.area.Area.TheVariants.{One, Two}
use Rattle.bm_base.specs.Contents.{RackUnit}
use Rattle.bm_stripe.specs.Units.{IsAreaUnit}

-- a block of one of the areas that passes write
abbrev pub IsWorkBlock : Shape → RackUnit → Type 0
IsWorkBlock s u = IsAreaUnit s One u ⊎ IsAreaUnit s Two u
