-- The blocks of the input.
use Rattle.std.proofs.Common.{arith}
use Rattle.bm_base.specs.declared.shape.Shape.{Shape}
use Rattle.bm_base.specs.declared.area.Area.TheVariants.{Input}
use Rattle.bm_base.specs.Contents.{RackUnit, block_unit, page_unit}
use Rattle.bm_base.specs.Shape.{dims_of}
use Rattle.bm_rack.specs.Image.{IsInputUnit}
use Rattle.bm_stripe.specs.Units.{IsAreaUnit}

-- the blocks of the first third of a disk are those of the input
pub input_unit : (s : Shape) (u : RackUnit) → IsInputUnit (dims_of s) u → IsAreaUnit s Input u
input_unit s (page_unit page) is = is
input_unit s (block_unit disk place) is = (omega arith, omega (arith, is))
