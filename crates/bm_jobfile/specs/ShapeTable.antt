-- The numbers of a shape that the table `shape` gives.
use Rattle.std.specs.Prelude.{codes, Result, Ok}
use Rattle.toml.specs.Data.{Members, get_member}
use Rattle.bm_base.specs.declared.field_name.FieldName.{FieldName}
use Rattle.bm_base.specs.declared.field_name.FieldName.TheVariants as field
use Rattle.bm_jobfile.specs.declared.shape_table.ShapeNumbers.{ShapeNumbers}
use Rattle.bm_jobfile.specs.Fields.{◌>>=◌, is_byte, is_width, needed_number}

-- the numbers of the table, or the first faulty field
unfoldable pub shape_numbers : Members → Result ShapeNumbers FieldName
shape_numbers shape = do
  n ← needed_number field.N is_byte (get_member (codes "n") shape)
  b ← needed_number field.B is_byte (get_member (codes "b") shape)
  d ← needed_number field.D is_byte (get_member (codes "d") shape)
  m ← needed_number field.M is_byte (get_member (codes "m") shape)
  width ← needed_number field.Width is_width (get_member (codes "width") shape)
  Ok (record { n = n; b = b; d = d; m = m; width = width })
