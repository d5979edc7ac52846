-- What the table `run` says.
use Rattle.std.specs.Prelude.{ℕ, pos, nat_le, if◌then◌else◌, Result, Ok, Err}
use Rattle.std.specs.declared.option.Option.{Option}
use Rattle.std.specs.declared.option.Option.TheVariants.{Some, None}
use Rattle.toml.specs.Data.{Data, integer}
use Rattle.bm_base.specs.declared.field_name.FieldName.{FieldName}
use Rattle.bm_base.specs.declared.field_name.FieldName.TheVariants as field

-- a number of loads, at least 1
abbrev pub checkpoint_of : Data → Result (Option ℕ) FieldName
checkpoint_of (integer (pos n)) = if nat_le 1 n then Ok (Some n) else Err field.Checkpoint
checkpoint_of _ = Err field.Checkpoint

-- the same, if one stands
abbrev pub checkpoint_in : Option Data → Result (Option ℕ) FieldName
checkpoint_in (Some value) = checkpoint_of value
checkpoint_in None = Ok None
