-- The kinds of a map by their names.
use Rattle.std.specs.Prelude.{codes, ℕ, List, if◌then◌else◌, Result, Err}
use Rattle.std.specs.declared.option.Option.{Option}
use Rattle.std.specs.declared.option.Option.TheVariants.{Some, None}
use Rattle.std.specs.Str.{bytes_eq}
use Rattle.toml.specs.Data.{Data, string}
use Rattle.bm_base.specs.declared.field_name.FieldName.{FieldName}
use Rattle.bm_base.specs.declared.field_name.FieldName.TheVariants as field
use Rattle.bm_jobfile.specs.declared.kinds.Kind.{Kind}
use Rattle.bm_jobfile.specs.declared.kinds.Kind.TheVariants as kind
use Rattle.bm_jobfile.specs.Fields.{or_fault}

-- the kind of this name
unfoldable pub kind_named : List ℕ → Option Kind
kind_named name =
    if bytes_eq name (codes "identity") then Some kind.Identity else
    if bytes_eq name (codes "reversal") then Some kind.Reversal else
    if bytes_eq name (codes "bit-reversal") then Some kind.BitReversal else
    if bytes_eq name (codes "transpose") then Some kind.Transpose else
    if bytes_eq name (codes "gray") then Some kind.Gray else
    if bytes_eq name (codes "inverse-gray") then Some kind.InverseGray else
    if bytes_eq name (codes "rotation") then Some kind.Rotation else
    if bytes_eq name (codes "bits") then Some kind.Bits else
    if bytes_eq name (codes "rows") then Some kind.Rows else
    if bytes_eq name (codes "walsh") then Some kind.Walsh else None

-- a text that names a kind has to stand
abbrev pub kind_in : Option Data → Result Kind FieldName
kind_in (Some (string name)) = or_fault field.Kind (kind_named name)
kind_in _ = Err field.Kind
