-- The kinds of a transform by their names.
use Rattle.std.specs.Prelude.{codes, ℕ, List, if◌then◌else◌, Result, Err}
use Rattle.std.specs.declared.option.Option.{Option}
use Rattle.std.specs.declared.option.Option.TheVariants.{Some, None}
use Rattle.std.specs.Str.{bytes_eq}
use Rattle.toml.specs.Data.{Data, string}
use Rattle.bm_base.specs.declared.field_name.FieldName.{FieldName}
use Rattle.bm_base.specs.declared.field_name.FieldName.TheVariants as field
use Rattle.bm_jobfile.specs.Fields.{or_fault}
use Rattle.bm_kindjob.specs.declared.kind_names.KindName.{KindName}
use Rattle.bm_kindjob.specs.declared.kind_names.KindName.TheVariants as name

-- the kind of this name
unfoldable pub kind_named : List ℕ → Option KindName
kind_named text =
    if bytes_eq text (codes "walsh-bits") then Some name.WalshBits else
    if bytes_eq text (codes "sums") then Some name.Sums else
    if bytes_eq text (codes "differences") then Some name.Differences else
    if bytes_eq text (codes "xors") then Some name.Xors else None

-- a text that names a kind has to stand
abbrev pub kind_in : Option Data → Result KindName FieldName
kind_in (Some (string text)) = or_fault field.Kind (kind_named text)
kind_in _ = Err field.Kind
