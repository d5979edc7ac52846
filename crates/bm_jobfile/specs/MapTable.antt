-- What the table `map` says.
use Rattle.std.specs.Prelude.{codes, ℕ, List, Result, Ok}
use Rattle.std.specs.declared.option.Option.{Option}
use Rattle.std.specs.declared.option.Option.TheVariants.{Some, None}
use Rattle.toml.specs.Data.{Members, get_member}
use Rattle.bm_base.specs.declared.field_name.FieldName.{FieldName}
use Rattle.bm_base.specs.declared.field_name.FieldName.TheVariants as field
use Rattle.bm_jobfile.specs.declared.kinds.Kind.{Kind}
use Rattle.bm_jobfile.specs.declared.kinds.Kind.TheVariants as kind
use Rattle.bm_jobfile.specs.declared.map_table.NamedMap.{NamedMap}
use Rattle.bm_jobfile.specs.declared.map_table.NamedMap.TheVariants as named
use Rattle.bm_jobfile.specs.declared.map_table.MapText.{MapText}
use Rattle.bm_jobfile.specs.declared.map_table.MapText.TheVariants.{Permute, Walsh}
use Rattle.bm_jobfile.specs.Fields.{◌>>=◌, is_byte, is_any, needed_number, list_in, count_or}

-- the source bits, and the rows
abbrev pub bits_in : Members → Result (List ℕ) FieldName
bits_in map = list_in field.Bits is_byte (get_member (codes "bits") map)

abbrev pub rows_in : Members → Result (List ℕ) FieldName
rows_in map = list_in field.Rows is_any (get_member (codes "rows") map)

-- the map of addresses that a table of this kind names, and none for the transform
abbrev pub named_in : Kind → Members → Result (Option NamedMap) FieldName
named_in kind.Identity map = Ok (Some named.Identity)
named_in kind.Reversal map = Ok (Some named.Reversal)
named_in kind.BitReversal map = Ok (Some named.BitReversal)
named_in kind.Transpose map = needed_number field.P is_byte (get_member (codes "p") map) >>= λ p. Ok (Some (named.Transpose p))
named_in kind.Gray map = Ok (Some named.Gray)
named_in kind.InverseGray map = Ok (Some named.InverseGray)
named_in kind.Rotation map = needed_number field.By is_byte (get_member (codes "by") map) >>= λ by. Ok (Some (named.Rotation by))
named_in kind.Bits map = bits_in map >>= λ list. Ok (Some (named.Bits list))
named_in kind.Rows map = rows_in map >>= λ rows. Ok (Some (named.Rows rows))
named_in kind.Walsh map = Ok None

-- a map of addresses with the complement, or the transform, which has none
abbrev pub with_complement : Option NamedMap → Members → Result MapText FieldName
with_complement (Some named) map =
    count_or field.Complement 0 (get_member (codes "complement") map) >>= λ complement. Ok (Permute named complement)
with_complement None map = Ok Walsh

-- what a table of this kind says, or its first faulty field
unfoldable pub map_in : Kind → Members → Result MapText FieldName
map_in kind map = named_in kind map >>= λ found. with_complement found map
