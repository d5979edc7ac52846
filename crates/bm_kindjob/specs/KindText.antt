-- What the fields of the text of a transform over chosen bits say, in the order in which they are tested.
use Rattle.std.specs.Prelude.{codes, ℕ, List, [], ◌∷◌, Bool, ◌&&◌, if◌then◌else◌, Result, Ok, Err}
use Rattle.toml.specs.Data.{Members, get_member}
use Rattle.bm_base.specs.declared.field_name.FieldName.{FieldName}
use Rattle.bm_base.specs.declared.field_name.FieldName.TheVariants as field
use Rattle.bm_jobfile.specs.declared.key_tables.TableName.TheVariants as table
use Rattle.bm_jobfile.specs.Fields.{◌>>=◌, is_byte, list_in, table_in}
use Rattle.bm_jobfile.specs.Keys.{has_only, known_keys}
use Rattle.bm_jobfile.specs.ShapeTable.{shape_numbers}
use Rattle.bm_kindjob.specs.declared.reading.KindText.{KindText}
use Rattle.bm_kindjob.specs.KindNames.{kind_in}

-- the bits of the set
abbrev pub set_in : Members → Result (List ℕ) FieldName
set_in map = list_in field.Set is_byte (get_member (codes "set") map)

-- every key of the document and of its tables is known
abbrev pub all_known : Members → Members → Members → Bool
all_known document shape map =
    has_only (codes "shape" ∷ codes "map" ∷ []) document && has_only (known_keys table.Shape) shape
    && has_only (codes "kind" ∷ codes "set" ∷ []) map

-- what the fields of the document say, or the first faulty one
unfoldable pub text_of : Members → Result KindText FieldName
text_of document = do
  shape ← table_in field.Shape (get_member (codes "shape") document)
  numbers ← shape_numbers shape
  map ← table_in field.Map (get_member (codes "map") document)
  kind ← kind_in (get_member (codes "kind") map)
  list ← set_in map
  if all_known document shape map
      then Ok (record { shape = numbers; kind = kind; list = list })
      else Err field.Unknown
