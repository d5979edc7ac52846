-- What the fields of a job text say, in the order in which they are tested.
use Rattle.std.specs.Prelude.{codes, Bool, ◌&&◌, if◌then◌else◌, Result, Ok, Err}
use Rattle.std.specs.declared.option.Option.{Option}
use Rattle.toml.specs.Data.{Members, get_member}
use Rattle.bm_base.specs.declared.field_name.FieldName.{FieldName}
use Rattle.bm_base.specs.declared.field_name.FieldName.TheVariants as field
use Rattle.bm_jobfile.specs.declared.kinds.Kind.{Kind}
use Rattle.bm_jobfile.specs.declared.key_tables.TableName.TheVariants as name
use Rattle.bm_jobfile.specs.declared.reading.JobText.{JobText}
use Rattle.bm_jobfile.specs.Fields.{◌>>=◌, count_or, table_in, optional_table}
use Rattle.bm_jobfile.specs.ShapeTable.{shape_numbers}
use Rattle.bm_jobfile.specs.Kinds.{kind_in}
use Rattle.bm_jobfile.specs.MapTable.{map_in}
use Rattle.bm_jobfile.specs.DrillTable.{stops_in}
use Rattle.bm_jobfile.specs.RunTable.{checkpoint_in}
use Rattle.bm_jobfile.specs.Keys.{has_only, known_keys, optional_members}

-- every key of the document and of its tables is known
abbrev pub all_known : Kind → Members → Members → Members → Option Members → Option Members → Bool
all_known kind document shape map drill run =
    has_only (known_keys name.Document) document && has_only (known_keys name.Shape) shape && has_only (known_keys (name.Map kind)) map
    && has_only (known_keys name.Drill) (optional_members drill) && has_only (known_keys name.Run) (optional_members run)

-- what the fields of the document say, or the first faulty one
unfoldable pub text_of : Members → Result JobText FieldName
text_of document = do
  shape ← table_in field.Shape (get_member (codes "shape") document)
  numbers ← shape_numbers shape
  map ← table_in field.Map (get_member (codes "map") document)
  kind ← kind_in (get_member (codes "kind") map)
  named ← map_in kind map
  drill ← optional_table field.Drill (get_member (codes "drill") document)
  start ← count_or field.Start 0 (get_member (codes "start") (optional_members drill))
  stops ← stops_in (get_member (codes "stops") (optional_members drill))
  run ← optional_table field.Run (get_member (codes "run") document)
  checkpoint ← checkpoint_in (get_member (codes "checkpoint") (optional_members run))
  if all_known kind document shape map drill run
      then Ok (record { shape = numbers; map = named; start = start; stops = stops; checkpoint = checkpoint })
      else Err field.Unknown
