-- What the table `drill` says.
use Rattle.std.specs.Prelude.{ℕ, ◌%◌, List, [], ◌∷◌, length, ◌==◌, ◌&&◌, nat_le, if◌then◌else◌, Result, Ok, Err}
use Rattle.std.specs.declared.option.Option.{Option}
use Rattle.std.specs.declared.option.Option.TheVariants.{Some, None}
use Rattle.toml.specs.Data.{Data, array}
use Rattle.bm_base.specs.declared.field_name.FieldName.{FieldName}
use Rattle.bm_base.specs.declared.field_name.FieldName.TheVariants as field
use Rattle.bm_base.specs.declared.stops.Stop.{Stop}
use Rattle.bm_jobfile.specs.Fields.{is_any, numbers_of}

-- a stop for each two numbers: after how many calls, then which image
abbrev pub pairs_of : List ℕ → List Stop
pairs_of (after ∷ pick ∷ rest) = record { after = after; pick = pick } ∷ pairs_of rest
pairs_of (after ∷ []) = []
pairs_of [] = []

-- the stops of at most 64 pairs of numbers
abbrev pub stops_from : Option (List ℕ) → Result (List Stop) FieldName
stops_from (Some numbers) = if nat_le (length numbers) 128 && (length numbers % 2 == 0) then Ok (pairs_of numbers) else Err field.Stops
stops_from None = Err field.Stops

-- an array of at most 64 pairs of numbers
abbrev pub stops_of : Data → Result (List Stop) FieldName
stops_of (array items) = stops_from (numbers_of is_any items)
stops_of _ = Err field.Stops

-- the same, and no stops where nothing stands
abbrev pub stops_in : Option Data → Result (List Stop) FieldName
stops_in (Some value) = stops_of value
stops_in None = Ok []
