-- What a field of a job text gives, and when it is faulty.
use Rattle.std.specs.Prelude.{ℕ, pos, List, [], ◌∷◌, Bool, true, nat_le, if◌then◌else◌, Result, Ok, Err, option_map}
use Rattle.std.specs.declared.option.Option.{Option}
use Rattle.std.specs.declared.option.Option.TheVariants.{Some, None}
use Rattle.toml.specs.Data.{Data, integer, array, table, Items, no_items, item, Members}
use Rattle.bm_base.specs.declared.field_name.FieldName.{FieldName}

-- one field after another: the first fault is the answer
infixl 10 ◌>>=◌
abbrev pub ◌>>=◌ : {A B : Type 0} → Result A FieldName → (A → Result B FieldName) → Result B FieldName
(Ok x) >>= f = f x
(Err e) >>= f = Err e

-- the numbers of a byte, of two bytes, and all
abbrev pub is_byte : ℕ → Bool
is_byte n = nat_le n 255

abbrev pub is_width : ℕ → Bool
is_width n = nat_le n 65535

abbrev pub is_any : ℕ → Bool
is_any n = true

-- an integer of at least 0 that passes the test
abbrev pub number_of : (ℕ → Bool) → Data → Option ℕ
number_of fits (integer (pos n)) = if fits n then Some n else None
number_of fits _ = None

-- such a number has to stand
abbrev pub needed_number : FieldName → (ℕ → Bool) → Option Data → Result ℕ FieldName
needed_number name fits (Some (integer (pos n))) = if fits n then Ok n else Err name
needed_number name fits _ = Err name

-- an integer of at least 0, or the default where nothing stands
abbrev pub count_or : FieldName → ℕ → Option Data → Result ℕ FieldName
count_or name default None = Ok default
count_or name default (Some (integer (pos n))) = Ok n
count_or name default (Some _) = Err name

-- a table has to stand
abbrev pub table_in : FieldName → Option Data → Result Members FieldName
table_in name (Some (table members)) = Ok members
table_in name _ = Err name

-- a table may stand, and nothing else
abbrev pub optional_table : FieldName → Option Data → Result (Option Members) FieldName
optional_table name None = Ok None
optional_table name (Some (table members)) = Ok (Some members)
optional_table name (Some _) = Err name

-- the items of an array
abbrev pub items_of : FieldName → Data → Result Items FieldName
items_of name (array items) = Ok items
items_of name _ = Err name

-- an array has to stand
abbrev pub items_in : FieldName → Option Data → Result Items FieldName
items_in name (Some d) = items_of name d
items_in name None = Err name

-- one number more in front
abbrev pub with_number : Option ℕ → Option (List ℕ) → Option (List ℕ)
with_number (Some n) rest = option_map (λ ns. n ∷ ns) rest
with_number None rest = None

-- the items as numbers that pass the test, or nothing where one is no such number
abbrev pub numbers_of : (ℕ → Bool) → Items → Option (List ℕ)
numbers_of fits no_items = Some []
numbers_of fits (item d rest) = with_number (number_of fits d) (numbers_of fits rest)

-- a value that is there, or the field as the fault
abbrev pub or_fault : {A : Type 0} → FieldName → Option A → Result A FieldName
or_fault name (Some x) = Ok x
or_fault name None = Err name

-- an array of such numbers has to stand
abbrev pub list_in : FieldName → (ℕ → Bool) → Option Data → Result (List ℕ) FieldName
list_in name fits found = items_in name found >>= λ items. or_fault name (numbers_of fits items)

-- a result as a view shows it
abbrev pub seen_by : {X Y : Type 0} → (X → Y) → Result X FieldName → Result Y FieldName
seen_by view (Ok x) = Ok (view x)
seen_by view (Err e) = Err e
