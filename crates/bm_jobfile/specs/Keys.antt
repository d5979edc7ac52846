-- The keys that the tables of a job text may have.
use Rattle.std.specs.Prelude.{codes, ℕ, List, [], ◌∷◌, Bool, true, false, ◌&&◌, ◌||◌}
use Rattle.std.specs.declared.option.Option.{Option}
use Rattle.std.specs.declared.option.Option.TheVariants.{Some, None}
use Rattle.std.specs.Str.{bytes_eq}
use Rattle.toml.specs.Data.{Members, no_members, member}
use Rattle.bm_jobfile.specs.declared.kinds.Kind.{Kind}
use Rattle.bm_jobfile.specs.declared.kinds.Kind.TheVariants as kind
use Rattle.bm_jobfile.specs.declared.key_tables.TableName.{TableName}
use Rattle.bm_jobfile.specs.declared.key_tables.TableName.TheVariants as name

-- the key is one of these
abbrev pub is_one_of : List (List ℕ) → List ℕ → Bool
is_one_of [] key = false
is_one_of (name ∷ names) key = bytes_eq key name || is_one_of names key

-- each key of the table is one of these
abbrev pub has_only : List (List ℕ) → Members → Bool
has_only names no_members = true
has_only names (member key value rest) = is_one_of names key && has_only names rest

-- the keys of a map of this kind
abbrev pub map_keys : Kind → List (List ℕ)
map_keys kind.Walsh = codes "kind" ∷ []
map_keys kind.Transpose = codes "kind" ∷ codes "complement" ∷ codes "p" ∷ []
map_keys kind.Rotation = codes "kind" ∷ codes "complement" ∷ codes "by" ∷ []
map_keys kind.Bits = codes "kind" ∷ codes "complement" ∷ codes "bits" ∷ []
map_keys kind.Rows = codes "kind" ∷ codes "complement" ∷ codes "rows" ∷ []
map_keys kind.Identity = codes "kind" ∷ codes "complement" ∷ []
map_keys kind.Reversal = codes "kind" ∷ codes "complement" ∷ []
map_keys kind.BitReversal = codes "kind" ∷ codes "complement" ∷ []
map_keys kind.Gray = codes "kind" ∷ codes "complement" ∷ []
map_keys kind.InverseGray = codes "kind" ∷ codes "complement" ∷ []

-- the keys of a table
abbrev pub known_keys : TableName → List (List ℕ)
known_keys name.Document = codes "shape" ∷ codes "map" ∷ codes "drill" ∷ codes "run" ∷ []
known_keys name.Shape = codes "n" ∷ codes "b" ∷ codes "d" ∷ codes "m" ∷ codes "width" ∷ []
known_keys (name.Map kind) = map_keys kind
known_keys name.Drill = codes "start" ∷ codes "stops" ∷ []
known_keys name.Run = codes "checkpoint" ∷ []

-- a table that is missing has no members
abbrev pub optional_members : Option Members → Members
optional_members (Some members) = members
optional_members None = no_members
