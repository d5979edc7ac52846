-- The keys of a map, and the members that it stands for.
use Rattle.std.proofs.Common.{◌≡◌, ℕ, Bool, ◌&&◌, List, [], ◌∷◌, String, Global, string_bytes, refl, ap, ◌∙◌}
use Rattle.std.specs.List.{list_all}
use Rattle.std.specs.Map.{keys_of}
use Rattle.toml.specs.View.{members_view}
use Rattle.toml.specs.declared.value.Value.{Value}
use Rattle.bm_jobfile.specs.Keys.{is_one_of, has_only}

-- the key has one of these names
abbrev pub is_named : List (List ℕ) → String Global → Bool
is_named names key = is_one_of names (string_bytes key)

-- a test of the members is one of the keys
pub has_only-keys : (names : List (List ℕ)) (es : List (String Global × Value))
    → has_only names (members_view es) ≡ list_all (is_named names) (keys_of es)
has_only-keys names [] = refl
has_only-keys names (e ∷ es) = ap (λ b. is_one_of names (string_bytes e.0) && b) (has_only-keys names es)

-- one key more
pub one_key : (names : List (List ℕ)) (key : String Global) (keys : List (String Global)) (b whole : Bool)
    → whole ≡ list_all (is_named names) (key ∷ keys) → is_one_of names (string_bytes key) ≡ b
    → whole ≡ (b && list_all (is_named names) keys)
one_key names key keys b whole left named = left ∙ ap (λ v. v && list_all (is_named names) keys) named
