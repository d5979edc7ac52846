-- Which calls fail.
use Rattle.std.specs.Prelude.{ℕ, Bool, List, length, nat_eq}
use Rattle.std.specs.List.{list_any}

-- the number of the call stands in the list
abbrev pub is_listed : List ℕ → ℕ → Bool
is_listed numbers call = list_any (λ number. nat_eq number call) numbers

-- no call is listed
abbrev pub is_empty : List ℕ → Bool
is_empty numbers = nat_eq (length numbers) 0
