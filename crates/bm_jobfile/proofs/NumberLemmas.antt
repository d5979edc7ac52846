-- Numbers that are read from the items of an array, one after another.
use Rattle.std.proofs.Common.{◌≡◌, ℕ, ◌+◌, ◌<◌, ◌≤◌, Bool, List, [], ◌∷◌, ◌++◌, length, drop, get_or}
use Rattle.std.proofs.Common.{Option, Some, None, option_map, refl, sym, ap, ◌∙◌, append_assoc}
use Rattle.std.proofs.lemmas.List.{drop_all, append-nil}
use Rattle.toml.specs.View.{view, items_view}
use Rattle.toml.specs.declared.value.Value.{Value}
use Rattle.toml.proofs.Views.{items_view-drop}
use Rattle.bm_jobfile.specs.Fields.{number_of, numbers_of, with_number}

-- the numbers that are read, and those that the rest gives
abbrev pub followed_by : List ℕ → Option (List ℕ) → Option (List ℕ)
followed_by read rest = option_map (λ ns. read ++ ns) rest

-- what the values from one on give
abbrev pub numbers_from : (ℕ → Bool) → List Value → ℕ → Option (List ℕ)
numbers_from fits values i = numbers_of fits (items_view (drop i values))

-- as far as the values are read, their numbers are these
pub record HasRead (fits : ℕ → Bool) (values : List Value) (i : ℕ) (read : List ℕ) : Type 0 where
  pub whole : numbers_of fits (items_view values) ≡ followed_by read (numbers_from fits values i)

followed-push : (read : List ℕ) (n : ℕ) (rest : Option (List ℕ))
    → followed_by read (with_number (Some n) rest) ≡ followed_by (read ++ n ∷ []) rest
followed-push read n None = refl
followed-push read n (Some ns) = ap Some (sym (append_assoc read (n ∷ []) ns))

-- no value is read
pub read_none : (fits : ℕ → Bool) (values : List Value) → HasRead fits values 0 []
read_none fits values = record { whole = nothing_first (numbers_of fits (items_view values)) }
  where
    nothing_first : (rest : Option (List ℕ)) → rest ≡ followed_by [] rest
    nothing_first None = refl
    nothing_first (Some ns) = refl

one_value : (fits : ℕ → Bool) (values : List Value) (i : ℕ) (v : Value) → i < length values → v ≡ get_or values i v
    → numbers_from fits values i ≡ with_number (number_of fits (view v)) (numbers_from fits values (i + 1))
one_value fits values i v inside is =
    ap (numbers_of fits) (items_view-drop values i v inside)
    ∙ ap (λ (w : Value). with_number (number_of fits (view w)) (numbers_from fits values (i + 1))) (sym is)

-- one number more is read
pub read_more : (fits : ℕ → Bool) (values : List Value) (i : ℕ) (read : List ℕ) (v : Value) (n : ℕ) → HasRead fits values i read
    → i < length values → v ≡ get_or values i v → number_of fits (view v) ≡ Some n → HasRead fits values (i + 1) (read ++ n ∷ [])
read_more fits values i read v n far inside is number = record {
  whole =
      far.whole ∙ ap (followed_by read) (one_value fits values i v inside is
      ∙ ap (λ (o : Option ℕ). with_number o (numbers_from fits values (i + 1))) number)
      ∙ followed-push read n (numbers_from fits values (i + 1));
}

-- a value that is no such number spoils the whole
pub read_fault : (fits : ℕ → Bool) (values : List Value) (i : ℕ) (read : List ℕ) (v : Value) → HasRead fits values i read
    → i < length values → v ≡ get_or values i v → number_of fits (view v) ≡ None → None ≡ numbers_of fits (items_view values)
read_fault fits values i read v far inside is number =
    sym (far.whole ∙ ap (followed_by read) (one_value fits values i v inside is
    ∙ ap (λ (o : Option ℕ). with_number o (numbers_from fits values (i + 1))) number))

-- every value is read
pub read_all : (fits : ℕ → Bool) (values : List Value) (i : ℕ) (read : List ℕ) → HasRead fits values i read → length values ≤ i
    → Some read ≡ numbers_of fits (items_view values)
read_all fits values i read far past =
    sym (far.whole ∙ ap (λ (rest : List Value). followed_by read (numbers_of fits (items_view rest))) (drop_all i values past)
    ∙ ap Some (append-nil read))
