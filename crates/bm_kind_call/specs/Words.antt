-- The words of the call.
use Rattle.std.specs.Prelude.{◌≡◌, codes, ℕ, List, [], ◌∷◌, String}
use Rattle.std.specs.declared.alloc.Global.{Global}
use Rattle.bm_top.specs.Words.{texts_of}

-- the first word of the call
abbrev pub kind_word : List ℕ
kind_word = codes "kind"

-- they are that one and this one, which names the job
abbrev pub NamesKind : List (String Global) → List ℕ → Type 0
NamesKind words job = texts_of words ≡ kind_word ∷ job ∷ []

-- they are not
abbrev pub IsNoKind : List (String Global) → Type 0
IsNoKind words = (job : List ℕ) → ¬ NamesKind words job
