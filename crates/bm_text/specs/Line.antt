-- The line that ends a command.
use Rattle.std.specs.Prelude.{codes, ℕ, List, ◌++◌}

-- a head, words and a line feed
abbrev pub headed : List ℕ → List ℕ → List ℕ
headed head words = head ++ words ++ codes "\n"

-- the program's name, the words and a line feed
abbrev pub line : List ℕ → List ℕ
line words = headed (codes "bmmc: ") words
