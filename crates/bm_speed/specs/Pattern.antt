-- The bytes that the program moves.
use Rattle.std.specs.Prelude.{ℕ, ◌*◌, ◌/◌, ◌%◌, ◌^◌}

-- byte i of the pattern: the top byte of i times an odd number near 2 ^ 64 divided by the golden ratio (Fibonacci hashing; Knuth)
abbrev pub pattern_byte : ℕ → ℕ
pattern_byte i = i * 11400714819323198485 % 2 ^ 64 / 2 ^ 56
