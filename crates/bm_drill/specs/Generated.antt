-- Generated records: an input that anybody can make again from its start.
use Rattle.std.specs.Prelude.{ℕ, ◌+◌, ◌*◌, ◌%◌, ◌^◌, List, map}
use Rattle.std.specs.Int.{byte_at}
use Rattle.std.specs.List.{range_with_len}

-- The number of record x: (x + start) * 0x9E3779B97F4A7C15, modulo 2 ^ 64. The factor is 2 ^ 64 over the golden ratio, to the next odd
-- number (Knuth, The Art of Computer Programming, volume 3, section 6.4).
abbrev pub generated_number : ℕ → ℕ → ℕ
generated_number start x = (x + start) * 11400714819323198485 % 2 ^ 64

-- A number's bytes from the lowest to the eighth, again and again, as many as the record has: byte i is byte `i mod 8`.
unfoldable pub spread_bytes : ℕ → ℕ → List ℕ
spread_bytes width number = map (λ i. byte_at (i % 8) number) (range_with_len 0 width)

-- record x of this width
abbrev pub generated : ℕ → ℕ → ℕ → List ℕ
generated width start x = spread_bytes width (generated_number start x)
