-- The checksum of bytes.
use Rattle.std.specs.Prelude.{ℕ, ◌*◌, ◌%◌, ◌^◌, List, bit_xor}
use Rattle.std.specs.List.{fold}

-- the FNV-1a hash of 64 bits (Fowler, Noll, Vo)
abbrev pub fnv1a : List ℕ → ℕ
fnv1a bytes = fold (λ hash byte. bit_xor hash byte * 1099511628211 % 2 ^ 64) 14695981039346656037 bytes
