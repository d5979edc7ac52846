-- The records of 8 bytes in a list of bytes, in order and at the places of an affine map.
use Rattle.std.specs.Prelude.{ℕ, List, bit_xor}
use Rattle.std.specs.Fork.{slice_chunk}
use Rattle.bm_gf2.specs.declared.matrix.Matrix.{Matrix}
use Rattle.bm_gf2.specs.Matrix.{image}

-- record i
abbrev pub record_in_order : List ℕ → ℕ → List ℕ
record_in_order bytes i = slice_chunk bytes 8 i

-- the record at the place `a i XOR plus`
abbrev pub record_at_place : Matrix → ℕ → List ℕ → ℕ → List ℕ
record_at_place a plus bytes i = slice_chunk bytes 8 (bit_xor plus (image a i))
