-- What an affine map does to an address.
use Rattle.std.specs.Prelude.{ℕ, bit_xor}
use Rattle.bm_gf2.specs.declared.affine.Affine.{Affine}
use Rattle.bm_gf2.specs.Matrix.{image}

-- the constant, XORed with the columns that x picks (Cormen, Sundquist and Wisniewski, `y = Ax + c`)
abbrev pub affine_image : Affine → ℕ → ℕ
affine_image f x = bit_xor f.c (image f.a x)
