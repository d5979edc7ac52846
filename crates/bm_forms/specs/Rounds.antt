-- The rounds of the transform.
use Rattle.std.specs.Prelude.{ℕ, zero, suc, ◌+◌, ◌-◌, ◌*◌, ◌%◌, ◌^◌, List, [], ◌∷◌, ◌++◌}
use Rattle.std.specs.Int.{div_ceil}
use Rattle.bm_base.specs.declared.shape.Shape.{Shape}

-- how many rounds the transform has: each does m bits, the last one those that are left
abbrev pub rounds_of : Shape → ℕ
rounds_of s = div_ceil s.n s.m

-- how many bits the last round does
abbrev pub last_bits : Shape → ℕ
last_bits s = s.n - (rounds_of s - 1) * s.m

-- each round ends with the rotation by its bits: the first k columns of the rotation by `by` of n bits
unfoldable pub rotation_columns : ℕ → ℕ → ℕ → List ℕ
rotation_columns n by zero = []
rotation_columns n by (suc j) = rotation_columns n by j ++ 2 ^ ((j + n - by) % n) ∷ []

-- what the rounds take together, where the rotation by `by` takes `f by`
abbrev pub over_rounds : Shape → (ℕ → ℕ) → ℕ
over_rounds s f = (rounds_of s - 1) * f s.m + f (last_bits s)
