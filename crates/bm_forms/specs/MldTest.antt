-- The definition of MLD as a test over all vectors, for what is counted by cases. It decides the definition.
use Rattle.std.specs.Prelude.{ℕ, zero, suc, ◌-◌, ◌/◌, ◌%◌, ◌^◌, ◌==◌, ◌&&◌, if◌then◌else◌, Bool, true, List, slice_index}
use Rattle.bm_gf2.specs.Vector.{xor_sum}

-- whether every number below k passes the test
unfoldable pub all_below : (ℕ → Bool) → ℕ → Bool
all_below test zero = true
all_below test (suc x) = test x && all_below test x

-- the image of x under n columns
abbrev pub image_by : List ℕ → ℕ → ℕ → ℕ
image_by cols n x = xor_sum (slice_index cols) n x

-- whether n columns send 0 alone to 0
abbrev pub is_nonsingular : List ℕ → ℕ → Bool
is_nonsingular cols n = all_below (λ x. if image_by cols n x == 0 then x == 0 else true) (2 ^ n)

-- whether each vector below 2 ^ m whose image is 0 in rows b to m-1 has an image that is 0 in rows m and above
abbrev pub is_covered : List ℕ → ℕ → ℕ → ℕ → Bool
is_covered cols n b m =
    all_below (λ x. if image_by cols n x / 2 ^ b % 2 ^ (m - b) == 0 then image_by cols n x / 2 ^ m == 0 else true) (2 ^ m)

-- whether n columns are those of an MLD matrix
abbrev pub is_mld : List ℕ → ℕ → ℕ → ℕ → Bool
is_mld cols n b m = is_nonsingular cols n && is_covered cols n b m
