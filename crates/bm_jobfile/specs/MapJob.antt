-- The job that a text's map stands for, and the first fault of the map.
use Rattle.std.specs.Prelude.{ℕ, ◌≡◌, ◌≢◌, ◌⊎◌, ◌+◌, ◌-◌, ◌*◌, ◌/◌, ◌%◌, ◌^◌, ◌<◌, ◌≤◌, slice_index, bit_xor}
use Rattle.std.specs.Int.{bit_at}
use Rattle.bm_base.specs.declared.shape.Shape.{Shape}
use Rattle.bm_gf2.specs.declared.affine.Affine.{Affine}
use Rattle.bm_gf2.specs.Vector.{xor_sum}
use Rattle.bm_gf2.specs.Matrix.{IsNonsingular}
use Rattle.bm_gf2.specs.Affine.{affine_image}
use Rattle.bm_named.specs.GrayCode.{xor_of_bits}
use Rattle.bm_named.specs.BitOrder.{BitsFaultIs}
use Rattle.bm_named.specs.RowList.{RowsFaultIs}
use Rattle.bm_named.specs.declared.map_fault.MapFault.{MapFault}
use Rattle.bm_named.specs.declared.map_fault.MapFault.TheVariants as fault
use Rattle.bm_forms.specs.declared.job.Job.{Job}
use Rattle.bm_forms.specs.declared.job.Job.TheVariants as job
use Rattle.bm_jobfile.specs.declared.map_table.NamedMap.{NamedMap}
use Rattle.bm_jobfile.specs.declared.map_table.NamedMap.TheVariants.{Identity, Reversal, BitReversal, Transpose}
use Rattle.bm_jobfile.specs.declared.map_table.NamedMap.TheVariants.{Gray, InverseGray, Rotation, Bits, Rows}
use Rattle.bm_jobfile.specs.declared.map_table.MapText.{MapText}
use Rattle.bm_jobfile.specs.declared.map_table.MapText.TheVariants.{Permute, Walsh}

-- what the map of this name makes of each address of n bits
abbrev pub IsNamedMap : ℕ → NamedMap → (ℕ → ℕ) → Type 0
IsNamedMap n Identity f = (x : ℕ) → x < 2 ^ n → f x ≡ x
IsNamedMap n Reversal f = (x : ℕ) → x < 2 ^ n → f x ≡ 2 ^ n - 1 - x
IsNamedMap n BitReversal f = (x i : ℕ) → x < 2 ^ n → i < n → bit_at (f x) i ≡ bit_at x (n - 1 - i)
IsNamedMap n (Transpose p) f = (i j : ℕ) → i < 2 ^ p → j < 2 ^ (n - p) → f (i * 2 ^ (n - p) + j) ≡ j * 2 ^ p + i
IsNamedMap n Gray f = (x : ℕ) → x < 2 ^ n → f x ≡ bit_xor x (x / 2)
IsNamedMap n InverseGray f = (x i : ℕ) → x < 2 ^ n → i < n → bit_at (f x) i ≡ xor_of_bits n i x
IsNamedMap n (Rotation by) f = (x i : ℕ) → x < 2 ^ n → i < n → bit_at (f x) i ≡ bit_at x ((i + by) % n)
IsNamedMap n (Bits list) f = (x i : ℕ) → x < 2 ^ n → i < n → bit_at (f x) i ≡ bit_at x (slice_index list i)
IsNamedMap n (Rows rows) f = (x i : ℕ) → x < 2 ^ n → i < n → bit_at (f x) i ≡ xor_sum (bit_at (slice_index rows i)) n x

-- the first fault of a map of addresses of n bits
abbrev pub NamedFaultIs : ℕ → NamedMap → MapFault → Type 0
NamedFaultIs n Identity e = ⊥
NamedFaultIs n Reversal e = ⊥
NamedFaultIs n BitReversal e = ⊥
NamedFaultIs n (Transpose p) e = (e ≡ fault.Side p) × (n < p)
NamedFaultIs n Gray e = ⊥
NamedFaultIs n InverseGray e = ⊥
NamedFaultIs n (Rotation by) e = ⊥
NamedFaultIs n (Bits list) e = BitsFaultIs n list e
NamedFaultIs n (Rows rows) e = RowsFaultIs n rows e

-- the map has no fault
abbrev pub NamedIsFaultless : ℕ → NamedMap → Type 0
NamedIsFaultless n named = (e : MapFault) → ¬ NamedFaultIs n named e

-- the first fault of a text's map: its own, then a complement with a bit past the addresses; for the transform the width
abbrev pub MapFaultIs : Shape → MapText → MapFault → Type 0
MapFaultIs s Walsh e = (e ≡ fault.Width) × (s.width ≢ 8)
MapFaultIs s (Permute named complement) e =
    NamedFaultIs s.n named e ⊎ ((e ≡ fault.Complement complement) × (2 ^ s.n ≤ complement) × NamedIsFaultless s.n named)

-- the text's map has no fault
abbrev pub MapIsFaultless : Shape → MapText → Type 0
MapIsFaultless s text = (e : MapFault) → ¬ MapFaultIs s text e

-- A nonsingular map of n bits: the named one followed by XOR with the complement. So XOR with it gives the named one again.
pub record IsPermuteOf (n : ℕ) (named : NamedMap) (complement : ℕ) (map : Affine) : Type 0 where
  pub size : map.a.n ≡ n
  pub nonsingular : IsNonsingular map.a
  pub value : IsNamedMap n named (λ x. bit_xor (affine_image map x) complement)

-- the job of the text
abbrev pub IsJobOf : Shape → MapText → Job → Type 0
IsJobOf s (Permute named complement) (job.Permute map) = IsPermuteOf s.n named complement map
IsJobOf s (Permute named complement) job.Walsh = ⊥
IsJobOf s Walsh (job.Permute map) = ⊥
IsJobOf s Walsh job.Walsh = s.width ≡ 8
