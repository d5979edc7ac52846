-- What stands, by the lengths of a rack's files.
use Rattle.std.specs.Prelude.{ℕ, ◌≡◌, ◌*◌, ◌^◌, ◌<◌, ◌≤◌, nat_lt, if◌then◌else◌, List, Option, Some, None, All, EachIndex, slice_index_or}
use Rattle.bm_base.specs.declared.dims.Dims.{Dims}
use Rattle.bm_rack.specs.declared.rack.Found.{Found}
use Rattle.bm_rack.specs.declared.rack.Found.TheVariants.{Ready, Absent, Other}

-- the length of a disk's file in a rack of so many disks of one length
abbrev pub length_of : ℕ → ℕ → ℕ → Option ℕ
length_of count wanted disk = if nat_lt disk count then Some wanted else None

-- there is no file
pub record IsNothing (slate : Option ℕ) (disks : List (Option ℕ)) : Type 0 where
  pub no_slate : slate ≡ None
  pub no_disk : All (λ length. length ≡ None) disks

-- there are exactly the files of a rack of these sizes
pub record IsRack (dims : Dims) (slate : Option ℕ) (disks : List (Option ℕ)) : Type 0 where
  pub few : dims.disks ≤ 64
  pub fits : dims.places * dims.block < 2 ^ 63
  pub pages : slate ≡ Some 264192
  pub blocks : EachIndex disks (λ disk. slice_index_or disks disk None ≡ length_of dims.disks (dims.places * dims.block) disk)

-- what stands: no file, the files of such a rack, or anything else
abbrev pub Stands : Dims → Option ℕ → List (Option ℕ) → Found → Type 0
Stands dims slate disks Absent = IsNothing slate disks
Stands dims slate disks Ready = IsRack dims slate disks
Stands dims slate disks Other = (¬ IsNothing slate disks) × (¬ IsRack dims slate disks)
