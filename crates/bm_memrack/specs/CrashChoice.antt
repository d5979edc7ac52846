-- What a stop leaves of the units of a rack.
use Rattle.std.specs.Prelude.{◌≡◌, ℕ, ◌<◌, map, ◌+◌, ◌-◌, ◌*◌, ◌/◌, ◌%◌, ◌^◌, Bool, List, ◌++◌, length, take, replicate, count_by}
use Rattle.std.specs.Prelude.{if◌then◌else◌, ◌==◌}
use Rattle.std.specs.List.{range_with_len}
use Rattle.bm_base.specs.declared.dims.Dims.{Dims}
use Rattle.bm_base.specs.Contents.{Contents, RackUnit, block_unit, page_unit, unit_at}
use Rattle.bm_memrack.specs.BlockCopy.{number}
use Rattle.bm_memrack.specs.declared.crash_choice.CrashChoice.{CrashChoice}
use Rattle.bm_memrack.specs.declared.crash_choice.CrashChoice.TheVariants.{Written, Zeros, Ones, FrontHalf}

-- the two-bit digit of pick for the dirty unit of this number
abbrev pub digit_of : ℕ → ℕ → ℕ
digit_of pick unit = pick / 2 ^ (2 * (unit % 32)) % 4

-- what that digit chooses
abbrev pub choice_of : ℕ → ℕ → CrashChoice
choice_of pick unit =
    if digit_of pick unit == 0 then Written else
    if digit_of pick unit == 1 then Zeros else
    if digit_of pick unit == 2 then Ones else FrontHalf

-- what a choice leaves of the bytes of a unit
abbrev pub remains_of : CrashChoice → List ℕ → List ℕ
remains_of Written bytes = bytes
remains_of Zeros bytes = replicate (length bytes) 0
remains_of Ones bytes = replicate (length bytes) 255
remains_of FrontHalf bytes = take (length bytes / 2) bytes ++ replicate (length bytes - length bytes / 2) 0

-- how many of the first k units are dirty
unfoldable pub dirty_count : (ℕ → Bool) → ℕ → ℕ
dirty_count dirty k = count_by (λ flag. flag) (map dirty (range_with_len 0 k))

-- Unit k of a list after a stop. A clean one stays; a dirty one is counted after those before it, from a first number on.
abbrev pub unit_after : (ℕ → Bool) → ℕ → ℕ → ℕ → List ℕ → List ℕ
unit_after dirty first pick k bytes = if dirty k then remains_of (choice_of pick (first + dirty_count dirty k)) bytes else bytes

-- the number of a dirty unit of a rack, from 0: pages first in order, and then the blocks by disk and place
abbrev pub unit_number : Dims → (RackUnit → Bool) → RackUnit → ℕ
unit_number dims dirty (page_unit page) = dirty_count (λ p. dirty (page_unit p)) page
unit_number dims dirty (block_unit disk place) =
    dirty_count (λ p. dirty (page_unit p)) 516
    + dirty_count (λ n. dirty (block_unit (n / dims.places) (n % dims.places))) (number dims disk place)

-- a unit that a rack of these sizes has
abbrev pub IsUnit : Dims → RackUnit → Type 0
IsUnit dims (page_unit page) = page < 516
IsUnit dims (block_unit disk place) = (disk < dims.disks) × (place < dims.places)

-- a rack after a stop: each dirty unit has what its digit of pick chooses, and every other unit is as before
abbrev pub LeavesChosen : Dims → ℕ → (RackUnit → Bool) → Contents → Contents → Type 0
LeavesChosen dims pick dirty old new = (u : RackUnit) → IsUnit dims u
    → unit_at new u ≡ (if dirty u then remains_of (choice_of pick (unit_number dims dirty u)) (unit_at old u) else unit_at old u)
