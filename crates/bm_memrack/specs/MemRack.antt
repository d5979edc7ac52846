-- What a contract sees of a rack in memory that fails as it was told, and which of its calls fail.
use Rattle.std.specs.Prelude.{◌≡◌, ℕ, ◌/◌, ◌<◌, List, ◌++◌, take, drop, Option, Some, is_some}
use Rattle.bm_base.specs.declared.dims.Dims.{Dims}
use Rattle.bm_base.specs.Contents.{Contents, block_at, page_at}
use Rattle.bm_rack.specs.RackView.{RackView}
use Rattle.bm_rack.specs.Calls.{place_on, disk_bytes}
use Rattle.bm_memrack.specs.declared.mem_rack.MemRack.{MemRack}
use Rattle.bm_memrack.specs.FaultList.{is_empty}
use Rattle.bm_memrack.specs.ToldCall.{IsToldCall}
use Rattle.bm_memrack.specs.StopAhead.{is_stopped, next_stop}
use Rattle.bm_memrack.specs.Store.{memory_view}

-- it is steady where no call is listed, and stopping where a stop is ahead or was reached
abbrev pub view_of : MemRack → RackView
view_of r = memory_view r.store r.attached r.list.faults r.moves r.pages r.syncs (is_empty r.list.numbers.items) (is_some r.stop)

-- a device call was made: it failed exactly where it was told to or a stop was reached, and the stop is a call nearer
pub record IsDeviceCall (failed : Type 0) (old new : MemRack) : Type 0 where
  pub told : IsToldCall (is_stopped old.stop) failed old.list new.list
  pub stop : new.stop ≡ next_stop old.stop

-- the first half of the new bytes over the old ones
abbrev pub torn : ℕ → List ℕ → List ℕ → List ℕ
torn size old bytes = take (size / 2) bytes ++ drop (size / 2) old

-- a row write that failed set the first half of each of its units
abbrev pub IsTornRow : Dims → List (Option ℕ) → List ℕ → Contents → Contents → Type 0
IsTornRow dims places bytes old new = (disk place : ℕ) → disk < dims.disks → place_on places disk ≡ Some place
    → block_at new disk place ≡ torn dims.block (block_at old disk place) (disk_bytes dims disk bytes)

-- a page write that failed set the first half of its page
abbrev pub IsTornPage : ℕ → List ℕ → Contents → Contents → Type 0
IsTornPage page bytes old new = page_at new page ≡ torn 512 (page_at old page) bytes
