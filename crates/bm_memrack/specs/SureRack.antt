-- What a contract sees of a rack in memory that never fails.
use Rattle.std.specs.Prelude.{true, false}
use Rattle.bm_rack.specs.RackView.{RackView}
use Rattle.bm_memrack.specs.declared.sure_rack.SureRack.{SureRack}
use Rattle.bm_memrack.specs.Store.{memory_view}

-- its count of faults is 0, it is always steady, and no stop is ahead
abbrev pub view_of : SureRack → RackView
view_of r = memory_view r.store r.attached 0 r.moves r.pages r.syncs true false
