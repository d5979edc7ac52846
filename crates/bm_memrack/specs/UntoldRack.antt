-- What a contract sees of a rack that keeps nothing.
use Rattle.bm_rack.specs.RackView.{RackView}
use Rattle.bm_rack.specs.Untold.{untold_view}
use Rattle.bm_memrack.specs.declared.untold_rack.UntoldRack.{UntoldRack}

-- its count of faults is 0
abbrev pub view_of : UntoldRack → RackView
view_of r = untold_view r.attached 0 r.moves r.pages r.syncs
