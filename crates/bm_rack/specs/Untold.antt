-- What a contract sees of a rack that tells neither what stands nor what it holds.
use Rattle.std.specs.Prelude.{ℕ, false, [], Option, None}
use Rattle.bm_base.specs.declared.dims.Dims.{Dims}
use Rattle.bm_base.specs.Contents.{Contents}
use Rattle.bm_rack.specs.RackView.{RackView}

-- empty contents, which stand for what is not told
abbrev pub untold_contents : Contents
untold_contents = record { disks = []; pages = [] }

-- the view of such a rack, which may fail at any time
abbrev pub untold_view : Option Dims → ℕ → ℕ → ℕ → ℕ → RackView
untold_view attached faults moves pages syncs = record {
  stands = None;
  contents = untold_contents;
  dirty = λ u. false;
  attached = attached;
  faults = faults;
  moves = moves;
  pages = pages;
  syncs = syncs;
  steady = false;
  stopping = false;
  lasting = λ fact. false;
}
