-- The view of a rack that tells nothing is well formed.
use Rattle.std.specs.Prelude.{ℕ, ◌^◌, ◌<◌, false, Option}
use Rattle.std.proofs.lemmas.Bool.{false≢true}
use Rattle.bm_base.specs.declared.dims.Dims.{Dims}
use Rattle.bm_rack.specs.RackView.{IsWellFormed}
use Rattle.bm_rack.specs.Untold.{untold_view}

-- its counts fit, and of the rest nothing is told
pub untold_is_consistent : (attached : Option Dims) (faults moves pages syncs : ℕ) → faults < 2 ^ 64 → moves < 2 ^ 64 → pages < 2 ^ 64
    → syncs < 2 ^ 64 → IsWellFormed false false (untold_view attached faults moves pages syncs)
untold_is_consistent attached faults moves pages syncs f m p s = record {
  attached = λ told. absurd (false≢true told);
  sizes = λ told. absurd (false≢true told);
  faults = f;
  moves = m;
  pages = p;
  syncs = s;
}
