-- A rack on which records are loaded.
use Rattle.std.proofs.Common.{inl, inr, ℕ, ◌+◌, ◌%◌, ◌^◌, List, Ok, Err, Result, IfErr, sym, ◌∙◌, ap, subst, arith}
use Rattle.std.specs.Fork.{slice_chunk}
use Rattle.bm_base.specs.declared.shape.Shape.{Shape}
use Rattle.bm_base.specs.declared.area.Area.TheVariants.{Input}
use Rattle.bm_base.specs.Contents.{RackUnit, block_unit, page_unit, page_at}
use Rattle.bm_rack.specs.RackView.{RackView}
use Rattle.bm_rack.specs.Frames.{ChangesOnly, DirtiesOnly, RaisesCounts}
use Rattle.bm_rack.proofs.FrameLemmas.{DirtiesOnly-changes, DirtiesOnly-trans, DirtiesOnly-wider}
use Rattle.bm_stripe.specs.Units.{IsAreaUnit}
use Rattle.bm_control.specs.Closing.{IsShut}
use Rattle.bm_control.specs.PageCalls.{IsLoadPage}
use Rattle.bm_disks.specs.declared.load_error.LoadError.{LoadError}
use Rattle.bm_disks.specs.Input.{IsInputRefusal}
use Rattle.bm_disks.specs.Loading.{IsGatePage, IsLoadingUnit, HoldsInput, AreGatesClosed}
use Rattle.bm_rack.specs.Frames.{MovesRows}
use Rattle.bm_disks.proofs.GateLemmas.{BothClosed, both_within, both_in_images}

-- the units that are written are those of a load
gate_unit : (s : Shape) (u : RackUnit) → IsGatePage u → IsLoadingUnit s u
gate_unit s u (inl job) = inr (inr job)
gate_unit s (block_unit disk place) (inr load) = absurd load
gate_unit s (page_unit page) (inr load) = inr (inl (inr load))

area_unit : (s : Shape) (u : RackUnit) → IsAreaUnit s Input u → IsLoadingUnit s u
area_unit s u is = inl is

body_unit : (s : Shape) (u : RackUnit) → IsLoadPage u → IsLoadingUnit s u
body_unit s u is = inr (inl is)

-- gates that were shut, and the input written after them
pub input_frame : (s : Shape) (a b c : RackView) → DirtiesOnly IsGatePage a b → ChangesOnly (IsAreaUnit s Input) b c
    → DirtiesOnly (IsLoadingUnit s) a c
input_frame s a b c gates input =
    DirtiesOnly-trans (IsLoadingUnit s) a b c (DirtiesOnly-wider IsGatePage (IsLoadingUnit s) a b (gate_unit s) gates)
    (DirtiesOnly-wider (IsAreaUnit s Input) (IsLoadingUnit s) b c (area_unit s) (DirtiesOnly-changes (IsAreaUnit s Input) b c input))

-- and the load gate opened last
pub loading_frame : (s : Shape) (a b c d : RackView) → DirtiesOnly IsGatePage a b → ChangesOnly (IsAreaUnit s Input) b c
    → DirtiesOnly IsLoadPage c d → DirtiesOnly (IsLoadingUnit s) a d
loading_frame s a b c d gates input load =
    DirtiesOnly-trans (IsLoadingUnit s) a c d (input_frame s a b c gates input)
    (DirtiesOnly-wider IsLoadPage (IsLoadingUnit s) c d (body_unit s) load)

-- both gates stay closed while the input is written
pub closed_through : (s : Shape) (b c : RackView) → ChangesOnly (IsAreaUnit s Input) b c → BothClosed b → BothClosed c
closed_through s b c input both =
    both_within (IsAreaUnit s Input) b c (DirtiesOnly-changes (IsAreaUnit s Input) b c input) (λ e. e) (λ e. e) both

-- a refusal of the input leaves them so
pub closed_refusal : (r : Result (Unit {0}) LoadError) (v : RackView) → BothClosed v → IfErr r (λ e. IsInputRefusal e → AreGatesClosed v)
closed_refusal (Ok x) v both = tt
closed_refusal (Err e) v both = λ _. both_in_images v both

-- the input's records stand where a load's pages alone are written
pub input_kept : (s : Shape) (bytes : List ℕ) (c d : RackView) → DirtiesOnly IsLoadPage c d → HoldsInput s bytes c.contents
    → HoldsInput s bytes d.contents
input_kept s bytes c d load holds x below =
    ap (λ (block : List ℕ). slice_chunk block s.width (x % 2 ^ s.b)) (load.contents (block_unit _ _) (λ e. e)) ∙ holds x below

-- and the job gate's page as it was left
pub job_gate_kept : (s : Shape) (old : List ℕ) (b c d : RackView) → ChangesOnly (IsAreaUnit s Input) b c → DirtiesOnly IsLoadPage c d
    → IsShut old (page_at b.contents 3) → IsShut old (page_at d.contents 3)
job_gate_kept s old b c d input load shut =
    subst (IsShut old) (sym (load.contents (page_unit 3) apart ∙ input.contents (page_unit 3) (λ e. e))) shut
  where
    apart : ¬ IsLoadPage (page_unit 3)
    apart (inl is) = omega (arith, is)
    apart (inr is) = omega (arith, is)

-- the calls of a load that is carried out
pub loading_exact : (closings rows : ℕ) (a b c d : RackView) → RaisesCounts 0 (2 + closings) (1 + closings) a b
    → MovesRows rows (Unit {0}) b c → RaisesCounts 0 2 2 c d → RaisesCounts rows (4 + closings) (3 + closings) a d
loading_exact closings rows a b c d x y z = record {
  moves = omega (arith, x.moves, y.moves.done tt, z.moves);
  pages = omega (arith, x.pages, y.pages, z.pages);
  syncs = omega (arith, x.syncs, y.syncs, z.syncs);
}
