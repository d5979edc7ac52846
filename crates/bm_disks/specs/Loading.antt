-- What a load of records leaves on a rack.
use Rattle.std.specs.Prelude.{◌≡◌, ◌⊎◌, ℕ, ◌+◌, ◌^◌, false, List, length, Some}
use Rattle.bm_base.specs.declared.dims.Dims.{Dims}
use Rattle.bm_base.specs.declared.shape.Shape.{Shape}
use Rattle.bm_base.specs.declared.area.Area.TheVariants.{Input}
use Rattle.bm_base.specs.Contents.{Contents, RackUnit, page_unit, unit_at, page_at}
use Rattle.bm_base.specs.Gate.{IsOpenGate, IsClosedGate}
use Rattle.bm_base.specs.Records.{record_at, record_in, SameRecords}
use Rattle.bm_base.specs.Shape.{stripes, input_size}
use Rattle.bm_rack.specs.RackView.{RackView}
use Rattle.bm_rack.specs.Calls.{IsPage}
use Rattle.bm_rack.specs.Image.{InEveryImage, IsInputUnit}
use Rattle.bm_rack.specs.Frames.{RaisesCounts}
use Rattle.bm_stripe.specs.Units.{IsAreaUnit}
use Rattle.bm_control.specs.PageCalls.{IsLoadPage}
use Rattle.bm_control.specs.Closing.{IsShut}
use Rattle.bm_control.specs.Pages.{load_body, load_gate, job_gate, HasOpenLoad, HasClosedLoad, HasClosedJob, HasLoadBody}

-- the pages of both gates
abbrev pub IsGatePage : RackUnit → Type 0
IsGatePage u = IsPage job_gate u ⊎ IsPage load_gate u

-- what a load writes: the blocks of the input, the load body, and both gates
abbrev pub IsLoadingUnit : Shape → RackUnit → Type 0
IsLoadingUnit s u = IsAreaUnit s Input u ⊎ (IsLoadPage u ⊎ IsPage job_gate u)

-- the load gate and the job gate are closed in every image
abbrev pub AreGatesClosed : RackView → Type 0
AreGatesClosed v = InEveryImage (λ c. HasClosedLoad c × HasClosedJob c) v

-- The gates after a load: records of this shape are loaded, and no job is open.
pub record HasLoad (s : Shape) (old new : Contents) : Type 0 where
  pub body : HasLoadBody s new
  pub opened : HasOpenLoad new
  pub no_job : IsShut (page_at old job_gate) (page_at new job_gate)

-- the input's records are these bytes, cut into pieces of a record
abbrev pub HoldsInput : Shape → List ℕ → Contents → Type 0
HoldsInput s bytes v = SameRecords (2 ^ s.n) (record_at v s Input) (record_in s bytes)

-- the load gate is closed, and no stop opens it
abbrev pub IsLoadShut : RackView → Type 0
IsLoadShut v = (v.dirty (page_unit load_gate) ≡ false) × IsClosedGate (page_at v.contents load_gate)

-- an image has the input of this rack, and its load body where that was clean
pub record HasLoadOf (old : RackView) (image : Contents) : Type 0 where
  pub input : (dims : Dims) → old.stands ≡ Some dims → (u : RackUnit) → IsInputUnit dims u → unit_at image u ≡ unit_at old.contents u
  pub body : old.dirty (page_unit load_body) ≡ false → page_at image load_body ≡ page_at old.contents load_body

-- Where an image has the load gate open, it holds the N records of an input that held just these; or it has the load of before, and the
-- load gate was open in some image then too.
abbrev pub OpensWhole : Shape → List ℕ → RackView → Contents → Type 0
OpensWhole s bytes old image = HasOpenLoad image
    → ((length bytes ≡ input_size s) × HoldsInput s bytes image) ⊎ (HasLoadOf old image × (¬ InEveryImage HasClosedLoad old))

-- how many page calls it takes to close this gate: one where it is open, and none where it is closed
abbrev pub IsClosing : List ℕ → ℕ → Type 0
IsClosing page calls = (IsOpenGate page × (calls ≡ 1)) ⊎ (IsClosedGate page × (calls ≡ 0))

-- The calls of a load that is carried out: a row write for each row, a read of each gate, a write and a sync for each that is open, and the
-- writes of the body and the gate with a sync after each. A sync goes before.
abbrev pub LoadCalls : Shape → Contents → RackView → RackView → Type 0
LoadCalls s v old new = (load job : ℕ) → IsClosing (page_at v load_gate) load → IsClosing (page_at v job_gate) job
    → RaisesCounts (stripes s) (4 + (load + job)) (3 + (load + job)) old new
