-- Bays that are filled in order.
use Rattle.std.specs.Prelude.{Err, ◌≡◌, ◌≢◌, ℕ, ◌*◌, ◌≤◌, Bool, IsTrue, List, length, drop, Result, IsOk, IfErr}
use Rattle.bm_base.specs.declared.shape.Shape.{Shape}
use Rattle.bm_base.specs.Count.{raised, Rose}
use Rattle.bm_base.specs.Shape.{stripes, input_size}
use Rattle.bm_rack.specs.RackView.{RackView}
use Rattle.bm_rack.specs.Frames.{Keeps, HasCause}
use Rattle.bm_control.specs.Pages.{HasClosedJob}
use Rattle.bm_control.specs.Sound.{IsSound}
use Rattle.bm_disks.specs.declared.load_error.LoadError.{LoadError}
use Rattle.bm_disks.specs.declared.load_error.LoadError.TheVariants.{Failed, DataFault, DataShort, DataLong}
use Rattle.bm_disks.specs.Input.{IsRead, EndsAfter}
use Rattle.bm_disks.specs.Loading.{AreGatesClosed, HoldsInput, IsLoadShut}
use Rattle.bm_top.specs.Moment.{SourceView, Tells}
use Rattle.bm_top.specs.declared.status.Status.{Status}
use Rattle.bm_batch_call.specs.Bays.{RowsFew, BayFilled, FillRefusal}
use Rattle.bm_batch_call.specs.Lists.{UpTo, EndsAt}
use Rattle.bm_batch_call.specs.Moment.{no_view}

-- attached disks that are filled, with no gate opened
pub record DisksFilled (ti ts tc : Bool) (s : Shape) (source : SourceView) (old : RackView) (result : Result (Unit {0}) LoadError)
    (rest : SourceView) (new : RackView) : Type 0 where
  pub whole : IsTrue ti → IsOk result → input_size s ≤ length source.left
  pub taken : IsTrue ti → IsOk result → rest.left ≡ drop (input_size s) source.left
  pub short : (got : ℕ) → result ≡ Err (DataShort got) → EndsAfter ti (input_size s) source.left rest.left got
  pub long : result ≢ Err DataLong
  pub few : IsTrue ti → IsRead (input_size s) source.left rest.left
  pub data_fault : result ≡ Err DataFault → Rose source.faults rest.faults
  pub faults : source.faults ≤ rest.faults
  pub holds : IsTrue ti → IsTrue tc → IsOk result → HoldsInput s source.left new.contents
  pub closed : IsTrue tc → result ≢ Err Failed → AreGatesClosed new
  pub no_job : IsTrue tc → IsOk result → HasClosedJob new.contents
  pub sound : IsTrue ts → IsTrue tc → IsSound old → IsSound new
  pub mended : IsTrue tc → result ≢ Err Failed → IsSound new
  pub stays : IsTrue tc → IsLoadShut old → IsLoadShut new
  pub stands : new.stands ≡ old.stands
  pub attached : new.attached ≡ old.attached
  pub keeps : Keeps old new
  pub cause : HasCause (result ≡ Err Failed) old new
  pub moves : RowsFew (stripes s) old new
  pub rows : IsOk result → new.moves ≡ raised old.moves (stripes s)

-- where bay `at` finds the input: what the bays before it left
pub record IsFrom (ti : Bool) (s : Shape) (source : SourceView) (at : ℕ) (here : SourceView) : Type 0 where
  pub before : IsTrue ti → at * input_size s ≤ length source.left
  pub left : IsTrue ti → here.left ≡ drop (at * input_size s) source.left
  pub faults : source.faults ≤ here.faults

-- bay k holds its part
abbrev pub HoldsItsPart : Tells → Shape → SourceView → ℕ → RackView → RackView → Type 0
HoldsItsPart t s source k old new = BayFilled t s (drop (k * input_size s) source.left) old new

-- one bay was not filled
pub record FillsRefusal (t : Tells) (s : Shape) (source : SourceView) (old : List RackView) (e : Status) (rest : SourceView)
    (new : List RackView) : Type 0 where
  pub at : ℕ
  pub here : SourceView
  pub is_from : IsFrom t.input s source at here
  pub bays : EndsAt no_view (HoldsItsPart t s source) (λ k was is. FillRefusal t s here was e rest is) at old new
  pub faults : here.faults ≤ rest.faults

pub record FillsCall (t : Tells) (s : Shape) (source : SourceView) (old : List RackView) (result : Result (Unit {0}) Status)
    (rest : SourceView) (new : List RackView) : Type 0 where
  pub filled : IsOk result → UpTo no_view (HoldsItsPart t s source) (length old) old new
  pub taken : IsOk result → IsFrom t.input s source (length old) rest
  pub few : IsTrue t.input → IsRead (length old * input_size s) source.left rest.left
  pub refused : IfErr result (λ e. FillsRefusal t s source old e rest new)
