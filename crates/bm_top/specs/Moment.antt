-- What a contract sees of all that the top call is lent, at one moment.
use Rattle.std.specs.Prelude.{ℕ, List, Bool, IsTrue}
use Rattle.bm_rack.specs.RackView.{RackView}

-- of a source: the bytes that are left, and how many reads failed
pub record SourceView : Type 0 where
  pub left : List ℕ
  pub faults : ℕ

-- of a sink: the bytes that were taken, and how many writes failed
pub record SinkView : Type 0 where
  pub taken : List ℕ
  pub faults : ℕ

-- of what a command works on once its job is read
pub record Devices : Type 0 where
  pub input : SourceView
  pub out : SinkView
  pub rack : RackView

-- of all but the sink of the last line
pub record Moment : Type 0 where
  pub job : SourceView
  pub devices : Devices

-- Which of them tell a contract what they hold. A rack tells what stands, and its contents with what is dirty.
pub record Tells : Type 0 where
  pub job : Bool
  pub input : Bool
  pub out : Bool
  pub stands : Bool
  pub contents : Bool

-- these, in short
abbrev pub source_of : List ℕ → ℕ → SourceView
source_of left faults = record { left = left; faults = faults }

abbrev pub sink_of : List ℕ → ℕ → SinkView
sink_of taken faults = record { taken = taken; faults = faults }

abbrev pub devices_of : SourceView → SinkView → RackView → Devices
devices_of input out rack = record { input = input; out = out; rack = rack }

abbrev pub moment_of : SourceView → Devices → Moment
moment_of job devices = record { job = job; devices = devices }

abbrev pub tells_of : Bool → Bool → Bool → Bool → Bool → Tells
tells_of job input out stands contents = record { job = job; input = input; out = out; stands = stands; contents = contents }

-- the rack tells all
abbrev pub TellsRack : Tells → Type 0
TellsRack t = IsTrue t.stands × IsTrue t.contents
