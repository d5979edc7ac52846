-- Calls whose disks, or whose job source, no contract sees.
use Rattle.std.specs.Prelude.{◌≡◌, ◌⊎◌, Bool, false, List, String}
use Rattle.std.specs.declared.alloc.Global.{Global}
use Rattle.bm_rack.specs.RackView.{RackView}
use Rattle.bm_mirror.specs.declared.sides.Side.{Side}
use Rattle.bm_top.specs.Moment.{SourceView, SinkView, devices_of, moment_of, tells_of}
use Rattle.bm_top.specs.TopCall.{TopCall}
use Rattle.bm_top.specs.Words.{IsJobWords}
use Rattle.bm_top.specs.declared.words.Command.TheVariants.{On}
use Rattle.bm_top.specs.declared.words.Verb.{Verb}
use Rattle.bm_top.specs.declared.status.Status.{Status}
use Rattle.bm_kind_call.specs.KindTop.{KindTop}
use Rattle.bm_kind_call.specs.Words.{IsNoKind}
use Rattle.bm_mirror_call.specs.MirrorCall.{MirrorTop}
use Rattle.bm_mirror_call.specs.Seen.{MirrorSeen, mirror_devices, mirror_moment, sides_tell, tells_over}
use Rattle.bm_mirror_call.specs.Words.{IsMirrorCommand}
use Rattle.bm_program.specs.declared.one_job.OneJob.{OneJob}
use Rattle.bm_program.specs.declared.one_job.OneJob.TheVariants.{Command, Transform, Mirror}

-- which of a job source, an input and an output tell what they hold
pub record StreamsTell : Type 0 where
  pub job : Bool
  pub input : Bool
  pub out : Bool

-- these streams at one moment
pub record Streams : Type 0 where
  pub job : SourceView
  pub input : SourceView
  pub out : SinkView

-- these, in short
abbrev pub streams_tell : Bool → Bool → Bool → StreamsTell
streams_tell job input out = record { job = job; input = input; out = out }

abbrev pub streams_of : SourceView → SourceView → SinkView → Streams
streams_of job input out = record { job = job; input = input; out = out }

-- the call was made with these streams, over disks that tell nothing
abbrev pub CallsOver : OneJob → StreamsTell → List (String Global) → Streams → Status → Streams → Type 0
CallsOver Command t words old answer new = (before : RackView) × (after : RackView)
    × TopCall (tells_of t.job t.input t.out false false) words (moment_of old.job (devices_of old.input old.out before)) answer
    (moment_of new.job (devices_of new.input new.out after))
CallsOver Transform t words old answer new = (before : RackView) × (after : RackView)
    × KindTop (tells_of t.job t.input t.out false false) words (moment_of old.job (devices_of old.input old.out before)) answer
    (moment_of new.job (devices_of new.input new.out after))
CallsOver Mirror t words old answer new = (start : Side → MirrorSeen) × (end : MirrorSeen)
    × MirrorTop (tells_over t.job t.input t.out (sides_tell false false false false)) words
    (λ first. mirror_moment old.job (mirror_devices old.input old.out (start first))) answer
    (mirror_moment new.job (mirror_devices new.input new.out end))

-- the words name no job of such a call
abbrev pub NamesNoJob : OneJob → List (String Global) → Type 0
NamesNoJob Command words = (verb : Verb) → ¬ IsJobWords words verb
NamesNoJob Transform words = IsNoKind words
NamesNoJob Mirror words = (side : Side) (verb : Verb) → ¬ IsMirrorCommand words side (On verb)

-- The call was made with this input and output, over such disks and with a job source of its own. That source tells what it holds only
-- where the words name no job; else it is a file.
abbrev pub CallsWithJob : OneJob → Bool → Bool → List (String Global) → SourceView → SinkView → Status → SourceView → SinkView → Type 0
CallsWithJob call told_input told_out words input out answer new_input new_out =
    (told : Bool) × ((told ≡ false) ⊎ NamesNoJob call words) × (before : SourceView) × (after : SourceView)
    × CallsOver call (streams_tell told told_input told_out) words (streams_of before input out) answer
    (streams_of after new_input new_out)
