-- What the call does, for every command.
use Rattle.std.specs.Prelude.{◌≡◌, ◌≢◌, ◌⊎◌, ◌↔◌, ◌≤◌, ◌++◌, true, ℕ, length, take, IsTrue, List, [], String}
use Rattle.std.specs.declared.alloc.Global.{Global}
use Rattle.bm_base.specs.Count.{Rose}
use Rattle.bm_jobfile.specs.declared.job_file.JobFile.{JobFile}
use Rattle.bm_jobfile.specs.JobFile.{IsJobFile}
use Rattle.bm_mirror.specs.declared.sides.Side.{Side}
use Rattle.bm_mirror.specs.declared.sides.Side.TheVariants.{Left}
use Rattle.bm_mirror.specs.declared.sides.Sides.{Sides}
use Rattle.bm_rack.specs.RackView.{RackView}
use Rattle.bm_control.specs.Sound.{IsSound}
use Rattle.bm_top.specs.Causes.{Attaches}
use Rattle.bm_top.specs.JobRead.{JobRead, TakesShape}
use Rattle.bm_top.specs.Moment.{Tells, TellsRack, source_of, moment_of}
use Rattle.bm_top.specs.Status.{IsBeforeTask, RefusesJob}
use Rattle.bm_top.specs.TopCall.{JobCall, FlipCall}
use Rattle.bm_top.specs.declared.words.Command.{Command}
use Rattle.bm_top.specs.declared.words.Command.TheVariants as command
use Rattle.bm_top.specs.declared.words.Verb.{Verb}
use Rattle.bm_top.specs.declared.status.Status.{Status}
use Rattle.bm_top.specs.declared.status.Status.TheVariants.{Usage}
use Rattle.bm_mirror_call.specs.Healing.{HealStops, ShownAs}
use Rattle.bm_mirror_call.specs.Seen.{MirrorDevices, MirrorMoment, devices_over, devices_seen}
use Rattle.bm_mirror_call.specs.Sides.{SidesOf}
use Rattle.bm_mirror_call.specs.SidesLine.{sides_line}
use Rattle.bm_mirror_call.specs.Words.{IsMirrorCommand, IsNoMirrorCommand}

-- ---- a command that has a job

-- Once its text is read, the mirror could not be made ready for it: nothing of input and output was touched.
pub record NotReady (verb : Verb) (text : List ℕ) (old : MirrorDevices) (answer : Status) (new : MirrorDevices) : Type 0 where
  pub stops : HealStops verb text answer old.mirror.rack new.mirror.rack
  pub shows : ShownAs old.mirror.rack new.mirror.rack
  pub input : new.input ≡ old.input
  pub out : new.out ≡ old.out

-- Or it was carried out, over a mirror that showed this after it was made ready, with a source of the text that never fails. A command that
-- doesn't go on with disks that stand finds the mirror as it was.
pub record CarriedOut (t : Tells) (verb : Verb) (text : List ℕ) (old : MirrorDevices) (answer : Status) (new : MirrorDevices)
    : Type 0 where
  pub ready : RackView
  pub shows : ShownAs old.mirror.rack ready
  pub calm : ready.faults ≡ old.mirror.rack.faults
  pub idle : ¬ Attaches verb → ready ≡ old.mirror.rack
  pub rest : List ℕ
  pub call : JobCall (record t { job = true }) verb (moment_of (source_of text 0) (devices_over old ready)) answer
      (moment_of (source_of rest 0) (devices_seen new))

abbrev pub TextCall : Tells → Verb → List ℕ → MirrorDevices → Status → MirrorDevices → Type 0
TextCall t verb text old answer new = NotReady verb text old answer new ⊎ CarriedOut t verb text old answer new

-- The job source is read to its end, with the answers of a command without a mirror. One that is refused leaves all else as it was.
pub record MirrorJob (t : Tells) (verb : Verb) (old : MirrorMoment) (answer : Status) (new : MirrorMoment) : Type 0 where
  pub source : JobRead verb t.job old.job answer new.job
  pub task : (IsBeforeTask answer × (new.devices ≡ old.devices))
      ⊎ ((text : List ℕ) × (IsTrue t.job → text ≡ old.job.left) × TextCall t verb text old.devices answer new.devices)
  -- this follows from those above, as without a mirror
  pub accepted : (file : JobFile) → IsTrue t.job → IsJobFile old.job.left file → TakesShape verb file.shape
      → ¬ Rose old.job.faults new.job.faults → ¬ RefusesJob answer

-- ---- the whole call

-- what a command does: a flip is carried out at once
abbrev pub call_of : Tells → Command → MirrorMoment → Status → MirrorMoment → Type 0
call_of t (command.Flip flip) old answer new =
    FlipCall t flip (moment_of old.job (devices_seen old.devices)) answer (moment_of new.job (devices_seen new.devices))
call_of t (command.On verb) old answer new = MirrorJob t verb old answer new

pub record CommandCall (t : Tells) (c : Command) (old : MirrorMoment) (answer : Status) (new : MirrorMoment) : Type 0 where
  pub answered : answer ≢ Usage
  pub call : call_of t c old answer new
  pub sides : SidesOf t c old.devices answer new.devices
  -- this follows from `call`, as without a mirror: one that is sound before it is made ready is sound at each exit
  pub sound : TellsRack t → IsSound old.devices.mirror.rack → IsSound new.devices.mirror.rack

-- All but the lines. The call starts from a new mirror with this side first; where the words are none of a mirror, that is left, and it is
-- handed back.
pub record MirrorTop (t : Tells) (words : List (String Global)) (start : Side → MirrorMoment) (answer : Status) (new : MirrorMoment)
    : Type 0 where
  pub usage : (answer ≡ Usage) ↔ IsNoMirrorCommand words
  pub nothing : IsNoMirrorCommand words → new ≡ start Left
  pub call : (first : Side) (c : Command) → IsMirrorCommand words first c → CommandCall t c (start first) answer new

-- ---- the lines

-- what follows the line of an answer: that of the sides, but after words that are none of a mirror
abbrev pub last_line : Status → Sides → List ℕ
last_line Usage sides = []
last_line _ sides = sides_line sides

-- a front of these bytes was appended, and then one of those
abbrev pub AppendsFronts : List ℕ → List ℕ → List ℕ → List ℕ → Type 0
AppendsFronts old new first second =
    (j : ℕ) × (j ≤ length first) × (k : ℕ) × (k ≤ length second) × (new ≡ old ++ take j first ++ take k second)
