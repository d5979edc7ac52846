-- What became of the sides of a mirror over which a command was carried out.
use Rattle.std.specs.Prelude.{◌≡◌, ◌⊎◌, ◌≤◌, Bool, IsTrue, IsFalse, Option, None}
use Rattle.bm_base.specs.declared.dims.Dims.{Dims}
use Rattle.bm_base.specs.declared.shape.Shape.{Shape}
use Rattle.bm_base.specs.Count.{Rose}
use Rattle.bm_mirror.specs.Lasting.{History}
use Rattle.bm_mirror.specs.TwoSides.{TwoSides}
use Rattle.bm_top.specs.Causes.{Attaches}
use Rattle.bm_top.specs.Moment.{Tells, TellsRack}
use Rattle.bm_top.specs.Words.{flip_by}
use Rattle.bm_top.specs.declared.words.Command.{Command}
use Rattle.bm_top.specs.declared.words.Command.TheVariants as command
use Rattle.bm_top.specs.declared.words.Verb.TheVariants.{Plan, Drill}
use Rattle.bm_top.specs.declared.status.Status.{Status}
use Rattle.bm_top.specs.declared.status.Status.TheVariants.{Done, RackFault}
use Rattle.bm_mirror_call.specs.Healing.{AreIn, NoneRose}
use Rattle.bm_mirror_call.specs.Seen.{MirrorSeen, MirrorDevices}

-- a mirror of which one side is in, and of which no call failed
pub record IsNewMirror (m : MirrorSeen) : Type 0 where
  pub some_in : IsFalse m.sides.sides.left → IsTrue m.sides.sides.right
  pub alone : IsTrue m.sides.sides.left → IsFalse m.sides.sides.right
  pub level : m.history.level ≡ m.sides.sides
  pub faults : m.history.faults ≡ 0

-- ---- the command

-- it touches no disks
abbrev pub TouchesNone : Command → Type 0
TouchesNone (command.On Plan) = Unit {0}
TouchesNone (command.On Drill) = Unit {0}
TouchesNone _ = ⊥

-- It has disks: it is none of those two, and a flip is one of a shape.
abbrev pub WorksOnDisks : Command → Type 0
WorksOnDisks (command.Flip f) = (s : Shape) × (f ≡ flip_by s f.c)
WorksOnDisks (command.On Plan) = ⊥
WorksOnDisks (command.On Drill) = ⊥
WorksOnDisks (command.On verb) = Unit {0}

-- it goes on with disks that stand
abbrev pub GoesOnWith : Command → Type 0
GoesOnWith (command.Flip f) = ⊥
GoesOnWith (command.On verb) = Attaches verb

-- Nothing stands on a side that is out; or what stands on the other one, if the command goes on with that. Where such a command is Done,
-- these are the disks of its job.
abbrev pub CanFollow : Command → Option Dims → Option Dims → Type 0
CanFollow c out first = (out ≡ None) ⊎ (GoesOnWith c × (out ≡ first))

pub record OthersFollow (c : Command) (s : TwoSides) : Type 0 where
  pub left : IsFalse s.sides.left → CanFollow c s.left.stands s.right.stands
  pub right : IsFalse s.sides.right → CanFollow c s.right.stands s.left.stands

-- ---- the sides

-- A side fell: its count of faults rose. The right one falls too by its answer to an attach, where what stands is not told on both.
abbrev pub LeftFell : TwoSides → TwoSides → Type 0
LeftFell old new = Rose old.left.faults new.left.faults

abbrev pub RightFell : Bool → History → TwoSides → TwoSides → Type 0
RightFell told h old new = Rose old.right.faults new.right.faults ⊎ (IsFalse told × IsTrue h.lapsed)

-- it is out, or the command answers that the rack failed
abbrev pub IsLost : Bool → Status → Type 0
IsLost is_in answer = IsFalse is_in ⊎ (answer ≡ RackFault)

-- No count falls. The first side is level: it was in while no call of the mirror had failed. One that is level is out, and the command
-- answers RackFault, only where it fell. Where both racks tell all, the command is Done, the side that was out could follow and no count
-- rose, both are in. A command that touches no disks leaves them.
pub record SidesAfter (t : Tells) (c : Command) (old : TwoSides) (answer : Status) (new : TwoSides) (h : History) : Type 0 where
  pub left_count : old.left.faults ≤ new.left.faults
  pub right_count : old.right.faults ≤ new.right.faults
  pub first_left : IsTrue old.sides.left → IsTrue h.level.left
  pub first_right : IsTrue old.sides.right → IsTrue h.level.right
  pub left_fell : IsTrue h.level.left → IsLost new.sides.left answer → LeftFell old new
  pub right_fell : IsTrue h.level.right → IsLost new.sides.right answer → RightFell t.stands h old new
  pub both : TellsRack t → answer ≡ Done → WorksOnDisks c → OthersFollow c old → NoneRose old new → AreIn new
  pub stays : TouchesNone c → new.sides ≡ old.sides

-- that of the devices of a command
abbrev pub SidesOf : Tells → Command → MirrorDevices → Status → MirrorDevices → Type 0
SidesOf t c old answer new = SidesAfter t c old.mirror.sides answer new.mirror.sides new.mirror.history
