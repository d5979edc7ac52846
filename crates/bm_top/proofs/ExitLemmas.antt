-- Exits of a command at which nothing was done to the devices.
use Rattle.std.proofs.Common.{◌≢◌, inl, ℕ, Bool, List, refl, sym, ap, ◌∙◌, arith}
use Rattle.std.proofs.lemmas.List.{append-nil}
use Rattle.bm_base.specs.Contents.{RackUnit, unit_at}
use Rattle.bm_base.specs.declared.dims.Dims.{Dims}
use Rattle.bm_rack.specs.RackView.{RackView}
use Rattle.bm_rack.specs.Image.{SameInput}
use Rattle.bm_rack.specs.Sink.{AppendsFront}
use Rattle.bm_rack.specs.Frames.{SameCalls, SameDisks}
use Rattle.bm_rack.proofs.FrameLemmas.{Keeps-refl}
use Rattle.bm_rack.proofs.CallLemmas.{CallsGrow-same}
use Rattle.bm_disks.specs.Input.{IsRead}
use Rattle.bm_top.specs.Exits.{AttachedFrom, KeepsUnits, EachExit}
use Rattle.bm_top.specs.Moment.{Devices, Tells}
use Rattle.bm_top.specs.declared.task.Task.{Task}
use Rattle.bm_top.specs.declared.words.Verb.{Verb}
use Rattle.bm_top.specs.declared.status.Status.{Status}
use Rattle.bm_top.specs.declared.status.Status.TheVariants.{RackFault}

pub SameDisks-refl : (v : RackView) → SameDisks v v
SameDisks-refl v = record { stands = refl; contents = refl; dirty = refl }

pub SameCalls-refl : (v : RackView) → SameCalls v v
SameCalls-refl v = record { moves = refl; pages = refl; syncs = refl }

pub AttachedFrom-refl : (v : RackView) → AttachedFrom v v
AttachedFrom-refl v = record { disks = SameDisks-refl v; calls = SameCalls-refl v; keeps = Keeps-refl v }

-- units of disks that are as before
pub KeepsUnits-same : (P : RackUnit → Type 0) (old new : RackView) → SameDisks old new → KeepsUnits P old new
KeepsUnits-same P old new same = record {
  contents = λ u p. ap (λ c. unit_at c u) same.contents;
  dirty = λ u p clean. ap (λ (f : RackUnit → Bool). f u) same.dirty ∙ clean;
}

pub SameInput-same : (dims : Dims) (old new : RackView) → SameDisks old new → SameInput dims old new
SameInput-same dims old new same = record {
  contents = λ u p. ap (λ c. unit_at c u) same.contents;
  dirty = λ u p clean. ap (λ (f : RackUnit → Bool). f u) same.dirty ∙ clean;
}

-- nothing was read
pub IsRead-none : (most : ℕ) (xs : List ℕ) → IsRead most xs xs
IsRead-none most xs = (0, omega arith, refl)

-- nothing was written
pub AppendsFront-none : (xs bytes : List ℕ) → AppendsFront xs xs bytes
AppendsFront-none xs bytes = (0, omega arith, sym (append-nil xs))

-- where nothing was done at all
pub each_untouched : (t : Tells) (verb : Verb) (task : Task) (answer : Status) (d : Devices) → answer ≢ RackFault
    → EachExit t verb task d answer d
each_untouched t verb task answer d calm = record {
  sound = λ told sound. sound;
  stands = λ told. inl refl;
  keeps = Keeps-refl d.rack;
  fault = record { rose = λ e. absurd (calm e); sure = λ steady going. calm };
  calls = λ of. SameCalls-refl d.rack;
  grow = CallsGrow-same d.rack d.rack (SameCalls-refl d.rack);
  unattached = λ e. inl refl;
  few = λ told. IsRead-none _ d.input.left;
  input_faults = omega arith;
  out_faults = omega arith;
}
