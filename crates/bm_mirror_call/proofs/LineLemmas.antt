-- The two lines, written one after the other.
use Rattle.std.proofs.Common.{◌≡◌, ◌≢◌, ℕ, ◌++◌, List, take, ap, ◌∙◌, refl}
use Rattle.bm_rack.specs.Sink.{AppendsFront}
use Rattle.bm_mirror.specs.declared.sides.Sides.{Sides}
use Rattle.bm_top.specs.declared.status.Status.{Status}
use Rattle.bm_top.specs.declared.status.Status.TheVariants.{Done, OutOfMemory, Usage, JobFault, JobText, JobField, JobShape, JobMap}
use Rattle.bm_top.specs.declared.status.Status.TheVariants.{DataFault, DataShort, DataLong, RackFault, NoDisks, WrongDims, Exists}
use Rattle.bm_top.specs.declared.status.Status.TheVariants.{NotLoaded, OtherShape, OtherJob, NotDone, NoJob, BadPage, SinkFault, OutOfRange}
use Rattle.bm_top.specs.declared.status.Status.TheVariants.{NotAffine, NotPermutation, BatchShape}
use Rattle.bm_mirror_call.specs.MirrorCall.{AppendsFronts, last_line}
use Rattle.bm_mirror_call.specs.SidesLine.{sides_line}

-- fronts of both were written
pub lines_fronts : (old mid new first second : List ℕ) → AppendsFront old mid first → AppendsFront mid new second
    → AppendsFronts old new first second
lines_fronts old mid new first second x y =
    (x.0, x.1, y.0, y.1, y.2 ∙ ap (λ (m : List ℕ). m ++ take y.0 second) x.2)

-- what follows an answer that is no usage
pub last_is : (status : Status) (sides : Sides) → status ≢ Usage → sides_line sides ≡ last_line status sides
last_is Usage sides other = absurd (other refl)
last_is Done sides other = refl
last_is OutOfMemory sides other = refl
last_is JobFault sides other = refl
last_is JobText sides other = refl
last_is (JobField which) sides other = refl
last_is (JobShape rule) sides other = refl
last_is (JobMap fault) sides other = refl
last_is DataFault sides other = refl
last_is (DataShort got) sides other = refl
last_is DataLong sides other = refl
last_is RackFault sides other = refl
last_is NoDisks sides other = refl
last_is WrongDims sides other = refl
last_is Exists sides other = refl
last_is NotLoaded sides other = refl
last_is OtherShape sides other = refl
last_is OtherJob sides other = refl
last_is (NotDone done all) sides other = refl
last_is NoJob sides other = refl
last_is (BadPage page) sides other = refl
last_is SinkFault sides other = refl
last_is (OutOfRange x y) sides other = refl
last_is (NotAffine x y want) sides other = refl
last_is (NotPermutation x) sides other = refl
last_is (BatchShape bay) sides other = refl
