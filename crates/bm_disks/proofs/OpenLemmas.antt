-- A job that is looked at.
use Rattle.std.proofs.Common.{Ok, Err, ◌≡◌, inr, ℕ, ◌+◌, ◌*◌, Bool, IsTrue, Some, Result, IsErrAnd, IsOk, IfOk, refl, sym, ◌∙◌, subst}
use Rattle.std.proofs.Common.{arith}
use Rattle.bm_base.specs.declared.dims.Dims.{Dims}
use Rattle.bm_base.specs.declared.shape.Shape.{Shape}
use Rattle.bm_base.specs.Contents.{Contents}
use Rattle.bm_base.specs.Shape.{dims_of}
use Rattle.bm_forms.specs.declared.job.Job.{Job}
use Rattle.bm_rack.specs.RackView.{RackView, IsWellFormed}
use Rattle.bm_rack.specs.Frames.{RaisesCounts, MakesPageCalls}
use Rattle.bm_control.specs.declared.state.SlateState.{SlateState}
use Rattle.bm_control.specs.declared.state.SlateState.TheVariants.{Closed, Loaded, Working}
use Rattle.bm_control.specs.declared.state.ControlError.{ControlError}
use Rattle.bm_control.specs.declared.state.ControlError.TheVariants as control
use Rattle.bm_control.specs.Consistent.{GatesAre, IsConsistent}
use Rattle.bm_control.specs.Sound.{IsSound}
use Rattle.bm_control.specs.State.{StateAnswer}
use Rattle.bm_control.specs.StateCalls.{StateCalls}
use Rattle.bm_control.proofs.ImageLemmas.{image_self}
use Rattle.bm_control.proofs.EqualLemmas.{error_is}
use Rattle.bm_control.proofs.GoneLemmas.{all_done_means}
use Rattle.bm_control.proofs.StateCallLemmas.{reads_wider}
use Rattle.bm_control.proofs.WrongPageLemmas.{no_bad_page}
use Rattle.bm_job.specs.Runs.{IsRunnable}
use Rattle.bm_job.proofs.BeginLemmas.{err_injective, told_of}
use Rattle.bm_job.proofs.BeginCallLemmas.{sync_read}
use Rattle.bm_job.proofs.EndLemmas.{loaded_shape, open_job}
use Rattle.bm_disks.specs.declared.job_opening.OpenJob.{OpenJob}
use Rattle.bm_disks.specs.declared.job_opening.OpenError.{OpenError}
use Rattle.bm_disks.specs.declared.job_opening.OpenError.TheVariants.{Failed, BadPage, NotLoaded, OtherShape, NoJob, OtherJob}
use Rattle.bm_disks.specs.JobOpening.{open_error, OpenAnswer, ReadAnswer, IsOpenCase, LastAreaMeans}

-- a refusal of the control file is one of the look
refused : (s : Shape) (job : Job) (v : Contents) (e : ControlError) → StateAnswer v (Err e) → OpenAnswer s job v (Err (open_error e))
refused s job v control.Failed answer = tt
refused s job v (control.BadPage page) answer = answer

pub answer_refused : (s : Shape) (job : Job) (v w : Contents) (e : ControlError) (r : Result OpenJob OpenError) → w ≡ v
    → IsErrAnd r (λ made. made ≡ open_error e) → StateAnswer w (Err e) → OpenAnswer s job v r
answer_refused s job v w e r same is answer =
    subst (OpenAnswer s job v) (sym (error_is r (open_error e) is))
    (refused s job v e (subst (λ (c : Contents). StateAnswer c (Err e)) same answer))

-- what a state that was read says of the job
read_told : (s : Shape) (job : Job) (v : Contents) (state : SlateState) (r : Result OpenJob OpenError) → StateAnswer v (Ok state)
    → ReadAnswer s job state r → OpenAnswer s job v r
read_told s job v state (Ok o) answer read =
    (read.0, told_of v v state (Working s job o.passes o.done o.every o.part read.0) refl read.1 answer)
read_told s job v state (Err Failed) answer read = tt
read_told s job v state (Err (BadPage page)) answer read = absurd read
read_told s job v state (Err NotLoaded) answer read = told_of v v state Closed refl read answer
read_told s job v state (Err OtherShape) answer read = (state, answer, read)
read_told s job v state (Err NoJob) answer read = told_of v v state (Loaded s) refl read answer
read_told s job v state (Err OtherJob) answer read = (state, answer, read.0, read.1)

pub answer_read : (s : Shape) (job : Job) (v w : Contents) (state : SlateState) (r : Result OpenJob OpenError) → w ≡ v
    → StateAnswer w (Ok state) → ReadAnswer s job state r → OpenAnswer s job v r
answer_read s job v w state r same answer read =
    read_told s job v state r (subst (λ (c : Contents). StateAnswer c (Ok state)) same answer) read

-- no page of consistent contents is wrong
pub answer_good : (dims : Dims) (s : Shape) (job : Job) (v : Contents) (r : Result OpenJob OpenError) (page : ℕ) → IsConsistent dims v
    → OpenAnswer s job v r → ¬ (r ≡ Err (BadPage page))
answer_good dims s job v r page consistent answer is =
    no_bad_page dims v page consistent (subst (OpenAnswer s job v) is answer)

-- a job that is open can be run
open_runnable : (s : Shape) (job : Job) (v : Contents) → IsOpenCase s job v → IsRunnable s job v
open_runnable s job v open_case = record {
  load_gate = open_case.gates.load_gate;
  load_body = open_case.gates.load_body;
  job_gate = inr (open_case.passes, open_case.every, open_case.body);
}

-- A job that is open is found, where the rack did not fail.
pub answer_complete : (dims : Dims) (s : Shape) (job : Job) (v : Contents) (r : Result OpenJob OpenError) → IsConsistent dims v
    → OpenAnswer s job v r → IsOpenCase s job v → ¬ (r ≡ Err Failed) → IsOk r
answer_complete dims s job v (Ok o) consistent answer open_case sure = refl
answer_complete dims s job v (Err Failed) consistent answer open_case sure = absurd (sure refl)
answer_complete dims s job v (Err (BadPage page)) consistent answer open_case sure = absurd (no_bad_page dims v page consistent answer)
answer_complete dims s job v (Err NotLoaded) consistent answer open_case sure = absurd (answer open_case.gates.load_gate)
answer_complete dims s job v (Err OtherShape) consistent answer open_case sure =
    absurd (answer.2.2 (loaded_shape s answer.2.0 v answer.0 answer.1 answer.2.1 open_case.gates.load_body))
answer_complete dims s job v (Err NoJob) consistent answer open_case sure = absurd (answer.2 open_case.gates.job_gate)
answer_complete dims s job v (Err OtherJob) consistent answer open_case sure =
    absurd (answer.3.2 (open_job s job answer.3.0 v answer.0 answer.1 answer.3.1 (open_runnable s job v open_case)))

-- the records of the last pass's area, once all are done
last_means : (dims : Dims) (s : Shape) (job : Job) (v : Contents) (o : OpenJob) → IsConsistent dims v → OpenAnswer s job v (Ok o)
    → LastAreaMeans s job v o
last_means dims s job v o consistent answer all =
    let gates = answer.1.0 in
    let working = answer.1.1 in
    all_done_means dims v s job o.passes o.every consistent gates.job_gate gates.load_body working.body
    (subst (λ (done : ℕ). GatesAre v o.passes done) all working.stand.gates)

pub answer_means : (dims : Dims) (s : Shape) (job : Job) (v : Contents) (r : Result OpenJob OpenError) → IsConsistent dims v
    → OpenAnswer s job v r → IfOk r (λ o. LastAreaMeans s job v o)
answer_means dims s job v (Ok o) consistent answer = last_means dims s job v o consistent answer
answer_means dims s job v (Err e) consistent answer = tt

-- the contents of a sound rack that is attached
pub consistent_of : {tells_stands tells_contents : Bool} (s : Shape) (v : RackView) → IsTrue tells_stands → IsTrue tells_contents
    → IsWellFormed tells_stands tells_contents v → v.attached ≡ Some (dims_of s) → IsSound v → IsConsistent (dims_of s) v.contents
consistent_of s v told_stands told_contents well attached sound =
    let stands = well.attached told_stands (dims_of s) attached in
    let sizes = well.sizes told_stands told_contents (dims_of s) stands in
    sound.consistent (dims_of s) stands (dims_of s) v.contents stands (image_self v (dims_of s) sizes)

-- a look answers `Failed` only by the control file
error_failed : (e : ControlError) → open_error e ≡ Failed → e ≡ control.Failed
error_failed control.Failed is = refl
error_failed (control.BadPage page) is = (cc)

pub failed_of : (e : ControlError) (r : Result OpenJob OpenError) → IsErrAnd r (λ made. made ≡ open_error e) → r ≡ Err Failed
    → e ≡ control.Failed
failed_of e r made is = error_failed e (err_injective {T = OpenJob} (open_error e) Failed (sym (error_is r (open_error e) made) ∙ is))

pub never_failed : (s : Shape) (job : Job) (state : SlateState) (r : Result OpenJob OpenError) → ReadAnswer s job state r
    → ¬ (r ≡ Err Failed)
never_failed s job state r read is = subst (ReadAnswer s job state) is read

-- the calls of a look that finds the job
pub look_pages : {tells_stands tells_contents : Bool} (s : Shape) (job : Job) (state : SlateState) (r : Result OpenJob OpenError)
    (a b c : RackView)
    → IsWellFormed tells_stands tells_contents a → IsWellFormed tells_stands tells_contents b → ReadAnswer s job state r
    → RaisesCounts 0 0 1 a b → StateCalls (Ok state) b c → IfOk r (λ o. MakesPageCalls ⊥ (8 + 2 * o.passes) 1 a c)
look_pages s job state (Ok o) a b c well after read x y =
    let calls = subst (λ (t : SlateState). StateCalls (Ok t) b c) read.1 y in
    sync_read (8 + 2 * o.passes) (8 + 2 * o.passes) a b c well x
    (reads_wider (4 + 2 * o.passes) (8 + 2 * o.passes) (8 + 2 * o.passes) b c after (omega arith) calls.0) (omega arith)
look_pages s job state (Err e) a b c well after read x y = tt
