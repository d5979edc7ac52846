-- A machine that follows a rack, once all passes are done.
use Rattle.std.proofs.Common.{◌≡◌, ℕ, ◌^◌, Some, subst}
use Rattle.bm_base.specs.Area.{area_after}
use Rattle.bm_base.specs.Contents.{HasSizes}
use Rattle.bm_base.specs.Records.{record_at, SameRecords}
use Rattle.bm_base.specs.Shape.{dims_of}
use Rattle.bm_forms.specs.Job.{meaning}
use Rattle.bm_rack.specs.RackView.{RackView}
use Rattle.bm_control.specs.Consistent.{input_of, GatesAre}
use Rattle.bm_control.proofs.GoneLemmas.{all_done_means}
use Rattle.bm_control.proofs.ImageLemmas.{image_self}
use Rattle.bm_job.specs.declared.machine.Machine.{Machine}
use Rattle.bm_job.specs.Follows.{Follows}

-- the records of the last pass's area are the job's meaning of the input: its contents are consistent
pub finished_means : (m : Machine) (v : RackView) → v.stands ≡ Some (dims_of m.shape) → HasSizes (dims_of m.shape) v.contents → Follows m v
    → m.done ≡ m.passes
    → SameRecords (2 ^ m.shape.n) (record_at v.contents m.shape (area_after m.passes))
    (meaning m.shape.n m.job (input_of v.contents m.shape))
finished_means m v stands sizes follows all =
    let dims = dims_of m.shape in
    let held = follows.held in
    let consistent = held.sound.consistent dims stands dims v.contents stands (image_self v dims sizes) in
    all_done_means dims v.contents m.shape m.job m.passes m.every consistent held.job_gate held.load_body held.body
    (subst (λ (done : ℕ). GatesAre v.contents m.passes done) all held.gates)
