-- What an open load gate stands over after a load.
use Rattle.std.proofs.Common.{◌≡◌, inl, inr, ℕ, ◌%◌, ◌^◌, List, length, Some, sym, ◌∙◌, ap, subst, arith}
use Rattle.std.specs.Fork.{slice_chunk}
use Rattle.bm_base.specs.declared.dims.Dims.{Dims}
use Rattle.bm_base.specs.declared.shape.Shape.{Shape}
use Rattle.bm_base.specs.declared.area.Area.TheVariants.{Input}
use Rattle.bm_base.specs.Contents.{Contents, RackUnit, block_unit, page_unit, unit_at, HasSizes}
use Rattle.bm_base.specs.Gate.{IsClosedGate}
use Rattle.bm_base.specs.Shape.{dims_of, input_size}
use Rattle.bm_rack.specs.RackView.{RackView}
use Rattle.bm_rack.specs.Image.{IsImage, InEveryImage, IsInputUnit}
use Rattle.bm_rack.specs.Frames.{DirtiesOnly}
use Rattle.bm_stripe.specs.Units.{record_unit}
use Rattle.bm_control.specs.PageCalls.{IsLoadPage}
use Rattle.bm_control.specs.Pages.{HasOpenLoad}
use Rattle.bm_control.specs.Sound.{IsSound}
use Rattle.bm_control.proofs.ImageLemmas.{Settled, closed_settled, settled_in_image}
use Rattle.bm_control.proofs.SoundLemmas.{one_size}
use Rattle.bm_job.proofs.EndLemmas.{input_record}
use Rattle.bm_disks.specs.Loading.{IsGatePage, HoldsInput, IsLoadShut, OpensWhole}
use Rattle.bm_disks.proofs.GateLemmas.{BothClosed, both_in_images}
use Rattle.bm_disks.proofs.LoadingLemmas.{input_kept}

-- an image of a sound rack in which the load gate is open has the rack's input
input_in_image : (v : RackView) (dims : Dims) (image : Contents) → IsSound v → v.stands ≡ Some dims → IsImage dims v image
    → HasOpenLoad image
    → (u : RackUnit) → IsInputUnit dims u → unit_at image u ≡ unit_at v.contents u
input_in_image v dims image sound stands i gate u input = i.clean u (sound.input dims image stands i gate u input)

input_no_gate : (dims : Dims) (u : RackUnit) → IsInputUnit dims u → ¬ IsGatePage u
input_no_gate dims (block_unit disk place) input (inl is) = is
input_no_gate dims (block_unit disk place) input (inr is) = is
input_no_gate dims (page_unit page) input is = input

body_no_gate : ¬ IsGatePage (page_unit 0)
body_no_gate (inl is) = omega (arith, is)
body_no_gate (inr is) = omega (arith, is)

-- gates alone were written, and the load gate not where no stop opened it
pub opens_old : (s : Shape) (bytes : List ℕ) (dims : Dims) (old new : RackView) → old.stands ≡ Some dims → HasSizes dims old.contents
    → DirtiesOnly IsGatePage old new → (IsLoadShut old → IsLoadShut new) → IsSound new → InEveryImage (OpensWhole s bytes old) new
opens_old s bytes dims old new there sizes only stays sound d image stands i gate = inr (
  record {
    input = λ size is u input.
        let same : size ≡ d = one_size is (sym only.stands ∙ stands) in
        input_in_image new d image sound stands i gate u (subst (λ (x : Dims). IsInputUnit x u) same input)
        ∙ only.contents u (input_no_gate size u input);
    body = λ clean. i.clean (page_unit 0) (only.dirty (page_unit 0) body_no_gate clean) ∙ only.contents (page_unit 0) body_no_gate;
  },
  λ closed.
      let was : Settled IsClosedGate 1 old = closed_settled old dims 1 (omega arith) there sizes closed in
      let shut = stays (was.clean, was.holds) in
      let now : Settled IsClosedGate 1 new = record { clean = shut.0; holds = shut.1 } in
      settled_in_image IsClosedGate 1 new d image now i gate,
)

-- both gates are closed
pub opens_none : (s : Shape) (bytes : List ℕ) (old new : RackView) → BothClosed new → InEveryImage (OpensWhole s bytes old) new
opens_none s bytes old new both dims image stands i gate = absurd ((both_in_images new both dims image stands i).0 gate)

-- the whole input was written before the load gate
pub opens_new : (s : Shape) (bytes : List ℕ) (old mid new : RackView) → length bytes ≡ input_size s → HoldsInput s bytes mid.contents
    → DirtiesOnly IsLoadPage mid new → new.stands ≡ Some (dims_of s) → IsSound new → InEveryImage (OpensWhole s bytes old) new
opens_new s bytes old mid new size holds load there sound dims image stands i gate = inl (
  size,
  λ x below.
      let same : dims_of s ≡ dims = one_size there stands in
      let input = subst (λ (d : Dims). IsInputUnit d (record_unit s Input x)) same (input_record s x below) in
      ap (λ (block : List ℕ). slice_chunk block s.width (x % 2 ^ s.b))
      (input_in_image new dims image sound stands i gate (record_unit s Input x) input)
      ∙ input_kept s bytes mid new load holds x below,
)
