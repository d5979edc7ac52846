-- What an open load gate of the disks of a carry stands over.
use Rattle.std.proofs.Common.{◌≡◌, ⊎_elim, ℕ, Bool, IsTrue, List, Some, None, length, sym, ◌∙◌, arith}
use Rattle.bm_base.specs.declared.dims.Dims.{Dims}
use Rattle.bm_base.specs.declared.shape.Shape.{Shape}
use Rattle.bm_base.specs.Contents.{Contents}
use Rattle.bm_base.specs.Gate.{IsClosedGate}
use Rattle.bm_base.specs.Shape.{dims_of, input_size}
use Rattle.bm_rack.specs.RackView.{RackView, IsClean}
use Rattle.bm_rack.specs.Image.{InEveryImage, SameInput}
use Rattle.bm_rack.specs.Frames.{SameDisks}
use Rattle.bm_control.specs.Pages.{load_gate, HasClosedLoad}
use Rattle.bm_control.proofs.ImageLemmas.{settled_in_image, settled_clean, zeros_closed}
use Rattle.bm_job.proofs.EndLemmas.{same_input_records}
use Rattle.bm_disks.specs.Loading.{HoldsInput, HasLoadOf, OpensWhole}
use Rattle.bm_top.specs.Disks.{NewDisks, SameOrNewDisks}
use Rattle.bm_top.specs.commands.Carry.{IsWhole}

-- where nothing stands there is no image
pub none_stands : (P : Contents → Type 0) (v : RackView) → v.stands ≡ None → InEveryImage P v
none_stands P v none dims image stands i = (let e : None ≡ Some dims = sym none ∙ stands in absurd (cc))

-- new disks are not loaded
pub new_closed : (told_stands told : Bool) (dims : Dims) (old new : RackView) → IsTrue told → NewDisks told_stands told dims old new
    → InEveryImage HasClosedLoad new
new_closed told_stands told dims old new is made d image stands i =
    settled_in_image IsClosedGate load_gate new d image
    (settled_clean IsClosedGate load_gate new made.clean (zeros_closed _ ((made.blank is).pages load_gate (omega arith)))) i

-- before the load
pub whole_not_loaded : (s : Shape) (bytes : List ℕ) (told_stands told : Bool) (dims : Dims) (old new : RackView) → IsTrue told
    → SameOrNewDisks told_stands told dims old new → old.stands ≡ None → InEveryImage (IsWhole s bytes) new
whole_not_loaded s bytes told_stands told dims old new is disks none =
    ⊎_elim (λ (same : SameDisks old new). none_stands (IsWhole s bytes) new (same.stands ∙ none))
    (λ (made : NewDisks told_stands told dims old new). λ d image stands i gate.
    absurd (new_closed told_stands told dims old new is made d image stands i gate))
    disks

-- in the load
pub whole_in_load : (s : Shape) (bytes : List ℕ) (old new : RackView) → InEveryImage (OpensWhole s bytes old) new
    → InEveryImage HasClosedLoad old → InEveryImage (IsWhole s bytes) new
whole_in_load s bytes old new opens closed dims image stands i gate =
    ⊎_elim (λ (whole : (length bytes ≡ input_size s) × HoldsInput s bytes image). whole)
    (λ (kept : HasLoadOf old image × (¬ InEveryImage HasClosedLoad old)). absurd (kept.1 closed))
    (opens dims image stands i gate)

-- after the load
pub whole_loaded : (s : Shape) (bytes : List ℕ) (old new : RackView) → IsClean old → SameInput (dims_of s) old new
    → length bytes ≡ input_size s → HoldsInput s bytes old.contents → InEveryImage (IsWhole s bytes) new
whole_loaded s bytes old new clean same size holds dims image stands i gate =
    let kept : SameInput (dims_of s) old (record old { contents = image }) = record {
      contents = λ u input. i.clean u (same.dirty u input (clean u)) ∙ same.contents u input;
      dirty = λ u input was. was;
    } in
    (size, λ x below. same_input_records s old (record old { contents = image }) kept x below ∙ holds x below)
