-- Sound racks at the moments of a change of gates.
use Rattle.std.proofs.Common.{◌≡◌, ◌≢◌, ℕ, ◌<◌, Bool, false, Option, Some, Result, sym, ◌∙◌, ap, subst, arith}
use Rattle.bm_base.specs.declared.dims.Dims.{Dims}
use Rattle.bm_base.specs.declared.shape.Shape.{Shape}
use Rattle.bm_base.specs.declared.fault.Failed.{Failed}
use Rattle.bm_base.specs.Contents.{Contents, RackUnit, block_unit, page_unit, HasSizes}
use Rattle.bm_base.specs.Gate.{IsClosedGate}
use Rattle.bm_base.specs.Shape.{dims_of}
use Rattle.bm_rack.specs.RackView.{RackView, IsClean}
use Rattle.bm_rack.specs.Image.{IsImage, IsInputUnit}
use Rattle.bm_rack.specs.Frames.{DirtiesOnly, SameState}
use Rattle.bm_rack.specs.Calls.{IsPage, Synced}
use Rattle.bm_rack.proofs.FrameLemmas.{DirtiesOnly-synced}
use Rattle.bm_control.specs.Bodies.{load_page}
use Rattle.bm_control.specs.Pages.{load_body, load_gate, job_gate, HasOpenLoad, HasOpenJob, HasClosedJob}
use Rattle.bm_control.specs.Consistent.{IsConsistent}
use Rattle.bm_control.specs.Sound.{IsSound}
use Rattle.bm_control.proofs.ImageLemmas.{Settled, settled_in_image, image_synced, image_state, image_back, image_same, image_of_clean}
use Rattle.bm_control.proofs.ImageLemmas.{DiffersAt}

-- two sizes of what stands are one
pub one_size : {a b : Dims} {s : Option Dims} → s ≡ Some a → s ≡ Some b → a ≡ b
one_size p q = (let e = sym p ∙ q in cc)

-- an input block is no page
pub input_no_page : (page : ℕ) (dims : Dims) (u : RackUnit) → IsInputUnit dims u → ¬ IsPage page u
input_no_page page dims (block_unit disk place) is = λ e. e
input_no_page page dims (page_unit k) is = absurd is

-- with both gates closed
pub sound_closed : (v : RackView) → Settled IsClosedGate load_gate v → Settled IsClosedGate job_gate v → IsSound v
sound_closed v one three = record {
  consistent = λ dims stands dims' image stands' i. record {
    loaded = λ gate. absurd (settled_in_image IsClosedGate load_gate v dims' image one i gate);
    after_load = λ gate. absurd (settled_in_image IsClosedGate job_gate v dims' image three i gate);
    job = λ gate. absurd (settled_in_image IsClosedGate job_gate v dims' image three i gate);
  };
  input = λ dims image stands i gate. absurd (settled_in_image IsClosedGate load_gate v dims image one i gate);
}

-- with the load body on the disks and no job, whatever stands on the load gate
pub sound_loaded : (v : RackView) (s : Shape) → v.stands ≡ Some (dims_of s) → Settled (λ p. p ≡ load_page s) load_body v
    → Settled IsClosedGate job_gate v
    → ((u : RackUnit) → IsInputUnit (dims_of s) u → v.dirty u ≡ false) → IsSound v
sound_loaded v s stands body three clean = record {
  consistent = λ dims is dims' image is' i. record {
    loaded = λ gate. record {
      shape = s;
      body = settled_in_image (λ p. p ≡ load_page s) load_body v dims' image body i;
      dims_are = one_size stands is;
    };
    after_load = λ gate. absurd (settled_in_image IsClosedGate job_gate v dims' image three i gate);
    job = λ gate. absurd (settled_in_image IsClosedGate job_gate v dims' image three i gate);
  };
  input = λ dims image is i gate u input. clean u (subst (λ (d : Dims). IsInputUnit d u) (one_size is stands) input);
}

-- where one page was written or is being written, and it is not the load gate
pub sound_page : (page : ℕ) (old new : RackView) (dims : Dims) → page < 516 → page ≢ 1 → old.stands ≡ Some dims → HasSizes dims old.contents
    → IsSound old
    → DirtiesOnly (IsPage page) old new
    → ((before image : Contents) → IsImage dims old before → IsImage dims new image → DiffersAt page before image → IsConsistent dims before
    → IsConsistent dims image)
    → IsSound new
sound_page page old new dims below other stands sizes sound w keeps = record {
  consistent = λ d is d' image is' i.
      let same : d ≡ dims = one_size is (w.stands ∙ stands) in
      let same' : d' ≡ dims = one_size is' (w.stands ∙ stands) in
      let i' = subst (λ x. IsImage x new image) same' i in
      let back = image_back page old new dims image below sizes w i' in
      subst (λ x. IsConsistent x image) (sym same)
      (keeps back.0 image back.1 i' back.2 (sound.consistent dims stands dims back.0 stands back.1));
  input = λ d image is i gate u input.
      let same : d ≡ dims = one_size is (w.stands ∙ stands) in
      let i' = subst (λ x. IsImage x new image) same i in
      let input' = subst (λ (x : Dims). IsInputUnit x u) same input in
      let back = image_back page old new dims image below sizes w i' in
      w.dirty u (input_no_page page dims u input') (sound.input dims back.0 stands back.1
      (sym (back.2.pages load_gate (λ e. other (sym e))) ∙ gate) u input');
}

-- while the open job gate of a clean rack is written over
pub sound_closing_job : (old new : RackView) (dims : Dims) → old.stands ≡ Some dims → HasSizes dims old.contents → IsSound old
    → HasOpenJob old.contents → DirtiesOnly (IsPage job_gate) old new → IsSound new
sound_closing_job old new dims stands sizes sound gate w =
    sound_page job_gate old new dims (omega arith) (λ e. omega (arith, e)) stands sizes sound w (λ before image was i d c. record {
      loaded = λ opened. (let l = c.loaded (sym (d.pages load_gate (λ e. omega (arith, e))) ∙ opened) in
          record { shape = l.shape; body = d.pages load_body (λ e. omega (arith, e)) ∙ l.body; dims_are = l.dims_are });
      after_load = λ opened. (same image i opened).after_load opened;
      job = λ opened. (same image i opened).job opened;
    })
  where
    same : (image : Contents) → IsImage dims new image → HasOpenJob image → IsConsistent dims image
    same image i opened = sound.consistent dims stands dims image stands (image_same job_gate old new dims image w i (opened ∙ sym gate))

-- while the open load gate of a clean rack with no open job is written over
pub sound_closing_load : (old new : RackView) (dims : Dims) → old.stands ≡ Some dims → IsSound old → IsClean old
    → HasOpenLoad old.contents → HasClosedJob old.contents → DirtiesOnly (IsPage load_gate) old new → IsSound new
sound_closing_load old new dims stands sound clean gate shut w = record {
  consistent = λ d is d' image is' i.
      let same : d ≡ dims = one_size is (w.stands ∙ stands) in
      let same' : d' ≡ dims = one_size is' (w.stands ∙ stands) in
      let i' = subst (λ x. IsImage x new image) same' i in
      let three = (image_of_clean load_gate old new dims image clean w i').pages job_gate (λ e. omega (arith, e)) in
      subst (λ x. IsConsistent x image) (sym same) (record {
        loaded = λ opened. (sound.consistent dims stands dims image stands
            (image_same load_gate old new dims image w i' (opened ∙ sym gate))).loaded opened;
        after_load = λ opened. absurd (shut (sym three ∙ opened));
        job = λ opened. absurd (shut (sym three ∙ opened));
      });
  input = λ d image is i opened u input. w.dirty u (input_no_page load_gate d u input) (clean u);
}

-- a sync, whether it fails or not, leaves a sound rack
pub sound_synced : {T : Type 0} (old new : RackView) (r : Result T Failed) → Synced old r new → IsSound old → IsSound new
sound_synced old new r s sound = record {
  consistent = λ dims is dims' image is' i. sound.consistent dims (sym s.stands ∙ is) dims' image (sym s.stands ∙ is')
      (image_synced old new r dims' image s i);
  input = λ dims image is i gate u input.
      (DirtiesOnly-synced (λ _. ⊥) old new r s).dirty u (λ e. e)
      (sound.input dims image (sym s.stands ∙ is) (image_synced old new r dims image s i) gate u input);
}

-- nothing but counts and stops changed
pub sound_same : (old new : RackView) → SameState old new → IsSound old → IsSound new
sound_same old new s sound = record {
  consistent = λ dims is dims' image is' i. sound.consistent dims (sym s.stands ∙ is) dims' image (sym s.stands ∙ is')
      (image_state old new dims' image s i);
  input = λ dims image is i gate u input.
      ap (λ (f : RackUnit → Bool). f u) s.dirty ∙ sound.input dims image (sym s.stands ∙ is) (image_state old new dims image s i) gate u
      input;
}

-- What a stop leaves of a sound rack is sound: its contents are one of the images, and nothing is dirty.
pub sound_restarted : (old new : RackView) → new.stands ≡ old.stands
    → ((dims : Dims) → old.stands ≡ Some dims → IsImage dims old new.contents) → IsClean new → IsSound old → IsSound new
sound_restarted old new stands left clean sound = record {
  consistent = λ dims is d image is' i.
      let there = left d (sym stands ∙ is') in
      sound.consistent dims (sym stands ∙ is) d image (sym stands ∙ is')
      (record { sizes = i.sizes; clean = λ u h. i.clean u (clean u) ∙ there.clean u h });
  input = λ dims image is i gate u input. clean u;
}
