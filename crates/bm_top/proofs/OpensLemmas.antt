-- What an open load gate stands over, where the disks are as before or were attached.
use Rattle.std.proofs.Common.{inl, inr, Bool, List, ℕ, sym, ◌∙◌, ap, subst}
use Rattle.bm_base.specs.declared.dims.Dims.{Dims}
use Rattle.bm_base.specs.declared.shape.Shape.{Shape}
use Rattle.bm_base.specs.Contents.{Contents, RackUnit, page_unit, unit_at}
use Rattle.bm_rack.specs.RackView.{RackView}
use Rattle.bm_rack.specs.Image.{IsImage, InEveryImage, IsInputUnit}
use Rattle.bm_rack.specs.Frames.{SameDisks}
use Rattle.bm_control.specs.Pages.{HasClosedLoad}
use Rattle.bm_control.specs.Sound.{IsSound}
use Rattle.bm_control.proofs.SoundLemmas.{one_size}
use Rattle.bm_disks.specs.Loading.{HasLoadOf, OpensWhole}
use Rattle.bm_top.proofs.SameDisksLemmas.{image_kept}

-- an image with the load of disks that are as before has the load of before
load_before : (old new : RackView) (image : Contents) → SameDisks old new → HasLoadOf new image → HasLoadOf old image
load_before old new image s has = record {
  input = λ dims stands u is. has.input dims (s.stands ∙ stands) u is ∙ ap (λ (c : Contents). unit_at c u) s.contents;
  body = λ clean. has.body (ap (λ (f : RackUnit → Bool). f (page_unit 0)) s.dirty ∙ clean)
      ∙ ap (λ (c : Contents). unit_at c (page_unit 0)) s.contents;
}

-- a gate that was closed in every image is closed
closed_later : (old new : RackView) → SameDisks old new → InEveryImage HasClosedLoad old → InEveryImage HasClosedLoad new
closed_later old new s closed dims image stands i = closed dims image (sym s.stands ∙ stands) (image_kept old new dims image s i)

-- disks that are as before have no other load
pub opens_same : (shape : Shape) (bytes : List ℕ) (old new : RackView) → SameDisks old new → IsSound old
    → InEveryImage (OpensWhole shape bytes old) new
opens_same shape bytes old new s sound d image stands i gate =
    let was : IsImage d old image = image_kept old new d image s i in
    let stood = sym s.stands ∙ stands in
    inr (
      record {
        input = λ dims is u input.
            was.clean u (sound.input d image stood was gate u (subst (λ (x : Dims). IsInputUnit x u) (one_size is stood) input));
        body = was.clean (page_unit 0);
      },
      λ closed. closed d image stood was gate,
    )

-- and what is told of the attached disks is told of those before
pub opens_from : (shape : Shape) (bytes : List ℕ) (before mid new : RackView) → SameDisks before mid
    → InEveryImage (OpensWhole shape bytes mid) new → InEveryImage (OpensWhole shape bytes before) new
opens_from shape bytes before mid new s opened dims image stands i gate = elim (opened dims image stands i gate) [
  | inl whole ↦ inl whole
  | inr kept ↦ inr (load_before before mid image s kept.0, λ closed. kept.1 (closed_later before mid s closed))
]
