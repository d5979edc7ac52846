-- Disks that are as before: their images, and whether they are sound.
use Rattle.std.proofs.Common.{Bool, sym, ap, ◌∙◌}
use Rattle.bm_base.specs.declared.dims.Dims.{Dims}
use Rattle.bm_base.specs.Contents.{Contents, RackUnit, unit_at}
use Rattle.bm_rack.specs.RackView.{RackView, IsWellFormed}
use Rattle.bm_rack.specs.Frames.{SameCalls, SameDisks, RaisesCounts}
use Rattle.bm_rack.specs.Image.{IsImage}
use Rattle.bm_rack.proofs.FrameLemmas.{raised-zero}
use Rattle.bm_control.specs.Sound.{IsSound}

-- an image after is one from before
pub image_kept : (old new : RackView) (dims : Dims) (image : Contents) → SameDisks old new → IsImage dims new image → IsImage dims old image
image_kept old new dims image s i = record {
  sizes = i.sizes;
  clean = λ u h. i.clean u (ap (λ (f : RackUnit → Bool). f u) s.dirty ∙ h) ∙ ap (λ c. unit_at c u) s.contents;
}

pub sound_kept : (old new : RackView) → SameDisks old new → IsSound old → IsSound new
sound_kept old new s sound = record {
  consistent = λ dims is dims' image is' i. sound.consistent dims (sym s.stands ∙ is) dims' image (sym s.stands ∙ is')
      (image_kept old new dims' image s i);
  input = λ dims image is i gate u input.
      ap (λ (f : RackUnit → Bool). f u) s.dirty ∙ sound.input dims image (sym s.stands ∙ is)
      (image_kept old new dims image s i) gate u input;
}

-- no call was made, as the counts say
pub calls_kept : (ts tc : Bool) (old new : RackView) → IsWellFormed ts tc old → RaisesCounts 0 0 0 old new → SameCalls old new
calls_kept ts tc old new well counts = record {
  moves = counts.moves ∙ raised-zero old.moves well.moves;
  pages = counts.pages ∙ raised-zero old.pages well.pages;
  syncs = counts.syncs ∙ raised-zero old.syncs well.syncs;
}
