-- A sound rack with no open job stays sound where only the areas that passes write change.
use Rattle.std.proofs.Common.{◌≡◌, ℕ, Bool, IsTrue, Some, refl, sym, ◌∙◌, subst, arith, ⊎_elim}
use Rattle.bm_base.specs.declared.dims.Dims.{Dims}
use Rattle.bm_base.specs.declared.shape.Shape.{Shape}
use Rattle.bm_base.specs.declared.area.Area.TheVariants.{One, Two}
use Rattle.bm_base.specs.Contents.{Contents, RackUnit, block_unit, page_unit, HasSizes}
use Rattle.bm_base.specs.Shape.{dims_of}
use Rattle.bm_rack.specs.RackView.{RackView, IsWellFormed}
use Rattle.bm_rack.specs.Image.{IsImage, InEveryImage, IsInputUnit}
use Rattle.bm_rack.specs.Frames.{ChangesOnly}
use Rattle.bm_stripe.specs.Units.{IsAreaUnit}
use Rattle.bm_control.specs.Pages.{HasClosedJob}
use Rattle.bm_control.specs.Sound.{IsSound}
use Rattle.bm_control.proofs.SoundLemmas.{one_size}
use Rattle.bm_kindjob.specs.KindRun.{IsWorkBlock}

-- a page is none of these blocks, and neither is a block of the input
pub work_no_page : (s : Shape) (page : ℕ) → ¬ IsWorkBlock s (page_unit page)
work_no_page s page is = ⊎_elim (λ (w : IsAreaUnit s One (page_unit page)). absurd w) (λ (w : IsAreaUnit s Two
    (page_unit page)). absurd w) is

pub input_no_work : (s : Shape) (u : RackUnit) → IsInputUnit (dims_of s) u → ¬ IsWorkBlock s u
input_no_work s (page_unit page) input is = absurd input
input_no_work s (block_unit disk place) input is =
    ⊎_elim (λ (w : IsAreaUnit s One (block_unit disk place)). absurd (omega (arith, w.0, input)))
    (λ (w : IsAreaUnit s Two (block_unit disk place)). absurd (omega (arith, w.0, input))) is

-- the blocks of before, and the pages of an image
abbrev pub with_pages : Contents → Contents → Contents
with_pages old image = record { disks = old.disks; pages = image.pages }

-- they are an image of before
image_before : (s : Shape) (old new : RackView) (dims : Dims) (image : Contents) → HasSizes dims old.contents
    → ChangesOnly (IsWorkBlock s) old new
    → IsImage dims new image → IsImage dims old (with_pages old.contents image)
image_before s old new dims image sizes only i = record {
  sizes = record { disks = sizes.disks; places = sizes.places; block = sizes.block; pages = i.sizes.pages; page = i.sizes.page };
  clean = elim [
    | block_unit disk place ↦ λ clean. refl
    | page_unit page ↦ λ clean. i.clean (page_unit page) (only.dirty (page_unit page) (work_no_page s page) ∙ clean)
        ∙ only.contents (page_unit page) (work_no_page s page)
  ];
}

pub sound_work : (s : Shape) (tells_stands tells_contents : Bool) (old new : RackView) → IsTrue tells_stands → IsTrue tells_contents
    → IsWellFormed tells_stands tells_contents old → old.attached ≡ Some (dims_of s)
    → ChangesOnly (IsWorkBlock s) old new → InEveryImage HasClosedJob old → IsSound old → IsSound new
sound_work s tells_stands tells_contents old new told_stands told well attached only closed sound =
    let stands : old.stands ≡ Some (dims_of s) = well.attached told_stands (dims_of s) attached in
    record {
      consistent = λ dims is dims' image is' i.
          let was : old.stands ≡ Some dims = sym only.stands ∙ is in
          let was' : old.stands ≡ Some dims' = sym only.stands ∙ is' in
          let before = with_pages old.contents image in
          let ib = image_before s old new dims' image (well.sizes told_stands told dims' was') only i in
          let c = sound.consistent dims was dims' before was' ib in
          record {
            loaded = λ gate. (let l = c.loaded gate in record { shape = l.shape; body = l.body; dims_are = l.dims_are });
            after_load = λ gate. absurd (closed dims' before was' ib gate);
            job = λ gate. absurd (closed dims' before was' ib gate);
          };
      input = λ dims image is i gate u input.
          let was : old.stands ≡ Some dims = sym only.stands ∙ is in
          let before = with_pages old.contents image in
          let ib = image_before s old new dims image (well.sizes told_stands told dims was) only i in
          only.dirty u (input_no_work s u (subst (λ (d : Dims). IsInputUnit d u) (one_size was stands) input))
          ∙ sound.input dims before was ib gate u input;
    }
