-- The load's pages and the input over several sessions.
use Rattle.std.proofs.Common.{◌≡◌, inl, inr, ℕ, ◌<◌, ◌≤◌, false, List, [], length, set, Some, refl, sym, ◌∙◌, ap, subst}
use Rattle.std.proofs.Common.{arith, length-set, get_or-set_same, get_or-set_other}
use Rattle.std.proofs.lemmas.Bool.{cases_eq}
use Rattle.bm_base.specs.declared.dims.Dims.{Dims}
use Rattle.bm_base.specs.declared.shape.Shape.{Shape}
use Rattle.bm_base.specs.Contents.{Contents, RackUnit, block_unit, page_unit, unit_at, page_at, block_at, HasSizes}
use Rattle.bm_base.specs.Gate.{open_gate}
use Rattle.bm_base.specs.Shape.{dims_of}
use Rattle.bm_rack.specs.RackView.{RackView}
use Rattle.bm_rack.specs.Image.{IsImage, InEveryImage, IsInputUnit, SameInput}
use Rattle.bm_control.specs.Bodies.{load_page}
use Rattle.bm_control.specs.Sound.{IsSound}
use Rattle.bm_control.proofs.ImageLemmas.{Settled, image_self, never_settled, open_settled, length-open_gate}
use Rattle.bm_control.proofs.StartLemmas.{gate_no_body}
use Rattle.bm_job.specs.Runs.{IsRunUnit}
use Rattle.bm_control.specs.Pages.{HasOpenLoad, HasLoadBody}
use Rattle.bm_drill.specs.Sessions.{KeepsRest}

-- no run writes the load's pages
pub front_apart : (s : Shape) (page : ℕ) → page < 2 → ¬ IsRunUnit s (page_unit page)
front_apart s page early (inl is) = is
front_apart s page early (inr (inl is)) = is
front_apart s page early (inr (inr is)) = omega (arith, is, early)

-- nor the input
pub input_apart : (s : Shape) (u : RackUnit) → IsInputUnit (dims_of s) u → ¬ IsRunUnit s u
input_apart s (page_unit page) input is = input
input_apart s (block_unit disk place) input (inl is) = (let from = is.0 in omega (arith, from, input))
input_apart s (block_unit disk place) input (inr (inl is)) = (let from = is.0 in omega (arith, from, input))
input_apart s (block_unit disk place) input (inr (inr is)) = is

-- contents with other first pages
with_front : List ℕ → List ℕ → Contents → Contents
with_front zero one c = record { disks = c.disks; pages = set (set c.pages 0 zero) 1 one }

-- their pages
front_zero : (dims : Dims) (zero one : List ℕ) (c : Contents) → HasSizes dims c → page_at (with_front zero one c) 0 ≡ zero
unfolding with_front
front_zero dims zero one c sizes =
    get_or-set_other (set c.pages 0 zero) 1 0 one [] (λ e. omega (arith, e)) ∙ get_or-set_same c.pages 0 zero []
    (let e = sizes.pages in omega (arith, e))

front_one : (dims : Dims) (zero one : List ℕ) (c : Contents) → HasSizes dims c → page_at (with_front zero one c) 1 ≡ one
unfolding with_front
front_one dims zero one c sizes =
    get_or-set_same (set c.pages 0 zero) 1 one [] (let l = length-set c.pages 0 zero in let e = sizes.pages in omega (arith, e, l))

front_other : (zero one : List ℕ) (c : Contents) (k : ℕ) → 2 ≤ k → page_at (with_front zero one c) k ≡ page_at c k
unfolding with_front
front_other zero one c k late =
    get_or-set_other (set c.pages 0 zero) 1 k one [] (λ e. omega (arith, e, late)) ∙ get_or-set_other c.pages 0 k zero [] (λ e. omega
    (arith, e, late))

-- and their blocks
front_block : (zero one : List ℕ) (c : Contents) (disk place : ℕ) → block_at (with_front zero one c) disk place ≡ block_at c disk place
unfolding with_front
front_block zero one c disk place = refl

-- the first pages and the others
pub data PageIs : ℕ → Type 0 where
  zeroth : PageIs 0
  first : PageIs 1
  late : {k : ℕ} → 2 ≤ k → PageIs k

page_is : (k : ℕ) → PageIs k
page_is k = elim (cases_eq k 0) [
  | inl is ↦ subst PageIs (sym is) zeroth
  | inr some ↦ elim (cases_eq k 1) [
    | inl is ↦ subst PageIs (sym is) first
    | inr more ↦ late (omega (arith, some, more))
  ]
]

-- they keep their sizes
front_sizes : (dims : Dims) (zero one : List ℕ) (c : Contents) → length zero ≡ 512 → length one ≡ 512 → HasSizes dims c
    → HasSizes dims (with_front zero one c)
unfolding with_front
front_sizes dims zero one c long wide sizes = record {
  disks = sizes.disks;
  places = sizes.places;
  block = sizes.block;
  pages = length-set (set c.pages 0 zero) 1 one ∙ length-set c.pages 0 zero ∙ sizes.pages;
  page = λ k less. each k less (page_is k);
}
  where
    each : (k : ℕ) → k < 516 → PageIs k → length (page_at (with_front zero one c) k) ≡ 512
    each k less zeroth = ap length (front_zero dims zero one c sizes) ∙ long
    each k less first = ap length (front_one dims zero one c sizes) ∙ wide
    each k less (late from) = ap length (front_other zero one c k from) ∙ sizes.page k less

-- the first pages after sessions are those of some image before them
pub record FrontImage (dims : Dims) (v : RackView) (now : Contents) : Type 0 where
  pub image : Contents
  pub is_image : IsImage dims v image
  pub zero : page_at image 0 ≡ page_at now 0
  pub one : page_at image 1 ≡ page_at now 1

pub front_image : (s : Shape) (dims : Dims) (old new : RackView) → HasSizes dims old.contents → HasSizes dims new.contents
    → KeepsRest s old new
    → FrontImage dims old new.contents
front_image s dims old new sizes later rest =
    let zero = page_at new.contents 0 in
    let one = page_at new.contents 1 in
    record {
      image = with_front zero one old.contents;
      is_image = record {
        sizes = front_sizes dims zero one old.contents (later.page 0 (omega arith)) (later.page 1 (omega arith)) sizes;
        clean = each;
      };
      zero = front_zero dims zero one old.contents sizes;
      one = front_one dims zero one old.contents sizes;
    }
  where
    page : (k : ℕ) → PageIs k → old.dirty (page_unit k) ≡ false
        → page_at (with_front (page_at new.contents 0) (page_at new.contents 1) old.contents) k ≡ page_at old.contents k
    page k zeroth clean = front_zero dims (page_at new.contents 0) (page_at new.contents 1) old.contents sizes ∙ (rest (page_unit 0)
        (front_apart s 0 (omega arith)) clean).1
    page k first clean = front_one dims (page_at new.contents 0) (page_at new.contents 1) old.contents sizes ∙ (rest (page_unit 1)
        (front_apart s 1 (omega arith)) clean).1
    page k (late from) clean = front_other (page_at new.contents 0) (page_at new.contents 1) old.contents k from

    each : (u : RackUnit) → old.dirty u ≡ false → unit_at (with_front (page_at new.contents 0)
        (page_at new.contents 1) old.contents) u ≡ unit_at old.contents u
    each (block_unit disk place) clean = front_block (page_at new.contents 0) (page_at new.contents 1) old.contents disk place
    each (page_unit k) clean = page k (page_is k) clean

-- where records are loaded after sessions, the input was clean before them and is the same
pub input_kept : (s : Shape) (old new : RackView) → old.stands ≡ Some (dims_of s) → HasSizes (dims_of s) old.contents
    → HasSizes (dims_of s) new.contents
    → KeepsRest s old new → IsSound old → HasOpenLoad new.contents → SameInput (dims_of s) old new
input_kept s old new stands sizes later rest sound opened =
    let f = front_image s (dims_of s) old new sizes later rest in
    let clean = sound.input (dims_of s) f.image stands f.is_image (f.one ∙ opened) in
    record {
      contents = λ u input. (rest u (input_apart s u input) (clean u input)).1;
      dirty = λ u input _. (rest u (input_apart s u input) (clean u input)).0;
    }

-- and where they are loaded before
pub input_loaded : (s : Shape) (old new : RackView) → old.stands ≡ Some (dims_of s) → HasSizes (dims_of s) old.contents
    → KeepsRest s old new → IsSound old → HasOpenLoad old.contents → SameInput (dims_of s) old new
input_loaded s old new stands sizes rest sound opened =
    let clean = sound.input (dims_of s) old.contents stands (image_self old (dims_of s) sizes) opened in
    record {
      contents = λ u input. (rest u (input_apart s u input) (clean u input)).1;
      dirty = λ u input _. (rest u (input_apart s u input) (clean u input)).0;
    }

-- where this shape is loaded in every image before, it is so after
pub load_kept : (s : Shape) (dims : Dims) (old new : RackView) → old.stands ≡ Some dims → HasSizes dims old.contents → KeepsRest s old new
    → InEveryImage HasOpenLoad old → InEveryImage (HasLoadBody s) old → HasOpenLoad new.contents × HasLoadBody s new.contents
load_kept s dims old new stands sizes rest opened loaded =
    let gate = open_settled old dims 1 (omega arith) stands sizes opened in
    let body : Settled (λ p. p ≡ load_page s) 0 old =
    never_settled (λ p. p ≡ load_page s) old dims 0 open_gate (omega arith) length-open_gate stands sizes (λ is. gate_no_body (s, is))
    loaded in (
      (rest (page_unit 1) (front_apart s 1 (omega arith)) gate.clean).1 ∙ gate.holds,
      (rest (page_unit 0) (front_apart s 0 (omega arith)) body.clean).1 ∙ body.holds,
    )
