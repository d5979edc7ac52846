-- Images of a rack, and pages that no stop changes.
use Rattle.std.proofs.Common.{◌≡◌, ◌⊎◌, inl, inr, ℕ, ◌<◌, Bool, true, false, List, [], length, slice_index_or, set, replicate, Some, Result}
use Rattle.std.proofs.Common.{refl}
use Rattle.std.proofs.Common.{sym, ◌∙◌, ap, subst, arith, length-set, get_or-set_same, get_or-set_other}
use Rattle.std.proofs.lemmas.List.{length-replicate}
use Rattle.std.proofs.lemmas.Bool.{false≢true, cases_eq, cases_Bool}
use Rattle.bm_base.specs.declared.dims.Dims.{Dims}
use Rattle.bm_base.specs.declared.fault.Failed.{Failed}
use Rattle.bm_base.specs.Contents.{Contents, RackUnit, block_unit, page_unit, unit_at, page_at, block_at, HasSizes}
use Rattle.bm_base.specs.Gate.{open_gate, IsOpenGate, IsClosedGate}
use Rattle.bm_rack.specs.RackView.{RackView, IsClean}
use Rattle.bm_rack.specs.Image.{IsImage, InEveryImage}
use Rattle.bm_rack.specs.Frames.{DirtiesOnly, SameState}
use Rattle.bm_rack.specs.Calls.{IsPage, Synced}
use Rattle.bm_rack.proofs.FrameLemmas.{DirtiesOnly-synced}

pub length-open_gate : length open_gate ≡ 512
unfolding open_gate
length-open_gate = refl

-- zeros are no open gate
pub zeros_closed : (page : List ℕ) → page ≡ replicate 512 0 → IsClosedGate page
unfolding open_gate
zeros_closed page zeros gate =
    let e : slice_index_or (replicate 512 0) 0 0 ≡ slice_index_or open_gate 0 0 = ap (λ (x : List ℕ). slice_index_or x 0 0)
    (sym zeros ∙ gate) in
    omega (arith, e)

-- a page that no stop changes: it is clean, and this holds of it
pub record Settled (P : List ℕ → Type 0) (page : ℕ) (v : RackView) : Type 0 where
  pub clean : v.dirty (page_unit page) ≡ false
  pub holds : P (page_at v.contents page)

pub settled_in_image : (P : List ℕ → Type 0) (page : ℕ) (v : RackView) (dims : Dims) (image : Contents) → Settled P page v
    → IsImage dims v image
    → P (page_at image page)
settled_in_image P page v dims image s i = subst P (sym (i.clean (page_unit page) s.clean)) s.holds

-- a change elsewhere
pub settled_within : (P : List ℕ → Type 0) (Q : RackUnit → Type 0) (page : ℕ) (old new : RackView) → DirtiesOnly Q old new
    → ¬ Q (page_unit page)
    → Settled P page old → Settled P page new
settled_within P Q page old new w apart s = record {
  clean = w.dirty (page_unit page) apart s.clean;
  holds = subst P (sym (w.contents (page_unit page) apart)) s.holds;
}

-- a page that was written and synced
pub settled_clean : (P : List ℕ → Type 0) (page : ℕ) (v : RackView) → IsClean v → P (page_at v.contents page) → Settled P page v
settled_clean P page v clean holds = record { clean = clean (page_unit page); holds = holds }

-- contents are an image of themselves
pub image_self : (v : RackView) (dims : Dims) → HasSizes dims v.contents → IsImage dims v v.contents
image_self v dims sizes = record { sizes = sizes; clean = λ u h. refl }

-- where nothing is dirty there is no other image
pub image_clean : (v : RackView) (dims : Dims) (image : Contents) → IsClean v → IsImage dims v image → (u : RackUnit)
    → unit_at image u ≡ unit_at v.contents u
image_clean v dims image clean i u = i.clean u (clean u)

-- an image after a sync, whether it fails or not, is one from before it
pub image_synced : {T : Type 0} (old new : RackView) (r : Result T Failed) (dims : Dims) (image : Contents) → Synced old r new
    → IsImage dims new image → IsImage dims old image
image_synced old new r dims image s i = record {
  sizes = i.sizes;
  clean = λ u h. i.clean u ((DirtiesOnly-synced (λ _. ⊥) old new r s).dirty u (λ e. e) h) ∙ ap (λ c. unit_at c u) s.contents;
}

-- an image where nothing but counts changed is one from before
pub image_state : (old new : RackView) (dims : Dims) (image : Contents) → SameState old new → IsImage dims new image
    → IsImage dims old image
image_state old new dims image s i = record {
  sizes = i.sizes;
  clean = λ u h. i.clean u (ap (λ (f : RackUnit → Bool). f u) s.dirty ∙ h) ∙ ap (λ c. unit_at c u) s.contents;
}

with_page : ℕ → List ℕ → Contents → Contents
with_page page bytes c = record { disks = c.disks; pages = set c.pages page bytes }

-- contents with a page put in keep their sizes
with_page_sizes : (dims : Dims) (c : Contents) (page : ℕ) (bytes : List ℕ) → length bytes ≡ 512 → HasSizes dims c
    → HasSizes dims (with_page page bytes c)
unfolding with_page
with_page_sizes dims c page bytes long sizes = record {
  disks = sizes.disks;
  places = sizes.places;
  block = sizes.block;
  pages = length-set c.pages page bytes ∙ sizes.pages;
  page = each;
}
  where
    each : (k : ℕ) → k < 516 → length (slice_index_or (set c.pages page bytes) k []) ≡ 512
    each k h = elim (cases_eq k page) [
      | inl is ↦
          let within : page < length c.pages = (let e = sizes.pages in omega (arith, e, is, h)) in
          subst (λ (x : ℕ). length (slice_index_or (set c.pages page bytes) x []) ≡ 512) (sym is)
          (ap length (get_or-set_same c.pages page bytes [] within) ∙ long)
      | inr not ↦ ap length (get_or-set_other c.pages page k bytes [] not) ∙ sizes.page k h
    ]

-- other units are as before
with_page_other : (c : Contents) (page : ℕ) (bytes : List ℕ) (u : RackUnit) → ¬ IsPage page u
    → unit_at (with_page page bytes c) u ≡ unit_at c u
unfolding with_page
with_page_other c page bytes (block_unit disk place) h = refl
with_page_other c page bytes (page_unit k) h = get_or-set_other c.pages page k bytes [] h

-- and the page is what was put in
with_page_here : (dims : Dims) (c : Contents) (page : ℕ) (bytes : List ℕ) → page < 516 → HasSizes dims c
    → page_at (with_page page bytes c) page ≡ bytes
unfolding with_page
with_page_here dims c page bytes below sizes = get_or-set_same c.pages page bytes [] (let e = sizes.pages in omega (arith, e, below))

-- whether a unit is this page
is_page_cases : (page : ℕ) (u : RackUnit) → (u ≡ page_unit page) ⊎ (¬ IsPage page u)
is_page_cases page (block_unit disk place) = inr (λ e. e)
is_page_cases page (page_unit k) = elim (cases_eq k page) [
  | inl is ↦ inl (ap page_unit is)
  | inr not ↦ inr not
]

-- a dirty page may be any page
pub image_with_page : (v : RackView) (dims : Dims) (page : ℕ) (bytes : List ℕ) → page < 516 → length bytes ≡ 512 → HasSizes dims v.contents
    → v.dirty (page_unit page) ≡ true
    → (image : Contents) × IsImage dims v image × (page_at image page ≡ bytes)
image_with_page v dims page bytes below long sizes dirty = (
  with_page page bytes v.contents,
  record {
    sizes = with_page_sizes dims v.contents page bytes long sizes;
    clean = λ u h. elim (is_page_cases page u) [
      | inl is ↦ absurd (false≢true (sym h ∙ ap v.dirty is ∙ dirty))
      | inr not ↦ with_page_other v.contents page bytes u not
    ];
  },
  with_page_here dims v.contents page bytes below sizes,
)

-- a page that is no such page as this one in any image is clean
pub never_settled : (P : List ℕ → Type 0) (v : RackView) (dims : Dims) (page : ℕ) (bytes : List ℕ) → page < 516 → length bytes ≡ 512
    → v.stands ≡ Some dims
    → HasSizes dims v.contents → ¬ P bytes → InEveryImage (λ c. P (page_at c page)) v → Settled P page v
never_settled P v dims page bytes below long stands sizes none every = record {
  clean = elim (cases_Bool (v.dirty (page_unit page))) [
    | inl dirty ↦
        let found = image_with_page v dims page bytes below long sizes dirty in
        absurd (none (subst P found.2 (every dims found.0 stands found.1)))
    | inr clean ↦ clean
  ];
  holds = every dims v.contents stands (image_self v dims sizes);
}

-- a gate that is closed in every image is clean
pub closed_settled : (v : RackView) (dims : Dims) (page : ℕ) → page < 516 → v.stands ≡ Some dims → HasSizes dims v.contents
    → InEveryImage (λ c. IsClosedGate (page_at c page)) v → Settled IsClosedGate page v
closed_settled v dims page below stands sizes closed =
    never_settled IsClosedGate v dims page open_gate below length-open_gate stands sizes (λ not. not refl) closed

-- a gate that is open in every image is clean
pub open_settled : (v : RackView) (dims : Dims) (page : ℕ) → page < 516 → v.stands ≡ Some dims → HasSizes dims v.contents
    → InEveryImage (λ c. IsOpenGate (page_at c page)) v → Settled IsOpenGate page v
open_settled v dims page below stands sizes opened =
    never_settled IsOpenGate v dims page (replicate 512 0) below (length-replicate {A = ℕ} 512 0) stands sizes
    (λ is. zeros_closed (replicate 512 0) refl is) opened

-- contents that are the same but for these pages
pub record DiffersIn (P : ℕ → Type 0) (a b : Contents) : Type 0 where
  pub blocks : (disk place : ℕ) → block_at b disk place ≡ block_at a disk place
  pub pages : (k : ℕ) → ¬ P k → page_at b k ≡ page_at a k

-- but for this page
abbrev pub DiffersAt : ℕ → Contents → Contents → Type 0
DiffersAt page a b = DiffersIn (λ k. k ≡ page) a b

pub differs_of_units : (page : ℕ) (a b : Contents) → ((u : RackUnit) → ¬ IsPage page u → unit_at b u ≡ unit_at a u) → DiffersAt page a b
differs_of_units page a b same = record {
  blocks = λ disk place. same (block_unit disk place) (λ e. e);
  pages = λ k other. same (page_unit k) other;
}

-- an image after a page was written is one from before it, with that page put back
pub image_back : (page : ℕ) (old new : RackView) (dims : Dims) (image : Contents) → page < 516 → HasSizes dims old.contents
    → DirtiesOnly (IsPage page) old new → IsImage dims new image
    → (before : Contents) × IsImage dims old before × DiffersAt page before image
image_back page old new dims image below sizes w i = (
  with_page page (page_at old.contents page) image,
  record {
    sizes = with_page_sizes dims image page (page_at old.contents page) (sizes.page page below) i.sizes;
    clean = λ u h. elim (is_page_cases page u) [
      | inl is ↦ subst (λ (x : RackUnit). unit_at (with_page page (page_at old.contents page) image) x ≡ unit_at old.contents x) (sym is)
          (with_page_here dims image page (page_at old.contents page) below i.sizes)
      | inr not ↦ with_page_other image page (page_at old.contents page) u not ∙ i.clean u (w.dirty u not h) ∙ w.contents u not
    ];
  },
  differs_of_units page _ image (λ u not. sym (with_page_other image page (page_at old.contents page) u not)),
)

-- an image after a page was written in which that page is as before is one from before it
pub image_same : (page : ℕ) (old new : RackView) (dims : Dims) (image : Contents) → DirtiesOnly (IsPage page) old new
    → IsImage dims new image
    → page_at image page ≡ page_at old.contents page → IsImage dims old image
image_same page old new dims image w i here = record {
  sizes = i.sizes;
  clean = λ u h. elim (is_page_cases page u) [
    | inl is ↦ subst (λ (x : RackUnit). unit_at image x ≡ unit_at old.contents x) (sym is) here
    | inr not ↦ i.clean u (w.dirty u not h) ∙ w.contents u not
  ];
}

-- an image after a page of a clean rack was written differs from the contents in that page alone
pub image_of_clean : (page : ℕ) (old new : RackView) (dims : Dims) (image : Contents) → IsClean old → DirtiesOnly (IsPage page) old new
    → IsImage dims new image
    → DiffersAt page old.contents image
image_of_clean page old new dims image clean w i =
    differs_of_units page old.contents image (λ u not. i.clean u (w.dirty u not (clean u)) ∙ w.contents u not)
