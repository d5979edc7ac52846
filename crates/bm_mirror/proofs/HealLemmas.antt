-- One rack filled from another, place by place and page by page.
use Rattle.std.proofs.Common.{◌≡◌, inl, inr, ℕ, ◌+◌, ◌<◌, ◌≤◌, List, take, length, Option, Some, None, sym, ◌∙◌, ap, arith}
use Rattle.std.proofs.lemmas.Bool.{cases_lt}
use Rattle.std.proofs.lemmas.List.{get_or-take, get_or_past}
use Rattle.std.proofs.Common.{length-take}
use Rattle.bm_base.specs.declared.dims.Dims.{Dims}
use Rattle.bm_base.specs.Contents.{Contents, RackUnit, block_unit, page_unit, block_at, page_at}
use Rattle.bm_rack.specs.RackView.{RackView}
use Rattle.bm_rack.specs.Frames.{Keeps, ChangesOnly}
use Rattle.bm_rack.specs.Calls.{place_on, InRow, IsPage}
use Rattle.bm_rack.proofs.FrameLemmas.{Keeps-trans}
use Rattle.bm_mirror.specs.Healing.{IsAtPlace, IsFilled, StaysAttached}

-- a write more
pub StaysAttached-more : (P : RackUnit → Type 0) (a b c : RackView) → StaysAttached a b → ChangesOnly P b c → Keeps b c → StaysAttached a c
StaysAttached-more P a b c x y k = record {
  stands = y.stands ∙ x.stands;
  attached = y.attached ∙ x.attached;
  keeps = Keeps-trans a b c x.keeps k;
}

-- the blocks of one place more
pub place_filled : (dims : Dims) (p : ℕ) (from from' : Contents) (v w : RackView) → from' ≡ from → ChangesOnly (IsAtPlace p) v w
    → ((disk : ℕ) → disk < dims.disks → block_at w.contents disk p ≡ block_at from' disk p)
    → IsFilled dims p 0 from v.contents → IsFilled dims (p + 1) 0 from w.contents
place_filled dims p from from' v w same changes here before = (each, λ page below. absurd (omega arith))
  where
    each : (disk place : ℕ) → disk < dims.disks → place < p + 1 → block_at w.contents disk place ≡ block_at from disk place
    each disk place on below = elim (cases_lt place p) [
      | inl early ↦ changes.contents (block_unit disk place) (λ at. omega arith) ∙ before.0 disk place on early
      | inr late ↦
          let at : place ≡ p = omega arith in
          ap (λ x. block_at w.contents disk x) at ∙ here disk on ∙ ap (λ z. block_at z disk p) same
          ∙ ap (λ x. block_at from disk x) (sym at)
    ]

-- one page more
pub page_filled : (dims : Dims) (n p : ℕ) (from from' : Contents) (v w : RackView) → from' ≡ from → ChangesOnly (IsPage p) v w
    → page_at w.contents p ≡ page_at from' p
    → IsFilled dims n p from v.contents → IsFilled dims n (p + 1) from w.contents
page_filled dims n p from from' v w same changes here before =
    (λ disk place on below. changes.contents (block_unit disk place) (λ h. h) ∙ before.0 disk place on below, each)
  where
    each : (page : ℕ) → page < p + 1 → page_at w.contents page ≡ page_at from page
    each page below = elim (cases_lt page p) [
      | inl early ↦ changes.contents (page_unit page) (λ at. omega arith) ∙ before.1 page early
      | inr late ↦
          let at : page ≡ p = omega arith in
          ap (λ x. page_at w.contents x) at ∙ here ∙ ap (λ z. page_at z p) same ∙ ap (λ x. page_at from x) (sym at)
    ]

-- the entries of a row that has one place on each disk
module _ (disks place : ℕ) (all : List (Option ℕ)) (long : length all ≡ 64) (few : disks ≤ 64)
    (each : (disk : ℕ) → disk < 64 → place_on all disk ≡ Some place) where
  pub entry : (disk : ℕ) → disk < disks → place_on (take disks all) disk ≡ Some place
  entry disk below = get_or-take disks all disk None below ∙ each disk (omega arith)

  pub entry_is : (disk at : ℕ) → place_on (take disks all) disk ≡ Some at → at ≡ place
  entry_is disk at is = elim (cases_lt disk disks) [
    | inl below ↦ let e = sym is ∙ entry disk below in cc
    | inr past ↦
        let e = sym is ∙ get_or_past (take disks all) disk None (simp (length-take) (omega arith)) in
        absurd (cc)
  ]

  pub in_place : (u : RackUnit) → InRow (take disks all) u → IsAtPlace place u
  in_place (block_unit disk at) is = entry_is disk at is
  in_place (page_unit page) is = is
