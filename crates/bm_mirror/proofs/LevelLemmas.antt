-- Two racks are level after both did the same.
use Rattle.std.proofs.Common.{◌≡◌, ◌⊎◌, inl, inr, ℕ, ◌<◌, Bool, IsTrue, List, [], length, slice_index_or}
use Rattle.std.proofs.Common.{Option, Some, None, Result, IsOk, sym, ◌∙◌, ap, arith}
use Rattle.std.proofs.Math.Path.{fun_ext}
use Rattle.std.proofs.lemmas.Bool.{cases_eq, cases_lt}
use Rattle.std.proofs.lemmas.List.{ext_get_or, get_or_past}
use Rattle.bm_base.specs.declared.dims.Dims.{Dims}
use Rattle.bm_base.specs.declared.fault.Failed.{Failed}
use Rattle.bm_base.specs.Contents.{Contents, RackUnit, block_unit, page_unit, block_at, page_at, unit_at, HasSizes}
use Rattle.bm_rack.specs.RackView.{RackView, IsClean}
use Rattle.bm_rack.specs.Calls.{place_on, InRow, IsPage, RowWritten, PageWritten, IsBlank}
use Rattle.bm_mirror.specs.TwoSides.{IsLevel}

-- contents of the same sizes are the same where all their blocks and pages are
pub contents_same : (dims : Dims) (c d : Contents) → HasSizes dims c → HasSizes dims d
    → ((disk place : ℕ) → disk < dims.disks → place < dims.places → block_at c disk place ≡ block_at d disk place)
    → ((page : ℕ) → page < 516 → page_at c page ≡ page_at d page) → c ≡ d
contents_same dims c d x y blocks pages =
    let whole : List (List (List ℕ)) → List (List ℕ) → Contents = λ a b. record { disks = a; pages = b } in
    ap (λ a. whole a c.pages) same_disks ∙ ap (λ b. whole d.disks b) same_pages
  where
    same_disk : (disk : ℕ) → disk < dims.disks → slice_index_or c.disks disk [] ≡ slice_index_or d.disks disk []
    same_disk disk inside = ext_get_or [] (slice_index_or c.disks disk []) (slice_index_or d.disks disk [])
        (x.places disk inside ∙ sym (y.places disk inside))
        (λ place below. blocks disk place inside (omega (arith, x.places disk inside)))

    same_disks : c.disks ≡ d.disks
    same_disks = ext_get_or [] c.disks d.disks (x.disks ∙ sym y.disks) (λ disk below. same_disk disk (omega (arith, x.disks)))

    same_pages : c.pages ≡ d.pages
    same_pages = ext_get_or [] c.pages d.pages (x.pages ∙ sym y.pages) (λ page below. pages page (omega (arith, x.pages)))

-- an entry is this place, or it is not
is_place : (o : Option ℕ) (place : ℕ) → (o ≡ Some place) ⊎ (¬ (o ≡ Some place))
is_place None place = inr none
  where
    none : None ≡ Some place → ⊥
    none e = cc
is_place (Some p) place = elim (cases_eq p place) [
  | inl same ↦ inl (ap Some same)
  | inr other ↦ inr (λ e. other (inner e))
]
  where
    inner : Some p ≡ Some place → p ≡ place
    inner e = cc

-- a disk that takes part has an entry
on_a_disk : (places : List (Option ℕ)) (disk place : ℕ) → place_on places disk ≡ Some place → disk < length places
on_a_disk places disk place is = elim (cases_lt disk (length places)) [
  | inl below ↦ below
  | inr past ↦ absurd (none (sym (get_or_past places disk None past) ∙ is))
]
  where
    none : None ≡ Some place → ⊥
    none e = cc

module _ {T : Type 0} (ts tc lc gc : Bool) (l r l' r' : RackView) (lt : IsTrue tc → IsTrue lc) (gt : IsTrue tc → IsTrue gc) where
  -- after a row that both wrote
  pub rows_level : (dims : Dims) (places : List (Option ℕ)) (bytes : List ℕ) (x y : Result T Failed)
      → (IsTrue tc → HasSizes dims l'.contents) → (IsTrue tc → HasSizes dims r'.contents) → length places ≡ dims.disks
      → IsOk x → IsOk y → IsLevel ts tc l r → RowWritten lc dims l places bytes x l' → RowWritten gc dims r places bytes y r'
      → IsLevel ts tc l' r'
  rows_level dims places bytes x y left_sizes right_sizes disks okx oky k a b = record {
    stands = λ told. a.only.stands ∙ k.stands told ∙ sym b.only.stands;
    something = λ told none. k.something told (sym a.only.stands ∙ none);
    contents = λ told. contents_same dims l'.contents r'.contents (left_sizes told) (right_sizes told) (blocks told)
        (λ page below. others_same told (page_unit page) (λ h. h));
    dirty = λ told. fun_ext (flags told);
  }
    where
      others_same : IsTrue tc → (u : RackUnit) → ¬ InRow places u → unit_at l'.contents u ≡ unit_at r'.contents u
      others_same told u out = a.only.contents u out ∙ ap (λ c. unit_at c u) (k.contents told) ∙ sym (b.only.contents u out)

      others_flag : IsTrue tc → (u : RackUnit) → ¬ InRow places u → l'.dirty u ≡ r'.dirty u
      others_flag told u out = a.only.dirty u out ∙ ap (λ (d : RackUnit → Bool). d u) (k.dirty told) ∙ sym (b.only.dirty u out)

      blocks : IsTrue tc → (disk place : ℕ) → disk < dims.disks → place < dims.places
          → block_at l'.contents disk place ≡ block_at r'.contents disk place
      blocks told disk place on at = elim (is_place (place_on places disk) place) [
        | inl is ↦ a.taking (lt told) okx disk place on is ∙ sym (b.taking (gt told) oky disk place on is)
        | inr out ↦ others_same told (block_unit disk place) out
      ]

      flags : IsTrue tc → (u : RackUnit) → l'.dirty u ≡ r'.dirty u
      flags told (page_unit page) = others_flag told (page_unit page) (λ h. h)
      flags told (block_unit disk place) = elim (is_place (place_on places disk) place) [
        | inl is ↦
            let on : disk < dims.disks = omega (arith, on_a_disk places disk place is) in
            a.own_dirty (lt told) disk place on is ∙ sym (b.own_dirty (gt told) disk place on is)
        | inr out ↦ others_flag told (block_unit disk place) out
      ]

  -- after a page that both wrote
  pub pages_level : (dims : Dims) (page : ℕ) (bytes : List ℕ) (x y : Result T Failed)
      → (IsTrue tc → HasSizes dims l'.contents) → (IsTrue tc → HasSizes dims r'.contents)
      → IsOk x → IsOk y → IsLevel ts tc l r → PageWritten lc l page bytes x l' → PageWritten gc r page bytes y r'
      → IsLevel ts tc l' r'
  pages_level dims page bytes x y left_sizes right_sizes okx oky k a b = record {
    stands = λ told. a.only.stands ∙ k.stands told ∙ sym b.only.stands;
    something = λ told none. k.something told (sym a.only.stands ∙ none);
    contents = λ told. contents_same dims l'.contents r'.contents (left_sizes told) (right_sizes told)
        (λ disk place on at. others_same told (block_unit disk place) (λ h. h)) (λ other below. pages told other);
    dirty = λ told. fun_ext (flags told);
  }
    where
      others_same : IsTrue tc → (u : RackUnit) → ¬ IsPage page u → unit_at l'.contents u ≡ unit_at r'.contents u
      others_same told u out = a.only.contents u out ∙ ap (λ c. unit_at c u) (k.contents told) ∙ sym (b.only.contents u out)

      others_flag : IsTrue tc → (u : RackUnit) → ¬ IsPage page u → l'.dirty u ≡ r'.dirty u
      others_flag told u out = a.only.dirty u out ∙ ap (λ (d : RackUnit → Bool). d u) (k.dirty told) ∙ sym (b.only.dirty u out)

      pages : IsTrue tc → (other : ℕ) → page_at l'.contents other ≡ page_at r'.contents other
      pages told other = elim (cases_eq other page) [
        | inl same ↦
            ap (λ p. page_at l'.contents p) same ∙ a.taking (lt told) okx ∙ sym (b.taking (gt told) oky)
            ∙ sym (ap (λ p. page_at r'.contents p) same)
        | inr out ↦ others_same told (page_unit other) out
      ]

      flags : IsTrue tc → (u : RackUnit) → l'.dirty u ≡ r'.dirty u
      flags told (block_unit disk place) = others_flag told (block_unit disk place) (λ h. h)
      flags told (page_unit other) = elim (cases_eq other page) [
        | inl same ↦
            ap (λ p. l'.dirty (page_unit p)) same ∙ a.own_dirty (lt told) ∙ sym (b.own_dirty (gt told))
            ∙ sym (ap (λ p. r'.dirty (page_unit p)) same)
        | inr out ↦ others_flag told (page_unit other) out
      ]

-- racks with nothing dirty
pub clean_same : (v w : RackView) → IsClean v → IsClean w → v.dirty ≡ w.dirty
clean_same v w x y = fun_ext (λ u. x u ∙ sym (y u))

-- after a call that changed nothing of this on either
pub level_kept : (ts tc : Bool) (l r l' r' : RackView) → l'.stands ≡ l.stands → l'.contents ≡ l.contents → l'.dirty ≡ l.dirty
    → r'.stands ≡ r.stands → r'.contents ≡ r.contents → r'.dirty ≡ r.dirty → IsLevel ts tc l r → IsLevel ts tc l' r'
level_kept ts tc l r l' r' ls lc ld rs rc rd k = record {
  stands = λ told. ls ∙ k.stands told ∙ sym rs;
  something = λ told none. k.something told (sym ls ∙ none);
  contents = λ told. lc ∙ k.contents told ∙ sym rc;
  dirty = λ told. ld ∙ k.dirty told ∙ sym rd;
}

-- after both were made
pub blank_level : (ts tc : Bool) (dims : Dims) (l r : RackView) → (IsTrue ts → l.stands ≡ Some dims) → (IsTrue ts → r.stands ≡ Some dims)
    → (IsTrue tc → HasSizes dims l.contents) → (IsTrue tc → HasSizes dims r.contents)
    → (IsTrue tc → IsBlank dims l.contents) → (IsTrue tc → IsBlank dims r.contents) → IsClean l → IsClean r → IsLevel ts tc l r
blank_level ts tc dims l r ls rs lz rz lb rb lc rc = record {
  stands = λ told. ls told ∙ sym (rs told);
  something = λ told none. stands_not (sym (ls told) ∙ none);
  contents = λ told. contents_same dims l.contents r.contents (lz told) (rz told)
      (λ disk place on at. (lb told).blocks disk place on at ∙ sym ((rb told).blocks disk place on at))
      (λ page below. (lb told).pages page below ∙ sym ((rb told).pages page below));
  dirty = λ told. clean_same l r lc rc;
}
  where
    stands_not : Some dims ≡ None → ⊥
    stands_not e = cc
