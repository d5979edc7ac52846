-- A mirror that is attached and healed for a command.
use Rattle.std.proofs.Common.{Ok, inl, inr, ⊎_elim, ◌&&◌, ◌^◌, ◌<◌, ◌≤◌, Bool, IsFalse, Option, Some, Result}
use Rattle.std.proofs.Common.{sym, ap, subst, ◌∙◌, refl}
use Rattle.std.proofs.lemmas.Bool.{and_parts, cases_Bool, false≢true}
use Rattle.bm_base.specs.declared.dims.Dims.{Dims}
use Rattle.bm_base.proofs.CountLemmas.{rose_earlier, rose_later}
use Rattle.bm_rack.specs.RackView.{RackView, IsWellFormed}
use Rattle.bm_rack.specs.Frames.{Keeps, RaisesCounts}
use Rattle.bm_rack.specs.Calls.{AttachDone}
use Rattle.bm_rack.specs.declared.rack.Found.{Found}
use Rattle.bm_rack.specs.declared.rack.AttachError.{AttachError}
use Rattle.bm_rack.proofs.FrameLemmas.{Keeps-trans}
use Rattle.bm_mirror.specs.declared.healing.Healed.{Healed}
use Rattle.bm_mirror.specs.declared.healing.Healed.TheVariants.{Level, Apart}
use Rattle.bm_mirror.specs.Healing.{MirrorHeal, ShowsTheSame}
use Rattle.bm_mirror.specs.SideCalls.{MirrorCall}
use Rattle.bm_mirror.specs.TwoSides.{TwoSides}
use Rattle.bm_top.proofs.SameDisksLemmas.{calls_kept}
use Rattle.bm_mirror_call.specs.Healing.{CanBeFilled, ComesIn, NoneRose, ShownAs}

-- ---- what the mirror shows

-- after an attach
pub shown_attached : (told ts tc : Bool) (dims : Dims) (result : Result Found AttachError) (old new : RackView)
    → IsWellFormed ts tc old → AttachDone told dims old result new → RaisesCounts 0 0 0 old new → Keeps old new → ShownAs old new
shown_attached told ts tc dims result old new well done counts keeps = record {
  stands = done.stands;
  contents = done.contents;
  dirty = inl done.dirty;
  calls = calls_kept ts tc old new well counts;
  keeps = keeps;
}

-- after a heal
pub shown_healed : (old new : RackView) → ShowsTheSame old new → Keeps old new → ShownAs old new
shown_healed old new same keeps = record {
  stands = same.stands;
  contents = same.contents;
  dirty = same.dirty;
  calls = record { moves = same.moves; pages = same.pages; syncs = same.syncs };
  keeps = keeps;
}

-- after one and then the other
pub ShownAs-trans : (a b c : RackView) → ShownAs a b → ShownAs b c → ShownAs a c
ShownAs-trans a b c x y = record {
  stands = y.stands ∙ x.stands;
  contents = y.contents ∙ x.contents;
  dirty = elim y.dirty [
    | inr clean ↦ inr clean
    | inl same ↦ elim x.dirty [
      | inl before ↦ inl (same ∙ before)
      | inr clean ↦ inr (λ u. ap (λ f. f u) same ∙ clean u)
    ]
  ];
  calls = record {
    moves = y.calls.moves ∙ x.calls.moves;
    pages = y.calls.pages ∙ x.calls.pages;
    syncs = y.calls.syncs ∙ x.calls.syncs;
  };
  keeps = Keeps-trans a b c x.keeps y.keeps;
}

-- ---- counts of faults

-- of a count that does not rise
module _ (a b c : TwoSides) (left : b.left.faults ≤ c.left.faults) (right : b.right.faults ≤ c.right.faults)
    (left_fits : c.left.faults < 2 ^ 64) (right_fits : c.right.faults < 2 ^ 64) where
  pub none_rose_before : NoneRose a c → NoneRose a b
  none_rose_before none = record {
    left = λ rose. none.left (rose_later a.left.faults b.left.faults c.left.faults left left_fits rose);
    right = λ rose. none.right (rose_later a.right.faults b.right.faults c.right.faults right right_fits rose);
  }

pub none_rose_after : (a b c : TwoSides) → a.left.faults ≤ b.left.faults → a.right.faults ≤ b.right.faults → NoneRose a c → NoneRose b c
none_rose_after a b c left right none = record {
  left = λ rose. none.left (rose_earlier a.left.faults b.left.faults c.left.faults left rose);
  right = λ rose. none.right (rose_earlier a.right.faults b.right.faults c.right.faults right rose);
}

-- ---- the sides

-- after a heal
pub healed_in : (ls lc gs gc : Bool) (dims : Dims) (healed : Healed) (old new : TwoSides)
    → MirrorHeal ls lc gs gc dims (Ok healed) old new → ComesIn (ls && gs) dims (Some dims) old new
healed_in ls lc gs gc dims Level old new heal told stands can none = heal.level refl
healed_in ls lc gs gc dims Apart old new heal told stands can none = elim (cases_Bool old.sides.left) [
  | inr out ↦ absurd (⊎_elim none.left (λ other. ⊎_elim other.0 other.1 (can.left out))
      ((heal.to_left out).apart refl (and_parts ls gs told).0))
  | inl left ↦ elim (cases_Bool old.sides.right) [
    | inr out ↦ absurd (⊎_elim none.right (λ other. ⊎_elim other.0 other.1 (can.right out))
        ((heal.to_right out).apart refl (and_parts ls gs told).1))
    | inl right ↦ (let same = (heal.idle left right).0 in absurd (cc))
  ]
]

-- and after an attach before it
pub attached_in : (told : Bool) (dims : Dims) (stands : Option Dims) (failed lapsed : Type 0) (a b c : TwoSides)
    → MirrorCall 0 0 0 failed lapsed a b → (lapsed → IsFalse told)
    → b.left.faults ≤ c.left.faults → b.right.faults ≤ c.right.faults → c.left.faults < 2 ^ 64 → c.right.faults < 2 ^ 64
    → ComesIn told dims (Some dims) b c → ComesIn told dims stands a c
attached_in told dims stands failed lapsed a b c call lapses left right left_fits right_fits comes tells is can none =
    comes tells refl (record { left = left_can; right = right_can })
    (none_rose_after a b c call.left.keeps.faults call.right.keeps.faults none)
  where
    early : NoneRose a b
    early = none_rose_before a b c left right left_fits right_fits none

    left_can : IsFalse b.sides.left → CanBeFilled dims b.left
    left_can out = elim (cases_Bool a.sides.left) [
      | inl was_in ↦ absurd (⊎_elim early.left (λ never. never) (call.left.fell was_in out))
      | inr was_out ↦ subst (CanBeFilled dims) (sym (call.left.untouched was_out)) (can.left was_out)
    ]

    right_can : IsFalse b.sides.right → CanBeFilled dims b.right
    right_can out = elim (cases_Bool a.sides.right) [
      | inl was_in ↦ absurd (⊎_elim early.right (λ lapse. false≢true (sym (lapses lapse) ∙ tells)) (call.right.fell was_in out))
      | inr was_out ↦ subst (CanBeFilled dims) (sym (call.right.untouched was_out)) (can.right was_out)
    ]
