-- A mirror as a contract sees it.
use Rattle.std.proofs.Common.{◌≡◌, inl, inr, ℕ, ◌^◌, ◌<◌, Bool, IsTrue, IsFalse, Option, Some, None}
use Rattle.std.proofs.Common.{sym, ap, ◌∙◌, refl}
use Rattle.std.proofs.lemmas.Bool.{false≢true, cases_Bool}
use Rattle.bm_base.specs.declared.dims.Dims.{Dims}
use Rattle.bm_rack.specs.RackView.{RackView, IsWellFormed}
use Rattle.bm_mirror.specs.Consistent.{told_is, untold_is}
use Rattle.bm_mirror.specs.Lasting.{History, Remembers, mirror_facts}
use Rattle.bm_mirror.specs.TwoSides.{TwoSides, IsMirror, preferred}
use Rattle.bm_top.specs.declared.words.Command.{Command}
use Rattle.bm_mirror_call.specs.Healing.{OthersCan}
use Rattle.bm_mirror_call.specs.Seen.{MirrorSeen, SidesTell, mirror_seen, told_contents, told_stands}
use Rattle.bm_mirror_call.specs.Sides.{GoesOnWith, OthersFollow}

-- what holds of one at every moment
pub record IsSeen (told : Bool) (m : MirrorSeen) : Type 0 where
  pub some_in : IsFalse m.sides.sides.left → IsTrue m.sides.sides.right
  pub remembers : Remembers told m.sides m.history
  pub stands : IsTrue told → m.rack.stands ≡ (preferred m.sides).stands
  pub faults : m.rack.faults ≡ m.history.faults
  pub facts : m.rack.lasting ≡ mirror_facts told m.sides m.history
  pub left_fits : m.sides.left.faults < 2 ^ 64
  pub right_fits : m.sides.right.faults < 2 ^ 64

pub seen_is : (t : SidesTell) (s : TwoSides) (h : History) (attached : Option Dims) (moves pages syncs : ℕ)
    → IsMirror (told_stands t) (told_contents t) s attached → Remembers (told_stands t) s h
    → IsWellFormed t.left_stands t.left_contents s.left → IsWellFormed t.right_stands t.right_contents s.right
    → IsSeen (told_stands t) (mirror_seen t s h attached moves pages syncs)
seen_is t s h attached moves pages syncs k remembers left right = record {
  some_in = k.some_in;
  remembers = remembers;
  stands = λ told. told_is (told_stands t) (preferred s).stands None told;
  faults = refl;
  facts = refl;
  left_fits = left.faults;
  right_fits = right.faults;
}

-- the side that is asked first
pub preferred_left : (s : TwoSides) → IsTrue s.sides.left → preferred s ≡ s.left
preferred_left s holds = told_is s.sides.left s.left s.right holds

pub preferred_right : (s : TwoSides) → IsFalse s.sides.left → preferred s ≡ s.right
preferred_right s out = untold_is s.sides.left s.left s.right out

-- where nothing stands on the one side that is in, and the other follows it, nothing stands on either
pub nothing_stands : (c : Command) (s : TwoSides) → ¬ GoesOnWith c → OthersFollow c s → (IsTrue s.sides.left → IsFalse s.sides.right)
    → (preferred s).stands ≡ None → (s.left.stands ≡ None) × (s.right.stands ≡ None)
nothing_stands c s makes follow alone none = elim (cases_Bool s.sides.left) [
  | inl holds ↦ (
    ap (λ (v : RackView). v.stands) (sym (preferred_left s holds)) ∙ none,
    elim (follow.right (alone holds)) [
      | inl empty ↦ empty
      | inr same ↦ absurd (makes same.0)
    ],
  )
  | inr out ↦ (
    elim (follow.left out) [
      | inl empty ↦ empty
      | inr same ↦ absurd (makes same.0)
    ],
    ap (λ (v : RackView). v.stands) (sym (preferred_right s out)) ∙ none,
  )
]

-- where disks of these sizes stand on it, those that follow can be filled from it
pub others_can : (c : Command) (s : TwoSides) (dims : Dims) → (IsFalse s.sides.left → IsTrue s.sides.right) → OthersFollow c s
    → (preferred s).stands ≡ Some dims → OthersCan dims s
others_can c s dims some_in follow stands = record {
  left = λ out. elim (follow.left out) [
    | inl empty ↦ inl empty
    | inr same ↦ inr (same.1 ∙ ap (λ (v : RackView). v.stands) (sym (preferred_right s out)) ∙ stands)
  ];
  right = λ out. elim (follow.right out) [
    | inl empty ↦ inl empty
    | inr same ↦ inr (same.1 ∙ ap (λ (v : RackView). v.stands) (sym (preferred_left s (left_in out))) ∙ stands)
  ];
}
  where
    left_in : IsFalse s.sides.right → IsTrue s.sides.left
    left_in out = elim (cases_Bool s.sides.left) [
      | inl holds ↦ holds
      | inr other ↦ absurd (false≢true (sym out ∙ some_in other))
    ]
