-- The facts of a mirror, and what makes each of them stay true.
use Rattle.std.proofs.Common.{◌≡◌, ◌⊎◌, inl, inr, ⊎_elim, ◌&&◌, ◌||◌, ◌==◌, ℕ, zero, suc, ◌-◌, ◌^◌, ◌<◌, ◌≤◌, leb, ltb, not, is_none}
use Rattle.std.proofs.Common.{Bool, true, IsTrue, IsFalse, List, [], ◌∷◌, Option, Some, None, sym, ◌∙◌, refl, arith}
use Rattle.std.proofs.lemmas.Bool.{false≢true, leb-true, le-leb, cases_Bool, false_from_ne_true}
use Rattle.std.proofs.lemmas.Bool.Decides.{Decides-and, Decides-or, Decides-not, Decides-ltb, Decides-eqb}
use Rattle.std.specs.Bool.{Decides}
use Rattle.bm_base.specs.declared.dims.Dims.{Dims}
use Rattle.bm_base.specs.Count.{Rose}
use Rattle.bm_base.proofs.CountLemmas.{rose_later, rose_earlier}
use Rattle.bm_mirror.specs.TwoSides.{TwoSides, preferred}
use Rattle.bm_mirror.specs.Lasting.{History, IsWell, mirror_facts, has_risen, fell_or, stands_well, fell_or_both}

-- a flag is what it says
flag : (b : Bool) → Decides b (IsTrue b)
flag b = (λ h. h, λ h. h)

Decides-leb : (m n : ℕ) → Decides (leb m n) (m ≤ n)
Decides-leb m n = (leb-true m n, le-leb m n)

Decides-none : (o : Option Dims) → Decides (is_none o) (o ≡ None)
Decides-none None = (λ _. refl, λ _. refl)
Decides-none (Some d) = (λ e. absurd (false≢true e), λ e. none e)
  where
    none : Some d ≡ None → is_none (Some d) ≡ true
    none e = cc

Decides-risen : (m n : ℕ) → Decides (has_risen m n) (Rose m n)
Decides-risen m n = Decides-or (ltb m n) (n == 2 ^ 64 - 1) (Decides-ltb m n) (Decides-eqb n (2 ^ 64 - 1))

-- a side that is not level, or that is in while no call failed
abbrev pub StandsWell : History → Bool → Bool → Type 0
StandsWell h level is_in = (¬ IsTrue level) ⊎ IsWell h is_in

Decides-well : (h : History) (level is_in : Bool) → Decides (stands_well h.faults level is_in) (StandsWell h level is_in)
Decides-well h level is_in =
    Decides-or (not level) ((h.faults == 0) && is_in) (Decides-not level (flag level))
    (Decides-and (h.faults == 0) is_in (Decides-eqb h.faults 0) (flag is_in))

-- what a fact of a side says, where this excuses it
abbrev pub FellOr : ℕ → ℕ → Type 0 → Type 0
FellOr count faults P = (count ≤ faults) × (Rose count faults ⊎ P)

Decides-fell : {P : Type 0} (count faults : ℕ) (b : Bool) → Decides b P → Decides (fell_or count faults b) (FellOr count faults P)
Decides-fell count faults b d =
    Decides-and (leb count faults) (has_risen count faults || b) (Decides-leb count faults)
    (Decides-or (has_risen count faults) b (Decides-risen count faults) d)

-- nothing stands on either side, and no call failed
abbrev pub IsNew : TwoSides → History → Type 0
IsNew s h = (h.faults ≡ 0) × ((s.left.stands ≡ None) × (s.right.stands ≡ None))

-- memory was refused, and nothing stands on the side that is asked first
abbrev pub IsStarved : TwoSides → History → Type 0
IsStarved s h = IsTrue h.starved × ((preferred s).stands ≡ None)

-- both sides are level
abbrev pub AreLevel : History → Type 0
AreLevel h = IsTrue h.level.left × IsTrue h.level.right

-- what became of both
abbrev pub FellOrBoth : TwoSides → History → ℕ → ℕ → Type 0
FellOrBoth s h left right =
    ((left ≤ s.left.faults) × (right ≤ s.right.faults))
    × ((Rose left s.left.faults ⊎ Rose right s.right.faults) ⊎ (AreLevel h ⊎ (IsStarved s h ⊎ IsNew s h)))

Decides-both : (s : TwoSides) (h : History) (left right : ℕ) → Decides (fell_or_both s h left right) (FellOrBoth s h left right)
Decides-both s h left right =
    let l = s.left.stands in
    let r = s.right.stands in
    let new = is_none l && is_none r in
    let starved = h.starved && is_none (preferred s).stands in
    let level = h.level.left && h.level.right in
    let began = (h.faults == 0) && new in
    let risen = has_risen left s.left.faults || has_risen right s.right.faults in
    let counts = leb left s.left.faults && leb right s.right.faults in
    Decides-and counts (risen || (level || (starved || began)))
    (Decides-and (leb left s.left.faults) (leb right s.right.faults) (Decides-leb left s.left.faults) (Decides-leb right s.right.faults))
    (Decides-or risen (level || (starved || began))
    (Decides-or (has_risen left s.left.faults) (has_risen right s.right.faults) (Decides-risen left s.left.faults)
    (Decides-risen right s.right.faults))
    (Decides-or level (starved || began) (Decides-and h.level.left h.level.right (flag h.level.left) (flag h.level.right))
    (Decides-or starved began
    (Decides-and h.starved (is_none (preferred s).stands) (flag h.starved) (Decides-none (preferred s).stands))
    (Decides-and (h.faults == 0) new (Decides-eqb h.faults 0)
    (Decides-and (is_none l) (is_none r) (Decides-none l) (Decides-none r))))))

-- what a fact says
unfoldable pub Says : Bool → TwoSides → History → List ℕ → Type 0
Says told s h [] = ⊥
Says told s h (zero ∷ []) = IsTrue h.level.left
Says told s h (suc n ∷ []) = IsTrue h.level.right
Says told s h (zero ∷ count ∷ []) = count ≤ s.left.faults
Says told s h (suc n ∷ count ∷ []) = count ≤ s.right.faults
Says told s h (zero ∷ count ∷ x ∷ []) = FellOr count s.left.faults (StandsWell h h.level.left s.sides.left)
Says told s h (suc n ∷ count ∷ x ∷ []) = FellOr count s.right.faults (IsTrue h.lapsed ⊎ StandsWell h h.level.right s.sides.right)
Says told s h (side ∷ left ∷ right ∷ x ∷ []) = IsTrue told × FellOrBoth s h left right
Says told s h (side ∷ left ∷ right ∷ x ∷ y ∷ more) = ⊥

pub Decides-facts : (told : Bool) (s : TwoSides) (h : History) (fact : List ℕ) → Decides (mirror_facts told s h fact) (Says told s h fact)
unfolding mirror_facts Says
Decides-facts told s h [] = (λ e. absurd (false≢true e), λ e. absurd e)
Decides-facts told s h (zero ∷ []) = flag h.level.left
Decides-facts told s h (suc n ∷ []) = flag h.level.right
Decides-facts told s h (zero ∷ count ∷ []) = Decides-leb count s.left.faults
Decides-facts told s h (suc n ∷ count ∷ []) = Decides-leb count s.right.faults
Decides-facts told s h (zero ∷ count ∷ x ∷ []) =
    Decides-fell count s.left.faults (stands_well h.faults h.level.left s.sides.left) (Decides-well h h.level.left s.sides.left)
Decides-facts told s h (suc n ∷ count ∷ x ∷ []) =
    Decides-fell count s.right.faults (h.lapsed || stands_well h.faults h.level.right s.sides.right)
    (Decides-or h.lapsed (stands_well h.faults h.level.right s.sides.right) (flag h.lapsed) (Decides-well h h.level.right s.sides.right))
Decides-facts told s h (side ∷ left ∷ right ∷ x ∷ []) =
    Decides-and told (fell_or_both s h left right) (flag told) (Decides-both s h left right)
Decides-facts told s h (side ∷ left ∷ right ∷ x ∷ y ∷ more) = (λ e. absurd (false≢true e), λ e. absurd e)

-- What a call does so that each fact stays true: counts don't fall, what is level stays so, and a side that is level is in while no call
-- failed or else fell.
pub record IsLater (told : Bool) (s : TwoSides) (h : History) (s' : TwoSides) (h' : History) : Type 0 where
  pub left_count : s.left.faults ≤ s'.left.faults
  pub right_count : s.right.faults ≤ s'.right.faults
  pub left_fits : s'.left.faults < 2 ^ 64
  pub right_fits : s'.right.faults < 2 ^ 64
  pub left_level : IsTrue h.level.left → IsTrue h'.level.left
  pub right_level : IsTrue h.level.right → IsTrue h'.level.right
  pub lapsed : IsTrue h.lapsed → IsTrue h'.lapsed
  pub left_since : IsFalse h.level.left → IsTrue h'.level.left → IsWell h' s'.sides.left
  pub right_since : IsFalse h.level.right → IsTrue h'.level.right → IsWell h' s'.sides.right
  pub left_well : IsWell h s.sides.left → Rose s.left.faults s'.left.faults ⊎ IsWell h' s'.sides.left
  pub right_well : IsWell h s.sides.right → Rose s.right.faults s'.right.faults ⊎ (IsTrue h'.lapsed ⊎ IsWell h' s'.sides.right)
  pub both : IsTrue told → IsStarved s h ⊎ IsNew s h
      → (Rose s.left.faults s'.left.faults ⊎ Rose s.right.faults s'.right.faults) ⊎ (AreLevel h' ⊎ (IsStarved s' h' ⊎ IsNew s' h'))

-- a side that is not level, after a call
well_later : (h h' : History) (was now is_in : Bool) → (IsFalse was → IsTrue now → IsWell h' is_in) → (¬ IsTrue was)
    → StandsWell h' now is_in
well_later h h' was now is_in since out = elim (cases_Bool now) [
  | inl level ↦ inr (since (false_from_ne_true was out) level)
  | inr apart ↦ inl (λ level. false≢true (sym apart ∙ level))
]

module _ (told : Bool) (s : TwoSides) (h : History) (s' : TwoSides) (h' : History) (k : IsLater told s h s' h') where
  left_later : (count : ℕ) → FellOr count s.left.faults (StandsWell h h.level.left s.sides.left)
      → FellOr count s'.left.faults (StandsWell h' h'.level.left s'.sides.left)
  left_later count x = (
    omega (arith, x.0, k.left_count),
    elim x.1 [
      | inl rose ↦ inl (rose_later count s.left.faults s'.left.faults k.left_count k.left_fits rose)
      | inr well ↦ elim well [
        | inl out ↦ inr (well_later h h' h.level.left h'.level.left s'.sides.left k.left_since out)
        | inr fine ↦ ⊎_elim (λ rose. inl (rose_earlier count s.left.faults s'.left.faults x.0 rose)) (λ fine. inr (inr fine))
            (k.left_well fine)
      ]
    ],
  )

  right_later : (count : ℕ) → FellOr count s.right.faults (IsTrue h.lapsed ⊎ StandsWell h h.level.right s.sides.right)
      → FellOr count s'.right.faults (IsTrue h'.lapsed ⊎ StandsWell h' h'.level.right s'.sides.right)
  right_later count x = (
    omega (arith, x.0, k.right_count),
    elim x.1 [
      | inl rose ↦ inl (rose_later count s.right.faults s'.right.faults k.right_count k.right_fits rose)
      | inr excused ↦ elim excused [
        | inl lapsed ↦ inr (inl (k.lapsed lapsed))
        | inr well ↦ elim well [
          | inl out ↦ inr (inr (well_later h h' h.level.right h'.level.right s'.sides.right k.right_since out))
          | inr fine ↦ elim (k.right_well fine) [
            | inl rose ↦ inl (rose_earlier count s.right.faults s'.right.faults x.0 rose)
            | inr stays ↦ elim stays [ inl lapsed ↦ inr (inl lapsed) | inr fine ↦ inr (inr (inr fine)) ]
          ]
        ]
      ]
    ],
  )

  both_later : (left right : ℕ) → IsTrue told → FellOrBoth s h left right → FellOrBoth s' h' left right
  both_later left right tells x = (
    (omega (arith, x.0.0, k.left_count), omega (arith, x.0.1, k.right_count)),
    elim x.1 [
      | inl rose ↦ inl (⊎_elim (λ r. inl (rose_later left s.left.faults s'.left.faults k.left_count k.left_fits r))
          (λ r. inr (rose_later right s.right.faults s'.right.faults k.right_count k.right_fits r)) rose)
      | inr rest ↦ elim rest [
        | inl level ↦ inr (inl (k.left_level level.0, k.right_level level.1))
        | inr before ↦ elim (k.both tells before) [
          | inl rose ↦ inl (⊎_elim (λ r. inl (rose_earlier left s.left.faults s'.left.faults x.0.0 r))
              (λ r. inr (rose_earlier right s.right.faults s'.right.faults x.0.1 r)) rose)
          | inr after ↦ inr after
        ]
      ]
    ],
  )

  says_later : (fact : List ℕ) → Says told s h fact → Says told s' h' fact
  unfolding Says
  says_later [] x = x
  says_later (zero ∷ []) x = k.left_level x
  says_later (suc n ∷ []) x = k.right_level x
  says_later (zero ∷ count ∷ []) x = omega (arith, x, k.left_count)
  says_later (suc n ∷ count ∷ []) x = omega (arith, x, k.right_count)
  says_later (zero ∷ count ∷ y ∷ []) x = left_later count x
  says_later (suc n ∷ count ∷ y ∷ []) x = right_later count x
  says_later (side ∷ left ∷ right ∷ y ∷ []) x = (x.0, both_later left right x.0 x.1)
  says_later (side ∷ left ∷ right ∷ y ∷ z ∷ more) x = x

  -- each fact stays
  pub lasting_kept : (fact : List ℕ) → IsTrue (mirror_facts told s h fact) → IsTrue (mirror_facts told s' h' fact)
  lasting_kept fact holds = (Decides-facts told s' h' fact).1 (says_later fact ((Decides-facts told s h fact).0 holds))
