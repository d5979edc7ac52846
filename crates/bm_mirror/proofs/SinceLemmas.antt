-- What a mirror's lasting facts say of its sides at the end of any calls, by what they were at the start. The calls are joined by what
-- each keeps, so that `later` is the `lasting` of `Keeps` from the first view to the last.
use Rattle.std.proofs.Common.{◌≡◌, ◌⊎◌, inl, inr, ⊎_elim, ℕ, zero, suc, ◌≤◌, Bool, true, false, IsTrue, IsFalse, List, [], ◌∷◌, None}
use Rattle.std.proofs.Common.{sym, ◌∙◌, ap, arith}
use Rattle.std.proofs.lemmas.Bool.{false≢true, cases_Bool}
use Rattle.bm_base.specs.Count.{Rose}
use Rattle.bm_mirror.specs.TwoSides.{TwoSides, preferred}
use Rattle.bm_mirror.specs.Lasting.{History, IsWell, Remembers, mirror_facts}
use Rattle.bm_mirror.proofs.SideLemmas.{both_ways}
use Rattle.bm_mirror.proofs.LastingLemmas.{StandsWell, IsNew, IsStarved, AreLevel, Says, Decides-facts}

-- at the start of a new mirror each side stands well: it is in, or it is not level
pub began_well : (s : TwoSides) (h : History) → h.faults ≡ 0 → h.level ≡ s.sides
    → StandsWell h h.level.left s.sides.left × StandsWell h h.level.right s.sides.right
began_well s h fine same =
    (stands h.level.left s.sides.left (ap (λ z. z.left) same), stands h.level.right s.sides.right (ap (λ z. z.right) same))
  where
    stands : (level is_in : Bool) → level ≡ is_in → StandsWell h level is_in
    stands level is_in alike = elim (cases_Bool is_in) [
      | inl holds ↦ inr (fine, holds)
      | inr out ↦ inl (λ is. false≢true (sym out ∙ sym alike ∙ is))
    ]

-- a side that is in while no call failed stands well
pub in_well : (h : History) (level is_in : Bool) → h.faults ≡ 0 → IsTrue is_in → StandsWell h level is_in
in_well h level is_in fine holds = inr (fine, holds)

module _ (told : Bool) (s : TwoSides) (h : History) (s' : TwoSides) (h' : History)
    (later : (fact : List ℕ) → IsTrue (mirror_facts told s h fact) → IsTrue (mirror_facts told s' h' fact)) where
  says : (fact : List ℕ) → Says told s h fact → Says told s' h' fact
  says fact holds = (Decides-facts told s' h' fact).0 (later fact ((Decides-facts told s h fact).1 holds))

  -- a side that is level stays so
  pub left_stays_level : IsTrue h.level.left → IsTrue h'.level.left
  unfolding Says
  left_stays_level = says (zero ∷ [])

  pub right_stays_level : IsTrue h.level.right → IsTrue h'.level.right
  unfolding Says
  right_stays_level = says (suc zero ∷ [])

  -- the count of no side falls
  pub left_counts : s.left.faults ≤ s'.left.faults
  unfolding Says
  left_counts = says (zero ∷ s.left.faults ∷ []) (omega arith)

  pub right_counts : s.right.faults ≤ s'.right.faults
  unfolding Says
  right_counts = says (suc zero ∷ s.right.faults ∷ []) (omega arith)

  -- a side that stood well: its count rose, or else, if it is level, it is in and no call failed
  left_since : StandsWell h h.level.left s.sides.left → Rose s.left.faults s'.left.faults ⊎ StandsWell h' h'.level.left s'.sides.left
  unfolding Says
  left_since well = (says (zero ∷ s.left.faults ∷ zero ∷ []) (omega arith, inr well)).1

  right_since : StandsWell h h.level.right s.sides.right
      → Rose s.right.faults s'.right.faults ⊎ (IsTrue h'.lapsed ⊎ StandsWell h' h'.level.right s'.sides.right)
  unfolding Says
  right_since well = (says (suc zero ∷ s.right.faults ∷ zero ∷ []) (omega arith, inr (inr well))).1

  left_fell_unless : StandsWell h h.level.left s.sides.left → IsTrue h'.level.left → ¬ IsWell h' s'.sides.left
      → Rose s.left.faults s'.left.faults
  left_fell_unless before level ill = elim (left_since before) [
    | inl rose ↦ rose
    | inr after ↦ absurd (⊎_elim (λ out. out level) (λ well. ill well) after)
  ]

  right_fell_unless : StandsWell h h.level.right s.sides.right → IsTrue h'.level.right → ¬ IsWell h' s'.sides.right
      → Rose s.right.faults s'.right.faults ⊎ IsTrue h'.lapsed
  right_fell_unless before level ill = elim (right_since before) [
    | inl rose ↦ inl rose
    | inr rest ↦ elim rest [
      | inl lapsed ↦ inr lapsed
      | inr after ↦ absurd (⊎_elim (λ out. out level) (λ well. ill well) after)
    ]
  ]

  -- a side that is level and out fell: its count rose, or, only the right one, it lapsed
  pub left_fell : StandsWell h h.level.left s.sides.left → IsTrue h'.level.left → IsFalse s'.sides.left
      → Rose s.left.faults s'.left.faults
  left_fell before level out = left_fell_unless before level (λ well. both_ways s'.sides.left well.1 out)

  pub right_fell : StandsWell h h.level.right s.sides.right → IsTrue h'.level.right → IsFalse s'.sides.right
      → Rose s.right.faults s'.right.faults ⊎ IsTrue h'.lapsed
  right_fell before level out = right_fell_unless before level (λ well. both_ways s'.sides.right well.1 out)

  -- where a call of the mirror failed, each side that is level fell
  pub left_fell_too : StandsWell h h.level.left s.sides.left → IsTrue h'.level.left → ¬ (h'.faults ≡ 0)
      → Rose s.left.faults s'.left.faults
  left_fell_too before level failed = left_fell_unless before level (λ well. failed well.0)

  pub right_fell_too : StandsWell h h.level.right s.sides.right → IsTrue h'.level.right → ¬ (h'.faults ≡ 0)
      → Rose s.right.faults s'.right.faults ⊎ IsTrue h'.lapsed
  right_fell_too before level failed = right_fell_unless before level (λ well. failed well.0)

  module _ (tells : IsTrue told) (end : Remembers told s' h') (left_quiet : ¬ Rose s.left.faults s'.left.faults)
      (right_quiet : ¬ Rose s.right.faults s'.right.faults) (left_well : StandsWell h h.level.left s.sides.left)
      (right_well : StandsWell h h.level.right s.sides.right) where
    -- two sides that are level are in, where both racks tell what stands and no count rose
    pub level_in : AreLevel h' → IsTrue s'.sides.left × IsTrue s'.sides.right
    level_in level = (left_in (left_since left_well), right_in (right_since right_well))
      where
        left_in : Rose s.left.faults s'.left.faults ⊎ StandsWell h' h'.level.left s'.sides.left → IsTrue s'.sides.left
        left_in (inl rose) = absurd (left_quiet rose)
        left_in (inr (inl out)) = absurd (out level.0)
        left_in (inr (inr well)) = well.1

        right_in : Rose s.right.faults s'.right.faults ⊎ (IsTrue h'.lapsed ⊎ StandsWell h' h'.level.right s'.sides.right)
            → IsTrue s'.sides.right
        right_in (inl rose) = absurd (right_quiet rose)
        right_in (inr (inl lapsed)) = both_ways told tells (end.lapsed lapsed)
        right_in (inr (inr (inl out))) = absurd (out level.1)
        right_in (inr (inr (inr well))) = well.1

    -- two sides that were level are in still
    pub stay_in : AreLevel h → IsTrue s'.sides.left × IsTrue s'.sides.right
    stay_in level = level_in (left_stays_level level.0, right_stays_level level.1)

    -- and both are in where nothing stood on either and no call had failed, and something stands now
    pub both_in : IsNew s h → ¬ ((preferred s').stands ≡ None) → IsTrue s'.sides.left × IsTrue s'.sides.right
    unfolding Says
    both_in fresh stands = elim what [
      | inl rose ↦ absurd (⊎_elim left_quiet right_quiet rose)
      | inr rest ↦ elim rest [
        | inl level ↦ level_in level
        | inr before ↦ absurd (⊎_elim (λ starved. stands starved.1) (λ new. stands (nothing new)) before)
      ]
    ]
      where
        what : (Rose s.left.faults s'.left.faults ⊎ Rose s.right.faults s'.right.faults) ⊎ (AreLevel h' ⊎ (IsStarved s' h' ⊎ IsNew s' h'))
        what = (says (zero ∷ s.left.faults ∷ s.right.faults ∷ zero ∷ [])
            (tells, ((omega arith, omega arith), inr (inr (inr fresh))))).1.1

        nothing : IsNew s' h' → (preferred s').stands ≡ None
        nothing new = on_either s'.sides.left
          where
            on_either : (b : Bool) → (preferred (record s' { sides = record s'.sides { left = b } })).stands ≡ None
            on_either true = new.1.0
            on_either false = new.1.1

  -- The sides are the same where the facts are, as for a call that leaves the mirror as it was: one side was in, which alone was level, and
  -- no call failed.
  pub same_sides : ((fact : List ℕ) → IsTrue (mirror_facts told s' h' fact) → IsTrue (mirror_facts told s h fact))
      → Remembers told s' h' → h'.faults ≡ 0 → h.level ≡ s.sides → (IsTrue s.sides.left → IsFalse s.sides.right)
      → (IsFalse s'.sides.left → IsTrue s'.sides.right) → (s'.sides.left ≡ s.sides.left) × (s'.sides.right ≡ s.sides.right)
  unfolding Says
  same_sides earlier end fine same one some_in = elim (cases_Bool s'.sides.left) [
    | inl left_in ↦
        let was = left_was left_in in (
          left_in ∙ sym was,
          elim (cases_Bool s'.sides.right) [
            | inl right_in ↦ both_ways s.sides.right (right_was right_in) (one was)
            | inr out ↦ out ∙ sym (one was)
          ],
        )
    | inr out ↦
        let was = right_was (some_in out) in (
          elim (cases_Bool s.sides.left) [
            | inl left_in ↦ both_ways s.sides.right was (one left_in)
            | inr before ↦ out ∙ sym before
          ],
          some_in out ∙ sym was,
        )
  ]
    where
      was_said : (fact : List ℕ) → Says told s' h' fact → Says told s h fact
      was_said fact holds = (Decides-facts told s h fact).0 (earlier fact ((Decides-facts told s' h' fact).1 holds))

      left_was : IsTrue s'.sides.left → IsTrue s.sides.left
      left_was is_in = sym (ap (λ z. z.left) same) ∙ was_said (zero ∷ []) (end.left fine is_in)

      right_was : IsTrue s'.sides.right → IsTrue s.sides.right
      right_was is_in = sym (ap (λ z. z.right) same) ∙ was_said (suc zero ∷ []) (end.right fine is_in)
