-- The sides of a mirror after a command, from its lasting facts and from what the command did.
use Rattle.std.proofs.Common.{◌≡◌, inl, inr, ⊎_elim, ℕ, ◌≤◌, Bool, IsTrue, List, None}
use Rattle.std.proofs.Common.{sym, ap, ◌∙◌}
use Rattle.bm_rack.specs.Frames.{Keeps}
use Rattle.bm_mirror.specs.declared.sides.Sides.{Sides}
use Rattle.bm_mirror.specs.Lasting.{mirror_facts}
use Rattle.bm_mirror.proofs.SinceLemmas.{began_well, in_well, left_stays_level, right_stays_level, left_counts, right_counts}
use Rattle.bm_mirror.proofs.SinceLemmas.{left_fell, right_fell, left_fell_too, right_fell_too, stay_in, both_in, same_sides}
use Rattle.bm_top.specs.Moment.{Tells, TellsRack}
use Rattle.bm_top.specs.declared.words.Command.{Command}
use Rattle.bm_top.specs.declared.status.Status.{Status}
use Rattle.bm_top.specs.declared.status.Status.TheVariants.{Done, RackFault}
use Rattle.bm_mirror_call.specs.Healing.{AreIn, NoneRose}
use Rattle.bm_mirror_call.specs.Seen.{MirrorSeen}
use Rattle.bm_mirror_call.specs.Sides.{WorksOnDisks, IsNewMirror, OthersFollow, SidesAfter, TouchesNone}
use Rattle.bm_mirror_call.proofs.SeenLemmas.{IsSeen}

-- the facts that last from one moment to another
pub Lasts : Bool → MirrorSeen → MirrorSeen → Type 0
Lasts told a b = (fact : List ℕ) → IsTrue (mirror_facts told a.sides a.history fact) → IsTrue (mirror_facts told b.sides b.history fact)

module _ (told : Bool) (a b : MirrorSeen) (seen_a : IsSeen told a) (seen_b : IsSeen told b) where
  pub lasts : Keeps a.rack b.rack → Lasts told a b
  unfolding Lasts
  lasts keeps fact holds =
      ap (λ (f : List ℕ → Bool). f fact) (sym seen_b.facts)
      ∙ keeps.lasting fact (ap (λ (f : List ℕ → Bool). f fact) seen_a.facts ∙ holds)

  -- the sides are the same where the facts are, of a mirror that was new
  pub same_in : IsNewMirror a → a.rack.lasting ≡ b.rack.lasting → b.rack.faults ≡ a.rack.faults → b.sides.sides ≡ a.sides.sides
  same_in fresh same calm =
      let facts : mirror_facts told a.sides a.history ≡ mirror_facts told b.sides b.history = sym seen_a.facts ∙ same ∙ seen_b.facts in
      let both = same_sides told a.sides a.history b.sides b.history
      (λ fact holds. ap (λ (f : List ℕ → Bool). f fact) (sym facts) ∙ holds)
      (λ fact holds. ap (λ (f : List ℕ → Bool). f fact) facts ∙ holds)
      seen_b.remembers (sym seen_b.faults ∙ calm ∙ seen_a.faults ∙ fresh.faults) fresh.level fresh.alone seen_b.some_in in
      λ i. record { left = both.0 i; right = both.1 i }

  -- no count falls
  pub counts_grow : Lasts told a b → (a.sides.left.faults ≤ b.sides.left.faults) × (a.sides.right.faults ≤ b.sides.right.faults)
  unfolding Lasts
  counts_grow later = (
    left_counts told a.sides a.history b.sides b.history later,
    right_counts told a.sides a.history b.sides b.history
        later,
  )

  -- two that are in while no call failed stay in, but for their faults
  pub both_stay : Lasts told a b → IsTrue told → a.history.faults ≡ 0 → AreIn a.sides → NoneRose a.sides b.sides → AreIn b.sides
  unfolding Lasts
  both_stay later tells zero in_both none =
      stay_in told a.sides a.history b.sides b.history later tells seen_b.remembers none.left none.right
      (in_well a.history a.history.level.left a.sides.sides.left zero in_both.0)
      (in_well a.history a.history.level.right a.sides.sides.right zero in_both.1)
      (seen_a.remembers.left zero in_both.0, seen_a.remembers.right zero in_both.1)

  -- disks that are made where nothing stood are made on both
  pub both_made : Lasts told a b → IsTrue told → IsNewMirror a → (a.sides.left.stands ≡ None) × (a.sides.right.stands ≡ None)
      → ¬ (b.rack.stands ≡ None) → NoneRose a.sides b.sides → AreIn b.sides
  unfolding Lasts
  both_made later tells fresh nothing stands none =
      let well = began_well a.sides a.history fresh.faults fresh.level in
      both_in told a.sides a.history b.sides b.history later tells seen_b.remembers none.left none.right well.0 well.1
      (fresh.faults, nothing) (λ empty. stands (seen_b.stands tells ∙ empty))

  -- all that is said of the sides
  pub sides_after : (t : Tells) (c : Command) (answer : Status) → t.stands ≡ told → IsNewMirror a → Lasts told a b
      → (answer ≡ RackFault → ¬ (b.history.faults ≡ 0))
      → (TellsRack t → answer ≡ Done → WorksOnDisks c → OthersFollow c a.sides → NoneRose a.sides b.sides → AreIn b.sides)
      → (TouchesNone c → b.sides.sides ≡ a.sides.sides) → SidesAfter t c a.sides answer b.sides b.history
  unfolding Lasts
  sides_after t c answer tells fresh later failed both stays =
      let well = began_well a.sides a.history fresh.faults fresh.level in
      record {
        left_count = left_counts told a.sides a.history b.sides b.history later;
        right_count = right_counts told a.sides a.history b.sides b.history later;
        first_left = λ is_in. left_stays_level told a.sides a.history b.sides b.history later
            (ap (λ (z : Sides). z.left) fresh.level ∙ is_in);
        first_right = λ is_in. right_stays_level told a.sides a.history b.sides b.history later
            (ap (λ (z : Sides). z.right) fresh.level ∙ is_in);
        left_fell = λ level lost. ⊎_elim (left_fell told a.sides a.history b.sides b.history later well.0 level)
            (λ is. left_fell_too told a.sides a.history b.sides b.history later well.0 level (failed is)) lost;
        right_fell = λ level lost. ⊎_elim (λ rose. inl rose) (λ lapsed. inr (tells ∙ seen_b.remembers.lapsed lapsed, lapsed))
            (⊎_elim (right_fell told a.sides a.history b.sides b.history later well.1 level)
            (λ is. right_fell_too told a.sides a.history b.sides b.history later well.1 level (failed is)) lost);
        both = both;
        stays = stays;
      }
