-- What a mirror has come through, and the facts of it that no call takes back.
use Rattle.std.specs.Prelude.{◌≡◌, ◌&&◌, ◌||◌, ◌==◌, ℕ, zero, suc, ◌-◌, ◌^◌, leb, ltb, not, is_none}
use Rattle.std.specs.Prelude.{Bool, false, IsTrue, IsFalse, List, [], ◌∷◌}
use Rattle.bm_mirror.specs.declared.sides.Sides.{Sides}
use Rattle.bm_mirror.specs.TwoSides.{TwoSides, preferred}

-- What a mirror knows of its sides besides which are in.
pub record History : Type 0 where
  -- the sides that have been in while no call of the mirror had failed
  pub level : Sides
  -- the right side went out by its answer to an attach, with no fault of its own
  pub lapsed : Bool
  -- the side that was out was made, and then memory was refused for the one that is asked first
  pub starved : Bool
  -- the mirror's own count
  pub faults : ℕ

abbrev pub history : Sides → Bool → Bool → ℕ → History
history level lapsed starved faults = record { level = level; lapsed = lapsed; starved = starved; faults = faults }

-- no call of the mirror failed, and this side is in
abbrev pub IsWell : History → Bool → Type 0
IsWell h is_in = (h.faults ≡ 0) × IsTrue is_in

-- Whether a side is level after a call, after which it is in or out and the mirror's count is this.
pub record LevelNow (faults : ℕ) (is_in was now : Bool) : Type 0 where
  pub stays : IsTrue was → IsTrue now
  pub taken : faults ≡ 0 → IsTrue is_in → IsTrue now
  pub since : IsFalse was → IsTrue now → (faults ≡ 0) × IsTrue is_in

-- What holds of both at every moment.
pub record Remembers (told : Bool) (s : TwoSides) (h : History) : Type 0 where
  -- a side that is in while no call failed is level
  pub left : h.faults ≡ 0 → IsTrue s.sides.left → IsTrue h.level.left
  pub right : h.faults ≡ 0 → IsTrue s.sides.right → IsTrue h.level.right
  -- a side goes out with no fault only where what stands is not told on both
  pub lapsed : IsTrue h.lapsed → IsFalse told

-- a count of faults rose from the first to the second, as a test
abbrev pub has_risen : ℕ → ℕ → Bool
has_risen old new = ltb old new || (new == 2 ^ 64 - 1)

-- a side whose count is at least this much: it is above that, or this holds
abbrev pub fell_or : ℕ → ℕ → Bool → Bool
fell_or count faults otherwise = leb count faults && (has_risen count faults || otherwise)

-- a side that is not level, or that is in while no call of the mirror failed
abbrev pub stands_well : ℕ → Bool → Bool → Bool
stands_well faults level is_in = not level || ((faults == 0) && is_in)

-- nothing stands where a rack was looked for
abbrev pub nothing_on : TwoSides → Bool
nothing_on s = is_none s.left.stands && is_none s.right.stands

-- Where both racks tell what stands: a count rose above this, or both are level, or the side that is asked first could not be made, or
-- nothing stands yet and no call failed.
abbrev pub fell_or_both : TwoSides → History → ℕ → ℕ → Bool
fell_or_both s h left right =
    (leb left s.left.faults && leb right s.right.faults) && ((has_risen left s.left.faults || has_risen right s.right.faults)
    || ((h.level.left && h.level.right) || ((h.starved && is_none (preferred s).stands) || ((h.faults == 0) && nothing_on s))))

-- The facts by their names, which begin with the side: 0 is left, all else right. Of one number: the side is level. Of two: its count of
-- faults is that much at least. Of three: it fell since it was that much, where it is level and not in, or in while a call failed. Of
-- four: what became of both since their counts were these. Every other list names none.
unfoldable pub mirror_facts : Bool → TwoSides → History → List ℕ → Bool
mirror_facts told s h [] = false
mirror_facts told s h (zero ∷ []) = h.level.left
mirror_facts told s h (suc n ∷ []) = h.level.right
mirror_facts told s h (zero ∷ count ∷ []) = leb count s.left.faults
mirror_facts told s h (suc n ∷ count ∷ []) = leb count s.right.faults
mirror_facts told s h (zero ∷ count ∷ x ∷ []) = fell_or count s.left.faults (stands_well h.faults h.level.left s.sides.left)
mirror_facts told s h (suc n ∷ count ∷ x ∷ []) =
    fell_or count s.right.faults (h.lapsed || stands_well h.faults h.level.right s.sides.right)
mirror_facts told s h (side ∷ left ∷ right ∷ x ∷ []) = told && fell_or_both s h left right
mirror_facts told s h (side ∷ left ∷ right ∷ x ∷ y ∷ more) = false
