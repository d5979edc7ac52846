-- What a call leaves as it was, and what it counts.
use Rattle.std.specs.Prelude.{◌≡◌, ℕ, ◌≤◌, false, IsTrue, IsFalse, List}
use Rattle.bm_base.specs.Contents.{RackUnit, unit_at}
use Rattle.bm_base.specs.Count.{raised, Rose}
use Rattle.bm_rack.specs.RackView.{RackView}

-- what every call of a rack keeps
pub record Keeps (old new : RackView) : Type 0 where
  pub faults : old.faults ≤ new.faults
  pub steady : IsTrue old.steady → IsTrue new.steady
  pub stopping : new.stopping ≡ old.stopping
  pub sure : IsTrue old.steady → IsFalse old.stopping → new.faults ≡ old.faults
  pub lasting : (fact : List ℕ) → IsTrue (old.lasting fact) → IsTrue (new.lasting fact)

-- ---- how many calls

-- of a count: it is as before, it never falls, it rises by so much, and by so much at least
abbrev pub Stays : ℕ → ℕ → Type 0
Stays old new = new ≡ old

abbrev pub Grows : ℕ → ℕ → Type 0
Grows old new = old ≤ new

abbrev pub Rises : ℕ → ℕ → ℕ → Type 0
Rises by old new = new ≡ raised old by

abbrev pub RisesLeast : ℕ → ℕ → ℕ → Type 0
RisesLeast least old new = raised old least ≤ new

-- It rises by so much where it is done. However it ends, it never falls and rises by no more.
pub record RisesWhere (finished : Type 0) (most : ℕ) (old new : ℕ) : Type 0 where
  pub done : finished → Rises most old new
  pub low : Grows old new
  pub high : new ≤ raised old most

-- at most so much
abbrev pub RisesMost : ℕ → ℕ → ℕ → Type 0
RisesMost most old new = RisesWhere ⊥ most old new

-- at least and at most so much
pub record RisesWithin (least most : ℕ) (old new : ℕ) : Type 0 where
  pub low : RisesLeast least old new
  pub high : new ≤ raised old most

-- what becomes of the counts of row calls, page calls and syncs
pub record CallCounts (R P S : ℕ → ℕ → Type 0) (old new : RackView) : Type 0 where
  pub moves : R old.moves new.moves
  pub pages : P old.pages new.pages
  pub syncs : S old.syncs new.syncs

-- so many row calls, page calls and syncs were made
abbrev pub RaisesCounts : ℕ → ℕ → ℕ → RackView → RackView → Type 0
RaisesCounts m p s old new = CallCounts (Rises m) (Rises p) (Rises s) old new

-- no row call, page call and sync was made, or the counts stand still at their end
abbrev pub SameCalls : RackView → RackView → Type 0
SameCalls old new = CallCounts Stays Stays Stays old new

-- no count of calls fell
abbrev pub CallsGrow : RackView → RackView → Type 0
CallsGrow old new = CallCounts Grows Grows Grows old new

-- so many row calls where it is finished and at most as many otherwise, and no other call
abbrev pub MovesRows : ℕ → Type 0 → RackView → RackView → Type 0
MovesRows rows finished old new = CallCounts (RisesWhere finished rows) Stays Stays old new

-- so many page calls and syncs where it is finished and at most as many otherwise, and no row call
abbrev pub MakesPageCalls : Type 0 → ℕ → ℕ → RackView → RackView → Type 0
MakesPageCalls finished p s old new = CallCounts Stays (RisesWhere finished p) (RisesWhere finished s) old new

-- so many row calls where it is finished, and however it ends at most so many of each kind
abbrev pub MakesCalls : Type 0 → ℕ → ℕ → ℕ → RackView → RackView → Type 0
MakesCalls finished rows pages syncs old new = CallCounts (RisesWhere finished rows) (RisesMost pages) (RisesMost syncs) old new

-- at most so many row calls, and nothing said of others
abbrev pub MovesFew : ℕ → RackView → RackView → Type 0
MovesFew rows old new = RisesMost rows old.moves new.moves

-- at most so many page calls and syncs
abbrev pub CallsFew : ℕ → ℕ → RackView → RackView → Type 0
CallsFew pages syncs old new = CallCounts Grows (RisesMost pages) (RisesMost syncs) old new

-- a failed call has its cause, and a steady rack that isn't stopping fails no call
pub record HasCause (failed : Type 0) (old new : RackView) : Type 0 where
  pub rose : failed → Rose old.faults new.faults
  pub sure : IsTrue old.steady → IsFalse old.stopping → ¬ failed

-- what stands, its bytes and what is dirty are as before
pub record SameDisks (old new : RackView) : Type 0 where
  pub stands : new.stands ≡ old.stands
  pub contents : new.contents ≡ old.contents
  pub dirty : new.dirty ≡ old.dirty

-- nothing but counts changed
pub record SameState (old new : RackView) : Type 0 where
  pub stands : new.stands ≡ old.stands
  pub contents : new.contents ≡ old.contents
  pub dirty : new.dirty ≡ old.dirty
  pub attached : new.attached ≡ old.attached

-- contents and dirtiness changed within P alone, and nothing else but counts
pub record ChangesOnly (P : RackUnit → Type 0) (old new : RackView) : Type 0 where
  pub stands : new.stands ≡ old.stands
  pub attached : new.attached ≡ old.attached
  pub contents : (u : RackUnit) → ¬ P u → unit_at new.contents u ≡ unit_at old.contents u
  pub dirty : (u : RackUnit) → ¬ P u → new.dirty u ≡ old.dirty u

-- contents changed within P alone, and no unit outside P became dirty
pub record DirtiesOnly (P : RackUnit → Type 0) (old new : RackView) : Type 0 where
  pub stands : new.stands ≡ old.stands
  pub attached : new.attached ≡ old.attached
  pub contents : (u : RackUnit) → ¬ P u → unit_at new.contents u ≡ unit_at old.contents u
  pub dirty : (u : RackUnit) → ¬ P u → old.dirty u ≡ false → new.dirty u ≡ false

-- what stays and why it fails, for a call that is made of several
pub record RackCall (P : RackUnit → Type 0) (failed : Type 0) (old new : RackView) : Type 0 where
  pub frame : DirtiesOnly P old new
  pub keeps : Keeps old new
  pub cause : HasCause failed old new
