-- Counts of one call after another.
use Rattle.std.proofs.Common.{◌≡◌, ℕ, ◌+◌, ◌*◌, ◌^◌, ◌<◌, ◌≤◌, Bool, ◌∙◌, ap, sym, refl, arith}
use Rattle.bm_base.specs.Count.{raised}
use Rattle.bm_rack.specs.RackView.{RackView, IsWellFormed}
use Rattle.bm_rack.specs.Frames.{Stays, Grows, Rises, RisesWhere, RisesMost, RaisesCounts, SameCalls, CallsGrow, MakesCalls, MovesRows}
use Rattle.bm_rack.specs.Frames.{MakesPageCalls, MovesFew, CallsFew}
use Rattle.bm_rack.proofs.FrameLemmas.{raised-zero}

-- ---- one count

-- it rises by nothing
pub rises_none : (finished : Type 0) (a b : ℕ) → a < 2 ^ 64 → Stays a b → RisesWhere finished 0 a b
rises_none finished a b fits same = record {
  done = λ _. omega (arith, same, fits);
  low = omega (arith, same);
  high = omega (arith, same, fits);
}

-- it rises by just so much
pub rises_by : (finished : Type 0) (m a b : ℕ) → a < 2 ^ 64 → Rises m a b → RisesWhere finished m a b
rises_by finished m a b fits x = record { done = λ _. x; low = omega (arith, x, fits); high = omega (arith, x) }

-- it rises after it rose, and by all where the later calls are done
pub rises_then : (m n : ℕ) (first second : Type 0) (a b c : ℕ) → (second → first) → RisesWhere first m a b → RisesWhere second n b c
    → RisesWhere second (m + n) a c
rises_then m n first second a b c before x y = record {
  done = λ f. (let earlier = x.done (before f) in let later = y.done f in omega (arith, earlier, later));
  low = omega (arith, x.low, y.low);
  high = omega (arith, x.high, y.high);
}

-- a part of a greater rise, and all of it where the whole is done
pub rises_wider : (m n : ℕ) (part whole : Type 0) (a b : ℕ) → m ≤ n → (whole → part × (m ≡ n)) → RisesWhere part m a b
    → RisesWhere whole n a b
rises_wider m n part whole a b few all x = record {
  done = λ f. x.done (all f).0 ∙ ap (raised a) (all f).1;
  low = x.low;
  high = omega (arith, x.high, few);
}

-- at most so much, after at most so much
pub most_then : (m n total : ℕ) (a b c : ℕ) → m + n ≤ total → RisesMost m a b → RisesMost n b c → RisesMost total a c
most_then m n total a b c few x y = rises_wider (m + n) total ⊥ ⊥ a c few (λ e. absurd e) (rises_then m n ⊥ ⊥ a b c (λ e. e) x y)

-- what rises by so much where something is done rises by no more
pub most_of : (m total : ℕ) (part : Type 0) (a b : ℕ) → m ≤ total → RisesWhere part m a b → RisesMost total a b
most_of m total part a b few x = rises_wider m total part ⊥ a b few (λ e. absurd e) x

-- a count between these two
pub most_between : (most a b : ℕ) → Grows a b → b ≤ raised a most → RisesMost most a b
most_between most a b low high = record { done = λ e. absurd e; low = low; high = high }

-- it stays, which is no rise
pub most_same : (total : ℕ) (a b : ℕ) → a < 2 ^ 64 → Stays a b → RisesMost total a b
most_same total a b fits same = most_of 0 total ⊥ a b (omega arith) (rises_none ⊥ a b fits same)

-- ---- all three

-- no call was made
pub MakesCalls-refl : (tells_stands tells_contents : Bool) (succeeds : Type 0) (v : RackView) → IsWellFormed tells_stands tells_contents v
    → MakesCalls succeeds 0 0 0 v v
MakesCalls-refl _ _ succeeds v k = record {
  moves = rises_none succeeds _ _ k.moves refl;
  pages = rises_none ⊥ _ _ k.pages refl;
  syncs = rises_none ⊥ _ _ k.syncs refl;
}

-- calls after others, which succeeded where the later ones do
pub MakesCalls-trans : (m p s n q t : ℕ) (first second : Type 0) (a b c : RackView) → (second → first)
    → MakesCalls first m p s a b → MakesCalls second n q t b c → MakesCalls second (m + n) (p + q) (s + t) a c
MakesCalls-trans m p s n q t first second a b c before x y = record {
  moves = rises_then m n first second _ _ _ before x.moves y.moves;
  pages = rises_then p q ⊥ ⊥ _ _ _ (λ e. e) x.pages y.pages;
  syncs = rises_then s t ⊥ ⊥ _ _ _ (λ e. e) x.syncs y.syncs;
}

-- a part of more calls, and all of their row calls where the whole succeeds
pub MakesCalls-weaker : (m p s n q t : ℕ) (part whole : Type 0) (a b : RackView) → m ≤ n → p ≤ q → s ≤ t → (whole → part × (m ≡ n))
    → MakesCalls part m p s a b → MakesCalls whole n q t a b
MakesCalls-weaker m p s n q t part whole a b rows pages syncs all x = record {
  moves = rises_wider m n part whole _ _ rows all x.moves;
  pages = most_of p q ⊥ _ _ pages x.pages;
  syncs = most_of s t ⊥ _ _ syncs x.syncs;
}

-- calls that are counted exactly
pub MakesCalls-counted : (tells_stands tells_contents : Bool) (succeeds : Type 0) (m p s : ℕ) (a b : RackView)
    → IsWellFormed tells_stands tells_contents a → RaisesCounts m p s a b → MakesCalls succeeds m p s a b
MakesCalls-counted _ _ succeeds m p s a b k x = record {
  moves = rises_by succeeds m _ _ k.moves x.moves;
  pages = rises_by ⊥ p _ _ k.pages x.pages;
  syncs = rises_by ⊥ s _ _ k.syncs x.syncs;
}

-- row calls alone
pub MakesCalls-rows : (tells_stands tells_contents : Bool) (succeeds : Type 0) (rows : ℕ) (a b : RackView)
    → IsWellFormed tells_stands tells_contents a → MovesRows rows succeeds a b → MakesCalls succeeds rows 0 0 a b
MakesCalls-rows _ _ succeeds rows a b k x = record {
  moves = x.moves;
  pages = rises_none ⊥ _ _ k.pages x.pages;
  syncs = rises_none ⊥ _ _ k.syncs x.syncs;
}

-- no count of calls falls where it is as before, or after others that did not fall
pub CallsGrow-same : (old new : RackView) → SameCalls old new → CallsGrow old new
CallsGrow-same old new same = record {
  moves = omega (arith, same.moves);
  pages = omega (arith, same.pages);
  syncs = omega (arith, same.syncs);
}

pub CallsGrow-trans : (a b c : RackView) → CallsGrow a b → CallsGrow b c → CallsGrow a c
CallsGrow-trans a b c x y = record {
  moves = omega (arith, x.moves, y.moves);
  pages = omega (arith, x.pages, y.pages);
  syncs = omega (arith, x.syncs, y.syncs);
}

-- and where these calls were made
pub CallsGrow-rows : (rows : ℕ) (finished : Type 0) (a b : RackView) → MovesRows rows finished a b → CallsGrow a b
CallsGrow-rows rows finished a b x = record { moves = x.moves.low; pages = omega (arith, x.pages); syncs = omega (arith, x.syncs) }

pub CallsGrow-pages : (finished : Type 0) (p s : ℕ) (a b : RackView) → MakesPageCalls finished p s a b → CallsGrow a b
CallsGrow-pages finished p s a b x = record { moves = omega (arith, x.moves); pages = x.pages.low; syncs = x.syncs.low }

pub CallsGrow-made : (finished : Type 0) (m p s : ℕ) (a b : RackView) → MakesCalls finished m p s a b → CallsGrow a b
CallsGrow-made finished m p s a b x = record { moves = x.moves.low; pages = x.pages.low; syncs = x.syncs.low }

-- no call was made
pub MovesFew-same : (tells_stands tells_contents : Bool) (rows : ℕ) (old new : RackView) → IsWellFormed tells_stands tells_contents old
    → Stays old.moves new.moves → MovesFew rows old new
MovesFew-same _ _ rows old new k same = most_same rows _ _ k.moves same

pub CallsFew-same : (tells_stands tells_contents : Bool) (pages syncs : ℕ) (old new : RackView)
    → IsWellFormed tells_stands tells_contents old → SameCalls old new → CallsFew pages syncs old new
CallsFew-same _ _ pages syncs old new k same = record {
  moves = omega (arith, same.moves);
  pages = most_same pages _ _ k.pages same.pages;
  syncs = most_same syncs _ _ k.syncs same.syncs;
}

-- ---- page calls alone

-- they are counted exactly where they are done
pub MakesPageCalls-done : {tells_stands tells_contents : Bool} (finished : Type 0) (p s : ℕ) (a b : RackView)
    → IsWellFormed tells_stands tells_contents a → finished → MakesPageCalls finished p s a b → RaisesCounts 0 p s a b
MakesPageCalls-done finished p s a b k f x = record {
  moves = x.moves ∙ sym (raised-zero a.moves k.moves);
  pages = x.pages.done f;
  syncs = x.syncs.done f;
}

-- ---- row calls alone

-- no call was made
pub MovesRows-refl : (tells_stands tells_contents : Bool) (finished : Type 0) (v : RackView) → IsWellFormed tells_stands tells_contents v
    → MovesRows 0 finished v v
MovesRows-refl _ _ finished v k = record { moves = rises_none finished _ _ k.moves refl; pages = refl; syncs = refl }

-- calls after calls that were all made
pub MovesRows-trans : (m n : ℕ) (finished : Type 0) (a b c : RackView) → MovesRows m (Unit {0}) a b → MovesRows n finished b c
    → MovesRows (m + n) finished a c
MovesRows-trans m n finished a b c x y = record {
  moves = rises_then m n (Unit {0}) finished _ _ _ (λ _. tt) x.moves y.moves;
  pages = y.pages ∙ x.pages;
  syncs = y.syncs ∙ x.syncs;
}

-- a part of more calls
pub MovesRows-part : (m n : ℕ) (p q : Type 0) (a b : RackView) → m ≤ n → (q → p × (m ≡ n))
    → MovesRows m p a b → MovesRows n q a b
MovesRows-part m n p q a b few whole x = record {
  moves = rises_wider m n p q _ _ few whole x.moves;
  pages = x.pages;
  syncs = x.syncs;
}

-- the calls of a loop over loads where one of them failed
pub MovesRows-failed : (m n total : ℕ) (p finished : Type 0) (a b c : RackView) → m + n ≤ total → ¬ finished
    → MovesRows m (Unit {0}) a b
    → MovesRows n p b c → MovesRows total finished a c
MovesRows-failed m n total p finished a b c few unfinished x y =
    MovesRows-part (m + n) total p finished a c few (λ f. absurd (unfinished f)) (MovesRows-trans m n p a b c x y)

-- and where all were made
pub MovesRows-all : (m total : ℕ) (finished : Type 0) (a b : RackView) → m ≡ total → MovesRows m (Unit {0}) a b
    → MovesRows total finished a b
MovesRows-all m total finished a b same x = MovesRows-part m total (Unit {0}) finished a b (omega arith) (λ f. (tt, same)) x

-- the calls of one load more, where they were all made
pub MovesRows-next : (rows load : ℕ) (p : Type 0) (a b c : RackView) → p
    → MovesRows (load * rows) (Unit {0}) a b → MovesRows rows p b c → MovesRows ((load + 1) * rows) (Unit {0}) a c
MovesRows-next rows load p a b c made x y =
    MovesRows-part (load * rows + rows) ((load + 1) * rows) p (Unit {0}) a c (omega arith) (λ f. (made, omega arith))
    (MovesRows-trans (load * rows) rows p a b c x y)
