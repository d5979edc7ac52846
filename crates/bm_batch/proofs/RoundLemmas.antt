-- Rounds over all bays: each leaves fewer loads.
use Rattle.std.proofs.Common.{◌≡◌, ◌≢◌, inl, inr, ℕ, zero, suc, ◌+◌, ◌*◌, ◌<◌, ◌≤◌, Bool, List, [], ◌∷◌, length, slice_index_or, Option}
use Rattle.std.proofs.Common.{Some, None}
use Rattle.std.proofs.Common.{refl, sym, ◌∙◌, ap, subst, arith}
use Rattle.std.proofs.lemmas.Bool.{cases_eq}
use Rattle.bm_base.specs.Shape.{loads_of}
use Rattle.bm_rack.specs.RackView.{RackView}
use Rattle.bm_job.specs.declared.machine.Machine.{Machine}
use Rattle.bm_job.specs.Follows.{loads_moved}
use Rattle.bm_job.specs.Runs.{loads_left}
use Rattle.bm_job.specs.Turns.{SameJob}
use Rattle.bm_job.proofs.LeftLemmas.{load_left}
use Rattle.bm_batch.specs.declared.bay_slot.BaySlot.{BaySlot}
use Rattle.bm_batch.specs.declared.bay_state.BayState.{BayState}
use Rattle.bm_batch.specs.declared.bay_state.BayState.TheVariants.{Going, Finished, Ended}
use Rattle.bm_batch.specs.Bays.{moved_by, moved_of, BayTurns, BayStep}
use Rattle.bm_batch.specs.Batches.{BatchValue, view_at, left_by, left_of, HaveTurned, IsAnyGoing, BatchTurns}
use Rattle.bm_batch.proofs.BayLemmas.{going_or_not, still_going, some_of}

-- ---- one bay

-- where a bay is not Going none are left
left_none : (machine : Option Machine) (state : BayState) → state ≢ Going → left_by machine state ≡ 0
left_none None state off = refl
left_none (Some m) Going off = absurd (off refl)
left_none (Some m) Finished off = refl
left_none (Some m) (Ended e) off = refl

-- else those of its machine
left_all : (machine : Option Machine) (state : BayState) (m : Machine) → state ≡ Going → machine ≡ Some m
    → left_by machine state ≡ loads_left m
left_all machine state m on is = ap (λ (o : Option Machine). left_by o state) is ∙ ap (λ (x : BayState). left_by (Some m) x) on

-- and never more
left_most : (machine : Option Machine) (state : BayState) (m : Machine) → machine ≡ Some m → left_by machine state ≤ loads_left m
left_most machine state m is = elim (going_or_not state) [
  | inl on ↦ (let all = left_all machine state m on is in omega (arith, all))
  | inr off ↦ (let none = left_none machine state off in omega (arith, none))
]

-- of a machine that is further fewer are left
left_further : (m next : Machine) → SameJob m next → loads_moved m ≤ loads_moved next → loads_left next ≤ loads_left m
left_further m next same further =
    let all : next.passes * loads_of next.shape ≡ m.passes * loads_of m.shape = rw (same.passes, same.shape) refl in
    omega (arith, all, further)

left_fewer : (m next : Machine) → SameJob m next → m.done < m.passes → loads_moved next ≡ loads_moved m + 1 → loads_left next < loads_left m
left_fewer m next same left one =
    let all : next.passes * loads_of next.shape ≡ m.passes * loads_of m.shape = rw (same.passes, same.shape) refl in
    let more = load_left m left in
    omega (arith, all, one, more)

-- some are left where it is Going
left_some : (slot : BaySlot) → slot.state ≡ Going → 0 < left_of slot
left_some slot on =
    let m = some_of slot.machine (slot.keeps.going on) in
    let more = load_left m.0 (slot.keeps.left m.0 m.1 on) in
    let all = left_all slot.machine slot.state m.0 on m.1 in
    omega (arith, more, all)

-- turns leave no more
pub left_few : (ts tc : Bool) (a b : BaySlot) (u v : RackView) → BayTurns ts tc a b u v → left_of b ≤ left_of a
left_few ts tc a b u v x = elim (going_or_not a.state) [
  | inl on ↦
      let m = some_of a.machine (a.keeps.going on) in
      let went = x.went on m.0 m.1 in
      let most = left_most b.machine b.state went.next went.machine in
      let fewer = left_further m.0 went.next went.same went.further in
      let all = left_all a.machine a.state m.0 on m.1 in
      omega (arith, most, fewer, all)
  | inr off ↦ (let same : left_of b ≡ left_of a = ap left_of (x.idle off).0 in omega (arith, same))
]

-- and a turn of a bay that is Going leaves fewer
pub left_less : (ts tc : Bool) (m : Machine) (a b : BaySlot) (u v : RackView) → a.state ≡ Going → a.machine ≡ Some m
    → BayTurns ts tc a b u v → BayStep ts tc m b u v → left_of b < left_of a
left_less ts tc m a b u v on machine x step =
    let went = x.went on m machine in
    let all = left_all a.machine a.state m on machine in
    let some = left_some a on in
    elim (going_or_not b.state) [
      | inl still ↦
          let here : moved_of b ≡ loads_moved went.next = ap moved_by went.machine in
          let one : loads_moved went.next ≡ loads_moved m + 1 = sym here ∙ step.moved (still_going b.state still) in
          let most = left_most b.machine b.state went.next went.machine in
          let less = left_fewer m went.next went.same (a.keeps.left m machine on) one in
          omega (arith, all, most, less)
      | inr off ↦ (let none = left_none b.machine b.state off in omega (arith, none, some))
    ]

-- ---- all bays

-- the loads that are left to all bays
abbrev pub total_left : List BaySlot → ℕ
total_left [] = 0
total_left (x ∷ xs) = left_of x + total_left xs

-- where none has more, all have no more
total_few : (xs ys : List BaySlot) → length ys ≡ length xs
    → ((k : ℕ) (d : BaySlot) → k < length xs → left_of (slice_index_or ys k d) ≤ left_of (slice_index_or xs k d))
    → total_left ys ≤ total_left xs
total_few [] [] same few = omega arith
total_few [] (y ∷ ys) same few = absurd (omega (arith, same))
total_few (x ∷ xs) [] same few = absurd (omega (arith, same))
total_few (x ∷ xs) (y ∷ ys) same few =
    let first : left_of y ≤ left_of x = few zero x (omega arith) in
    let rest = total_few xs ys (omega (arith, same)) (λ k d below. few (suc k) d (omega (arith, below))) in
    omega (arith, first, rest)

-- and where one has fewer besides, all have fewer
pub total_less : (xs ys : List BaySlot) (k : ℕ) → length ys ≡ length xs
    → ((k : ℕ) (d : BaySlot) → k < length xs → left_of (slice_index_or ys k d) ≤ left_of (slice_index_or xs k d))
    → k < length xs → ((d : BaySlot) → left_of (slice_index_or ys k d) < left_of (slice_index_or xs k d))
    → total_left ys < total_left xs
total_less [] ys k same few below less = absurd (omega (arith, below))
total_less (x ∷ xs) [] k same few below less = absurd (omega (arith, same))
total_less (x ∷ xs) (y ∷ ys) zero same few below less =
    let first : left_of y < left_of x = less x in
    let rest = total_few xs ys (omega (arith, same)) (λ k d below. few (suc k) d (omega (arith, below))) in
    omega (arith, first, rest)
total_less (x ∷ xs) (y ∷ ys) (suc k) same few below less =
    let first : left_of y ≤ left_of x = few zero x (omega arith) in
    let rest = total_less xs ys k (omega (arith, same)) (λ k d below. few (suc k) d (omega (arith, below))) (omega (arith, below)) less in
    omega (arith, first, rest)

-- ---- a round

-- one bay more had its turn
pub turned_next : (ts tc : Bool) (bay : ℕ) (a b c : BatchValue) (u v w : List RackView) → bay < length b.slots
    → BatchTurns ts tc a b u v → BatchTurns ts tc b c v w
    → ((d : BaySlot) (m : Machine) → (slice_index_or b.slots bay d).state ≡ Going → (slice_index_or b.slots bay d).machine ≡ Some m
    → BayStep ts tc m (slice_index_or c.slots bay d) (view_at v bay) (view_at w bay))
    → HaveTurned bay a.slots b.slots → HaveTurned (bay + 1) a.slots c.slots
turned_next ts tc bay a b c u v w within x y step before k d early here on =
    let many = x.count in
    let there : k < length b.slots = omega (arith, here, many) in
    let few = left_few ts tc (slice_index_or b.slots k d) (slice_index_or c.slots k d) (view_at v k) (view_at w k) (y.bays k d there) in
    elim (cases_eq k bay) [
      | inr other ↦ (let less = before k d (omega (arith, early, other)) here on in omega (arith, few, less))
      | inl same ↦
          let so_far = left_few ts tc (slice_index_or a.slots k d) (slice_index_or b.slots k d) (view_at u k) (view_at v k)
          (x.bays k d here) in
          elim (going_or_not (slice_index_or b.slots k d).state) [
            | inl still ↦
                let m = some_of (slice_index_or b.slots k d).machine ((slice_index_or b.slots k d).keeps.going still) in
                let less = left_less ts tc m.0 (slice_index_or b.slots k d) (slice_index_or c.slots k d) (view_at v k)
                (view_at w k) still m.1
                (y.bays k d there) (own d m.0 k same still m.1) in
                omega (arith, so_far, less)
            | inr off ↦
                let none = left_none (slice_index_or b.slots k d).machine (slice_index_or b.slots k d).state off in
                let some = left_some (slice_index_or a.slots k d) on in
                omega (arith, few, none, some)
          ]
    ]
  where
    own : (d : BaySlot) (m : Machine) (k : ℕ) → k ≡ bay → (slice_index_or b.slots k d).state ≡ Going
        → (slice_index_or b.slots k d).machine ≡ Some m
        → BayStep ts tc m (slice_index_or c.slots k d) (view_at v k) (view_at w k)
    own d m k same = subst (λ (i : ℕ). (slice_index_or b.slots i d).state ≡ Going → (slice_index_or b.slots i d).machine ≡ Some m
        → BayStep ts tc m (slice_index_or c.slots i d) (view_at v i) (view_at w i)) (sym same) (step d m)

-- a round in which some bay was Going leaves fewer loads
pub round_less : (ts tc : Bool) (a b : BatchValue) (u v : List RackView) → IsAnyGoing a.slots → BatchTurns ts tc a b u v
    → HaveTurned (length a.slots) a.slots b.slots → total_left b.slots < total_left a.slots
round_less ts tc a b u v any x each =
    total_less a.slots b.slots any.bay x.count
    (λ k d here. left_few ts tc (slice_index_or a.slots k d) (slice_index_or b.slots k d) (view_at u k) (view_at v k) (x.bays k d here))
    any.below (λ d. each any.bay d any.below any.below (any.going d))
