-- Turns of one bay in a row.
use Rattle.std.proofs.Common.{◌≡◌, ◌≢◌, ◌⊎◌, inl, inr, ℕ, ◌+◌, ◌-◌, ◌*◌, ◌<◌}
use Rattle.std.proofs.Common.{◌≤◌, Bool, IsTrue, IsSome, List, Option, Some, None, refl, sym, ◌∙◌}
use Rattle.std.proofs.Common.{ap, subst}
use Rattle.std.proofs.Common.{subst₂, arith}
use Rattle.std.proofs.lemmas.Bool.{false≢true}
use Rattle.bm_base.specs.declared.shape.Shape.{Shape}
use Rattle.bm_base.specs.Contents.{page_at, page_unit}
use Rattle.bm_base.specs.Count.{raised, Rose}
use Rattle.bm_base.specs.Shape.{dims_of, loads_of}
use Rattle.bm_rack.specs.RackView.{RackView, IsWellFormed}
use Rattle.bm_rack.specs.Frames.{DirtiesOnly}
use Rattle.bm_rack.specs.Image.{SameInput}
use Rattle.bm_rack.proofs.FrameLemmas.{DirtiesOnly-trans, Keeps-refl, Keeps-trans, HasCause-later, raised-zero, raised-raised}
use Rattle.bm_rack.proofs.CallLemmas.{most_same, most_between, most_then}
use Rattle.bm_control.specs.Bodies.{IsPassBody}
use Rattle.bm_control.specs.Pages.{pass_body}
use Rattle.bm_control.specs.Sound.{IsSound}
use Rattle.bm_control.proofs.EqualLemmas.{some_injective}
use Rattle.bm_job.specs.declared.machine.Machine.{Machine}
use Rattle.bm_job.specs.declared.answers.RunError.{RunError}
use Rattle.bm_job.specs.declared.answers.RunError.TheVariants.{Failed, BadPage}
use Rattle.bm_job.specs.Begins.{HasBodies}
use Rattle.bm_job.specs.Follows.{Follows, loads_moved}
use Rattle.bm_job.specs.Runs.{IsWorkUnit, loads_left, load_rows}
use Rattle.bm_job.specs.Turns.{SameJob}
use Rattle.bm_job.proofs.EndLemmas.{turn_complete}
use Rattle.bm_job.proofs.LeftLemmas.{loads_few}
use Rattle.bm_job.proofs.RangeLemmas.{few_passes}
use Rattle.bm_job.proofs.RunLemmas.{same_input_none, same_input_then, same_job_then}
use Rattle.bm_job.proofs.WorkUnitLemmas.{body_kept}
use Rattle.bm_batch.specs.declared.bay_slot.BaySlot.{BaySlot}
use Rattle.bm_batch.specs.declared.bay_state.BayState.{BayState}
use Rattle.bm_batch.specs.declared.bay_state.BayState.TheVariants.{Going, Finished, Ended}
use Rattle.bm_batch.specs.Bays.{IsBayOfShape, BayFollows, JobDone, BayWent, BayTurns}
use Rattle.bm_batch.proofs.TurnLemmas.{going_not_finished, going_not_ended, finished_not_ended, job_done}

-- ---- choices

-- a bay is Going or not
pub going_or_not : (x : BayState) → (x ≡ Going) ⊎ (x ≢ Going)
going_or_not Going = inl refl
going_or_not Finished = inr (λ is. going_not_finished (sym is))
going_or_not (Ended e) = inr (λ is. going_not_ended e (sym is))

-- one that is Going is not Ended
pub still_going : (x : BayState) → x ≡ Going → (e : RunError) → x ≢ Ended e
still_going x going e is = going_not_ended e (sym going ∙ is)

-- nor is one that is Finished
pub finished_well : (x : BayState) → x ≡ Finished → (e : RunError) → x ≢ Ended e
finished_well x finished e is = finished_not_ended e (sym finished ∙ is)

-- one that is neither Going nor Ended is Finished
pub is_finished : (x : BayState) → x ≢ Going → ((e : RunError) → x ≢ Ended e) → x ≡ Finished
is_finished Going going ended = absurd (going refl)
is_finished Finished going ended = refl
is_finished (Ended e) going ended = absurd (ended e refl)

-- what there is
pub some_of : {X : Type 0} (o : Option X) → IsSome o → (x : X) × (o ≡ Some x)
some_of (Some x) is = (x, refl)
some_of None is = absurd (false≢true is)

-- ---- no turn

same_job_none : (m : Machine) → SameJob m m
same_job_none m = record { shape = refl; job = refl; passes = refl; every = refl }

no_rows : (s : Shape) (k : ℕ) → load_rows s (k - k) ≡ 0
no_rows s k =
    let none : k - k ≡ 0 = omega arith in
    let zero : load_rows s 0 ≡ 0 = omega arith in
    ap (λ (j : ℕ). load_rows s j) none ∙ zero

went_none : (ts tc : Bool) (m : Machine) (slot : BaySlot) (v : RackView) → IsWellFormed ts tc v → slot.state ≡ Going
    → slot.machine ≡ Some m → BayWent ts tc m slot v v
went_none ts tc m slot v well going machine =
    let fits = well.moves in
    record {
      next = m;
      machine = machine;
      same = same_job_none m;
      further = omega arith;
      moves = λ none. sym (ap (λ (k : ℕ). raised v.moves k) (no_rows m.shape (loads_moved m)) ∙ raised-zero v.moves fits);
      few = most_same _ _ _ fits refl;
      follows = λ told_stands told_contents follows none. follows;
      sound = λ told_stands told_contents follows. follows.held.sound;
      input = same_input_none m.shape v;
      call = record {
        frame = record { stands = refl; attached = refl; contents = λ u h. refl; dirty = λ u h clean. clean };
        keeps = Keeps-refl v;
        cause = record {
          rose = λ is. absurd (still_going slot.state going Failed is);
          sure = λ steady quiet is. still_going slot.state going Failed is;
        };
      };
      refusal = λ e is. absurd (still_going slot.state going e is);
      good = λ told_stands told_contents follows page is. still_going slot.state going (BadPage page) is;
      bad = λ told bodies page is. still_going slot.state going (BadPage page) is;
    }

pub turns_none : (ts tc : Bool) (slot : BaySlot) (v : RackView) → IsWellFormed ts tc v → BayTurns ts tc slot slot v v
turns_none ts tc slot v well = record {
  idle = λ _. (refl, refl);
  went = λ going m machine. went_none ts tc m slot v well going machine;
}

-- ---- turns after others

-- the row calls of loads in a row
rows_then : (s : Shape) (a b c : ℕ) → a ≤ b → b ≤ c → load_rows s (b - a) + load_rows s (c - b) ≡ load_rows s (c - a)
rows_then s a b c low high =
    let x = b - a in
    let y = c - b in
    let sum : load_rows s x + load_rows s y ≡ load_rows s (x + y) = rows_sum x y in
    let all : x + y ≡ c - a = omega (arith, low, high) in
    sum ∙ ap (λ (k : ℕ). load_rows s k) all
  where
    rows_sum : (x y : ℕ) → load_rows s x + load_rows s y ≡ load_rows s (x + y)
    rows_sum x y = omega arith

-- the loads that are left after some were moved
rows_left : (m next : Machine) → SameJob m next → loads_moved m ≤ loads_moved next
    → load_rows m.shape (loads_moved next - loads_moved m) + load_rows next.shape (loads_left next) ≡ load_rows m.shape (loads_left m)
rows_left m next same further =
    let few = loads_few next in
    let all : next.passes * loads_of next.shape ≡ m.passes * loads_of m.shape = rw (same.passes, same.shape) refl in
    let shape : load_rows next.shape (loads_left next) ≡ load_rows m.shape (loads_left next) =
    ap (λ (s : Shape). load_rows s (loads_left next)) same.shape in
    let left : loads_left next ≡ m.passes * loads_of m.shape - loads_moved next = ap (λ (k : ℕ). k - loads_moved next) all in
    let rest : load_rows m.shape (loads_left next) ≡ load_rows m.shape (m.passes * loads_of m.shape - loads_moved next) =
    ap (λ (k : ℕ). load_rows m.shape k) left in
    let sum = rows_then m.shape (loads_moved m) (loads_moved next) (m.passes * loads_of m.shape) further (omega (arith, few, all)) in
    ap (λ (k : ℕ). load_rows m.shape (loads_moved next - loads_moved m) + k) (shape ∙ rest) ∙ sum

-- the bodies of all passes stand as before
bodies_kept : (m next : Machine) (u v : RackView) → SameJob m next → DirtiesOnly (IsWorkUnit m.shape) u v → HasBodies m u.contents
    → HasBodies next v.contents
bodies_kept m next u v same frame bodies k below =
    let few = few_passes m.shape m.job m.passes m.done m.every m.part m.slot m.load m.keeps in
    let early : k < m.passes = subst (λ (p : ℕ). k < p) same.passes below in
    let page : page_at v.contents (pass_body k) ≡ page_at u.contents (pass_body k) =
    frame.contents (page_unit (pass_body k)) (body_kept m.shape k (omega (arith, early, few))) in
    let has = bodies k early in
    record {
      pass = has.pass;
      body = subst (λ (s : Shape). IsPassBody s k (page_at v.contents (pass_body k)) has.pass) (sym same.shape)
          (subst (λ (p : List ℕ). IsPassBody m.shape k p has.pass) (sym page) has.body);
    }

went_then : (ts tc : Bool) (m : Machine) (b c : BaySlot) (u v w : RackView) → b.state ≡ Going → (x : BayWent ts tc m b u v)
    → BayWent ts tc x.next c v w → BayWent ts tc m c u w
went_then ts tc m b c u v w going x y =
    let s = m.shape in
    let on = still_going b.state going in
    let mid = x.moves on in
    let further = x.further in
    let further2 = y.further in
    let rows : load_rows x.next.shape (loads_moved y.next - loads_moved x.next) ≡ load_rows s (loads_moved y.next - loads_moved x.next) =
    ap (λ (t : Shape). load_rows t (loads_moved y.next - loads_moved x.next)) x.same.shape in
    record {
      next = y.next;
      machine = y.machine;
      same = same_job_then m x.next y.next x.same y.same;
      further = omega (arith, further, further2);
      moves = λ none. y.moves none ∙ ap (λ (k : ℕ). raised v.moves k) rows
          ∙ ap (λ (k : ℕ). raised k (load_rows s (loads_moved y.next - loads_moved x.next))) mid
          ∙ raised-raised u.moves (load_rows s (loads_moved x.next - loads_moved m)) (load_rows s (loads_moved y.next - loads_moved x.next))
          ∙ ap (λ (k : ℕ). raised u.moves k) (rows_then s _ _ _ further further2);
      few = most_then (load_rows s (loads_moved x.next - loads_moved m)) (load_rows x.next.shape (loads_left x.next))
          (load_rows s (loads_left m)) u.moves v.moves w.moves (let all = rows_left m x.next x.same further in omega (arith, all))
          (most_between _ _ _ x.few.low (omega (arith, mid))) y.few;
      follows = λ told_stands told_contents follows none. y.follows told_stands told_contents
          (x.follows told_stands told_contents follows on) none;
      sound = λ told_stands told_contents follows. y.sound told_stands told_contents (x.follows told_stands told_contents follows on);
      input = same_input_then s u v w x.input (subst (λ (t : Shape). SameInput (dims_of t) v w) x.same.shape y.input);
      call = record {
        frame = DirtiesOnly-trans (IsWorkUnit s) u v w x.call.frame
            (subst (λ (t : Shape). DirtiesOnly (IsWorkUnit t) v w) x.same.shape y.call.frame);
        keeps = Keeps-trans u v w x.call.keeps y.call.keeps;
        cause = HasCause-later (c.state ≡ Ended Failed) u v w x.call.keeps y.call.cause;
      };
      refusal = y.refusal;
      good = λ told_stands told_contents follows. y.good told_stands told_contents (x.follows told_stands told_contents follows on);
      bad = λ told bodies. y.bad told (bodies_kept m x.next u v x.same x.call.frame bodies);
    }

pub turns_then : (ts tc : Bool) (a b c : BaySlot) (u v w : RackView) → BayTurns ts tc a b u v → BayTurns ts tc b c v w
    → BayTurns ts tc a c u w
turns_then ts tc a b c u v w x y = record {
  idle = λ not.
      let first = x.idle not in
      let second = y.idle (λ going. not (sym (ap (λ (s : BaySlot). s.state) first.0) ∙ going)) in
      (second.0 ∙ first.0, second.1 ∙ first.1);
  went = λ going m machine.
      let first = x.went going m machine in
      elim (going_or_not b.state) [
        | inl on ↦ went_then ts tc m b c u v w on first (y.went on first.next first.machine)
        | inr off ↦
            let second = y.idle off in
            subst₂ (λ (s : BaySlot) (r : RackView). BayWent ts tc m s u r) (sym second.0) (sym second.1) first
      ];
}

-- ---- what turns leave

-- a bay that is Going after turns was so before
pub was_going : (ts tc : Bool) (a b : BaySlot) (u v : RackView) → BayTurns ts tc a b u v → b.state ≡ Going → a.state ≡ Going
was_going ts tc a b u v x going = elim (going_or_not a.state) [
  | inl on ↦ on
  | inr off ↦ absurd (off (sym (ap (λ (s : BaySlot). s.state) (x.idle off).0) ∙ going))
]

-- its machine follows the rack where it did before
pub follows_after : (ts tc : Bool) (a b : BaySlot) (u v : RackView) → IsTrue ts → IsTrue tc → BayTurns ts tc a b u v → BayFollows a u
    → BayFollows b v
follows_after ts tc a b u v told_stands told_contents x follows going n machine =
    let on = was_going ts tc a b u v x going in
    let m = some_of a.machine (a.keeps.going on) in
    let went = x.went on m.0 m.1 in
    subst (λ (k : Machine). Follows k v) (some_injective went.next n (sym went.machine ∙ machine))
    (went.follows told_stands told_contents (follows on m.0 m.1) (still_going b.state going))

-- it is attached as before
pub attached_after : (ts tc : Bool) (a b : BaySlot) (u v : RackView) → BayTurns ts tc a b u v → v.attached ≡ u.attached
attached_after ts tc a b u v x = elim (going_or_not a.state) [
  | inl on ↦ (let m = some_of a.machine (a.keeps.going on) in (x.went on m.0 m.1).call.frame.attached)
  | inr off ↦ ap (λ (r : RackView). r.attached) (x.idle off).1
]

-- its input is as before
pub input_after : (ts tc : Bool) (s : Shape) (a b : BaySlot) (u v : RackView) → IsBayOfShape s a → BayTurns ts tc a b u v
    → SameInput (dims_of s) u v
input_after ts tc s a b u v shape x = elim (going_or_not a.state) [
  | inl on ↦
      let m = some_of a.machine (a.keeps.going on) in
      subst (λ (t : Shape). SameInput (dims_of t) u v) (shape m.0 m.1) (x.went on m.0 m.1).input
  | inr off ↦ subst (λ (r : RackView). SameInput (dims_of s) u r) (sym (x.idle off).1) (same_input_none s u)
]

-- it is sound where it was
pub sound_after : (ts tc : Bool) (a b : BaySlot) (u v : RackView) → IsTrue ts → IsTrue tc → BayTurns ts tc a b u v → BayFollows a u
    → IsSound u → IsSound v
sound_after ts tc a b u v told_stands told_contents x follows sound = elim (going_or_not a.state) [
  | inl on ↦
      let m = some_of a.machine (a.keeps.going on) in
      (x.went on m.0 m.1).sound told_stands told_contents (follows on m.0 m.1)
  | inr off ↦ subst IsSound (sym (x.idle off).1) sound
]

-- one that became Finished holds its job's meaning
pub done_after : (ts tc : Bool) (a b : BaySlot) (u v : RackView) → IsTrue ts → IsTrue tc → IsWellFormed ts tc v → BayTurns ts tc a b u v
    → BayFollows a u → a.state ≡ Going → b.state ≡ Finished → (n : Machine) → b.machine ≡ Some n → JobDone n u v
done_after ts tc a b u v told_stands told_contents well x follows on finished n machine =
    let m = some_of a.machine (a.keeps.going on) in
    let went = x.went on m.0 m.1 in
    let same = some_injective went.next n (sym went.machine ∙ machine) in
    let here : Follows n v = subst (λ (k : Machine). Follows k v) same
    (went.follows told_stands told_contents (follows on m.0 m.1) (finished_well b.state finished)) in
    job_done ts tc n u v told_stands told_contents well (b.keeps.all n machine finished) here
    (subst (λ (t : Shape). SameInput (dims_of t) u v)
    (sym went.same.shape ∙ ap (λ (k : Machine). k.shape) same) went.input)

-- one that is Going no more is Finished where its own count of faults did not rise
pub complete_after : (ts tc : Bool) (a b : BaySlot) (u v : RackView) → IsTrue ts → IsTrue tc → BayTurns ts tc a b u v → BayFollows a u
    → a.state ≡ Going → b.state ≢ Going → ¬ Rose u.faults v.faults → b.state ≡ Finished
complete_after ts tc a b u v told_stands told_contents x follows on off quiet =
    let m = some_of a.machine (a.keeps.going on) in
    let went = x.went on m.0 m.1 in
    let good = went.good told_stands told_contents (follows on m.0 m.1) in
    is_finished b.state off (λ e is.
    let failed = turn_complete e (went.refusal e is) (λ page bad. good page (is ∙ ap Ended bad)) in
    quiet (went.call.cause.rose (is ∙ ap Ended failed)))
