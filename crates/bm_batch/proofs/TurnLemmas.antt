-- One turn of a machine as that of its bay.
use Rattle.std.proofs.Common.{Ok, Err, ◌≡◌, ◌≢◌, ◌↔◌, ℕ, ◌+◌, ◌-◌, ◌*◌, ◌<◌, ◌≤◌, Bool, IsTrue, Result, IsOk, OnOk, OnErr, IsErrOf, Some}
use Rattle.std.proofs.Common.{inl, inr}
use Rattle.std.proofs.Common.{refl, sym, ◌∙◌, ap, subst, arith}
use Rattle.std.proofs.Math.Nat.{mul-le-mul_left}
use Rattle.std.proofs.lemmas.Bool.{cases_lt, false≢true}
use Rattle.bm_base.specs.declared.shape.Shape.{Shape}
use Rattle.bm_base.specs.Contents.{Contents}
use Rattle.bm_base.specs.Count.{raised}
use Rattle.bm_base.specs.Shape.{dims_of, load_stripes}
use Rattle.bm_rack.specs.RackView.{RackView, IsWellFormed}
use Rattle.bm_rack.specs.Frames.{RackCall, MakesCalls}
use Rattle.bm_rack.specs.Image.{SameInput}
use Rattle.bm_rack.proofs.CallLemmas.{most_of}
use Rattle.bm_control.specs.Sound.{IsSound}
use Rattle.bm_control.proofs.EqualLemmas.{some_injective}
use Rattle.bm_job.specs.declared.machine.Machine.{Machine}
use Rattle.bm_job.specs.declared.answers.RunError.{RunError}
use Rattle.bm_job.specs.declared.answers.RunError.TheVariants.{Failed, BadPage}
use Rattle.bm_job.specs.declared.answers.Turn.{Turn}
use Rattle.bm_job.specs.declared.answers.Turn.TheVariants.{Went}
use Rattle.bm_job.specs.declared.answers.Turn.TheVariants as done
use Rattle.bm_job.specs.Begins.{HasBodies}
use Rattle.bm_job.specs.Follows.{Follows, loads_moved}
use Rattle.bm_job.specs.Runs.{IsWorkUnit, loads_left, load_rows}
use Rattle.bm_job.specs.Turns.{SameJob, IsNextOf, IsHalted, TurnAnswer, IsTurnUnit, IsBadBody, form_pages, durable_pages, durable_syncs}
use Rattle.bm_job.proofs.CallLemmas.{call_of, no_refusal, holds_ok}
use Rattle.bm_job.proofs.EndLemmas.{done_records, same_input_records}
use Rattle.bm_job.proofs.LeftLemmas.{load_left}
use Rattle.bm_job.proofs.WorkUnitLemmas.{turn_work}
use Rattle.bm_batch.specs.declared.bay_slot.BaySlot.{BaySlot}
use Rattle.bm_batch.specs.declared.bay_state.BayState.{BayState}
use Rattle.bm_batch.specs.declared.bay_state.BayState.TheVariants.{Going, Finished, Ended}
use Rattle.bm_batch.specs.Slots.{SlotFits}
use Rattle.bm_batch.specs.Bays.{AreAllOpen, JobDone, BayWent, BayStep, answered, moved_by}

-- ---- states

pub going_not_finished : ¬ (◌≡◌ {A = BayState} Going Finished)
going_not_finished e = cc

pub going_not_ended : (e : RunError) → ¬ (◌≡◌ {A = BayState} Going (Ended e))
going_not_ended e h = cc

pub finished_not_ended : (e : RunError) → ¬ (◌≡◌ {A = BayState} Finished (Ended e))
finished_not_ended e h = cc

pub ended_injective : (e f : RunError) → ◌≡◌ {A = BayState} (Ended e) (Ended f) → e ≡ f
ended_injective e f h = cc

-- ---- what a turn ensures

-- what a turn of a machine that has a pass left says of its answer
pub record TurnFacts (ts tc : Bool) (m next : Machine) (r : Result Turn RunError) (old new : RackView) : Type 0 where
  pub answer : TurnAnswer next r
  pub same : SameJob m next
  pub next_of : OnOk r (IsNextOf m next)
  pub stopped : OnErr r (IsHalted m next)
  pub moved : OnOk r (loads_moved next ≡ loads_moved m + 1)
  pub follows : IsTrue ts → IsTrue tc → Follows m old → OnOk r (Follows next new)
  pub sound : IsTrue ts → IsTrue tc → Follows m old → IsSound new
  pub good : IsTrue ts → IsTrue tc → Follows m old → (page : ℕ) → ¬ IsErrOf r (BadPage page)
  pub bad : IsTrue tc → (page : ℕ) → IsErrOf r (BadPage page) → IsBadBody m old.contents page
  pub call : RackCall (IsTurnUnit m) (IsErrOf r Failed) old new
  pub input : SameInput (dims_of m.shape) old new
  pub counts : MakesCalls (IsOk r) (2 * load_stripes m.shape) (form_pages m.form + durable_pages m) (durable_syncs m) old new

-- the refusal by which it is Ended
ended_by : (r : Result Turn RunError) (e : RunError) → answered r ≡ Ended e → IsErrOf r e
ended_by (Ok Went) e h = absurd (going_not_ended e h)
ended_by (Ok done.Finished) e h = absurd (finished_not_ended e h)
ended_by (Err f) e h = ap Err (ended_injective f e h)

-- where it is not Ended the turn went well
went_well : (r : Result Turn RunError) → ((e : RunError) → answered r ≢ Ended e) → IsOk r
went_well (Ok t) none = refl
went_well (Err e) none = absurd (none e refl)

-- what holds of an answer that is this refusal
holds_err : {T E P : Type 0} (r : Result T E) (e : E) → IsErrOf r e → OnErr r P → P
holds_err (Ok x) e is holds = absurd (no_refusal x e is)
holds_err (Err f) e is holds = holds

-- ---- loads

-- a machine that was stopped has moved as many
stopped_moved : (m next : Machine) → IsHalted m next → loads_moved next ≡ loads_moved m
stopped_moved m next s = rw (s.done, s.same.shape, s.load) refl

-- no fewer than before
moved_further : (ts tc : Bool) (m next : Machine) (r : Result Turn RunError) (old new : RackView) → TurnFacts ts tc m next r old new
    → loads_moved m ≤ loads_moved next
moved_further ts tc m next (Ok t) old new f = (let one = f.moved in omega (arith, one))
moved_further ts tc m next (Err e) old new f = (let none = stopped_moved m next f.stopped in omega (arith, none))

-- the row calls of one load
one_load : (s : Shape) (a b : ℕ) → b ≡ a + 1 → load_rows s (b - a) ≡ 2 * load_stripes s
one_load s a b one =
    let e : b - a ≡ 1 = omega (arith, one) in
    let f : load_rows s 1 ≡ 2 * load_stripes s = omega arith in
    ap (λ (k : ℕ). load_rows s k) e ∙ f

-- are among those of the loads that are left
one_within : (m : Machine) → m.done < m.passes → 2 * load_stripes m.shape ≤ load_rows m.shape (loads_left m)
one_within m left =
    let more = load_left m left in
    let few : 2 * load_stripes m.shape * 1 ≤ load_rows m.shape (loads_left m) = mul-le-mul_left (2 * load_stripes m.shape) (omega
    (arith, more)) in
    omega (arith, few)

-- ---- bodies

-- where those of all passes stand, that of the pass under way is no other
no_bad_body : (m : Machine) (v : Contents) (page : ℕ) → m.done < m.passes → HasBodies m v → ¬ IsBadBody m v page
no_bad_body m v page left bodies bad = (let has = bodies m.done left in bad.1 has.pass has.body)

-- ---- a job that is done

-- what a machine that follows and has no pass left says
pub job_done : (ts tc : Bool) (m : Machine) (old new : RackView) → IsTrue ts → IsTrue tc → IsWellFormed ts tc new → m.done ≡ m.passes
    → Follows m new → SameInput (dims_of m.shape) old new → JobDone m old new
job_done ts tc m old new told_stands told_contents well end follows input =
    let h = follows.held in
    let stands = well.attached told_stands (dims_of m.shape) h.attached in
    let sizes = well.sizes told_stands told_contents (dims_of m.shape) stands in
    record {
      records = done_records m.shape m.job m old new m.passes refl refl refl end stands sizes follows input;
      input = same_input_records m.shape old new input;
      load_body = h.load_body;
      load_gate = h.load_gate;
      job_gate = h.job_gate;
      body = h.body;
      gates = λ k below. h.gates.opened k (omega (arith, below, end));
      clean = λ u. h.outside u (λ left. absurd (omega (arith, left, end)));
    }

-- all its gates are open where no pass is left, and there alone
pub gates_open : (m : Machine) (v : RackView) → Follows m v → (m.done ≡ m.passes) ↔ AreAllOpen m.passes v.contents
gates_open m v follows = (
  λ end k below. follows.held.gates.opened k (omega (arith, below, end)),
  λ all. elim (cases_lt m.done m.passes) [
    | inl left ↦ absurd (follows.held.gates.closed m.done (omega arith) left (all m.done left))
    | inr none ↦ (let few = m.keeps.done_few in omega (arith, none, few))
  ],
)

-- ---- the bay

-- its slot fits
pub answered_fits : (ts tc : Bool) (m next : Machine) (r : Result Turn RunError) (old new : RackView) → TurnFacts ts tc m next r old new
    → OnOk r (IsTrue next.alive) → SlotFits (Some next) (answered r)
answered_fits ts tc m next (Ok Went) old new f alive = record {
  going = λ is. refl;
  alive = λ n is _. subst (λ (k : Machine). IsTrue k.alive) (some_injective next n is) alive;
  left = λ n is _. subst (λ (k : Machine). k.done < k.passes) (some_injective next n is) f.answer;
  finished = λ is. refl;
  all = λ n is end. absurd (going_not_finished end);
}
answered_fits ts tc m next (Ok done.Finished) old new f alive = record {
  going = λ is. refl;
  alive = λ n is going. absurd (going_not_finished (sym going));
  left = λ n is going. absurd (going_not_finished (sym going));
  finished = λ is. refl;
  all = λ n is _. subst (λ (k : Machine). k.done ≡ k.passes) (some_injective next n is) f.answer;
}
answered_fits ts tc m next (Err e) old new f alive = record {
  going = λ is. refl;
  alive = λ n is going. absurd (going_not_ended e (sym going));
  left = λ n is going. absurd (going_not_ended e (sym going));
  finished = λ is. refl;
  all = λ n is end. absurd (finished_not_ended e (sym end));
}

-- what the turn did with it
pub bay_went : (ts tc : Bool) (m next : Machine) (r : Result Turn RunError) (slot : BaySlot) (old new : RackView) → m.done < m.passes
    → slot.machine ≡ Some next → slot.state ≡ answered r → TurnFacts ts tc m next r old new → BayWent ts tc m slot old new
bay_went ts tc m next r slot old new left machine state f = record {
  next = next;
  machine = machine;
  same = f.same;
  further = moved_further ts tc m next r old new f;
  moves = λ none.
      let ok = went_well r (λ e is. none e (state ∙ is)) in
      f.counts.moves.done ok ∙ ap (λ (k : ℕ). raised old.moves k) (sym (one_load m.shape _ _ (holds_ok r ok f.moved)));
  few = most_of _ _ _ _ _ (one_within m left) f.counts.moves;
  follows = λ ts tc fo none. holds_ok r (went_well r (λ e is. none e (state ∙ is))) (f.follows ts tc fo);
  sound = f.sound;
  input = f.input;
  call = call_of (IsTurnUnit m) (IsWorkUnit m.shape) (IsErrOf r Failed) (slot.state ≡ Ended Failed) old new (turn_work m)
      (λ is. ended_by r Failed (sym state ∙ is)) f.call;
  refusal = λ e is. subst (λ (x : Result Turn RunError). TurnAnswer next x) (ended_by r e (sym state ∙ is)) f.answer;
  good = λ ts tc fo page is. f.good ts tc fo page (ended_by r (BadPage page) (sym state ∙ is));
  bad = λ told bodies page is. no_bad_body m old.contents page left bodies (f.bad told page (ended_by r (BadPage page) (sym state ∙ is)));
}

-- a state that is Finished is that of a machine with no pass left
finished_end : (ts tc : Bool) (m next : Machine) (r : Result Turn RunError) (old new : RackView) → TurnFacts ts tc m next r old new
    → answered r ≡ Finished → next.done ≡ next.passes
finished_end ts tc m next (Ok Went) old new f is = absurd (going_not_finished is)
finished_end ts tc m next (Ok done.Finished) old new f is = f.answer
finished_end ts tc m next (Err e) old new f is = absurd (finished_not_ended e (sym is))

-- and of no other that went well
end_finished : (ts tc : Bool) (m next : Machine) (r : Result Turn RunError) (old new : RackView) → TurnFacts ts tc m next r old new
    → IsOk r → next.done ≡ next.passes → answered r ≡ Finished
end_finished ts tc m next (Ok Went) old new f ok end = absurd (let left = f.answer in omega (arith, left, end))
end_finished ts tc m next (Ok done.Finished) old new f ok end = refl
end_finished ts tc m next (Err e) old new f ok end = absurd (false≢true ok)

-- what one turn did besides
pub bay_step : (ts tc : Bool) (m next : Machine) (r : Result Turn RunError) (slot : BaySlot) (old new : RackView)
    → slot.machine ≡ Some next → slot.state ≡ answered r → TurnFacts ts tc m next r old new → BayStep ts tc m slot old new
bay_step ts tc m next r slot old new machine state f = record {
  moved = λ none. ap moved_by machine ∙ holds_ok r (went_well r (λ e is. none e (state ∙ is))) f.moved;
  stopped = λ e is. ap moved_by machine ∙ stopped_moved m next (holds_err r e (ended_by r e (sym state ∙ is)) f.stopped);
  gates = λ told_stands told_contents fo none.
      let ok = went_well r (λ e is. none e (state ∙ is)) in
      let both = gates_open next new (holds_ok r ok (f.follows told_stands told_contents fo)) in (
        λ is k below. both.0 (finished_end ts tc m next r old new f (sym state ∙ is)) k
            (subst (λ (p : ℕ). k < p) (sym f.same.passes) below),
        λ open_all. state ∙ end_finished ts tc m next r old new f ok (both.1 (λ k below. open_all k
            (subst (λ (p : ℕ). k < p) f.same.passes below))),
      );
  frame = f.call.frame;
  bad = λ told page is. f.bad told page (ended_by r (BadPage page) (sym state ∙ is));
  calls = record {
    moves = record {
      done = λ none. f.counts.moves.done (went_well r (λ e is. none e (state ∙ is)));
      low = f.counts.moves.low;
      high = f.counts.moves.high;
    };
    pages = f.counts.pages;
    syncs = f.counts.syncs;
  };
}
