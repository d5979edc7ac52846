-- A begin of a machine as that of its bay.
use Rattle.std.proofs.Common.{Ok, Err, ◌≡◌, ◌≢◌, ◌↔◌, inl, inr, ℕ, ◌+◌, ◌*◌, ◌<◌, Bool, IsTrue, Result, IfOk, IfErr, OnOk, IsErrOf, Some}
use Rattle.std.proofs.Common.{None}
use Rattle.std.proofs.Common.{sym, ◌∙◌, ap, subst}
use Rattle.std.proofs.lemmas.Bool.{cases_eq}
use Rattle.bm_base.specs.declared.shape.Shape.{Shape}
use Rattle.bm_base.specs.Shape.{dims_of, loads_of}
use Rattle.bm_forms.specs.declared.job.Job.{Job}
use Rattle.bm_rack.specs.RackView.{RackView, IsClean, IsWellFormed}
use Rattle.bm_rack.specs.Frames.{RackCall, DirtiesOnly, MakesPageCalls}
use Rattle.bm_rack.specs.Image.{SameInput}
use Rattle.bm_control.specs.PageCalls.{IsStartPage}
use Rattle.bm_control.specs.Pages.{HasOpenJob}
use Rattle.bm_control.specs.Progress.{IsGone}
use Rattle.bm_control.specs.Sound.{IsSound}
use Rattle.bm_control.proofs.EqualLemmas.{some_injective, none_some}
use Rattle.bm_job.specs.declared.machine.Machine.{Machine}
use Rattle.bm_job.specs.declared.answers.RunError.{RunError}
use Rattle.bm_job.specs.declared.answers.RunError.TheVariants.{Failed, BadPage}
use Rattle.bm_job.specs.Begins.{BeginAnswer, IsFresh, HasBodies, OpensOnly}
use Rattle.bm_job.specs.Follows.{Follows, loads_moved}
use Rattle.bm_job.proofs.CallLemmas.{call_of}
use Rattle.bm_job.proofs.EndLemmas.{begin_complete}
use Rattle.bm_batch.specs.declared.bay_slot.BaySlot.{BaySlot}
use Rattle.bm_batch.specs.declared.bay_state.BayState.{BayState}
use Rattle.bm_batch.specs.declared.bay_state.BayState.TheVariants.{Finished, Ended}
use Rattle.bm_batch.specs.Bays.{AreAllOpen, JobDone, IsStateOf, IsSlotOf, BayBegun}
use Rattle.bm_batch.proofs.TurnLemmas.{ended_injective, job_done, gates_open, going_not_finished, going_not_ended, finished_not_ended}

-- what a begin says of its answer
pub record BeginFacts (ts tc : Bool) (s : Shape) (job : Job) (passes every : ℕ) (r : Result Machine RunError)
    (old new : RackView) : Type 0 where
  pub answer : IsTrue tc → BeginAnswer s job passes every old.contents r
  pub fresh : IfOk r (λ m. IsFresh s job m)
  pub gone : IsTrue tc → IfOk r (λ m. IsGone old.contents (loads_moved m))
  pub follows : IsTrue ts → IsTrue tc → IsSound old → IfOk r (λ m. Follows m new)
  pub bodies : IsTrue tc → IfOk r (λ m. HasBodies m new.contents)
  pub clean : OnOk r (IsClean new)
  pub sound : IsTrue ts → IsTrue tc → IsSound old → IsSound new
  pub good : IsTrue ts → IsTrue tc → IsSound old → (page : ℕ) → ¬ IsErrOf r (BadPage page)
  pub kept : IfErr r (λ e. e ≢ Failed → new.contents ≡ old.contents)
  pub unchanged : IsTrue tc → HasOpenJob old.contents → DirtiesOnly (λ u. ⊥) old new
  pub images : IsTrue ts → IsTrue tc → OpensOnly s job passes every old new
  pub call : RackCall (IsStartPage passes (every < loads_of s)) (IsErrOf r Failed) old new
  pub input : SameInput (dims_of s) old new
  pub most : MakesPageCalls ⊥ 516 3 old new
  pub moves : new.moves ≡ old.moves

-- what a machine follows that has moved only what is counted is gone
pub gone_of : (m : Machine) (v : RackView) → m.load ≡ m.part → Follows m v → IsGone v.contents (loads_moved m)
gone_of m v fresh follows = inr (record {
  shape = m.shape;
  job = m.job;
  passes = m.passes;
  every = m.every;
  done = m.done;
  part = m.part;
  slot = m.slot;
  opened = follows.held.job_gate;
  load = follows.held.load_body;
  body = follows.held.body;
  gates = follows.held.gates;
  counted = follows.held.counted;
  sum = ap (λ (k : ℕ). m.done * loads_of m.shape + k) fresh;
})

-- ---- a bay that has a machine

-- what its state says
finished_state : (m : Machine) (state : BayState) → IsStateOf m state → state ≡ Finished → m.done ≡ m.passes
finished_state m state s is = elim (cases_eq m.done m.passes) [
  | inl end ↦ end
  | inr left ↦ absurd (going_not_finished (sym (s.going left) ∙ is))
]

state_not_ended : (m : Machine) (state : BayState) → IsStateOf m state → (e : RunError) → state ≢ Ended e
state_not_ended m state s e is = elim (cases_eq m.done m.passes) [
  | inl end ↦ finished_not_ended e (sym (s.finished end) ∙ is)
  | inr left ↦ going_not_ended e (sym (s.going left) ∙ is)
]

bay_begun : (ts tc : Bool) (s : Shape) (job : Job) (passes every : ℕ) (m : Machine) (slot : BaySlot) (old new : RackView)
    → IsWellFormed ts tc new → slot.machine ≡ Some m → IsStateOf m slot.state → BeginFacts ts tc s job passes every (Ok m) old new
    → BayBegun ts tc s job passes every slot old new
bay_begun ts tc s job passes every m slot old new well machine state f = record {
  fresh = λ n is. here (λ k. IsFresh s job k) n is f.fresh;
  refused = λ e is. absurd (state_not_ended m slot.state state e is);
  answer = λ told n is. here (λ k. BeginAnswer s job passes every old.contents (Ok k)) n is (f.answer told);
  refusal = λ told e is. absurd (state_not_ended m slot.state state e is);
  gone = λ told n is. here (λ k. IsGone old.contents (loads_moved k)) n is (f.gone told);
  gone_now = λ told_stands told_contents sound n is. here (λ k. IsGone new.contents (loads_moved k)) n is
      (gone_of m new f.fresh.load (f.follows told_stands told_contents sound));
  follows = λ told_stands told_contents sound n is. here (λ k. Follows k new) n is (f.follows told_stands told_contents sound);
  gates = λ told_stands told_contents sound n is.
      here (λ k. (slot.state ≡ Finished) ↔ AreAllOpen k.passes new.contents) n is
      (let both = gates_open m new (f.follows told_stands told_contents sound) in
      (λ fin. both.0 (finished_state m slot.state state fin), λ all. state.finished (both.1 all)));
  done = λ told_stands told_contents sound fin n is. here (λ k. JobDone k old new) n is
      (job_done ts tc m old new told_stands told_contents well (finished_state m slot.state state fin)
      (f.follows told_stands told_contents sound)
      (subst (λ (t : Shape). SameInput (dims_of t) old new) (sym f.fresh.shape) f.input));
  bodies = λ told n is. here (λ k. HasBodies k new.contents) n is (f.bodies told);
  clean = λ n is. f.clean;
  sound = f.sound;
  input = f.input;
  images = f.images;
  unchanged = f.unchanged;
  kept = λ e is. absurd (state_not_ended m slot.state state e is);
  call = call_of _ _ _ _ old new (λ u is. is) (λ is. absurd (state_not_ended m slot.state state Failed is)) f.call;
  most = f.most;
  moves = f.moves;
  good = λ told_stands told_contents sound page is. state_not_ended m slot.state state (BadPage page) is;
  complete = λ told_stands told_contents sound runnable quiet e is. state_not_ended m slot.state state e is;
}
  where
    here : (P : Machine → Type 0) (n : Machine) → slot.machine ≡ Some n → P m → P n
    here P n is holds = subst P (some_injective m n (sym machine ∙ is)) holds

-- ---- a bay that was refused

bay_refused : (ts tc : Bool) (s : Shape) (job : Job) (passes every : ℕ) (e : RunError) (slot : BaySlot) (old new : RackView)
    → slot.machine ≡ None → slot.state ≡ Ended e → BeginFacts ts tc s job passes every (Err e) old new
    → BayBegun ts tc s job passes every slot old new
bay_refused ts tc s job passes every e slot old new machine state f = record {
  fresh = λ n is. absurd (no_machine n is);
  refused = λ x is. machine;
  answer = λ told n is. absurd (no_machine n is);
  refusal = λ told x is. subst (λ (y : RunError). BeginAnswer s job passes every old.contents (Err y)) (same x is) (f.answer told);
  gone = λ told n is. absurd (no_machine n is);
  gone_now = λ told_stands told_contents sound n is. absurd (no_machine n is);
  follows = λ told_stands told_contents sound n is. absurd (no_machine n is);
  gates = λ told_stands told_contents sound n is. absurd (no_machine n is);
  done = λ told_stands told_contents sound fin n is. absurd (no_machine n is);
  bodies = λ told n is. absurd (no_machine n is);
  clean = λ n is. absurd (no_machine n is);
  sound = f.sound;
  input = f.input;
  images = f.images;
  unchanged = f.unchanged;
  kept = λ x is other. f.kept (λ failed. other (sym (same x is) ∙ failed));
  call = call_of _ _ _ _ old new (λ u is. is) (λ is. ap Err (same Failed is)) f.call;
  most = f.most;
  moves = f.moves;
  good = λ told_stands told_contents sound page is. f.good told_stands told_contents sound page (ap Err (same (BadPage page) is));
  complete = λ told_stands told_contents sound runnable quiet x is.
      let failed = begin_complete s job passes every old.contents e (f.answer told_contents) runnable
      (λ page bad. f.good told_stands told_contents sound page (ap Err bad)) in
      quiet (f.call.cause.rose (ap Err failed));
}
  where
    same : (x : RunError) → slot.state ≡ Ended x → e ≡ x
    same x is = ended_injective e x (sym state ∙ is)

    no_machine : (n : Machine) → ¬ (slot.machine ≡ Some n)
    no_machine n is = none_some n (sym machine ∙ is)

-- ---- either

pub begun_of : (ts tc : Bool) (s : Shape) (job : Job) (passes every : ℕ) (r : Result Machine RunError) (slot : BaySlot) (old new : RackView)
    → IsWellFormed ts tc new → IsSlotOf r slot → BeginFacts ts tc s job passes every r old new
    → BayBegun ts tc s job passes every slot old new
begun_of ts tc s job passes every (Ok m) slot old new well is f = bay_begun ts tc s job passes every m slot old new well is.0 is.1 f
begun_of ts tc s job passes every (Err e) slot old new well is f = bay_refused ts tc s job passes every e slot old new is.0 is.1 f
