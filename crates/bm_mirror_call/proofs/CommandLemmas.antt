-- The sides of a mirror after a command that has a job.
use Rattle.std.proofs.Common.{◌≡◌, inl, inr, ⊎_elim, ℕ, true, Bool, IsTrue, List, Some, None}
use Rattle.std.proofs.Common.{sym, ap, subst, ◌∙◌, refl, arith}
use Rattle.bm_base.specs.declared.shape.Shape.{Shape}
use Rattle.bm_base.specs.Count.{Rose}
use Rattle.bm_base.specs.Shape.{dims_of}
use Rattle.bm_rack.specs.RackView.{RackView}
use Rattle.bm_rack.specs.Frames.{Keeps}
use Rattle.bm_rack.proofs.FrameLemmas.{Keeps-refl, Keeps-trans}
use Rattle.bm_mirror.specs.TwoSides.{preferred}
use Rattle.bm_top.specs.Causes.{Attaches, CauseOf, GoesOn}
use Rattle.bm_top.specs.Exits.{Makes}
use Rattle.bm_top.specs.JobRead.{TakesShape}
use Rattle.bm_top.specs.Moment.{Devices, SourceView, SinkView, Tells, TellsRack, source_of, devices_of, moment_of}
use Rattle.bm_top.specs.Status.{IsBeforeTask}
use Rattle.bm_top.specs.Task.{HoldsTask}
use Rattle.bm_top.specs.TopCall.{JobCall, TaskCall}
use Rattle.bm_top.specs.declared.task.Task.{Task}
use Rattle.bm_top.specs.declared.status.Status.{Status}
use Rattle.bm_top.specs.declared.status.Status.TheVariants.{Done, RackFault}
use Rattle.bm_top.specs.declared.words.Command.TheVariants.{On}
use Rattle.bm_top.specs.declared.words.Verb.{Verb}
use Rattle.bm_mirror_call.specs.Healing.{AreIn, HealStops, JobComesIn, NoneRose, ShownAs}
use Rattle.bm_mirror_call.specs.Seen.{MirrorSeen}
use Rattle.bm_mirror_call.specs.Sides.{IsNewMirror, OthersFollow, SidesAfter}
use Rattle.bm_mirror_call.proofs.HealLemmas.{none_rose_before, none_rose_after}
use Rattle.bm_mirror_call.proofs.SeenLemmas.{IsSeen, nothing_stands, others_can}
use Rattle.bm_mirror_call.proofs.SidesLemmas.{lasts, same_in, counts_grow, both_stay, both_made, sides_after}
use Rattle.bm_mirror_call.proofs.VerbLemmas.{which, makes_new, touches_none, stands_where, none_where, made_where, rack_left}

-- the job source is told
abbrev pub heard : Tells → Tells
heard t = record t { job = true }

-- a count that rose from 0 is more
pub risen : (before after count : ℕ) → before ≡ 0 → after ≡ count → Rose before after → ¬ (count ≡ 0)
risen before after count zero same rose none =
    ⊎_elim (λ lt. omega (arith, lt, zero, same, none)) (λ last. omega (arith, last, same, none)) rose

-- a mirror as it was
pub unchanged : (told : Bool) (t : Tells) (verb : Verb) (answer : Status) (a b : MirrorSeen) → t.stands ≡ told → IsSeen told a
    → IsSeen told b → IsNewMirror a → b.rack ≡ a.rack → IsBeforeTask answer → SidesAfter t (On verb) a.sides answer b.sides b.history
unchanged told t verb answer a b tells seen_a seen_b fresh same before =
    sides_after told a b seen_a seen_b t (On verb) answer tells fresh
    (lasts told a b seen_a seen_b (subst (Keeps a.rack) (sym same) (Keeps-refl a.rack)))
    (λ is. absurd (subst IsBeforeTask is before))
    (λ tell is. absurd (subst IsBeforeTask is before))
    (λ none. same_in told a b seen_a seen_b fresh (ap (λ (v : RackView). v.lasting) (sym same)) (ap (λ (v : RackView). v.faults) same))

-- one that could not be made ready
pub stopped : (told : Bool) (t : Tells) (verb : Verb) (text : List ℕ) (answer : Status) (a b : MirrorSeen) → t.stands ≡ told
    → IsSeen told a → IsSeen told b → IsNewMirror a → ShownAs a.rack b.rack → HealStops verb text answer a.rack b.rack
    → SidesAfter t (On verb) a.sides answer b.sides b.history
stopped told t verb text answer a b tells seen_a seen_b fresh shows stops =
    sides_after told a b seen_a seen_b t (On verb) answer tells fresh (lasts told a b seen_a seen_b shows.keeps)
    (λ is. risen a.rack.faults b.rack.faults b.history.faults (seen_a.faults ∙ fresh.faults) seen_b.faults (stops.stops.cause is))
    (λ tell is. absurd (⊎_elim (λ fault. (let e = sym is ∙ fault in absurd (cc))) (λ memory. (let e = sym is ∙ memory in absurd (cc)))
    stops.stops.answer))
    (λ none. absurd (touches_none verb none stops.attaches))

-- ---- a command that was carried out

-- the cause of Done
pub done_cause : (t : Tells) (verb : Verb) (task : Task) (old : Devices) (answer : Status) (new : Devices) → answer ≡ Done
    → CauseOf t verb task old answer new → IsTrue t.stands → GoesOn verb (dims_of task.shape) old.rack.stands
done_cause t verb task old answer new is cause = subst (λ (x : Status). CauseOf t verb task old x new) is cause

-- the cause of a fault
pub fault_cause : (t : Tells) (verb : Verb) (task : Task) (old : Devices) (answer : Status) (new : Devices) → answer ≡ RackFault
    → CauseOf t verb task old answer new → Rose old.rack.faults new.rack.faults
fault_cause t verb task old answer new is cause = subst (λ (x : Status). CauseOf t verb task old x new) is cause

module _ (t : Tells) (verb : Verb) (text : List ℕ) (answer : Status) (a m b : MirrorSeen) (input new_input : SourceView)
    (out new_out : SinkView) (seen_a : IsSeen t.stands a) (seen_m : IsSeen t.stands m) (seen_b : IsSeen t.stands b) (fresh : IsNewMirror a)
    (shows : ShownAs a.rack m.rack) (calm : m.rack.faults ≡ a.rack.faults) (idle : ¬ Attaches verb → m.rack ≡ a.rack)
    (comes : JobComesIn t.stands verb text a.rack.stands a.sides m.sides) where
  abbrev old : Devices
  old = devices_of input out m.rack

  abbrev new : Devices
  new = devices_of new_input new_out b.rack

  quiet : m.rack.faults ≡ 0
  quiet = calm ∙ seen_a.faults ∙ fresh.faults

  -- one that goes on with disks: the other side came in before, and stays
  stays_in : (task : Task) → HoldsTask true (source_of text 0) task → TakesShape verb task.shape → TellsRack t → Attaches verb
      → m.rack.stands ≡ Some (dims_of task.shape) → OthersFollow (On verb) a.sides → Keeps m.rack b.rack → NoneRose a.sides b.sides
      → AreIn b.sides
  stays_in task holds takes tell attaches stands follow keeps none =
      let held = holds refl in
      let file = held.0 in
      let shape : task.shape ≡ file.shape = held.2.shape in
      let dims = dims_of file.shape in
      let there : a.rack.stands ≡ Some dims = sym shows.stands ∙ stands ∙ ap (λ (s : Shape). Some (dims_of s)) shape in
      let early = lasts t.stands a m seen_a seen_m shows.keeps in
      let late = lasts t.stands m b seen_m seen_b keeps in
      let grown = counts_grow t.stands a m seen_a seen_m early in
      let grows = counts_grow t.stands m b seen_m seen_b late in
      let can = others_can (On verb) a.sides dims seen_a.some_in follow (sym (seen_a.stands tell.0) ∙ there) in
      let before = none_rose_before a.sides m.sides b.sides grows.0 grows.1 seen_b.left_fits seen_b.right_fits none in
      let takes_file : TakesShape verb file.shape = subst (TakesShape verb) shape takes in
      both_stay t.stands m b seen_m seen_b late tell.0 (sym seen_m.faults ∙ quiet)
      (comes file held.1 attaches takes_file tell.0 there can before) (none_rose_after a.sides m.sides b.sides grown.0 grown.1 none)

  -- one that makes them: they are made on both
  made_in : (task : Task) → TellsRack t → Makes verb → m.rack.stands ≡ None → ¬ (b.rack.stands ≡ None)
      → OthersFollow (On verb) a.sides → Keeps m.rack b.rack → NoneRose a.sides b.sides → AreIn b.sides
  made_in task tell makes empty stands follow keeps none =
      let new_ones = makes_new verb makes in
      let nothing : (preferred a.sides).stands ≡ None =
      sym (seen_a.stands tell.0) ∙ ap (λ (v : RackView). v.stands) (sym (idle new_ones)) ∙ empty in
      both_made t.stands a b seen_a seen_b (lasts t.stands a b seen_a seen_b (Keeps-trans a.rack m.rack b.rack shows.keeps keeps)) tell.0
      fresh (nothing_stands (On verb) a.sides new_ones follow fresh.alone nothing) stands none

  pub carried_out : (rest : List ℕ)
      → JobCall (heard t) verb (moment_of (source_of text 0) (devices_of input out m.rack)) answer
      (moment_of (source_of rest 0) (devices_of new_input new_out b.rack)) → SidesAfter t (On verb) a.sides answer b.sides b.history
  carried_out rest call = elim call.task [
    | inl refused ↦ before refused.0 (ap (λ (d : Devices). d.rack) refused.1)
    | inr done ↦ after done.0 done.1 done.3 done.4
  ]
    where
      before : IsBeforeTask answer → b.rack ≡ m.rack → SidesAfter t (On verb) a.sides answer b.sides b.history
      before early same =
          sides_after t.stands a b seen_a seen_b t (On verb) answer refl fresh
          (lasts t.stands a b seen_a seen_b (subst (Keeps a.rack) (sym same) shows.keeps))
          (λ is. absurd (subst IsBeforeTask is early))
          (λ tell is. absurd (subst IsBeforeTask is early))
          (λ none. left (same ∙ idle (touches_none verb none)))
        where
          left : b.rack ≡ a.rack → b.sides.sides ≡ a.sides.sides
          left is =
              same_in t.stands a b seen_a seen_b fresh (ap (λ (v : RackView). v.lasting) (sym is)) (ap (λ (v : RackView). v.faults) is)

      after : (task : Task) → HoldsTask true (source_of text 0) task → TakesShape verb task.shape
          → TaskCall (heard t) verb task old answer new
          → SidesAfter t (On verb) a.sides answer b.sides b.history
      after task holds takes done =
          sides_after t.stands a b seen_a seen_b t (On verb) answer refl fresh
          (lasts t.stands a b seen_a seen_b (Keeps-trans a.rack m.rack b.rack shows.keeps done.each.keeps))
          (λ is. risen m.rack.faults b.rack.faults b.history.faults quiet seen_b.faults
          (fault_cause (heard t) verb task old answer new is done.cause))
          (λ tell is has follow none.
          let on = done_cause (heard t) verb task old answer new is done.cause tell.0 in
          elim (which verb has) [
            | inl attaches ↦ stays_in task holds takes tell attaches (stands_where verb (dims_of task.shape) m.rack.stands attaches on)
                follow
                done.each.keeps none
            | inr makes ↦ made_in task tell makes (none_where verb (dims_of task.shape) m.rack.stands makes on)
                (λ empty. (let e = sym (made_where (heard t) verb task old new makes tell (done.done is)) ∙ empty in absurd (cc))) follow
                done.each.keeps none
          ])
          (λ none. (let same = rack_left (heard t) verb task old answer new none done.leaves ∙ idle (touches_none verb none) in
          same_in t.stands a b seen_a seen_b fresh (ap (λ (v : RackView). v.lasting) (sym same)) (ap (λ (v : RackView). v.faults) same)))
