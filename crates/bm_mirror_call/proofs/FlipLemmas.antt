-- The sides of a mirror after a flip.
use Rattle.std.proofs.Common.{◌≡◌, inl, inr, None, List, String, Global}
use Rattle.std.proofs.Common.{sym, ap, subst, ◌∙◌, refl, arith}
use Rattle.std.proofs.lemmas.Bool.{cases_lt}
use Rattle.bm_base.specs.declared.shape.Shape.{Shape}
use Rattle.bm_base.specs.ShapeRules.{broken_rule}
use Rattle.bm_base.proofs.EqualLemmas.{is_shape}
use Rattle.bm_rack.specs.Frames.{Keeps}
use Rattle.bm_rack.proofs.FrameLemmas.{Keeps-refl}
use Rattle.bm_top.specs.Moment.{Devices, SourceView, SinkView, Tells, devices_of, moment_of}
use Rattle.bm_top.specs.Status.{IsOfWords}
use Rattle.bm_top.specs.TopCall.{FlipCall, TaskCall, TopCall}
use Rattle.bm_top.specs.Words.{IsCommand, IsFlip}
use Rattle.bm_top.specs.declared.words.Command.{Command}
use Rattle.bm_top.specs.declared.task.Task.{Task}
use Rattle.bm_top.specs.declared.status.Status.{Status}
use Rattle.bm_top.specs.declared.status.Status.TheVariants.{JobShape}
use Rattle.bm_top.specs.declared.words.Command.TheVariants as command
use Rattle.bm_top.specs.declared.words.Flip.{Flip}
use Rattle.bm_top.specs.declared.words.Verb.TheVariants.{Carry}
use Rattle.bm_mirror_call.specs.MirrorCall.{CommandCall}
use Rattle.bm_mirror_call.specs.Seen.{MirrorMoment, MirrorSeen, devices_seen}
use Rattle.bm_mirror_call.specs.Sides.{IsNewMirror, SidesAfter}
use Rattle.bm_mirror_call.proofs.CommandLemmas.{risen, done_cause, fault_cause}
use Rattle.bm_mirror_call.proofs.SeenLemmas.{IsSeen, nothing_stands}
use Rattle.bm_mirror_call.proofs.SidesLemmas.{lasts, both_made, sides_after}
use Rattle.bm_mirror_call.proofs.SoundLemmas.{flip_sound}
use Rattle.bm_mirror_call.proofs.VerbLemmas.{made_where}

-- ---- the sides

module _ (t : Tells) (f : Flip) (answer : Status) (a b : MirrorSeen) (job new_job input new_input : SourceView) (out new_out : SinkView)
    (seen_a : IsSeen t.stands a) (seen_b : IsSeen t.stands b) (fresh : IsNewMirror a)
    (call : FlipCall t f (moment_of job (devices_of input out a.rack)) answer (moment_of new_job (devices_of new_input new_out b.rack)))
  where
    abbrev old : Devices
    old = devices_of input out a.rack

    abbrev new : Devices
    new = devices_of new_input new_out b.rack

    -- its numbers break a rule
    refused : answer ≡ JobShape (broken_rule f.n f.b f.d f.m f.width) → SidesAfter t (command.Flip f) a.sides answer b.sides b.history
    refused is =
        let same = ap (λ (d : Devices). d.rack) (call.refused (subst IsOfWords (sym is) tt)) in
        sides_after t.stands a b seen_a seen_b t (command.Flip f) answer refl fresh
        (lasts t.stands a b seen_a seen_b (subst (Keeps a.rack) (sym same) (Keeps-refl a.rack)))
        (λ fault. (let e = sym is ∙ fault in absurd (cc)))
        (λ tell done. (let e = sym is ∙ done in absurd (cc)))
        (λ none. absurd none)

    -- they are a shape's
    done : (task : Task) → TaskCall t Carry task old answer new → SidesAfter t (command.Flip f) a.sides answer b.sides b.history
    done task carried =
        let later = lasts t.stands a b seen_a seen_b carried.each.keeps in
        sides_after t.stands a b seen_a seen_b t (command.Flip f) answer refl fresh later
        (λ is. risen a.rack.faults b.rack.faults b.history.faults (seen_a.faults ∙ fresh.faults) seen_b.faults
        (fault_cause t Carry task old answer new is carried.cause))
        (λ tell is has follow none.
        let empty : a.rack.stands ≡ None = done_cause t Carry task old answer new is carried.cause tell.0 in
        let made = made_where t Carry task old new tt tell (carried.done is) in
        both_made t.stands a b seen_a seen_b later tell.0 fresh
        (nothing_stands (command.Flip f) a.sides (λ never. never) follow fresh.alone (sym (seen_a.stands tell.0) ∙ empty))
        (λ gone. (let e = sym made ∙ gone in absurd (cc))) none)
        (λ none. absurd none)

    pub flip_sides : SidesAfter t (command.Flip f) a.sides answer b.sides b.history
    flip_sides =
        let rule = broken_rule f.n f.b f.d f.m f.width in
        elim (cases_lt 0 rule) [
          | inl broken ↦ refused ((call.shape rule).1 (λ none. omega (arith, none, broken), refl))
          | inr none ↦
              let kept_all = is_shape f.n f.b f.d f.m f.width (omega (arith, none)) in
              let shape : Shape = record { n = f.n; b = f.b; d = f.d; m = f.m; width = f.width; keeps = kept_all } in
              let carried = call.task shape refl in
              done carried.0 carried.2
        ]

-- ---- the call

pub flip_made : (t : Tells) (words : List (String Global)) (c : Command) (f : Flip) (old : MirrorMoment) (answer : Status)
    (new : MirrorMoment) → c ≡ command.Flip f → IsCommand words c → IsSeen t.stands old.devices.mirror → IsSeen t.stands new.devices.mirror
    → IsNewMirror old.devices.mirror
    → TopCall t words (moment_of old.job (devices_seen old.devices)) answer (moment_of new.job (devices_seen new.devices))
    → CommandCall t c old answer new
flip_made t words c f old answer new is spelled seen_a seen_b fresh top =
    let flips : IsFlip words f = subst (IsCommand words) is spelled in
    let call = top.flip f flips in
    subst (λ (x : Command). CommandCall t x old answer new) (sym is) (record {
      answered = λ e. top.usage.0 e (command.Flip f) flips;
      call = call;
      sides = flip_sides t f answer old.devices.mirror new.devices.mirror old.job new.job old.devices.input new.devices.input
          old.devices.out new.devices.out seen_a seen_b fresh call;
      sound = flip_sound t f (moment_of old.job (devices_seen old.devices)) answer (moment_of new.job (devices_seen new.devices)) call;
    })
