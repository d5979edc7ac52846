-- A mirror that is sound before a command is sound after it.
use Rattle.std.proofs.Common.{◌≡◌, inl, inr, ℕ, List, sym, ap, subst, ◌∙◌, refl, arith}
use Rattle.std.proofs.lemmas.Bool.{cases_lt}
use Rattle.bm_base.specs.declared.shape.Shape.{Shape}
use Rattle.bm_base.specs.Contents.{unit_at}
use Rattle.bm_base.specs.ShapeRules.{broken_rule}
use Rattle.bm_base.proofs.EqualLemmas.{is_shape}
use Rattle.bm_rack.specs.RackView.{RackView}
use Rattle.bm_control.specs.Sound.{IsSound}
use Rattle.bm_top.specs.Moment.{Devices, Moment, Tells, TellsRack}
use Rattle.bm_top.specs.Status.{IsOfWords}
use Rattle.bm_top.specs.TopCall.{FlipCall, JobCall}
use Rattle.bm_top.specs.declared.status.Status.{Status}
use Rattle.bm_top.specs.declared.words.Flip.{Flip}
use Rattle.bm_top.specs.declared.words.Verb.{Verb}
use Rattle.bm_top.proofs.SameDisksLemmas.{sound_kept}
use Rattle.bm_mirror_call.specs.Healing.{ShownAs}
use Rattle.bm_mirror_call.specs.MirrorCall.{TextCall}
use Rattle.bm_mirror_call.specs.Seen.{MirrorDevices}
use Rattle.bm_mirror_call.proofs.CommandLemmas.{heard}

-- attached and healed: at most what was dirty was made durable
shown_sound : (old new : RackView) → ShownAs old new → IsSound old → IsSound new
shown_sound old new shows sound = elim shows.dirty [
  | inl same ↦ sound_kept old new (record { stands = shows.stands; contents = shows.contents; dirty = same }) sound
  | inr clean ↦ record {
    consistent = λ dims is d image is' i. sound.consistent dims (sym shows.stands ∙ is) d image (sym shows.stands ∙ is')
        (record { sizes = i.sizes; clean = λ u h. i.clean u (clean u) ∙ ap (λ c. unit_at c u) shows.contents });
    input = λ dims image is i gate u input. clean u;
  }
]

-- the devices were left as they were
devices_sound : (old new : Devices) → new ≡ old → IsSound old.rack → IsSound new.rack
devices_sound old new same sound = subst (λ (d : Devices). IsSound d.rack) (sym same) sound

-- a command whose words name a job
job_sound : (t : Tells) (verb : Verb) (old : Moment) (answer : Status) (new : Moment) → JobCall t verb old answer new → TellsRack t
    → IsSound old.devices.rack → IsSound new.devices.rack
job_sound t verb old answer new call tell sound = elim call.task [
  | inl before ↦ devices_sound old.devices new.devices before.1 sound
  | inr done ↦ done.4.each.sound tell sound
]

-- one whose text was read, over a mirror that may be made ready first
pub text_sound : (t : Tells) (verb : Verb) (text : List ℕ) (old : MirrorDevices) (answer : Status) (new : MirrorDevices)
    → TextCall t verb text old answer new → TellsRack t → IsSound old.mirror.rack → IsSound new.mirror.rack
text_sound t verb text old answer new call tell sound = elim call [
  | inl stops ↦ shown_sound old.mirror.rack new.mirror.rack stops.shows sound
  | inr done ↦ job_sound (heard t) verb _ answer _ done.call tell (shown_sound old.mirror.rack done.ready done.shows sound)
]

-- a flip, whose numbers are a shape's or break a rule
pub flip_sound : (t : Tells) (f : Flip) (old : Moment) (answer : Status) (new : Moment) → FlipCall t f old answer new → TellsRack t
    → IsSound old.devices.rack → IsSound new.devices.rack
flip_sound t f old answer new call tell sound =
    let rule = broken_rule f.n f.b f.d f.m f.width in
    elim (cases_lt 0 rule) [
      | inl broken ↦
          let is = (call.shape rule).1 (λ none. omega (arith, none, broken), refl) in
          devices_sound old.devices new.devices (call.refused (subst IsOfWords (sym is) tt)) sound
      | inr none ↦
          let kept_all = is_shape f.n f.b f.d f.m f.width (omega (arith, none)) in
          let shape : Shape = record { n = f.n; b = f.b; d = f.d; m = f.m; width = f.width; keeps = kept_all } in
          let carried = call.task shape refl in
          carried.2.each.sound tell sound
    ]
