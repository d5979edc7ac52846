-- Consistent contents have no wrong page.
use Rattle.std.proofs.Common.{◌≡◌, inl, inr, ℕ, ◌<◌, length, Some, Err, Result, subst, arith}
use Rattle.std.proofs.lemmas.Bool.{cases_lt}
use Rattle.bm_base.specs.declared.dims.Dims.{Dims}
use Rattle.bm_base.specs.declared.shape.Shape.{Shape}
use Rattle.bm_base.specs.Contents.{Contents, page_at, HasSizes}
use Rattle.bm_rack.specs.RackView.{RackView}
use Rattle.bm_base.specs.Shape.{loads_of}
use Rattle.bm_control.specs.Pages.{job_body}
use Rattle.bm_control.specs.Consistent.{GatesAre, SlotStands, JobStands, IsConsistent}
use Rattle.bm_control.specs.declared.state.SlateState.{SlateState}
use Rattle.bm_control.specs.declared.state.ControlError.{ControlError}
use Rattle.bm_control.specs.declared.state.ControlError.TheVariants.{BadPage}
use Rattle.bm_control.specs.Sound.{IsSound}
use Rattle.bm_control.specs.State.{StateAnswer, HasPart, IsBadAt, IsBadSlotPage, IsBadProgress, IsBadJobPage, IsFirstBad}
use Rattle.bm_control.proofs.ImageLemmas.{image_self}
use Rattle.bm_control.proofs.JobStandsLemmas.{element}
use Rattle.bm_control.proofs.UniqueLemmas.{passes_unique, every_unique, done_unique}

-- a slot of consistent contents has a body
has_part : (s : Shape) (v : Contents) (j : JobStands s v) (passes done slot : ℕ) → length j.forms ≡ passes → j.done ≡ done
    → SlotStands s v j.forms j.done slot
    → HasPart s v passes done slot
has_part s v j passes done slot count now t =
    let known = t.known in
    let soon = t.soon in
    record { pass = t.pass; loads = t.loads; body = t.body; known = omega (arith, known, count); soon = omega (arith, soon, now) }

-- no page of a pass is wrong
no_bad_at : (s : Shape) (v : Contents) (j : JobStands s v) (k done page : ℕ) → k < length j.forms → GatesAre v k done
    → ¬ IsBadAt s v k done page
no_bad_at s v j k done page below gates (inl bad) = (let next = element j.forms k below in bad.1 next.0 (j.bodies k next.0 next.1))
no_bad_at s v j k done page below gates (inr bad) = elim (cases_lt k j.done) [
  | inl less ↦ (let late = bad.1 in gates.closed done (omega arith) late (j.gates.opened done (omega (arith, late, less))))
  | inr more ↦ j.gates.closed k more below bad.2
]

-- nor one of a slot
no_bad_slot : (s : Shape) (v : Contents) (j : JobStands s v) (passes done page : ℕ) → length j.forms ≡ passes → j.done ≡ done
    → j.every < loads_of s
    → ¬ IsBadSlotPage s v passes done page
no_bad_slot s v j passes done page count now less (inl bad) = bad.1.1
    (has_part s v j passes done 0 count now (j.slots less 0 (omega arith) bad.1.0))
no_bad_slot s v j passes done page count now less (inr bad) = bad.1.1
    (has_part s v j passes done 1 count now (j.slots less 1 (omega arith) bad.1.0))

no_bad_job : (s : Shape) (v : Contents) (j : JobStands s v) (page : ℕ) → ¬ IsBadJobPage s v page
no_bad_job s v j page (inl bad) = bad.1 j.job (length j.forms) j.every j.body
no_bad_job s v j page (inr b) =
    let count : length j.forms ≡ b.passes = passes_unique s (page_at v job_body) j.job b.job (length j.forms) b.passes j.every b.every
    j.body b.body in
    let same : j.every ≡ b.every = every_unique s (page_at v job_body) j.job b.job (length j.forms) b.passes j.every b.every j.body b.body
    in
    behind b.passes b.every count same b.bad
  where
    behind : (passes every : ℕ) → length j.forms ≡ passes → j.every ≡ every → ¬ IsBadProgress s v passes every page
    behind passes every count same (inl bad) =
        (let below = bad.below in no_bad_at s v j bad.k bad.done page (omega (arith, below, count)) bad.before.gates bad.bad)
    behind passes every count same (inr bad) =
        let less = bad.0 in
        let done = bad.1.0 in
        no_bad_slot s v j passes done page count (done_unique v passes j.done done (subst (λ (p : ℕ). GatesAre v p j.done) count j.gates)
        bad.1.1.gates)
        (omega (arith, less, same)) bad.1.2

-- consistent contents have no wrong page
pub no_bad_page : (dims : Dims) (v : Contents) (page : ℕ) → IsConsistent dims v → ¬ IsFirstBad v page
no_bad_page dims v page c (inl bad) = (let l = c.loaded bad.1 in bad.2 l.shape l.body)
no_bad_page dims v page c (inr bad) = no_bad_job bad.0 v (c.job bad.1.job_gate bad.0 bad.1.load_body) page bad.2

-- nor has a sound rack
pub sound_no_bad : (dims : Dims) (v : RackView) (page : ℕ) → v.stands ≡ Some dims → HasSizes dims v.contents → IsSound v
    → ¬ IsFirstBad v.contents page
sound_no_bad dims v page stands sizes sound =
    no_bad_page dims v.contents page (sound.consistent dims stands dims v.contents stands (image_self v dims sizes))

-- and it is not answered there
pub sound_no_bad_answer : (dims : Dims) (v : RackView) (r : Result SlateState ControlError) (page : ℕ) → v.stands ≡ Some dims
    → HasSizes dims v.contents → IsSound v → StateAnswer v.contents r → ¬ (r ≡ Err (BadPage page))
sound_no_bad_answer dims v r page stands sizes sound answer is =
    sound_no_bad dims v page stands sizes sound (subst (StateAnswer v.contents) is answer)
