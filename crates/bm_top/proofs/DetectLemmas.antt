-- What the command `detect` answers of the numbers that are loaded.
use Rattle.std.proofs.Common.{Ok, Err, ◌≡◌, ◌≢◌, ◌⊎◌, inl, inr, ℕ, ◌≤◌, ◌++◌, IsTrue, Result, IsOk, refl, sym, ap, subst, ◌∙◌, arith}
use Rattle.bm_base.specs.declared.shape.Shape.{Shape}
use Rattle.bm_base.specs.Contents.{Contents, unit_at}
use Rattle.bm_base.specs.Count.{raised, Rose}
use Rattle.bm_base.specs.Shape.{stripes}
use Rattle.bm_base.proofs.CountLemmas.{rose_earlier}
use Rattle.bm_gf2.specs.declared.affine.Affine.{Affine}
use Rattle.bm_gf2.specs.Matrix.{IsNonsingular}
use Rattle.bm_rack.specs.RackView.{RackView}
use Rattle.bm_rack.specs.Frames.{SameState, Keeps, HasCause, MovesRows}
use Rattle.bm_rack.specs.Sink.{AppendsFront}
use Rattle.bm_rack.proofs.FrameLemmas.{Keeps-trans, HasCause-later}
use Rattle.bm_control.proofs.SoundLemmas.{sound_same}
use Rattle.bm_detect.specs.declared.detect_error.DetectError.{DetectError}
use Rattle.bm_detect.specs.declared.detect_error.DetectError.TheVariants as refusal
use Rattle.bm_detect.specs.Candidate.{input_number, IsAffineBy}
use Rattle.bm_detect.specs.Answer.{DetectAnswer}
use Rattle.bm_text.specs.JobText.{job_text}
use Rattle.bm_top.specs.Causes.{CauseOf, IsUndetected}
use Rattle.bm_top.specs.DiskStatus.{detect_status}
use Rattle.bm_top.specs.Exits.{EachExit}
use Rattle.bm_top.specs.Moment.{Devices, SinkView, Tells}
use Rattle.bm_top.specs.Status.{IsBeforeDisks, IsOfState}
use Rattle.bm_top.specs.TopCall.{TaskCall, IsDoneUnlessMemory}
use Rattle.bm_top.specs.commands.Detect.{DetectMay, DetectCase, DetectLeaves, DetectCut, IsMapOfInput, IsSeenFrom}
use Rattle.bm_top.specs.commands.Status.{OnlyLooks}
use Rattle.bm_top.specs.declared.task.Task.{Task}
use Rattle.bm_top.specs.declared.words.Verb.TheVariants as verbs
use Rattle.bm_top.specs.declared.status.Status.{Status}
use Rattle.bm_top.specs.declared.status.Status.TheVariants.{Done, RackFault, SinkFault}
use Rattle.bm_top.proofs.ExitLemmas.{IsRead-none}
use Rattle.bm_rack.proofs.CallLemmas.{CallsGrow-trans, CallsGrow-rows, most_of}
use Rattle.bm_top.proofs.BeforeLemmas.{moves_before}
use Rattle.bm_top.proofs.StatusLemmas.{no_fault}

-- what a detection said of records that were seen
pub record Detected (t : Tells) (s : Shape) (look : RackView) (r : Result Affine DetectError) (new : RackView) : Type 0 where
  pub answer : IsTrue t.contents → DetectAnswer s.n (input_number look.contents s) r
  pub complete : IsTrue t.contents → (f : Affine) → IsAffineBy s.n (input_number look.contents s) f → IsNonsingular f.a
      → ¬ Rose look.faults new.faults → IsOk r
  pub state : SameState look new
  pub moved : MovesRows (stripes s) (IsOk r) look new
  pub keeps : Keeps look new
  pub cause : HasCause (r ≡ Err refusal.Failed) look new

-- the disks are as they were seen
detect_looks : (t : Tells) (task : Task) (before look new : RackView) (r : Result Affine DetectError) → IsSeenFrom t task before look
    → Detected t task.shape look r new → OnlyLooks before new
detect_looks t task before look new r seen k = record {
  contents = k.state.contents ∙ seen.looks.contents;
  units = record {
    contents = λ u p. ap (λ (v : Contents). unit_at v u) k.state.contents ∙ seen.looks.units.contents u p;
    dirty = λ u p clean. ap (λ f. f u) k.state.dirty ∙ seen.looks.units.dirty u p clean;
  };
}

-- what it leaves, whatever it answers
detect_leaves : (t : Tells) (task : Task) (d : Devices) (before look new : RackView) (out : SinkView) (r : Result Affine DetectError)
    (answer : Status) → IsSeenFrom t task before look → Detected t task.shape look r new → ¬ IsOfState answer
    → (answer ≡ SinkFault → DetectCut t task (record d { rack = before }) (record d { out = out; rack = new }))
    → (answer ≡ Done) ⊎ ((answer ≡ SinkFault) ⊎ (out ≡ d.out))
    → DetectLeaves t task (record d { rack = before }) answer (record d { out = out; rack = new })
detect_leaves t task d before look new out r answer seen k late cut unwritten =
    let sees = detect_looks t task before look new r seen k in
    record {
      looks = sees;
      same = record { contents = λ u p. sees.units.contents u tt; dirty = λ u p. sees.units.dirty u tt };
      moves = moves_before (stripes task.shape) before look new seen.moves (most_of _ _ _ _ _ (omega arith) k.moved.moves);
      still = λ of. absurd (late of);
      cut = cut;
      unwritten = unwritten;
      input = refl;
    }

-- and each exit
detect_each : (t : Tells) (task : Task) (d : Devices) (before look new : RackView) (out : SinkView) (r : Result Affine DetectError)
    (answer : Status) → IsSeenFrom t task before look → Detected t task.shape look r new → ¬ IsBeforeDisks answer
    → HasCause (answer ≡ RackFault) before new → d.out.faults ≤ out.faults
    → EachExit t verbs.Detect task (record d { rack = before }) answer (record d { out = out; rack = new })
detect_each t task d before look new out r answer seen k late why more = record {
  sound = λ told sound. sound_same look new k.state (seen.sound sound);
  stands = λ told. inl (k.state.stands ∙ seen.stands);
  keeps = Keeps-trans before look new seen.keeps k.keeps;
  fault = why;
  calls = λ of. absurd (late of);
  grow = CallsGrow-trans before look new seen.grow
      (CallsGrow-rows _ _ look new k.moved);
  unattached = λ is. absurd (late (subst IsBeforeDisks (sym is) tt));
  few = λ told. IsRead-none _ d.input.left;
  input_faults = omega arith;
  out_faults = more;
}

-- the map that was found, as it was told
map_told : (t : Tells) (task : Task) (before look new : RackView) (map : Affine) → IsSeenFrom t task before look
    → Detected t task.shape look (Ok map) new → IsTrue t.contents → IsMapOfInput task map before.contents
map_told t task before look new map seen k told =
    let answer = subst (λ (v : Contents). DetectAnswer task.shape.n (input_number v task.shape) (Ok map)) seen.looks.contents
    (k.answer told) in
    record { loaded = seen.loaded told; values = answer.0; nonsingular = answer.1 }

rows_moved : (t : Tells) (task : Task) (before look new : RackView) (map : Affine) → IsSeenFrom t task before look
    → Detected t task.shape look (Ok map) new → new.moves ≡ raised before.moves (stripes task.shape)
rows_moved t task before look new map seen k = k.moved.moves.done refl ∙ ap (λ (n : ℕ). raised n (stripes task.shape)) seen.moves

-- the text was written
pub detect_done : (t : Tells) (task : Task) (d : Devices) (out : SinkView) (before look new : RackView) (map : Affine)
    → IsSeenFrom t task before look → Detected t task.shape look (Ok map) new
    → (IsTrue t.out → out.taken ≡ d.out.taken ++ job_text task.shape map) → d.out.faults ≤ out.faults
    → TaskCall t verbs.Detect task (record d { rack = before }) Done (record d { out = out; rack = new })
detect_done t task d out before look new map seen k text more = record {
  may = tt;
  cause = seen.stood;
  done = λ is. record {
    map = map;
    listed = map_told t task before look new map seen k;
    text = text;
    moves = rows_moved t task before look new map seen k;
  };
  leaves = detect_leaves t task d before look new out (Ok map) Done seen k (λ of. of) (λ is. absurd (cc)) (inl refl);
  each = detect_each t task d before look new out (Ok map) Done seen k (λ of. of) (no_fault Done before new (λ is. (cc))) more;
  complete = λ is calm. inl refl;
}

-- a write of it failed
pub detect_cut : (t : Tells) (task : Task) (d : Devices) (out : SinkView) (before look new : RackView) (map : Affine)
    → IsSeenFrom t task before look → Detected t task.shape look (Ok map) new
    → (IsTrue t.out → AppendsFront d.out.taken out.taken (job_text task.shape map)) → d.out.faults ≤ out.faults
    → Rose d.out.faults out.faults
    → TaskCall t verbs.Detect task (record d { rack = before }) SinkFault (record d { out = out; rack = new })
detect_cut t task d out before look new map seen k text more rose = record {
  may = tt;
  cause = (seen.stood, rose);
  done = λ is. absurd (cc);
  leaves = detect_leaves t task d before look new out (Ok map) SinkFault seen k (λ of. of) (λ is. record {
    map = map;
    listed = map_told t task before look new map seen k;
    text = text;
    moves = rows_moved t task before look new map seen k;
  }) (inr (inl refl));
  each = detect_each t task d before look new out (Ok map) SinkFault seen k (λ of. of) (no_fault SinkFault before new (λ is. (cc))) more;
  complete = λ is calm. absurd (calm.out rose);
}

-- ---- numbers that are refused

undetected_may : (e : DetectError) → DetectMay (detect_status e)
undetected_may refusal.Failed = tt
undetected_may (refusal.OutOfRange x y) = tt
undetected_may (refusal.NotAffine x y want) = tt
undetected_may (refusal.Singular x) = tt

undetected_not_done : (e : DetectError) → detect_status e ≢ Done
undetected_not_done refusal.Failed is = (cc)
undetected_not_done (refusal.OutOfRange x y) is = (cc)
undetected_not_done (refusal.NotAffine x y want) is = (cc)
undetected_not_done (refusal.Singular x) is = (cc)

undetected_not_sink : (e : DetectError) → detect_status e ≢ SinkFault
undetected_not_sink refusal.Failed is = (cc)
undetected_not_sink (refusal.OutOfRange x y) is = (cc)
undetected_not_sink (refusal.NotAffine x y want) is = (cc)
undetected_not_sink (refusal.Singular x) is = (cc)

undetected_late : (e : DetectError) → ¬ IsBeforeDisks (detect_status e)
undetected_late refusal.Failed of = of
undetected_late (refusal.OutOfRange x y) of = of
undetected_late (refusal.NotAffine x y want) of = of
undetected_late (refusal.Singular x) of = of

undetected_read : (e : DetectError) → ¬ IsOfState (detect_status e)
undetected_read refusal.Failed of = of
undetected_read (refusal.OutOfRange x y) of = of
undetected_read (refusal.NotAffine x y want) of = of
undetected_read (refusal.Singular x) of = of

undetected_failed : (e : DetectError) → detect_status e ≡ RackFault → e ≡ refusal.Failed
undetected_failed refusal.Failed is = refl
undetected_failed (refusal.OutOfRange x y) is = absurd (cc)
undetected_failed (refusal.NotAffine x y want) is = absurd (cc)
undetected_failed (refusal.Singular x) is = absurd (cc)

-- what the numbers tell of a refusal
undetected_told : (t : Tells) (task : Task) (before look new : RackView) (e : DetectError) → IsSeenFrom t task before look
    → Detected t task.shape look (Err e) new → IsTrue t.contents → IsUndetected task.shape e before.contents
undetected_told t task before look new e seen k told = record {
  loaded = seen.loaded told;
  numbers = subst (λ (v : Contents). DetectAnswer task.shape.n (input_number v task.shape) (Err e)) seen.looks.contents (k.answer told);
}

undetected_cause : (t : Tells) (task : Task) (d : Devices) (before look new : RackView) (e : DetectError) → IsSeenFrom t task before look
    → Detected t task.shape look (Err e) new → (e ≡ refusal.Failed → Rose before.faults new.faults)
    → CauseOf t verbs.Detect task (record d { rack = before }) (detect_status e) (record d { rack = new })
undetected_cause t task d before look new refusal.Failed seen k rose = rose refl
undetected_cause t task d before look new (refusal.OutOfRange x y) seen k rose =
    (seen.stood, undetected_told t task before look new (refusal.OutOfRange x y) seen k)
undetected_cause t task d before look new (refusal.NotAffine x y want) seen k rose =
    (seen.stood, undetected_told t task before look new (refusal.NotAffine x y want) seen k)
undetected_cause t task d before look new (refusal.Singular x) seen k rose =
    (seen.stood, undetected_told t task before look new (refusal.Singular x) seen k)

-- numbers of an affine permutation are not refused, where the rack did not fail
undetected_complete : (t : Tells) (task : Task) (d : Devices) (before look new : RackView) (e : DetectError) → IsSeenFrom t task before look
    → Detected t task.shape look (Err e) new → DetectCase t task (record d { rack = before }) → ¬ Rose before.faults new.faults
    → IsDoneUnlessMemory (detect_status e)
undetected_complete t task d before look new e seen k is calm =
    absurd (no_ok (k.complete is.told.1 is.map
    (subst (λ (v : Contents). IsAffineBy task.shape.n (input_number v task.shape) is.map) (sym seen.looks.contents) is.values)
    is.nonsingular (λ rose. calm (rose_earlier before.faults look.faults new.faults seen.keeps.faults rose))))
  where
    no_ok : ¬ IsOk {T = Affine} {E = DetectError} (Err e)
    no_ok is = (cc)

pub undetected : (t : Tells) (task : Task) (d : Devices) (before look new : RackView) (e : DetectError) → IsSeenFrom t task before look
    → Detected t task.shape look (Err e) new
    → TaskCall t verbs.Detect task (record d { rack = before }) (detect_status e) (record d { rack = new })
undetected t task d before look new e seen k =
    let why = HasCause-later _ before look new seen.keeps k.cause in
    record {
      may = undetected_may e;
      cause = undetected_cause t task d before look new e seen k (λ is. why.rose (ap Err is));
      done = λ is. absurd (undetected_not_done e is);
      leaves = detect_leaves t task d before look new d.out (Err e) (detect_status e) seen k (undetected_read e)
          (λ is. absurd (undetected_not_sink e is)) (inr (inr refl));
      each = detect_each t task d before look new d.out (Err e) (detect_status e) seen k (undetected_late e)
          (record {
            rose = λ is. why.rose (ap Err (undetected_failed e is));
            sure = λ steady going is. why.sure steady going (ap Err (undetected_failed e is));
          }) (omega arith);
      complete = λ is calm. undetected_complete t task d before look new e seen k is calm.rack;
    }
