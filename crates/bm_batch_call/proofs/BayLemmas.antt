-- What calls did with one bay, as what every exit leaves of it.
use Rattle.std.proofs.Common.{Ok, Err, ◌≡◌, inl, inr, ⊎_elim, ℕ, Bool, IsTrue, List, Some, Result}
use Rattle.std.proofs.Common.{refl, ◌∙◌, ap, arith}
use Rattle.bm_base.specs.declared.shape.Shape.{Shape}
use Rattle.bm_base.specs.declared.dims.Dims.{Dims}
use Rattle.bm_base.specs.Contents.{Contents, RackUnit, unit_at, page_unit}
use Rattle.bm_base.specs.Count.{raised}
use Rattle.bm_base.specs.Gate.{IsClosedGate}
use Rattle.bm_base.specs.Shape.{dims_of, stripes}
use Rattle.bm_forms.specs.declared.job.Job.{Job}
use Rattle.bm_rack.specs.RackView.{RackView, IsWellFormed}
use Rattle.bm_rack.specs.Frames.{SameDisks, Keeps, HasCause, RaisesCounts}
use Rattle.bm_rack.specs.Image.{InEveryImage}
use Rattle.bm_rack.proofs.FrameLemmas.{Keeps-refl, Keeps-trans, HasCause-later}
use Rattle.bm_control.specs.Pages.{HasClosedLoad}
use Rattle.bm_control.specs.Sound.{IsSound}
use Rattle.bm_control.proofs.ImageLemmas.{settled_in_image, settled_clean, zeros_closed}
use Rattle.bm_control.proofs.SoundLemmas.{sound_closed}
use Rattle.bm_job.specs.Runs.{run_most}
use Rattle.bm_disks.specs.declared.load_error.LoadError.{LoadError}
use Rattle.bm_disks.specs.declared.load_error.LoadError.TheVariants as load
use Rattle.bm_disks.specs.Loading.{AreGatesClosed, IsLoadShut}
use Rattle.bm_top.specs.DiskStatus.{load_status}
use Rattle.bm_top.specs.Disks.{NewDisks, SameOrNewDisks, DisksRefusal, AttachRefusal, disks_status}
use Rattle.bm_top.specs.declared.disks.DisksError.{DisksError}
use Rattle.bm_top.specs.declared.disks.DisksError.TheVariants as disks
use Rattle.bm_top.specs.Exits.{AttachedFrom}
use Rattle.bm_top.specs.Moment.{SourceView, Tells, TellsRack}
use Rattle.bm_top.specs.Status.{IsOfInput}
use Rattle.bm_top.specs.commands.Load.{LoadRefused}
use Rattle.bm_top.proofs.AttachLemmas.{attached_from}
use Rattle.bm_top.proofs.CarryWholeLemmas.{none_stands, new_closed}
use Rattle.bm_top.proofs.ExitLemmas.{SameDisks-refl, SameCalls-refl}
use Rattle.bm_top.proofs.SameDisksLemmas.{sound_kept, calls_kept}
use Rattle.bm_top.proofs.StepAnswerLemmas.{disks_no_input}
use Rattle.bm_batch_call.specs.declared.words.BatchVerb.{BatchVerb}
use Rattle.bm_batch_call.specs.declared.words.BatchVerb.TheVariants.{Batch, Run}
use Rattle.bm_batch_call.specs.Bays.{most_rows, KeepsDisks, LoadsWhole, BayLeaves, BayShut, BayFilled, FillCause, FillRefusal}
use Rattle.bm_batch_call.specs.Bays.{BayAttached, AttachCause, AttachFails}
use Rattle.bm_batch_call.specs.Filling.{DisksFilled}
use Rattle.bm_batch_call.proofs.RowLemmas.{few_same, few_made, few_wider, few_both, load_within}

-- ---- untouched

keeps_none : (t : Tells) (verb : BatchVerb) (s : Shape) (v : RackView) → KeepsDisks t verb s v v
keeps_none t Batch s v = inl (record { disks = SameDisks-refl v; calls = SameCalls-refl v })
keeps_none t Run s v = record { stands = refl; input = record { contents = λ u is. refl; dirty = λ u is clean. clean } }

whole_none : (t : Tells) (verb : BatchVerb) (s : Shape) (whole : Type 0) (bytes : List ℕ) (v : RackView)
    → LoadsWhole t verb s whole bytes v v
whole_none t Batch s whole bytes v = λ told input none. none_stands _ v none
whole_none t Run s whole bytes v = tt

pub leaves_none : (t : Tells) (verb : BatchVerb) (s : Shape) (job : Job) (whole : Type 0) (bytes : List ℕ) (v : RackView)
    → BayLeaves t verb s job whole bytes v v
leaves_none t verb s job whole bytes v = record {
  sound = λ told sound. sound;
  keeps = Keeps-refl v;
  moves = few_same (most_rows verb s job) v v refl;
  disks = keeps_none t verb s v;
  opened = whole_none t verb s whole bytes v;
}

-- ---- shut

pub leaves_shut : (t : Tells) (s : Shape) (job : Job) (whole : Type 0) (bytes : List ℕ) (old new : RackView) → BayShut t s old new
    → BayLeaves t Batch s job whole bytes old new
leaves_shut t s job whole bytes old new b = record {
  sound = b.sound;
  keeps = b.keeps;
  moves = few_wider (stripes s) (most_rows Batch s job) old new (load_within (stripes s) (run_most s job)) b.moves;
  disks = b.disks;
  opened = λ told input none dims image is i gate. absurd (b.shut told none dims image is i gate);
}

pub filled_shut : (t : Tells) (s : Shape) (bytes : List ℕ) (old new : RackView) → BayFilled t s bytes old new → BayShut t s old new
filled_shut t s bytes old new b = record {
  sound = λ told sound. b.sound told;
  keeps = b.keeps;
  moves = few_made (stripes s) old new b.moves b.rows;
  disks = inr (record { stood = b.stood; stands = b.stands });
  shut = λ told none dims image is i. (b.closed told.1 dims image is i).0;
}

-- new disks are sound, and their load gate stays closed
new_sound : (ts tc : Bool) (dims : Dims) (old new : RackView) → IsTrue tc → NewDisks ts tc dims old new → IsSound new
new_sound ts tc dims old new told made =
    sound_closed new (settled_clean IsClosedGate 1 new made.clean (zeros_closed _ ((made.blank told).pages 1 (omega arith))))
    (settled_clean IsClosedGate 3 new made.clean (zeros_closed _ ((made.blank told).pages 3 (omega arith))))

new_shut : (ts tc : Bool) (dims : Dims) (old new : RackView) → IsTrue tc → NewDisks ts tc dims old new → IsLoadShut new
new_shut ts tc dims old new told made = (made.clean (page_unit 1), zeros_closed _ ((made.blank told).pages 1 (omega arith)))

shut_images : (v : RackView) → IsLoadShut v → InEveryImage HasClosedLoad v
shut_images v shut dims image is i = settled_in_image IsClosedGate 1 v dims image (record { clean = shut.0; holds = shut.1 }) i

-- ---- filled

pub bay_filled : (t : Tells) (s : Shape) (source rest : SourceView) (old mid new : RackView) → IsWellFormed t.stands t.contents old
    → NewDisks t.stands t.contents (dims_of s) old mid → mid.attached ≡ Some (dims_of s) → RaisesCounts 0 0 0 old mid → Keeps old mid
    → DisksFilled t.input t.stands t.contents s source mid (Ok tt) rest new → BayFilled t s source.left old new
bay_filled t s source rest old mid new well made attached counts keeps f = record {
  stood = made.stood;
  stands = λ told. f.stands ∙ made.stands told;
  attached = f.attached ∙ attached;
  holds = λ input told. f.holds input told refl;
  closed = λ told. f.closed told (λ e. cc);
  no_job = λ told. f.no_job told refl;
  sound = λ told. f.mended told.1 (λ e. cc);
  keeps = Keeps-trans old mid new keeps f.keeps;
  moves = (let more = f.moves.low in let same = (calls_kept _ _ old mid well counts).moves in omega (arith, more, same));
  rows = f.rows refl ∙ ap (λ (k : ℕ). raised k (stripes s)) (calls_kept _ _ old mid well counts).moves;
}

-- ---- not filled

pub bay_not_filled : (t : Tells) (s : Shape) (source rest : SourceView) (old mid new : RackView) (e : LoadError)
    → IsWellFormed t.stands t.contents old
    → NewDisks t.stands t.contents (dims_of s) old mid → RaisesCounts 0 0 0 old mid → Keeps old mid
    → DisksFilled t.input t.stands t.contents s source mid (Err e) rest new → FillRefusal t s source old (load_status e) rest new
bay_not_filled t s source rest old mid new e well made counts keeps f = record {
  cause = cause e f;
  bay = record {
    sound = λ told sound. f.sound told.0 told.1 (new_sound _ _ (dims_of s) old mid told.1 made);
    keeps = Keeps-trans old mid new keeps f.keeps;
    moves = few_both 0 (stripes s) (stripes s) old mid new (omega arith) (few_same 0 old mid (calls_kept _ _ old mid well counts).moves)
        f.moves;
    disks = inr (record { stood = made.stood; stands = λ told. f.stands ∙ made.stands told });
    shut = λ told none. shut_images new (f.stays told.1 (new_shut _ _ (dims_of s) old mid told.1 made));
  };
  refused = refused e f;
}
  where
    cause : (e : LoadError) → DisksFilled t.input t.stands t.contents s source mid (Err e) rest new
        → FillCause t s source old (load_status e) rest new
    cause load.Failed f =
        let x = HasCause-later _ old mid new keeps f.cause in
        record { rose = λ _. x.rose refl; sure = λ steady going _. x.sure steady going refl }
    cause load.DataFault f = f.data_fault refl
    cause (load.DataShort got) f = f.short got refl
    cause load.DataLong f = absurd (f.long refl)

    shut_all : IsTrue t.contents → IsSound new → AreGatesClosed new → LoadRefused new
    shut_all told sound closed = record {
      load_gate = λ dims image is i. (closed dims image is i).0;
      job_gate = λ dims image is i. (closed dims image is i).1;
      sound = sound;
    }

    refused : (e : LoadError) → DisksFilled t.input t.stands t.contents s source mid (Err e) rest new → IsOfInput (load_status e)
        → TellsRack t → LoadRefused new
    refused load.Failed f of told = absurd of
    refused load.DataFault f of told = shut_all told.1 (f.mended told.1 (λ e. cc)) (f.closed told.1 (λ e. cc))
    refused (load.DataShort got) f of told = shut_all told.1 (f.mended told.1 (λ e. cc)) (f.closed told.1 (λ e. cc))
    refused load.DataLong f of told = shut_all told.1 (f.mended told.1 (λ e. cc)) (f.closed told.1 (λ e. cc))

-- ---- not made

same_or_new : (ts tc : Bool) (dims : Dims) (old new : RackView) (e : DisksError) → DisksRefusal ts tc dims old new e
    → SameOrNewDisks ts tc dims old new
same_or_new ts tc dims old new disks.RackFault why = why
same_or_new ts tc dims old new disks.OutOfMemory why = why
same_or_new ts tc dims old new disks.Exists why = inl why.1
same_or_new ts tc dims old new disks.NoDisks why = inr why.1
same_or_new ts tc dims old new disks.WrongDims why = inr why.1

failed_one : (old new : RackView) → HasCause (◌≡◌ {A = Result (Unit {0}) DisksError} (Err disks.RackFault) (Err disks.RackFault)) old new
    → HasCause (Unit {0}) old new
failed_one old new x = record { rose = λ _. x.rose refl; sure = λ steady going _. x.sure steady going refl }

pub bay_not_made : (t : Tells) (s : Shape) (source : SourceView) (old new : RackView) (e : DisksError)
    → IsWellFormed t.stands t.contents old → DisksRefusal t.stands t.contents (dims_of s) old new e
    → RaisesCounts 0 0 0 old new → Keeps old new
    → HasCause (◌≡◌ {A = Result (Unit {0}) DisksError} (Err e) (Err disks.RackFault)) old new
    → FillRefusal t s source old (disks_status e) source new
bay_not_made t s source old new e well why counts keeps failed = record {
  cause = cause e why failed;
  bay = record {
    sound = λ told sound. ⊎_elim (λ (same : SameDisks old new). sound_kept old new same sound)
        (λ (made : NewDisks t.stands t.contents (dims_of s) old new). new_sound _ _ (dims_of s) old new told.1 made) either;
    keeps = keeps;
    moves = few_same (stripes s) old new (calls_kept _ _ old new well counts).moves;
    disks = ⊎_elim (λ (same : SameDisks old new). inl (record { disks = same; calls = calls_kept _ _ old new well counts }))
        (λ (made : NewDisks t.stands t.contents (dims_of s) old new). inr (record { stood = made.stood; stands = made.stands })) either;
    shut = λ told none. ⊎_elim (λ (same : SameDisks old new). none_stands HasClosedLoad new (same.stands ∙ none))
        (λ (made : NewDisks t.stands t.contents (dims_of s) old new). new_closed t.stands t.contents (dims_of s) old new told.1 made)
        either;
  };
  refused = λ of told. absurd (disks_no_input e of);
}
  where
    either : SameOrNewDisks t.stands t.contents (dims_of s) old new
    either = same_or_new t.stands t.contents (dims_of s) old new e why

    cause : (e : DisksError) → DisksRefusal t.stands t.contents (dims_of s) old new e
        → HasCause (◌≡◌ {A = Result (Unit {0}) DisksError} (Err e) (Err disks.RackFault)) old new
        → FillCause t s source old (disks_status e) source new
    cause disks.RackFault why failed = failed_one old new failed
    cause disks.OutOfMemory why failed = tt
    cause disks.Exists why failed = why.0
    cause disks.NoDisks why failed = why.0
    cause disks.WrongDims why failed = why.0

-- ---- attached, or not

pub bay_attached : (t : Tells) (s : Shape) (old new : RackView) → IsWellFormed t.stands t.contents old
    → (IsTrue t.stands → old.stands ≡ Some (dims_of s)) → new.attached ≡ Some (dims_of s) → SameDisks old new
    → RaisesCounts 0 0 0 old new → Keeps old new → BayAttached t s old new
bay_attached t s old new well stood attached same counts keeps = record {
  stood = stood;
  attached = attached;
  from = attached_from _ _ old new well same counts keeps;
}

pub bay_not_attached : (t : Tells) (s : Shape) (old new : RackView) (e : DisksError) → IsWellFormed t.stands t.contents old
    → AttachRefusal t.stands (dims_of s) old e → SameDisks old new → RaisesCounts 0 0 0 old new → Keeps old new
    → HasCause (◌≡◌ {A = Result (Unit {0}) DisksError} (Err e) (Err disks.RackFault)) old new
    → AttachFails t s old (disks_status e) new
bay_not_attached t s old new e well why same counts keeps failed = record {
  cause = cause e why failed;
  from = attached_from _ _ old new well same counts keeps;
}
  where
    cause : (e : DisksError) → AttachRefusal t.stands (dims_of s) old e
        → HasCause (◌≡◌ {A = Result (Unit {0}) DisksError} (Err e) (Err disks.RackFault)) old new
        → AttachCause t s old (disks_status e) new
    cause disks.RackFault why failed = failed_one old new failed
    cause disks.OutOfMemory why failed = tt
    cause disks.Exists why failed = absurd why
    cause disks.NoDisks why failed = why
    cause disks.WrongDims why failed = why

pub leaves_attached : (t : Tells) (s : Shape) (job : Job) (whole : Type 0) (bytes : List ℕ) (old new : RackView) → AttachedFrom old new
    → BayLeaves t Run s job whole bytes old new
leaves_attached t s job whole bytes old new from = record {
  sound = λ told sound. sound_kept old new from.disks sound;
  keeps = from.keeps;
  moves = few_same (most_rows Run s job) old new from.calls.moves;
  disks = record {
    stands = from.disks.stands;
    input = record {
      contents = λ u is. ap (λ (c : Contents). unit_at c u) from.disks.contents;
      dirty = λ u is clean. ap (λ (f : RackUnit → Bool). f u) from.disks.dirty ∙ clean;
    };
  };
  opened = tt;
}
