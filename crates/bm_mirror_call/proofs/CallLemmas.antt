-- The call by its words, and a command once its text is read.
use Rattle.std.proofs.Common.{◌≡◌, ◌≢◌, ◌⊎◌, inl, inr, ⊎_elim, ℕ, ◌≤◌, true}
use Rattle.std.proofs.Common.{false, IsTrue, List, [], length, drop, String, Global, Option, None}
use Rattle.std.proofs.Common.{sym, ap, subst, ◌∙◌, refl, arith}
use Rattle.bm_base.specs.declared.dims.Dims.{Dims}
use Rattle.bm_rack.specs.RackView.{RackView}
use Rattle.bm_mirror.specs.declared.sides.Side.{Side}
use Rattle.bm_mirror.specs.declared.sides.Side.TheVariants.{Left, Right}
use Rattle.bm_mirror.specs.declared.sides.Sides.{Sides}
use Rattle.bm_mirror.specs.Lasting.{History}
use Rattle.bm_mirror.specs.TwoSides.{TwoSides}
use Rattle.bm_control.specs.Sound.{IsSound}
use Rattle.bm_top.specs.Causes.{Attaches}
use Rattle.bm_top.specs.JobRead.{JobRead}
use Rattle.bm_top.specs.Moment.{Tells, moment_of, source_of}
use Rattle.bm_top.specs.Status.{IsBeforeTask, RefusesJob}
use Rattle.bm_top.specs.TopCall.{JobCall, TopCall}
use Rattle.bm_top.specs.Words.{IsJobWords}
use Rattle.bm_top.specs.declared.status.Status.{Status}
use Rattle.bm_top.specs.declared.status.Status.TheVariants.{OutOfMemory, RackFault, Usage}
use Rattle.bm_top.specs.declared.words.Command.{Command}
use Rattle.bm_top.specs.declared.words.Command.TheVariants as command
use Rattle.bm_top.specs.declared.words.Verb.{Verb}
use Rattle.bm_top.proofs.JobCauseLemmas.{not_refused}
use Rattle.bm_top.proofs.JobReadLemmas.{source_taken}
use Rattle.bm_top.proofs.TopCallLemmas.{job_known}
use Rattle.bm_mirror_call.specs.Healing.{HealStops, JobComesIn, ShownAs}
use Rattle.bm_mirror_call.specs.MirrorCall.{CommandCall, MirrorTop, TextCall}
use Rattle.bm_mirror_call.specs.Seen.{MirrorDevices, MirrorMoment, MirrorSeen, SidesTell}
use Rattle.bm_mirror_call.specs.Seen.{devices_over, devices_seen, mirror_seen, new_mirror, only}
use Rattle.bm_mirror_call.specs.Sides.{IsNewMirror, SidesOf}
use Rattle.bm_mirror_call.specs.Words.{IsMirrorCommand, IsNoMirrorCommand}
use Rattle.bm_mirror_call.proofs.CommandLemmas.{heard, carried_out}
use Rattle.bm_mirror_call.proofs.SeenLemmas.{IsSeen}
use Rattle.bm_mirror_call.proofs.SoundLemmas.{text_sound}
use Rattle.bm_mirror_call.proofs.TextLemmas.{read_of_text}
use Rattle.bm_mirror_call.proofs.WordLemmas.{one_command, one_side}

-- ---- a command that has a job

stop_fine : (answer : Status) → (answer ≡ RackFault) ⊎ (answer ≡ OutOfMemory) → ¬ RefusesJob answer
stop_fine answer stops is = ⊎_elim (λ fault. subst RefusesJob fault is) (λ memory. subst RefusesJob memory is) stops

stop_known : (answer : Status) → (answer ≡ RackFault) ⊎ (answer ≡ OutOfMemory) → answer ≢ Usage
stop_known answer stops is =
    absurd (⊎_elim (λ fault. (let e = sym is ∙ fault in absurd (cc))) (λ memory. (let e = sym is ∙ memory in absurd (cc))) stops)

-- whose text was read
pub job_made : (t : Tells) (verb : Verb) (text : List ℕ) (old : MirrorMoment) (answer : Status) (new : MirrorMoment)
    → (IsTrue t.job → text ≡ old.job.left) → length text ≤ 65536 → (IsTrue t.job → new.job.left ≡ []) → old.job.faults ≤ new.job.faults
    → TextCall t verb text old.devices answer new.devices → SidesOf t (command.On verb) old.devices answer new.devices
    → CommandCall t (command.On verb) old answer new
job_made t verb text old answer new same short end low call sides = record {
  answered = elim call [
    | inl stops ↦ stop_known answer stops.stops.stops.answer
    | inr done ↦ job_known (heard t) verb _ answer _ done.call
  ];
  call = record {
    source = source;
    task = inr (text, same, call);
    accepted = λ file told means takes calm. not_refused verb t.job old.job answer new.job file source told means takes calm;
  };
  sides = sides;
  sound = λ tell calm. text_sound t verb text old.devices answer new.devices call tell calm;
}
  where
    held : IsTrue t.job → length old.job.left ≤ 65536
    held told = let long : length text ≡ length old.job.left = ap (λ (x : List ℕ). length x) (same told) in omega (arith, long, short)

    source : JobRead verb t.job old.job answer new.job
    source = elim call [
      | inl stops ↦ source_taken verb t.job answer old.job new.job (stop_fine answer stops.stops.stops.answer)
          (λ told. (end told, held told)) low
      | inr done ↦ read_of_text verb t.job text done.rest old.job new.job answer done.call.source same short end low
    ]

-- whose source was refused
pub job_refused : (t : Tells) (verb : Verb) (old : MirrorMoment) (answer : Status) (new : MirrorMoment) → IsBeforeTask answer
    → new.devices ≡ old.devices → JobRead verb t.job old.job answer new.job → SidesOf t (command.On verb) old.devices answer new.devices
    → CommandCall t (command.On verb) old answer new
job_refused t verb old answer new before same read sides = record {
  answered = λ e. absurd (subst IsBeforeTask e before);
  call = record {
    source = read;
    task = inl (before, same);
    accepted = λ file told means takes calm. not_refused verb t.job old.job answer new.job file read told means takes calm;
  };
  sides = sides;
  sound = λ tell calm. subst (λ (d : MirrorDevices). IsSound d.mirror.rack) (sym same) calm;
}

-- ---- its text

-- the command was carried out with it
pub carried : (t : Tells) (verb : Verb) (words : List (String Global)) (text left rest : List ℕ) (old new : MirrorDevices)
    (ready : RackView) (answer : Status) → left ≡ text → IsJobWords words verb → ShownAs old.mirror.rack ready
    → ready.faults ≡ old.mirror.rack.faults → (¬ Attaches verb → ready ≡ old.mirror.rack)
    → TopCall (heard t) words (moment_of (source_of left 0) (devices_over old ready)) answer
    (moment_of (source_of rest 0) (devices_seen new)) → TextCall t verb text old answer new
carried t verb words text left rest old new ready answer same is shows calm idle call = inr (record {
  ready = ready;
  shows = shows;
  calm = calm;
  idle = idle;
  rest = rest;
  call = subst (λ (x : List ℕ). JobCall (heard t) verb (moment_of (source_of x 0) (devices_over old ready)) answer
      (moment_of (source_of rest 0) (devices_seen new))) same (call.job verb is);
})

pub carried_sides : (t : Tells) (verb : Verb) (words : List (String Global)) (read text left rest : List ℕ) (old new : MirrorDevices)
    (mid : MirrorSeen) (answer : Status) → read ≡ text → left ≡ text → IsJobWords words verb → IsSeen t.stands old.mirror
    → IsSeen t.stands mid → IsSeen t.stands new.mirror → IsNewMirror old.mirror → ShownAs old.mirror.rack mid.rack
    → mid.rack.faults ≡ old.mirror.rack.faults → (¬ Attaches verb → mid.rack ≡ old.mirror.rack)
    → JobComesIn t.stands verb read old.mirror.rack.stands old.mirror.sides mid.sides
    → TopCall (heard t) words (moment_of (source_of left 0) (devices_over old mid.rack)) answer
    (moment_of (source_of rest 0) (devices_seen new)) → SidesOf t (command.On verb) old answer new
carried_sides t verb words read text left rest old new mid answer same held is seen_a seen_m seen_b fresh shows calm idle comes call =
    carried_out t verb text answer old.mirror mid new.mirror old.input new.input old.out new.out seen_a seen_m seen_b fresh shows calm idle
    (subst (λ (x : List ℕ). JobComesIn t.stands verb x old.mirror.rack.stands old.mirror.sides mid.sides) same comes) rest
    (subst (λ (x : List ℕ). JobCall (heard t) verb (moment_of (source_of x 0) (devices_over old mid.rack)) answer
    (moment_of (source_of rest 0) (devices_seen new))) held (call.job verb is))

-- or the mirror could not be made ready
pub not_ready : (t : Tells) (verb : Verb) (read text : List ℕ) (old new : MirrorDevices) (answer : Status) → read ≡ text
    → HealStops verb read answer old.mirror.rack new.mirror.rack → ShownAs old.mirror.rack new.mirror.rack → new.input ≡ old.input
    → new.out ≡ old.out → TextCall t verb text old answer new
not_ready t verb read text old new answer same stops shows input out = inl (record {
  stops = subst (λ (x : List ℕ). HealStops verb x answer old.mirror.rack new.mirror.rack) same stops;
  shows = shows;
  input = input;
  out = out;
})

-- ---- the whole call

pub top_none : (t : Tells) (words : List (String Global)) (start : Side → MirrorMoment) (new : MirrorMoment) → IsNoMirrorCommand words
    → new ≡ start Left → MirrorTop t words start Usage new
top_none t words start new none same = record {
  usage = (λ is. none, λ is. refl);
  nothing = λ is. same;
  call = λ first c is. absurd (none first c is);
}

pub top_call : (t : Tells) (words : List (String Global)) (first : Side) (c : Command) (start : Side → MirrorMoment) (answer : Status)
    (new : MirrorMoment) → IsMirrorCommand words first c → CommandCall t c (start first) answer new → MirrorTop t words start answer new
top_call t words first c start answer new is call = record {
  usage = (λ e. absurd (call.answered e), λ none. absurd (none first c is));
  nothing = λ none. absurd (none first c is);
  call = λ side d also.
      subst (λ (x : Side). CommandCall t d (start x) answer new) (one_side words first side is.first also.first)
      (subst (λ (x : Command). CommandCall t x (start first) answer new) (one_command (drop 2 words) c d is.rest also.rest) call);
}

-- ---- a new mirror

pub new_is : (t : SidesTell) (left right : RackView) (first : Side) (s : TwoSides) (h : History) (attached : Option Dims)
    (moves pages syncs : ℕ) → s.left ≡ left → s.right ≡ right → s.sides ≡ only first → h.level ≡ s.sides → h.lapsed ≡ false
    → h.starved ≡ false → h.faults ≡ 0 → attached ≡ None → moves ≡ 0 → pages ≡ 0 → syncs ≡ 0
    → mirror_seen t s h attached moves pages syncs ≡ new_mirror t left right first
new_is t left right first s h attached moves pages syncs l r sides level lapsed starved faults none m p y =
    let both = level ∙ sides in
    λ i. mirror_seen t (record { left = l i; right = r i; sides = sides i })
    (record { level = both i; lapsed = lapsed i; starved = starved i; faults = faults i }) (none i) (m i) (p i) (y i)

-- which side is in
pub only_is : (first : Side) (sides : Sides) → (first ≡ Left → (sides.left ≡ true) × (sides.right ≡ false))
    → (first ≡ Right → (sides.left ≡ false) × (sides.right ≡ true)) → sides ≡ only first
only_is Left sides left right = (let is = left refl in λ i. record { left = is.0 i; right = is.1 i })
only_is Right sides left right = (let is = right refl in λ i. record { left = is.0 i; right = is.1 i })

pub fresh_is : (t : SidesTell) (left right : RackView) (first : Side) → IsNewMirror (new_mirror t left right first)
fresh_is t left right Left = record { some_in = λ out. absurd (cc); alone = λ _. refl; level = refl; faults = refl }
fresh_is t left right Right = record { some_in = λ _. refl; alone = λ is. absurd (cc); level = refl; faults = refl }
