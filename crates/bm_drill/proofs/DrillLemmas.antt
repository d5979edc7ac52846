-- A drill from its new rack to its report.
use Rattle.std.proofs.Common.{Ok, Err, ◌≡◌, inl, inr, ℕ, ◌+◌, ◌-◌, ◌*◌, ◌%◌, ◌^◌, ◌<◌, ◌≤◌, Bool, IsTrue, List, Result, IsOk, Some}
use Rattle.std.proofs.Common.{refl, sym, ◌∙◌, ap, subst, subst₂, arith}
use Rattle.std.proofs.lemmas.Bool.{false≢true}
use Rattle.std.proofs.Math.Nat.{mul-le-mul_left, mul-le-mul_right, le-mul_of_pos_right}
use Rattle.std.proofs.Math.Pow.{pow_mono}
use Rattle.std.specs.Fork.{slice_chunk}
use Rattle.bm_base.specs.declared.dims.Dims.{Dims}
use Rattle.bm_base.specs.declared.report.SessionsReport.{SessionsReport}
use Rattle.bm_base.specs.declared.report.DrillReport.{DrillReport}
use Rattle.bm_base.specs.declared.shape.Shape.{Shape}
use Rattle.bm_base.specs.declared.area.Area.{Area}
use Rattle.bm_base.specs.declared.area.Area.TheVariants.{Input}
use Rattle.bm_base.specs.Area.{area_after}
use Rattle.bm_base.specs.Contents.{Contents, RackUnit, page_unit, page_at}
use Rattle.bm_base.specs.Count.{raised}
use Rattle.bm_base.specs.Gate.{IsClosedGate}
use Rattle.bm_base.specs.Records.{record_at, SameRecords, bytes_of}
use Rattle.bm_base.specs.Shape.{dims_of, stripes, loads_of}
use Rattle.bm_forms.specs.declared.job.Job.{Job}
use Rattle.bm_forms.specs.Job.{meaning, JobFits}
use Rattle.bm_forms.specs.PassLimit.{limit_of}
use Rattle.bm_forms.proofs.JobLemmas.{meaning-same}
use Rattle.bm_rack.specs.RackView.{RackView, IsClean}
use Rattle.bm_rack.specs.Frames.{SameState, ChangesOnly, RackCall, MovesRows}
use Rattle.bm_rack.specs.Image.{IsImage, InEveryImage}
use Rattle.bm_stripe.specs.Units.{IsAreaUnit, record_unit}
use Rattle.bm_control.specs.Consistent.{input_of}
use Rattle.bm_control.specs.PageCalls.{IsLoadPage}
use Rattle.bm_control.specs.Pages.{load_body, load_gate, job_gate, HasOpenLoad, HasClosedJob, HasLoadBody}
use Rattle.bm_control.specs.Progress.{AreGone}
use Rattle.bm_control.specs.Sound.{IsSound}
use Rattle.bm_control.proofs.ImageLemmas.{zeros_closed, image_clean}
use Rattle.bm_control.proofs.JobBodyLemmas.{limit-most}
use Rattle.bm_control.proofs.SoundLemmas.{sound_same}
use Rattle.bm_job.specs.Runs.{IsRunnable, load_rows, run_most}
use Rattle.sha2.specs.Sha256.{sha256}
use Rattle.bm_drill.specs.Generated.{generated}
use Rattle.bm_drill.specs.Sessions.{SessionsKeep, SessionsDone}
use Rattle.bm_drill.specs.Steps.{IsNewRack, HasGenerated}
use Rattle.bm_drill.specs.Drill.{IsDrilled, SessionCounts}
use Rattle.bm_job.proofs.FailedLemmas.{load_rows_more}
use Rattle.bm_job.proofs.KeptJobLemmas.{has_bits}
use Rattle.bm_job.proofs.RunLemmas.{rows_of_passes}

-- ---- the input

-- the first gates are closed in every image
pub gate_closed : (tc : Bool) (s : Shape) (old mid : RackView) (page : ℕ) → page < 516 → IsTrue tc → IsNewRack tc (dims_of s) old
    → ChangesOnly (IsAreaUnit s Input) old mid
    → (dims : Dims) (image : Contents) → mid.stands ≡ Some dims → IsImage dims mid image → IsClosedGate (page_at image page)
gate_closed tc s old mid page below told made only dims image stands i =
    zeros_closed (page_at image page)
    (i.clean (page_unit page) (only.dirty (page_unit page) (λ is. is) ∙ made.clean (page_unit page)) ∙ only.contents (page_unit page)
    (λ is. is)
    ∙ (made.blank told).pages page below)

-- the generated records are loaded
pub generated_loaded : (tc : Bool) (s : Shape) (start : ℕ) (failed : Type 0) (old mid new : RackView) → IsTrue tc
    → IsNewRack tc (dims_of s) old
    → ChangesOnly (IsAreaUnit s Input) old mid → SameRecords (2 ^ s.n) (record_at mid.contents s Input) (generated s.width start)
    → RackCall IsLoadPage failed mid new → IsSound new → IsClean new → HasOpenLoad new.contents → HasLoadBody s new.contents
    → HasGenerated s start new
generated_loaded tc s start failed old mid new told made only records call sound clean gate body = record {
  stands = call.frame.stands ∙ only.stands ∙ made.stands;
  attached = call.frame.attached ∙ only.attached ∙ made.attached;
  sound = sound;
  clean = clean;
  load_gate = gate;
  load_body = body;
  job_gate = λ opened. zeros_closed (page_at old.contents job_gate) ((made.blank told).pages job_gate (omega arith))
      (sym (call.frame.contents (page_unit job_gate) apart ∙ only.contents (page_unit job_gate) (λ is. is)) ∙ opened);
  input = λ x below. ap (λ (bytes : List ℕ). slice_chunk bytes s.width (x % 2 ^ s.b)) (call.frame.contents (record_unit s Input x)
      (λ is. is)) ∙ records x below;
}
  where
    apart : ¬ IsLoadPage (page_unit job_gate)
    apart (inl is) = omega (arith, is)
    apart (inr is) = omega (arith, is)

-- ---- the sessions

-- each image can be run
pub generated_runs : (s : Shape) (start : ℕ) (job : Job) (v : RackView) → HasGenerated s start v → InEveryImage (λ c. IsRunnable s job c) v
generated_runs s start job v x dims image stands i = record {
  load_gate = image_clean v dims image x.clean i (page_unit load_gate) ∙ x.load_gate;
  load_body = image_clean v dims image x.clean i (page_unit load_body) ∙ x.load_body;
  job_gate = inl (λ opened. x.job_gate (sym (image_clean v dims image x.clean i (page_unit job_gate)) ∙ opened));
}

-- a run of sessions that is refused is none that is done
pub never_refused : {T E : Type 0} (r : Result T E) (e : E) → IsOk r → r ≡ Err e → ⊥
never_refused r e ok is = false≢true (subst IsOk is ok)

-- no job is open in any image
closed_all : (s : Shape) (start : ℕ) (v : RackView) → HasGenerated s start v → InEveryImage HasClosedJob v
closed_all s start v x dims image stands i opened = x.job_gate (sym (image_clean v dims image x.clean i (page_unit job_gate)) ∙ opened)

-- what the drill leaves
pub drill_leaves : (s : Shape) (job : Job) (passes every start : ℕ) (t : SessionsReport) (r : DrillReport) (area : Area)
    (a b c : RackView) → JobFits s job
    → HasGenerated s start a → SessionsKeep a b → IsSound b → SessionsDone s job passes every t a b → SameState b c
    → area ≡ area_after t.passes
    → r.passes ≡ t.passes → r.digest ≡ sha256 (bytes_of (2 ^ s.n) (record_at b.contents s area)) → IsDrilled s job start r c
drill_leaves s job passes every start t r area a b c fits x keeps sound d y last count digest =
    let area_is : area ≡ area_after r.passes = last ∙ ap area_after (sym count) in
    record {
      stands = y.stands ∙ keeps.stands ∙ x.stands;
      attached = y.attached ∙ keeps.attached ∙ x.attached;
      sound = sound_same b c y sound;
      clean = λ u. ap (λ (f : RackUnit → Bool). f u) y.dirty ∙ d.clean u;
      input = λ z below. subst (λ (v : Contents). input_of v s z ≡ input_of a.contents s z) (sym y.contents) (d.input z below)
          ∙ x.input z below;
      records = λ z below.
          subst₂ (λ (v : Contents) (p : ℕ). record_at v s (area_after p) z ≡ meaning s.n job (input_of a.contents s) z) (sym y.contents)
          (sym count) (d.records z below)
          ∙ meaning-same s.n job (input_of a.contents s) (generated s.width start) (has_bits s job fits) x.input z below;
      digest = subst₂ (λ (v : Contents) (k : Area). r.digest ≡ sha256 (bytes_of (2 ^ s.n) (record_at v s k)))
          (sym y.contents) area_is digest;
    }

-- what the drill counts
pub session_counts : (s : Shape) (job : Job) (passes every stops start : ℕ) (t : SessionsReport) (r : DrillReport) (a b : RackView)
    → every ≤ loads_of s
    → HasGenerated s start a → SessionsDone s job passes every t a b → t.restarts ≤ stops → b.moves < 2 ^ 64 - 1 → r.passes ≡ t.passes
    → r.restarts ≡ t.restarts
    → r.moves ≡ t.moves → r.bound ≡ run_most s job → SessionCounts s job passes every stops r
session_counts s job passes every stops start t r a b within x d few less count times moves bound =
    let fresh = d.fresh (closed_all s start a x) in
    let none : AreGone 0 a = λ dims image stands i gone is. omega arith in
    let zero : r.passes * loads_of s - 0 ≡ r.passes * loads_of s = omega arith in
    let cost : r.moves ≤ load_rows s (r.passes * loads_of s + every * r.restarts) =
    subst (λ (k : ℕ). r.moves ≤ load_rows s (k + every * r.restarts)) zero
    (subst (λ (q : ℕ). r.moves ≤ load_rows s (r.passes * loads_of s - 0 + q * r.restarts)) fresh.1
    (subst₂ (λ (p k : ℕ). r.moves ≤ load_rows s (p * loads_of s - 0 + d.loads * k)) (sym count) (sym times)
    (subst (λ (m : ℕ). m ≤ load_rows s (t.passes * loads_of s - 0 + d.loads * t.restarts)) (sym moves) (d.moves 0 none)))) in
    record {
      passes_are = count ∙ fresh.0;
      restarts = subst (λ (k : ℕ). k ≤ stops) (sym times) few;
      moves = cost;
      most =
          let wide : every * r.restarts ≤ loads_of s * r.restarts = mul-le-mul_right r.restarts within in
          let sum : (r.passes + r.restarts) * loads_of s ≡ r.passes * loads_of s + loads_of s * r.restarts = omega arith in
          let more = load_rows_more s (r.passes * loads_of s + every * r.restarts) ((r.passes + r.restarts) * loads_of s) (omega
          (arith, wide, sum)) in
          let all = rows_of_passes s (r.passes + r.restarts) in
          omega (arith, cost, more, all);
      exact = λ first.
          let all = d.exact (sym times ∙ first) less 0 (inl (x.job_gate, refl)) in
          let here : r.moves ≡ load_rows s (r.passes * loads_of s - 0) = subst (λ (p : ℕ). r.moves ≡ load_rows s (p * loads_of s - 0))
          (sym count) (moves ∙ all) in
          here ∙ ap (load_rows s) zero ∙ rows_of_passes s r.passes;
      bound = bound;
    }

-- ---- the counts

-- the rows of an area are few
pub stripes_small : (s : Shape) → 2 ^ s.n * s.width ≤ 2 ^ 26 → stripes s ≤ 2 ^ 26
stripes_small s size =
    let one : stripes s ≤ 2 ^ s.n = pow_mono {i = s.n - s.b - s.d} {j = s.n} (omega arith) in
    let two : 2 ^ s.n ≤ 2 ^ s.n * s.width = le-mul_of_pos_right {m = s.width} (2 ^ s.n) (let some = s.keeps.record_some in omega
    (arith, some)) in
    omega (arith, one, two, size)

-- the sessions of a drill make few row calls
pub sessions_small : (s : Shape) (job : Job) (passes restarts moves : ℕ) → stripes s ≤ 2 ^ 26 → passes ≤ limit_of s job → restarts ≤ 64
    → moves ≤ run_most s job * (restarts + 1) → moves ≤ 2 ^ 42
sessions_small s job passes restarts moves small few less most =
    let limit = limit-most s job in
    let one : run_most s job ≤ 2 * stripes s * 254 = mul-le-mul_left (2 * stripes s) limit in
    let two : run_most s job * (restarts + 1) ≤ 2 * stripes s * 254 * (restarts + 1) = mul-le-mul_right
    (restarts + 1) one in
    let three : 2 * stripes s * 254 * (restarts + 1) ≤ 2 * stripes s * 254 * 65 = mul-le-mul_left (2 * stripes s * 254) (omega
    (arith, less)) in
    omega (arith, two, three, small, most)

-- the row calls of an area that was hashed
pub hash_rows : {T E : Type 0} (r : Result T E) (rows : ℕ) (b c : RackView) → MovesRows rows (IsOk r) b c → (x : T) → r ≡ Ok x
    → c.moves ≡ raised b.moves rows
hash_rows r rows b c moved x is = moved.moves.done (subst IsOk (sym is) refl)
