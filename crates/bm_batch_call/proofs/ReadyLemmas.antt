-- Bays that are loaded or attached, and what every exit leaves of them from then on.
use Rattle.std.proofs.Common.{◌≡◌, inl, inr, ℕ, ◌+◌, ◌-◌, ◌*◌, ◌^◌, ◌<◌, ◌≤◌, true, false, Bool, IsTrue, List, length, take, drop, min}
use Rattle.std.proofs.Common.{refl, sym, ◌∙◌, ap, subst, arith, length-drop}
use Rattle.std.proofs.lemmas.List.{drop_all, length-take, take-take, drop-take}
use Rattle.std.proofs.Math.Nat.{mul-le-mul_right}
use Rattle.bm_base.specs.declared.shape.Shape.{Shape}
use Rattle.bm_base.specs.Contents.{Contents, RackUnit, unit_at, page_unit}
use Rattle.bm_base.specs.Gate.{IsClosedGate}
use Rattle.bm_base.specs.Records.{record_in}
use Rattle.bm_base.specs.Shape.{dims_of, stripes, input_size}
use Rattle.bm_forms.specs.declared.job.Job.{Job}
use Rattle.bm_rack.specs.RackView.{RackView}
use Rattle.bm_batch.specs.declared.bay_state.BayState.{BayState}
use Rattle.bm_rack.specs.Frames.{Keeps}
use Rattle.bm_rack.specs.Image.{SameInput}
use Rattle.bm_rack.proofs.FrameLemmas.{Keeps-refl, Keeps-trans}
use Rattle.bm_control.specs.PageCalls.{IsLoadPage}
use Rattle.bm_control.specs.Sound.{IsSound}
use Rattle.bm_job.specs.Runs.{run_most}
use Rattle.bm_disks.specs.Loading.{HoldsInput}
use Rattle.bm_disks.proofs.LoadingLemmas.{input_kept}
use Rattle.bm_disks.proofs.OpensLemmas.{opens_new}
use Rattle.bm_top.specs.Moment.{SourceView, Tells, TellsRack}
use Rattle.bm_top.proofs.CarryWholeLemmas.{whole_in_load, whole_loaded}
use Rattle.bm_top.proofs.SameDisksLemmas.{sound_kept}
use Rattle.bm_batch_call.specs.declared.words.BatchVerb.{BatchVerb}
use Rattle.bm_batch_call.specs.declared.words.BatchVerb.TheVariants.{Batch, Run}
use Rattle.bm_batch_call.specs.Bays.{RowsFew, most_rows, BayLeaves, BayFilled, BayOpens, BayLoaded, BayReady, BayRan}
use Rattle.bm_batch_call.specs.BatchCall.{AreReady}
use Rattle.bm_batch_call.specs.Causes.{HaveDisks}
use Rattle.bm_batch_call.specs.Moment.{BatchDevices, Work, part_of, whole_size}
use Rattle.bm_batch_call.specs.Output.{ReadsFew, TakesInput}
use Rattle.bm_batch_call.proofs.RowLemmas.{few_same, few_made, few_wider, few_both, load_and_rest, work_within}

-- ---- parts of an input

-- record x of the first bytes
record_of_front : (s : Shape) (xs : List ℕ) (x : ℕ) → x < 2 ^ s.n → record_in s (take (input_size s) xs) x ≡ record_in s xs x
record_of_front s xs x below =
    let size = input_size s in
    let width = s.width in
    let more : (x + 1) * width ≤ 2 ^ s.n * width = mul-le-mul_right width (omega (arith, below)) in
    let one : (x + 1) * width ≡ x * width + width = omega arith in
    let rest = size - x * width in
    let all : size ≡ x * width + rest = fits (x * width) width size (omega (arith, more, one)) in
    ap (λ (n : ℕ). take width (drop (x * width) (take n xs))) all
    ∙ ap (λ (z : List ℕ). take width z) (drop-take (x * width) rest xs)
    ∙ take-take width rest (drop (x * width) xs) (enough (x * width) width size (omega (arith, more, one)))
  where
    fits : (a b c : ℕ) → a + b ≤ c → c ≡ a + (c - a)
    fits a b c h = omega arith

    enough : (a b c : ℕ) → a + b ≤ c → b ≤ c - a
    enough a b c h = omega arith

pub holds_part : (w : Work) (left : List ℕ) (k : ℕ) (v : Contents) → HoldsInput w.shape (drop (k * input_size w.shape) left) v
    → HoldsInput w.shape (part_of w left k) v
holds_part w left k v holds x below =
    holds x below ∙ sym (record_of_front w.shape (drop (k * input_size w.shape) left) x below)

-- the part of a bay has the bytes of all its records
pub part_size : (w : Work) (left : List ℕ) (k : ℕ) → k < w.count → length left ≡ whole_size w
    → length (part_of w left k) ≡ input_size w.shape
part_size w left k below whole =
    let size = input_size w.shape in
    let more : (k + 1) * size ≤ w.count * size = mul-le-mul_right size (omega (arith, below)) in
    let one : (k + 1) * size ≡ k * size + size = omega arith in
    let rest : length (drop (k * size) left) ≡ length left - k * size = length-drop (k * size) left in
    length-take size (drop (k * size) left)
    ∙ least (k * size) size (w.count * size) (length left) (length (drop (k * size) left)) (omega (arith, more, one)) whole rest
  where
    least : (a b c all left : ℕ) → a + b ≤ c → all ≡ c → left ≡ all - a → min b left ≡ b
    least a b c all left h same rest = omega arith

pub filled_part : (t : Tells) (w : Work) (left : List ℕ) (k : ℕ) (old new : RackView)
    → BayFilled t w.shape (drop (k * input_size w.shape) left) old new → BayFilled t w.shape (part_of w left k) old new
filled_part t w left k old new f = record {
  stood = f.stood;
  stands = f.stands;
  attached = f.attached;
  holds = λ input told. holds_part w left k new.contents (f.holds input told);
  closed = f.closed;
  no_job = f.no_job;
  sound = f.sound;
  keeps = f.keeps;
  moves = f.moves;
  rows = f.rows;
}

-- ---- opened

no_load_page : ¬ IsLoadPage (page_unit 3)
no_load_page (inl is) = omega (arith, is)
no_load_page (inr is) = omega (arith, is)

pub bay_loaded : (t : Tells) (s : Shape) (bytes : List ℕ) (old mid new : RackView) → BayFilled t s bytes old mid
    → BayOpens t s (IsTrue true) (IsTrue false) mid new → BayLoaded t s bytes old new
bay_loaded t s bytes old mid new f o = record {
  stood = f.stood;
  stands = λ told. o.call.frame.stands ∙ f.stands told;
  attached = o.call.frame.attached ∙ f.attached;
  holds = λ input told. input_kept s bytes mid new o.call.frame (f.holds input told);
  load_body = λ told. o.body told refl;
  load_gate = λ told. o.gate told refl;
  no_job = λ told. subst IsClosedGate (sym (o.call.frame.contents (page_unit 3) no_load_page)) (f.no_job told);
  clean = o.clean refl;
  sound = λ told. o.sound told f.attached (f.closed told.1);
  keeps = Keeps-trans old mid new f.keeps o.call.keeps;
  moves = (let low = f.moves in let same = o.moves in omega (arith, low, same));
  rows = o.moves ∙ f.rows;
}

-- the opening failed
pub leaves_unopened : (t : Tells) (s : Shape) (job : Job) (whole : Type 0) (bytes : List ℕ) (old mid new : RackView)
    → BayFilled t s bytes old mid → BayOpens t s (IsTrue false) (IsTrue true) mid new
    → (IsTrue t.input → whole × (length bytes ≡ input_size s)) → BayLeaves t Batch s job whole bytes old new
leaves_unopened t s job whole bytes old mid new f o size = record {
  sound = λ told sound. o.sound told f.attached (f.closed told.1);
  keeps = Keeps-trans old mid new f.keeps o.call.keeps;
  moves = few_both (stripes s) (run_most s job + stripes s) (most_rows Batch s job) old mid new
      (load_and_rest (stripes s) (run_most s job))
      (few_made (stripes s) old mid f.moves f.rows) (few_same (run_most s job + stripes s) mid new o.moves);
  disks = inr (record { stood = f.stood; stands = λ told. o.call.frame.stands ∙ f.stands told });
  opened = λ told input none dims image is i gate.
      let there = o.call.frame.stands ∙ f.stands told.0 in
      let sound = o.sound told f.attached (f.closed told.1) in (
        (size input).0,
        (whole_in_load s bytes mid new
            (opens_new s bytes mid mid new (size input).1 (f.holds input told.1) o.call.frame there sound)
            (λ d c stands j. (f.closed told.1 d c stands j).0) dims image is i gate).1,
      );
}

-- ---- from then on

-- what later calls on a ready bay keep
pub record KeepsReady (t : Tells) (s : Shape) (job : Job) (mid new : RackView) : Type 0 where
  pub sound : TellsRack t → IsSound mid → IsSound new
  pub input : SameInput (dims_of s) mid new
  pub stands : new.stands ≡ mid.stands
  pub keeps : Keeps mid new
  pub moves : RowsFew (run_most s job + stripes s) mid new

pub ready_kept : (t : Tells) (s : Shape) (job : Job) (v : RackView) → KeepsReady t s job v v
ready_kept t s job v = record {
  sound = λ told sound. sound;
  input = record { contents = λ u is. refl; dirty = λ u is clean. clean };
  stands = refl;
  keeps = Keeps-refl v;
  moves = few_same (run_most s job + stripes s) v v refl;
}

pub leaves_ready : (t : Tells) (verb : BatchVerb) (s : Shape) (job : Job) (whole : Type 0) (bytes : List ℕ) (old mid new : RackView)
    → BayReady t verb s bytes old mid → KeepsReady t s job mid new
    → (verb ≡ Batch → IsTrue t.input → whole × (length bytes ≡ input_size s)) → BayLeaves t verb s job whole bytes old new
leaves_ready t Batch s job whole bytes old mid new r x size = record {
  sound = λ told sound. x.sound told (r.sound told);
  keeps = Keeps-trans old mid new r.keeps x.keeps;
  moves = few_both (stripes s) (run_most s job + stripes s) (most_rows Batch s job) old mid new
      (load_and_rest (stripes s) (run_most s job))
      (few_made (stripes s) old mid r.moves r.rows) x.moves;
  disks = inr (record { stood = r.stood; stands = λ told. x.stands ∙ r.stands told });
  opened = λ told input none dims image is i gate. (
    (size refl input).0,
    (whole_loaded s bytes mid new r.clean x.input (size refl input).1 (r.holds input told.1) dims image is i gate).1,
  );
}
leaves_ready t Run s job whole bytes old mid new r x size = record {
  sound = λ told sound. x.sound told (sound_kept old mid r.from.disks sound);
  keeps = Keeps-trans old mid new r.from.keeps x.keeps;
  moves = few_both 0 (run_most s job + stripes s) (run_most s job + stripes s) old mid new (omega arith)
      (few_same 0 old mid r.from.calls.moves)
      x.moves;
  disks = record {
    stands = x.stands ∙ r.from.disks.stands;
    input = record {
      contents = λ u is. x.input.contents u is ∙ ap (λ (c : Contents). unit_at c u) r.from.disks.contents;
      dirty = λ u is clean. x.input.dirty u is (ap (λ (f : RackUnit → Bool). f u) r.from.disks.dirty ∙ clean);
    };
  };
  opened = tt;
}

-- ---- what is ready

pub have_disks : (t : Tells) (verb : BatchVerb) (w : Work) (start mid : BatchDevices) → AreReady t verb w start mid
    → HaveDisks t verb w start
have_disks t Batch w start mid r k below = (r.bays k below).stood
have_disks t Run w start mid r k below = (r.bays k below).stood

pub reads_few : (t : Tells) (verb : BatchVerb) (w : Work) (old new : SourceView) → TakesInput t verb w old new → ReadsFew t verb w old new
reads_few t Batch w old new takes = λ told. (
  length old.left,
  (let size = (takes told).size in omega (arith, size)),
  (takes told).ended ∙ sym (drop_all (length old.left) old.left (omega arith)),
)
reads_few t Run w old new takes = takes

pub whole_part : (t : Tells) (verb : BatchVerb) (w : Work) (old new : SourceView) (k : ℕ) → k < w.count → TakesInput t verb w old new
    → verb ≡ Batch → IsTrue t.input → (length old.left ≡ whole_size w) × (length (part_of w old.left k) ≡ input_size w.shape)
whole_part t Batch w old new k below takes is told = ((takes told).size, part_size w old.left k below (takes told).size)
whole_part t Run w old new k below takes is told = absurd (cc)

pub ready_keeps : (t : Tells) (verb : BatchVerb) (s : Shape) (bytes : List ℕ) (old mid : RackView) → BayReady t verb s bytes old mid
    → Keeps old mid
ready_keeps t Batch s bytes old mid r = r.keeps
ready_keeps t Run s bytes old mid r = r.from.keeps

-- what the turns of a job keep
pub ran_kept : (t : Tells) (s : Shape) (job : Job) (passes : ℕ) (state : BayState) (mid new : RackView)
    → BayRan t s job passes state mid new → KeepsReady t s job mid new
ran_kept t s job passes state mid new x = record {
  sound = x.sound;
  input = x.input;
  stands = x.stands;
  keeps = x.keeps;
  moves = few_wider (run_most s job) (run_most s job + stripes s) mid new (work_within (stripes s) (run_most s job)) x.moves;
}
