-- How many calls a run makes.
use Rattle.std.proofs.Common.{Ok, ◌≡◌, inl, inr, ℕ, ◌+◌, ◌-◌, ◌*◌, ◌≤◌, ◌∙◌, ap, subst, arith}
use Rattle.std.proofs.lemmas.Bool.{cases_lt}
use Rattle.std.proofs.lemmas.Grind.{div_ceil_times}
use Rattle.std.specs.Int.{div_ceil}
use Rattle.std.proofs.Math.Nat.{mul-le-mul, mul-le-mul_left, mul-le-mul_right}
use Rattle.bm_base.specs.declared.shape.Shape.{Shape}
use Rattle.bm_base.specs.Contents.{Contents, page_at}
use Rattle.bm_base.specs.Shape.{loads_of}
use Rattle.bm_forms.specs.declared.job.Job.{Job}
use Rattle.bm_forms.specs.PassLimit.{limit_of}
use Rattle.bm_rack.specs.RackView.{RackView}
use Rattle.bm_rack.specs.Frames.{MakesCalls, MakesPageCalls, CallsFew}
use Rattle.bm_rack.proofs.CallLemmas.{most_of, most_then}
use Rattle.bm_control.specs.Pages.{load_body, job_body, HasJobBody}
use Rattle.bm_control.proofs.MomentLemmas.{load_unique}
use Rattle.bm_job.specs.declared.machine.Machine.{Machine}
use Rattle.bm_job.specs.Begins.{BeginAnswer, BeginCalls, IsFresh}
use Rattle.bm_job.specs.Runs.{turn_pages, turn_syncs, run_pages, run_syncs, marks_of, most_pages, most_syncs, RunCalls}
use Rattle.bm_control.proofs.UniqueLemmas.{passes_unique, every_unique}
use Rattle.bm_base.specs.Count.{raised}
use Rattle.bm_rack.specs.Frames.{MovesFew, RisesMost, RisesWhere}
use Rattle.bm_job.specs.Runs.{loads_left, load_rows}
use Rattle.bm_job.specs.Runs.{run_most}
use Rattle.bm_job.proofs.RunLemmas.{rows_most}

-- the calls of a begin and of turns
pub both_calls : (t : Shape) (passes every rows : ℕ) (succeeds : Type 0) (a b c : RackView) → MakesPageCalls ⊥ (8 + 2 * passes) 3 a b
    → MakesCalls succeeds rows (turn_pages t passes every) (turn_syncs t passes every) b c
    → CallsFew (run_pages t passes every) (run_syncs t passes every) a c
both_calls t passes every rows succeeds a b c x y = record {
  moves = omega (arith, x.moves, y.moves.low);
  pages = most_then (8 + 2 * passes) (turn_pages t passes every) (run_pages t passes every) _ _ _ (omega arith) x.pages y.pages;
  syncs = most_then 3 (turn_syncs t passes every) (run_syncs t passes every) _ _ _ (omega arith) x.syncs y.syncs;
}

-- the calls of a begin alone
calls_few : (t : Shape) (passes every pages syncs : ℕ) (a b : RackView) → pages ≤ 8 + 2 * passes → syncs ≤ 3
    → MakesPageCalls ⊥ pages syncs a b
    → CallsFew (run_pages t passes every) (run_syncs t passes every) a b
calls_few t passes every pages syncs a b few less x = record {
  moves = omega (arith, x.moves);
  pages = most_of pages (run_pages t passes every) ⊥ _ _ (omega (arith, few)) x.pages;
  syncs = most_of syncs (run_syncs t passes every) ⊥ _ _ (omega (arith, less)) x.syncs;
}

-- where no turn was taken
pub begin_calls : (s : Shape) (v : Contents) (passes every : ℕ) (a b : RackView) → BeginCalls v passes a b → RunCalls s v passes every a b
begin_calls s v passes every a b x = record {
  none = λ closed. calls_few s passes every (7 + 2 * passes) 3 a b (omega arith) (omega arith) (x.none closed);
  bare = λ none. calls_few s passes every (7 + 2 * passes) 3 a b (omega arith) (omega arith) (x.bare none);
  opened = λ gate t job p q load body. calls_few t p q (8 + 2 * p) 1 a b (omega arith) (omega arith) (x.opened gate t job p q load body);
}

-- calls by other names of the numbers
calls_same : (t u : Shape) (p q passes every : ℕ) (a b : RackView) → t ≡ u → p ≡ passes → q ≡ every
    → CallsFew (run_pages t p q) (run_syncs t p q) a b
    → CallsFew (run_pages u passes every) (run_syncs u passes every) a b
calls_same t u p q passes every a b shape count loads x =
    subst (λ (y : ℕ). CallsFew (run_pages u passes y) (run_syncs u passes y) a b) loads
    (subst (λ (y : ℕ). CallsFew (run_pages u y q) (run_syncs u y q) a b) count
    (subst (λ (y : Shape). CallsFew (run_pages y p q) (run_syncs y p q) a b) shape x))

-- and where turns were taken
pub run_calls : (s : Shape) (job : Job) (m : Machine) (v : Contents) (passes every : ℕ) (a b : RackView)
    → BeginAnswer s job passes every v (Ok m)
    → CallsFew (run_pages m.shape m.passes m.every) (run_syncs m.shape m.passes m.every) a b → RunCalls s v passes every a b
run_calls s job m v passes every a b (fresh, inl (loaded, start)) x = record {
  none = λ closed. calls_same m.shape s m.passes m.every passes every a b fresh.shape start.passes_are start.every_is x;
  bare = λ none. calls_same m.shape s m.passes m.every passes every a b fresh.shape start.passes_are start.every_is x;
  opened = λ gate. absurd (loaded.2 gate);
}
run_calls s job m v passes every a b (fresh, inr told) x = record {
  none = λ closed. absurd (closed told.0.job_gate);
  bare = λ none. absurd (none m.shape m.job m.passes m.every told.0.load_body told.1.body);
  opened = λ gate t other p q load body.
      let shape : m.shape ≡ t = load_unique m.shape t (page_at v load_body) told.0.load_body load in
      let mine : HasJobBody t v m.job m.passes m.every = subst (λ (u : Shape). HasJobBody u v m.job m.passes m.every) shape told.1.body in
      calls_same m.shape t m.passes m.every p q a b shape
      (passes_unique t (page_at v job_body) m.job other m.passes p m.every q mine body)
      (every_unique t (page_at v job_body) m.job other m.passes p m.every q mine body) x;
}

-- progress is made durable within a pass less often than there are loads
marks_few : (s : Shape) (every : ℕ) → 1 ≤ every → marks_of s every ≤ loads_of s - 1
marks_few s every some =
    let up = (div_ceil_times (loads_of s) every some).1 in
    elim (cases_lt (loads_of s) (div_ceil (loads_of s) every)) [
      | inl more ↦
          let a : (loads_of s + 1) * every ≤ div_ceil (loads_of s) every * every = mul-le-mul_right every (omega (arith, more)) in
          let b : (loads_of s + 1) * every ≡ loads_of s * every + every = omega arith in
          let c : loads_of s * 1 ≤ loads_of s * every = mul-le-mul_left (loads_of s) some in
          absurd (omega (arith, up, a, b, c))
      | inr few ↦ omega (arith, few)
    ]

-- the calls of the turns, by the greatest number of passes
turns_few : (s : Shape) (passes most every k : ℕ) → passes ≤ most → 1 ≤ every
    → passes * (2 + k * marks_of s every) ≤ most * (2 + k * (loads_of s - 1))
turns_few s passes most every k few some =
    let a : k * marks_of s every ≤ k * (loads_of s - 1) = mul-le-mul_left k (marks_few s every some) in
    mul-le-mul few (omega (arith, a))

-- on every rack: of a begin alone
pub most_begun : (s : Shape) (job : Job) (a b : RackView) → MakesPageCalls ⊥ 516 3 a b → CallsFew (most_pages s job) (most_syncs s job) a b
most_begun s job a b x = record {
  moves = omega (arith, x.moves);
  pages = most_of 516 (most_pages s job) ⊥ _ _ (omega arith) x.pages;
  syncs = most_of 3 (most_syncs s job) ⊥ _ _ (omega arith) x.syncs;
}

-- and of turns after it
pub most_run : (s : Shape) (job : Job) (m : Machine) (rows : ℕ) (succeeds : Type 0) (a b c : RackView) → IsFresh s job m
    → MakesPageCalls ⊥ 516 3 a b
    → MakesCalls succeeds rows (turn_pages m.shape m.passes m.every) (turn_syncs m.shape m.passes m.every) b c
    → CallsFew (most_pages s job) (most_syncs s job) a c
most_run s job m rows succeeds a b c fresh x y =
    let few = m.keeps.passes_few in
    let p = turns_few m.shape m.passes (limit_of m.shape m.job) m.every 4 few m.keeps.every_some in
    let q = turns_few m.shape m.passes (limit_of m.shape m.job) m.every 3 few m.keeps.every_some in
    let pages : most_pages m.shape m.job ≡ most_pages s job = ap (λ (t : Shape). most_pages t m.job) fresh.shape
    ∙ ap (most_pages s) fresh.job_is in
    let syncs : most_syncs m.shape m.job ≡ most_syncs s job = ap (λ (t : Shape). most_syncs t m.job) fresh.shape
    ∙ ap (most_syncs s) fresh.job_is in
    record {
      moves = omega (arith, x.moves, y.moves.low);
      pages = most_then 516 (turn_pages m.shape m.passes m.every) (most_pages s job) _ _ _ (omega (arith, p, pages)) x.pages y.pages;
      syncs = most_then 3 (turn_syncs m.shape m.passes m.every) (most_syncs s job) _ _ _ (omega (arith, q, syncs)) x.syncs y.syncs;
    }

-- a count after calls that were fewer
pub raised_rows : (a b c k l : ℕ) → b ≡ a → c ≤ raised b k → k ≤ l → c ≤ raised a l
raised_rows a b c k l same few more = omega (arith, same, few, more)

-- the row calls are within the job's limit
pub end_most : (s : Shape) (job : Job) (m : Machine) (old mid new : RackView) (done : Type 0) → IsFresh s job m → mid.moves ≡ old.moves
    → RisesWhere done (load_rows m.shape (loads_left m)) mid.moves new.moves → MovesFew (run_most s job) old new
end_most s job m old mid new done fresh moves few =
    let rows : load_rows m.shape (loads_left m) ≤ run_most m.shape m.job = rows_most m.shape m.passes
    (limit_of m.shape m.job) (loads_left m) m.keeps.passes_few (omega arith) in
    let all : run_most m.shape m.job ≡ run_most s job = ap (λ (t : Shape). run_most t m.job) fresh.shape
    ∙ ap (run_most s) fresh.job_is in
    subst (λ (n : ℕ). RisesMost (run_most s job) n new.moves) moves
    (most_of (load_rows m.shape (loads_left m)) (run_most s job) done _ _ (omega (arith, rows, all)) few)
