use Rattle.std.proofs.Common.{◌≡◌, ℕ, ◌+◌, ◌-◌, ◌*◌, ◌≤◌, refl, ap, ◌∙◌, arith}
use Rattle.std.proofs.lemmas.Nat.{pow_pos}
use Rattle.bm_base.specs.Shape.{load_stripes, loads_of}
use Rattle.bm_job.specs.declared.machine.Machine.{Machine}
use Rattle.bm_job.specs.Follows.{loads_moved}
use Rattle.bm_job.specs.Runs.{load_rows, loads_left, IsEnd}
use Rattle.bm_job.proofs.LeftLemmas.{loads_few, loads_all}
use Rattle.bm_job.proofs.RangeLemmas.{few_passes}
use Rattle.bm_job.proofs.RunLemmas.{rows_fit}
use Rattle.bm_job.proofs.run.report_of.Goals as goal

-- the loads between the two machines
left_between : (start end : Machine) → IsEnd start end → loads_moved end - loads_moved start ≡ loads_left start
left_between start end is =
    let all = loads_all end is.done in
    let same : end.passes * loads_of end.shape ≡ start.passes * loads_of start.shape = rw (is.same.passes, is.same.shape) refl in
    omega (arith, all, same)

few : (m : Machine) → m.passes ≤ 254
few m = few_passes m.shape m.job m.passes m.done m.every m.part m.slot m.load m.keeps

pub overflow_mul-result : goal.overflow_mul-result
overflow_mul-result c =
    let s = c.args.end.now.shape in
    let one = rows_fit s 1 1 (omega arith) (let some = pow_pos (s.n - s.m) in omega (arith, some)) in
    let rows = c.load_stripes.ensures in
    omega (arith, one, rows)

pub overflow_mul-result-2 : goal.overflow_mul-result-2
overflow_mul-result-2 c =
    let s = c.args.end.now.shape in
    let all = loads_few c.args.end.now in
    let to = c.moved.ensures in
    let from = c.moved-2.ensures in
    let one = rows_fit s c.args.end.now.passes (c.moved.result - c.moved-2.result) (few c.args.end.now) (omega (arith, all, to)) in
    let rows : 2 * c.load_stripes.result * (c.moved.result - c.moved-2.result) ≡ load_rows s (c.moved.result - c.moved-2.result) =
    ap (λ (k : ℕ). 2 * k * (c.moved.result - c.moved-2.result)) c.load_stripes.ensures in
    omega (arith, one, rows)

pub returns-clause-fits : goal.returns-clause-fits
returns-clause-fits c =
    let start = c.args.start.now in
    let passes = c.requires.end.same.passes in
    let done_few = start.keeps.done_few in
    let passes_few = start.keeps.passes_few in
    let most = loads_few start in
    let fresh = c.requires.fresh in
    let all : c.args.end.now.passes * loads_of start.shape ≡ start.passes * loads_of start.shape = ap (λ (k : ℕ). k * loads_of start.shape)
    passes in
    let left : c.moved.result - c.moved-2.result ≡ c.args.end.now.passes * loads_of
    start.shape - (start.done * loads_of start.shape + start.part) =
    (let to = c.moved.ensures in let from = c.moved-2.ensures in let between = left_between start c.args.end.now c.requires.end in omega
    (arith, to, from, between, all, fresh)) in
    let rows : c.load_stripes.result ≡ load_stripes start.shape = c.load_stripes.ensures ∙ ap load_stripes c.requires.end.same.shape in
    record {
      passes_some = c.args.end.now.keeps.passes_some;
      passes_few = omega (arith, passes, passes_few);
      done_few = omega (arith, passes, done_few);
      part_few = start.keeps.counted.few;
      within = omega (arith, most, all, fresh);
      moves = ap (λ (k : ℕ). 2 * k * (c.moved.result - c.moved-2.result)) rows ∙ ap (λ (k : ℕ). load_rows start.shape k) left;
    }
