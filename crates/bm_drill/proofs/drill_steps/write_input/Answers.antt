use Rattle.std.proofs.Common.{◌≡◌, ℕ, ◌-◌, ◌*◌, ◌^◌, ◌<◌, ◌+◌, ◌≤◌, ap, ◌∙◌, arith}
use Rattle.std.proofs.lemmas.Bool.{false≢true}
use Rattle.bm_base.specs.declared.area.Area.TheVariants.{Input}
use Rattle.bm_base.specs.Shape.{stripes, load_stripes}
use Rattle.bm_base.proofs.CaseLemmas.{ok_of_no_error}
use Rattle.bm_base.proofs.ShapeLemmas.{load_in_area, loads_rows, loads_records}
use Rattle.bm_rack.proofs.CallLemmas.{MovesRows-next, MovesRows-failed, MovesRows-all}
use Rattle.bm_rack.proofs.FrameLemmas.{ChangesOnly-trans, ChangesOnly-wider, Keeps-trans}
use Rattle.bm_stripe.proofs.UnitLemmas.{IsLoadUnit-area}
use Rattle.bm_drill.specs.Generated.{generated}
use Rattle.bm_job.proofs.AreaLoadLemmas.{loads_written}
use Rattle.bm_drill.proofs.drill_steps.write_input.Goals as goal

pub returns-then-is_err-clause-only : goal.returns-then-is_err-clause-only
returns-then-is_err-clause-only g c =
    let s = c.args.shape.now in
    let load = c.loop-load.load in
    let below : load < 2 ^ (s.n - s.m) = omega (arith, c.loads-load-end.ensures) in
    ChangesOnly-trans _ _ _ _ c.loop-load.invariant.only (ChangesOnly-wider _ _ _ _
    (λ u. IsLoadUnit-area s Input load u below) c.write_load.ensures.only)

pub returns-then-is_err-clause-moved : goal.returns-then-is_err-clause-moved
returns-then-is_err-clause-moved g c =
    let s = c.args.shape.now in
    let load = c.loop-load.load in
    let rows = load_stripes s in
    let few : load * rows + rows ≤ stripes s = load_in_area s load (omega (arith, c.loads-load-end.ensures)) in
    MovesRows-failed (load * rows) rows (stripes s) _ _ _ _ _ few false≢true c.loop-load.invariant.moved
    c.write_load.ensures.moved

pub loop-load-preserved : goal.loop-load-preserved
loop-load-preserved g c =
    let s = c.args.shape.now in
    let load = c.loop-load.load in
    let inv = c.loop-load.invariant in
    let below : load < 2 ^ (s.n - s.m) = omega (arith, c.loads-load-end.ensures) in
    let write_ok = ok_of_no_error c.write_load.result c.if-is_err.ensures.value in
    record {
      only = ChangesOnly-trans _ _ _ _ inv.only (ChangesOnly-wider _ _ _ _
          (λ u. IsLoadUnit-area s Input load u below) c.write_load.ensures.only);
      moved = MovesRows-next (load_stripes s) load _ _ _ _ write_ok inv.moved c.write_load.ensures.moved;
      keeps = Keeps-trans _ _ _ inv.keeps c.write_load.ensures.keeps;
      records = λ told. loads_written s Input load _ _ (generated s.width c.args.start) c.write_load.ensures.only (inv.records told)
          (λ i few. c.write_load.ensures.records told write_ok i few ∙ c.fill_load.ensures.records i few);
    }

pub returns-clause-records : goal.returns-clause-records
returns-clause-records g c told ok x below =
    let s = c.args.shape.now in
    let last : c.loop-load.load ≡ 2 ^ (s.n - s.m) = omega (arith, c.loads-load-end.ensures) in
    let all : 2 ^ s.m * c.loop-load.load ≡ 2 ^ s.n = ap (λ (k : ℕ). 2 ^ s.m * k) last ∙ loads_records s in
    c.loop-load.invariant.records told x (omega (arith, all, below))

pub returns-clause-moved : goal.returns-clause-moved
returns-clause-moved g c =
    let s = c.args.shape.now in
    let last : c.loop-load.load ≡ 2 ^ (s.n - s.m) = omega (arith, c.loads-load-end.ensures) in
    let all : c.loop-load.load * load_stripes s ≡ stripes s = ap (λ (x : ℕ). x * load_stripes s) last ∙ loads_rows s in
    MovesRows-all (c.loop-load.load * load_stripes s) (stripes s) _ _ _ all c.loop-load.invariant.moved
