use Rattle.std.proofs.Common.{◌≡◌, ℕ, ◌-◌, ◌*◌, ◌^◌, ◌+◌, ◌≤◌, sym, subst, ap, ◌∙◌, arith}
use Rattle.std.proofs.lemmas.Bool.{false≢true}
use Rattle.bm_base.specs.Records.{record_at, bytes_of}
use Rattle.bm_base.specs.Shape.{stripes, load_stripes}
use Rattle.bm_base.proofs.CaseLemmas.{ok_of_no_error}
use Rattle.bm_base.proofs.ShapeLemmas.{load_in_area, loads_rows, loads_records}
use Rattle.bm_rack.proofs.CallLemmas.{MovesRows-refl, MovesRows-next, MovesRows-failed, MovesRows-all}
use Rattle.bm_rack.proofs.FrameLemmas.{SameState-refl, SameState-trans, Keeps-refl, Keeps-trans}
use Rattle.sha2.specs.Hashers.{Holds256}
use Rattle.bm_job.proofs.AreaLoadLemmas.{load_added, no_loads}
use Rattle.bm_drill.proofs.drill_steps.hash_area.Goals as goal

pub loop-load-init : goal.loop-load-init
loop-load-init g c =
    let s = c.args.shape.now in
    record {
      state = SameState-refl _;
      moved = MovesRows-all 0 (0 * load_stripes s) (Unit {0}) _ _ (omega arith) (MovesRows-refl _ _ (Unit {0}) _
          (g.met.R.Rack.consistent c.args.rack.now));
      keeps = Keeps-refl _;
      holds = λ told. subst (Holds256 c.new-hasher.result) (no_loads (2 ^ s.m) (record_at
          (g.R.Rack.view c.args.rack.now).contents s c.args.area)) c.new-hasher.ensures;
    }

pub returns-then-is_err-clause-moved : goal.returns-then-is_err-clause-moved
returns-then-is_err-clause-moved g c =
    let s = c.args.shape.now in
    let load = c.loop-load.load in
    let rows = load_stripes s in
    let few : load * rows + rows ≤ stripes s = load_in_area s load (omega (arith, c.loads-load-end.ensures)) in
    MovesRows-failed (load * rows) rows (stripes s) _ _ _ _ _ few false≢true c.loop-load.invariant.moved
    c.read_load.ensures.moved

pub loop-load-preserved : goal.loop-load-preserved
loop-load-preserved g c =
    let s = c.args.shape.now in
    let records = record_at (g.R.Rack.view c.args.rack.now).contents s c.args.area in
    let load = c.loop-load.load in
    let inv = c.loop-load.invariant in
    let read_ok = ok_of_no_error c.read_load.result c.if-is_err.ensures.value in
    let size = c.read_load.auto.buf ∙ c.loop-load.auto.buf ∙ c.requires.size in
    record {
      state = SameState-trans _ _ _ inv.state c.read_load.ensures.state;
      moved = MovesRows-next (load_stripes s) load _ _ _ _ read_ok inv.moved c.read_load.ensures.moved;
      keeps = Keeps-trans _ _ _ inv.keeps c.read_load.ensures.keeps;
      holds = λ told. subst (Holds256 c.update.new.self)
          (sym (load_added (2 ^ s.m) s.width load records c.read_load.new.buf size
          (λ i few. c.read_load.ensures.records told read_ok i few ∙ ap (λ held. record_at held s c.args.area
          (2 ^ s.m * load + i)) inv.state.contents)))
          (c.update.ensures (bytes_of (2 ^ s.m * load) records) (inv.holds told));
    }

pub returns-clause-digest : goal.returns-clause-digest
returns-clause-digest g c told =
    let s = c.args.shape.now in
    let records = record_at (g.R.Rack.view c.args.rack.now).contents s c.args.area in
    let last : c.loop-load.load ≡ 2 ^ (s.n - s.m) = omega (arith, c.loads-load-end.ensures) in
    let all : 2 ^ s.m * c.loop-load.load ≡ 2 ^ s.n = ap (λ (k : ℕ). 2 ^ s.m * k) last ∙ loads_records s in
    c.finalize.ensures (bytes_of (2 ^ s.n) records) (subst (λ (k : ℕ). Holds256 c.loop-load.hasher (bytes_of k records)) all
    (c.loop-load.invariant.holds told))

pub returns-clause-moved : goal.returns-clause-moved
returns-clause-moved g c =
    let s = c.args.shape.now in
    let last : c.loop-load.load ≡ 2 ^ (s.n - s.m) = omega (arith, c.loads-load-end.ensures) in
    let all : c.loop-load.load * load_stripes s ≡ stripes s = ap (λ (x : ℕ). x * load_stripes s) last ∙ loads_rows s in
    MovesRows-all (c.loop-load.load * load_stripes s) (stripes s) _ _ _ all c.loop-load.invariant.moved
