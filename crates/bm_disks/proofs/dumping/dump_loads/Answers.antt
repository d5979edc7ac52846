use Rattle.std.proofs.Common.{◌≡◌, ℕ, ◌+◌, ◌-◌, ◌*◌, ◌^◌, ◌<◌, ◌≤◌, ◌++◌, IsTrue, List, sym, ◌∙◌, ap, arith, append_assoc}
use Rattle.std.proofs.lemmas.Bool.{false≢true}
use Rattle.bm_base.specs.Shape.{stripes, load_stripes}
use Rattle.bm_base.specs.Records.{record_at, bytes_of}
use Rattle.bm_base.proofs.ShapeLemmas.{load_in_area}
use Rattle.bm_rack.proofs.FrameLemmas.{SameState-refl, SameState-trans, Keeps-refl, Keeps-trans}
use Rattle.bm_base.proofs.ShapeLemmas.{loads_rows, loads_records, load_records}
use Rattle.bm_rack.proofs.CallLemmas.{MovesRows-refl, MovesRows-next, MovesRows-failed, MovesRows-all}
use Rattle.bm_base.proofs.CaseLemmas.{ok_of_no_error}
use Rattle.bm_rack.proofs.SinkLemmas.{AppendsFront-part}
use Rattle.bm_job.proofs.AreaLoadLemmas.{load_added}
use Rattle.bm_disks.proofs.DumpLemmas.{loads_before, nothing_dumped, AppendsFront-before}
use Rattle.bm_disks.proofs.dumping.dump_loads.Goals as goal

pub loop-load-init : goal.loop-load-init
loop-load-init g c =
    let s = c.args.shape.now in
    let view = g.R.Rack.view in
    record {
      state = SameState-refl _;
      moved = MovesRows-all 0 (0 * load_stripes s) (Unit {0}) _ _ (omega arith)
          (MovesRows-refl _ _ (Unit {0}) _ (g.met.R.Rack.consistent c.args.rack.now));
      keeps = Keeps-refl _;
      taken = λ sink rack. nothing_dumped (2 ^ s.m) (record_at (view c.args.rack.now).contents s c.args.area)
          (g.K.Sink.taken c.args.out.now);
      faults = omega arith;
    }

pub returns-then-is_err-clause-front : goal.returns-then-is_err-clause-front
returns-then-is_err-clause-front g c sink rack =
    let s = c.args.shape.now in
    let records = record_at (g.R.Rack.view c.args.rack.now).contents s c.args.area in
    let fits : 2 ^ s.m * (c.loop-load.load + 1) ≤ 2 ^ s.n = load_records s c.loop-load.load (omega (arith, c.loads-load-end.ensures)) in
    let rest = loads_before (2 ^ s.n) (2 ^ s.m * c.loop-load.load) records (omega arith) in
    AppendsFront-before _ _ _ rest.0 _ rest.1 (c.loop-load.invariant.taken sink rack)

pub returns-then-is_err-clause-moved : goal.returns-then-is_err-clause-moved
returns-then-is_err-clause-moved g c =
    let s = c.args.shape.now in
    let load = c.loop-load.load in
    let rows = load_stripes s in
    let few : load * rows + rows ≤ stripes s = load_in_area s load (omega (arith, c.loads-load-end.ensures)) in
    MovesRows-failed (load * rows) rows (stripes s) _ _ _ _ _ few false≢true c.loop-load.invariant.moved
    c.read_load.ensures.moved

pub returns-then-is_err-2-clause-front : goal.returns-then-is_err-2-clause-front
returns-then-is_err-2-clause-front g c sink rack =
    let s = c.args.shape.now in
    let contents = (g.R.Rack.view c.args.rack.now).contents in
    let records = record_at contents s c.args.area in
    let load = c.loop-load.load in
    let inv = c.loop-load.invariant in
    let below : load < 2 ^ (s.n - s.m) = omega (arith, c.loads-load-end.ensures) in
    let rest = loads_before (2 ^ s.n) (2 ^ s.m * (load + 1)) records (load_records s load below) in
    let size = c.read_load.auto.buf ∙ c.loop-load.auto.buf ∙ c.requires.size in
    let read_ok = ok_of_no_error c.read_load.result c.if-is_err.ensures.value in
    let dumped = load_added (2 ^ s.m) s.width load records c.read_load.new.buf size
    (λ i few. c.read_load.ensures.records rack read_ok i few
    ∙ ap (λ held. record_at held s c.args.area (2 ^ s.m * load + i)) inv.state.contents) in
    let whole = rest.1 ∙ ap (λ (z : List ℕ). z ++ rest.0) dumped in
    AppendsFront-part _ _ _ (bytes_of (2 ^ s.m * load) records) c.read_load.new.buf rest.0 _ whole (inv.taken sink rack)
    (c.write_all_of.ensures.front sink)

pub returns-then-is_err-2-clause-moved : goal.returns-then-is_err-2-clause-moved
returns-then-is_err-2-clause-moved g c =
    let s = c.args.shape.now in
    let load = c.loop-load.load in
    let rows = load_stripes s in
    let few : load * rows + rows ≤ stripes s = load_in_area s load (omega (arith, c.loads-load-end.ensures)) in
    MovesRows-failed (load * rows) rows (stripes s) _ _ _ _ _ few false≢true c.loop-load.invariant.moved
    c.read_load.ensures.moved

pub loop-load-preserved : goal.loop-load-preserved
loop-load-preserved g c =
    let s = c.args.shape.now in
    let contents = (g.R.Rack.view c.args.rack.now).contents in
    let records = record_at contents s c.args.area in
    let load = c.loop-load.load in
    let inv = c.loop-load.invariant in
    let read_ok = ok_of_no_error c.read_load.result c.if-is_err.ensures.value in
    let write_ok = ok_of_no_error c.write_all_of.result c.if-is_err-2.ensures.value in
    let size = c.read_load.auto.buf ∙ c.loop-load.auto.buf ∙ c.requires.size in
    let buf = c.read_load.new.buf in
    let dumped : IsTrue g.R.Rack.tells_contents → bytes_of (2 ^ s.m * (load + 1)) records ≡ bytes_of (2 ^ s.m * load) records ++ buf =
    λ rack. load_added (2 ^ s.m) s.width load records buf size
    (λ i few. c.read_load.ensures.records rack read_ok i few
    ∙ ap (λ held. record_at held s c.args.area (2 ^ s.m * load + i)) inv.state.contents) in
    record {
      state = SameState-trans _ _ _ inv.state c.read_load.ensures.state;
      moved = MovesRows-next (load_stripes s) load _ _ _ _ read_ok inv.moved c.read_load.ensures.moved;
      keeps = Keeps-trans _ _ _ inv.keeps c.read_load.ensures.keeps;
      taken = λ sink rack. c.write_all_of.ensures.all sink write_ok
          ∙ ap (λ (z : List ℕ). z ++ c.read_load.new.buf) (inv.taken sink rack)
          ∙ append_assoc (g.K.Sink.taken c.args.out.now) (bytes_of (2 ^ s.m * load) records) c.read_load.new.buf
          ∙ ap (λ (z : List ℕ). g.K.Sink.taken c.args.out.now ++ z) (sym (dumped rack));
      faults = omega (arith, inv.faults, c.write_all_of.ensures.faults);
    }

pub returns-clause-done : goal.returns-clause-done
returns-clause-done g c sink rack ok =
    let s = c.args.shape.now in
    let records = record_at (g.R.Rack.view c.args.rack.now).contents s c.args.area in
    let last : c.loop-load.load ≡ 2 ^ (s.n - s.m) = omega (arith, c.loads-load-end.ensures) in
    c.loop-load.invariant.taken sink rack
    ∙ ap (λ (x : ℕ). g.K.Sink.taken c.args.out.now ++ bytes_of x records) (ap (λ (x : ℕ). 2 ^ s.m * x) last ∙ loads_records s)

pub returns-clause-front : goal.returns-clause-front
returns-clause-front g c sink rack =
    let s = c.args.shape.now in
    let records = record_at (g.R.Rack.view c.args.rack.now).contents s c.args.area in
    let last : c.loop-load.load ≡ 2 ^ (s.n - s.m) = omega (arith, c.loads-load-end.ensures) in
    let all : 2 ^ s.m * c.loop-load.load ≡ 2 ^ s.n = ap (λ (x : ℕ). 2 ^ s.m * x) last ∙ loads_records s in
    let rest = loads_before (2 ^ s.n) (2 ^ s.m * c.loop-load.load) records (omega arith) in
    AppendsFront-before _ _ _ rest.0 _ rest.1 (c.loop-load.invariant.taken sink rack)

pub returns-clause-moved : goal.returns-clause-moved
returns-clause-moved g c =
    let s = c.args.shape.now in
    let last : c.loop-load.load ≡ 2 ^ (s.n - s.m) = omega (arith, c.loads-load-end.ensures) in
    let all : c.loop-load.load * load_stripes s ≡ stripes s = ap (λ (x : ℕ). x * load_stripes s) last ∙ loads_rows s in
    MovesRows-all (c.loop-load.load * load_stripes s) (stripes s) _ _ _ all c.loop-load.invariant.moved
