use Rattle.std.proofs.Common.{◌≡◌, ℕ, ◌+◌, ◌-◌, ◌*◌, ◌^◌, ◌≤◌, sym, subst, ◌∙◌, ap, refl, arith}
use Rattle.bm_base.specs.Shape.{stripes, load_stripes}
use Rattle.bm_base.proofs.ShapeLemmas.{load_in_area}
use Rattle.bm_rack.proofs.FrameLemmas.{SameState-refl, SameState-trans, Keeps-refl, Keeps-trans}
use Rattle.bm_base.specs.Contents.{Contents}
use Rattle.bm_detect.proofs.LoadLemmas.{start_knows}
use Rattle.bm_detect.specs.Candidate.{input_number}
use Rattle.bm_detect.specs.Scan.{IsScan, Knows}
use Rattle.bm_base.proofs.CaseLemmas.{error_not_ok}
use Rattle.bm_base.proofs.ShapeLemmas.{loads_rows, loads_records}
use Rattle.bm_rack.proofs.CallLemmas.{MovesRows-refl, MovesRows-next, MovesRows-failed, MovesRows-all}
use Rattle.bm_detect.proofs.scan_loads.scan_input.Goals as goal

pub loop-load-init : goal.loop-load-init
loop-load-init g c =
    let s = c.args.shape.now in
    record {
      scan = subst (λ (n : ℕ). IsScan n c.start_scan-scan.result) c.n.ensures c.start_scan-scan.ensures.scan;
      fits = c.requires.fits;
      state = SameState-refl _;
      moved = MovesRows-all 0 (0 * load_stripes s) (Unit {0}) _ _ (omega arith)
          (MovesRows-refl _ _ (Unit {0}) _ (g.met.R.Rack.consistent c.args.rack.now));
      keeps = Keeps-refl _;
      knows = λ told. start_knows c.n.result s.n (2 ^ s.m) (input_number (g.R.Rack.view c.args.rack.now).contents s)
          c.start_scan-scan.result c.n.ensures (c.start_scan-scan.ensures.knows _);
    }

pub returns-in_err-scan-clause-moved : goal.returns-in_err-scan-clause-moved
returns-in_err-scan-clause-moved g c =
    let s = c.args.shape.now in
    let load = c.loop-load.load in
    let rows = load_stripes s in
    let few : load * rows + rows ≤ stripes s = load_in_area s load (omega (arith, c.loads-load-end.ensures)) in
    MovesRows-failed (load * rows) rows (stripes s) _ _ _ _ _ few (error_not_ok c.from_residual.result c.from_residual.ensures.0)
    c.loop-load.invariant.moved
    c.in_err-scan.ensures.moved

pub loop-load-preserved : goal.loop-load-preserved
loop-load-preserved g c =
    let s = c.args.shape.now in
    let load = c.loop-load.load in
    let inv = c.loop-load.invariant in
    record {
      scan = c.in_ok-scan.ensures.scan;
      fits = c.scan_load.ensures.fits;
      state = SameState-trans _ _ _ inv.state c.scan_load.ensures.state;
      moved = MovesRows-next (load_stripes s) load _ _ _ _ refl inv.moved c.in_ok-scan.ensures.moved;
      keeps = Keeps-trans _ _ _ inv.keeps c.scan_load.ensures.keeps;
      knows = λ told. subst (λ (held : Contents). Knows s.n (input_number held s) (2 ^ s.m * (load + 1)) c.in_ok-scan.scan)
          inv.state.contents
          (c.in_ok-scan.ensures.knows told
          (subst (λ (held : Contents). Knows s.n (input_number held s) (2 ^ s.m * load) c.loop-load.scan) (sym inv.state.contents)
          (inv.knows told)));
    }

pub returns-clause-knows : goal.returns-clause-knows
returns-clause-knows g c told =
    let s = c.args.shape.now in
    let last : c.loop-load.load ≡ 2 ^ (s.n - s.m) = omega (arith, c.loads-load-end.ensures) in
    let all : 2 ^ s.m * c.loop-load.load ≡ 2 ^ s.n = ap (λ (k : ℕ). 2 ^ s.m * k) last ∙ loads_records s in
    subst (λ (seen : ℕ). Knows s.n (input_number (g.R.Rack.view c.args.rack.now).contents s) seen c.loop-load.scan) all
    (c.loop-load.invariant.knows told)

pub returns-clause-moved : goal.returns-clause-moved
returns-clause-moved g c =
    let s = c.args.shape.now in
    let last : c.loop-load.load ≡ 2 ^ (s.n - s.m) = omega (arith, c.loads-load-end.ensures) in
    let all : c.loop-load.load * load_stripes s ≡ stripes s = ap (λ (x : ℕ). x * load_stripes s) last ∙ loads_rows s in
    MovesRows-all (c.loop-load.load * load_stripes s) (stripes s) _ _ _ all c.loop-load.invariant.moved
