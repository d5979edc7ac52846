use Rattle.std.proofs.Common.{◌≡◌, ◌+◌, rules, subst, sym, refl, ◌∙◌, arith}
use Rattle.bm_base.specs.Shape.{load_stripes}
use Rattle.bm_rack.proofs.CallLemmas.{MovesRows-refl, MovesRows-trans, MovesRows-part, MovesRows-failed, MovesRows-all}
use Rattle.bm_rack.proofs.FrameLemmas.{Keeps-trans, SameState-trans}
use Rattle.bm_pass.specs.LoadPlaces.{HoldsRowsOfLoad}
use Rattle.bm_pass.proofs.PlaceLemmas.{rows_of_load}
use Rattle.bm_pass.proofs.one_load.fill_rows.Goals as goal

pub fill_row-requires-clause-attached : goal.fill_row-requires-clause-attached
fill_row-requires-clause-attached g c = c.loop-row.invariant.state.attached ∙ c.requires.attached

pub loop-row-init : goal.loop-row-init
loop-row-init g c =
    let rack = c.args.rack.now in record {
      state = search rules;
      moved = MovesRows-refl _ _ (Unit {0}) _ (g.met.R.Rack.consistent rack);
      keeps = search rules;
      fits = c.requires.fits;
      records = λ told i below. absurd (omega arith);
    }

pub loop-row-preserved : goal.loop-row-preserved
loop-row-preserved g c =
    let inv = c.loop-row.invariant in
    let holds = HoldsRowsOfLoad c.args.shape.now c.args.placing.now c.args.from c.args.load in
    let row = c.loop-row.row in
    record {
      state = SameState-trans _ _ _ inv.state c.fill_row.ensures.state;
      moved = MovesRows-part (row + 1) (row + 1) _ _ _ _ (omega arith) (λ _. (refl, refl))
          (MovesRows-trans row 1 _ _ _ _ inv.moved c.in_ok-fill_row.ensures.moved);
      keeps = Keeps-trans _ _ _ inv.keeps c.fill_row.ensures.keeps;
      fits = c.fill_row.ensures.fits;
      records = λ told. subst (λ contents. holds contents (row + 1) c.fill_row.new.bufs.load) inv.state.contents
          (c.in_ok-fill_row.ensures.records told
          (subst (λ contents. holds contents row c.loop-row.bufs.load) (sym inv.state.contents) (inv.records told)));
    }

pub returns-in_err-fill_row-clause-moved : goal.returns-in_err-fill_row-clause-moved
returns-in_err-fill_row-clause-moved g c =
    MovesRows-failed c.loop-row.row 1 (load_stripes c.args.shape.now) _ _ _ _ _ (omega arith) (λ ok. search rules)
    c.loop-row.invariant.moved c.in_err-fill_row.ensures.moved

pub returns-clause-records : goal.returns-clause-records
returns-clause-records g c told i below =
    let all : c.loop-row.row ≡ load_stripes c.args.shape.now = omega arith in
    c.loop-row.invariant.records told i (rw (all, rows_of_load c.args.shape.now) below)

pub returns-clause-moved : goal.returns-clause-moved
returns-clause-moved g c = MovesRows-all c.loop-row.row (load_stripes c.args.shape.now) _ _ _ (omega arith) c.loop-row.invariant.moved
