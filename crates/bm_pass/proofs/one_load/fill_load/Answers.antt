use Rattle.bm_pass.proofs.SplitLemmas.{HasRoom-split, HoldsLoad-settled}
use Rattle.bm_pass.proofs.one_load.fill_load.Goals as goal

pub settle-requires : goal.settle-requires
settle-requires g c = record {
  room = HasRoom-split c.args.shape.now c.args.placing.now c.in-Some.split _ c.requires.placing
      (rw (c.b.ensures, c.d.ensures) at c.in-Some.ensures.split) c.fill_rows.ensures.fits;
}

pub returns-in_ok-fill_rows-in-Some-clause-records :
    goal.returns-in_ok-fill_rows-in-Some-clause-records
returns-in_ok-fill_rows-in-Some-clause-records g c told =
    HoldsLoad-settled c.args.shape.now c.args.placing.now _ c.in-Some.split c.args.from c.args.load
    (g.R.Rack.view c.args.rack.now).contents c.fill_rows.new.bufs c.settle.new.self c.requires.placing c.in-Some.ensures.split
    c.settle.ensures.moved (c.in_ok-fill_rows-in-Some.ensures.records told)
