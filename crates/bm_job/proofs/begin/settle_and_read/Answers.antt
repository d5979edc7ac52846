use Rattle.bm_job.proofs.BeginLemmas.{settled_error}
use Rattle.bm_job.proofs.BeginCallLemmas.{settled_pages, settled_most}
use Rattle.bm_job.proofs.begin.settle_and_read.Goals as goal

pub returns-in_err-read_state-clause-answer : goal.returns-in_err-read_state-clause-answer
returns-in_err-read_state-clause-answer g c told =
    settled_error _ _ _ _ c.sync.ensures.synced.contents c.from_residual-in_err-read_state.ensures.1
    (c.in_err-read_state.ensures.answer told)

pub returns-in_err-read_state-clause-pages : goal.returns-in_err-read_state-clause-pages
returns-in_err-read_state-clause-pages g c told =
    settled_pages _ _ _ _ _ c.sync.ensures.synced.contents (g.met.R.Rack.consistent c.args.rack.now) c.sync.ensures.counts
    (c.read_state.ensures.pages told)

pub returns-clause-pages : goal.returns-clause-pages
returns-clause-pages g c told =
    settled_pages _ _ _ _ _ c.sync.ensures.synced.contents (g.met.R.Rack.consistent c.args.rack.now) c.sync.ensures.counts
    (c.read_state.ensures.pages told)

pub returns-in_err-read_state-clause-most : goal.returns-in_err-read_state-clause-most
returns-in_err-read_state-clause-most g c =
    settled_most _ _ _ _ (g.met.R.Rack.consistent c.args.rack.now) (g.met.R.Rack.consistent c.sync.new.self) c.sync.ensures.counts
    c.read_state.ensures.fits
    c.read_state.ensures.counts

pub returns-clause-most : goal.returns-clause-most
returns-clause-most g c =
    settled_most _ _ _ _ (g.met.R.Rack.consistent c.args.rack.now) (g.met.R.Rack.consistent c.sync.new.self) c.sync.ensures.counts
    c.read_state.ensures.fits
    c.read_state.ensures.counts
