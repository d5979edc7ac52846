use Rattle.std.proofs.Common.{rules}
use Rattle.bm_bufs.specs.declared.placing.Placing.{Placing}
use Rattle.bm_rack.proofs.FrameLemmas.{ChangesOnly-same, ChangesOnly-trans, ChangesOnly-wider}
use Rattle.bm_stripe.specs.Units.{IsSpreadUnit}
use Rattle.bm_pass.specs.LoadPlaces.{IsOfLoad}
use Rattle.bm_pass.specs.LoadMove.{IsTargetUnit}
use Rattle.bm_pass.proofs.CaseLemmas.{on_ok_from}
use Rattle.bm_pass.proofs.LoadLemmas.{SendsToTargets-form, IsTargetUnit-spread}
use Rattle.bm_kindjob.proofs.ListMoveLemmas.{ListMoved-written}
use Rattle.bm_kindjob.proofs.one_load.kind_step.Goals as goal

pub returns-clause-records : goal.returns-clause-records
returns-clause-records g c told =
    let s = c.args.shape.now in
    let pass = c.args.pass.now in
    let spread = c.spread_for.result in
    let from = c.placing_for-plus.result in
    let placing : Placing = record { a = from.0; plus = from.1; width = c.width.result } in
    let of_load : IsOfLoad s placing = search rules in
    let places = c.placing_for-plus.ensures.places in
    let sends = SendsToTargets-form s pass c.args.load placing spread c.requires.pass places c.spread_for.ensures.loads in
    on_ok_from c.write_spread.result
    (λ ok. ListMoved-written (g.K.Kernel.meaning c.args.kernel.now) c.args.set s pass c.args.from c.args.to c.args.load placing spread
    (g.R.Rack.view c.args.rack.now).contents (g.R.Rack.view c.write_spread.new.rack).contents
    c.fill_load.new.bufs.load c.mix_load.new.bufs.load
    of_load sends (c.in_ok-fill_load.ensures.records told) c.mix_load.ensures.records
    (rw c.load.ensures at (c.write_spread.ensures.records told ok)))

pub returns-clause-only : goal.returns-clause-only
returns-clause-only g c =
    let s = c.args.shape.now in
    let pass = c.args.pass.now in
    let spread = c.spread_for.result in
    let from = c.placing_for-plus.result in
    let placing : Placing = record { a = from.0; plus = from.1; width = c.width.result } in
    let of_load : IsOfLoad s placing = search rules in
    let places = c.placing_for-plus.ensures.places in
    let sends = SendsToTargets-form s pass c.args.load placing spread c.requires.pass places c.spread_for.ensures.loads in
    let targets = IsTargetUnit s pass c.args.to c.args.load in
    ChangesOnly-trans targets _ _ _ (ChangesOnly-same targets _ _ c.fill_load.ensures.state)
    (ChangesOnly-wider (IsSpreadUnit s c.args.to spread) targets _ _
    (λ u. IsTargetUnit-spread s pass c.args.to c.args.load placing spread u of_load sends) c.write_spread.ensures.only)
