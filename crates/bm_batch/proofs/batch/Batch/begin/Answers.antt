use Rattle.std.proofs.Common.{◌+◌, List, slice_set, sym, subst, arith}
use Rattle.std.proofs.lemmas.List.{length-map}
use Rattle.bm_batch.specs.declared.bay_slot.BaySlot.{BaySlot}
use Rattle.bm_batch.proofs.BegunLemmas.{BegunTo, begun_next, next_attached, all_begun, begun_attached, begun_follows}
use Rattle.bm_batch.proofs.batch.Batch.begin.Goals as goal

pub begin_bay-requires-clause-attached : goal.begin_bay-requires-clause-attached
begin_bay-requires-clause-attached g c =
    next_attached g.Y.Rack.view _ _ c.args.shape.now c.args.jobs.now c.loop-bay.bay c.loop-bay.slots.items c.args.bays.now c.loop-bay.bays
    c.index-bays-bay.result c.loop-bay.invariant.begun c.loop-bay-test.true c.requires.attached

pub loop-bay-preserved : goal.loop-bay-preserved
loop-bay-preserved g c =
    let old = c.loop-bay.slots.items in
    let slot = c.begin_bay.result in
    let below = c.loop-bay-test.true in
    let many = c.requires.many in
    let next = begun_next g.Y.Rack.view _ _ c.args.shape.now c.args.jobs.now c.loop-bay.bay old c.args.bays.now c.loop-bay.bays
    c.index-jobs-bay.result slot c.index-bays-bay.result c.begin_bay.new.rack c.loop-bay.invariant.begun below
    (omega (arith, below, many)) c.index-jobs-bay.is c.begin_bay.ensures.begun in
    record {
      begun = subst (λ (xs : List BaySlot). BegunTo g.Y.Rack.view g.Y.Rack.tells_stands g.Y.Rack.tells_contents c.args.shape.now
          c.args.jobs.now (c.loop-bay.bay + 1) xs c.args.bays.now (slice_set c.loop-bay.bays c.loop-bay.bay c.begin_bay.new.rack))
          (sym c.push_reserved.ensures.items) next;
      room = (let room = c.loop-bay.invariant.room in let kept = c.push_reserved.ensures.capacity in omega (arith, room, kept));
      len = (let len = c.loop-bay.invariant.len in let more = c.push_reserved.ensures.len in omega (arith, len, more));
    }

pub returns-clause-begun : goal.returns-clause-begun
returns-clause-begun g c =
    let many = c.requires.many in
    let over = c.loop-bay-test.false in
    all_begun g.Y.Rack.view _ _ c.args.shape.now c.args.jobs.now c.loop-bay.bay c.loop-bay.slots.items c.args.bays.now c.loop-bay.bays
    c.loop-bay.invariant.begun (let near = c.loop-bay.auto.bay-end in omega (arith, many, over, near))

pub returns-clause-attached : goal.returns-clause-attached
returns-clause-attached g c =
    let same = length-map c.args.bays.now g.Y.Rack.view in
    let many = c.requires.many in
    begun_attached _ _ c.args.shape.now c.args.jobs.now _ _ _ (omega (arith, same, many)) (returns-clause-begun g c) c.requires.attached

pub returns-clause-follows : goal.returns-clause-follows
returns-clause-follows g c told_stands told_contents =
    let same = length-map c.args.bays.now g.Y.Rack.view in
    let many = c.requires.many in
    begun_follows _ _ c.args.shape.now c.args.jobs.now _ _ _ told_stands told_contents (omega (arith, same, many))
    (returns-clause-begun g c)
