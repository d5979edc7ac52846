use Rattle.std.proofs.Common.{◌≡◌, ◌<◌, ◌+◌, ◌++◌, ℕ, IsTrue, [], length, map, slice_index_or, slice_set, refl, sym, ◌∙◌, ap, subst, arith}
use Rattle.std.proofs.lemmas.Bool.{false≢true}
use Rattle.std.proofs.lemmas.List.{length-map, append-nil}
use Rattle.bm_base.specs.Area.{area_after}
use Rattle.bm_base.specs.Records.{bytes_of}
use Rattle.bm_base.specs.Shape.{stripes}
use Rattle.bm_base.proofs.CountLemmas.{rose_earlier}
use Rattle.bm_disks.proofs.DumpLemmas.{AppendsFront-before}
use Rattle.bm_rack.specs.RackView.{RackView}
use Rattle.bm_top.specs.Moment.{sink_of}
use Rattle.bm_batch.proofs.BatchLemmas.{element_of}
use Rattle.bm_batch_call.specs.Dumping.{IsDumpedTo, IsLooked, last_areas, passes_at}
use Rattle.bm_batch_call.specs.Moment.{no_view}
use Rattle.bm_batch_call.proofs.DumpLemmas.{dumped_none, dumped_next, dumped_front, looked_each, failed_at}
use Rattle.bm_batch_call.proofs.RowLemmas.{few_raised}
use Rattle.bm_batch_call.proofs.ListLemmas.{own_before, below_now, same_count}
use Rattle.bm_batch_call.proofs.dumping.dump_bays.Goals as goal

pub loop-bay-init : goal.loop-bay-init
loop-bay-init g c = record {
  dumped = λ d. dumped_none g.K.Sink.tells g.Y.Rack.tells_contents c.args.shape.now (passes_at c.args.batch.now.slots d)
      (sink_of (g.K.Sink.taken c.args.out.now) (g.K.Sink.faults c.args.out.now)) (map g.Y.Rack.view c.args.bays.now);
  fits = c.requires.fits;
}

pub dump_records-requires-clause-attached : goal.dump_records-requires-clause-attached
dump_records-requires-clause-attached g c =
    let at : c.from.result ≡ c.loop-bay.bay = c.from.ensures in
    let slot : c.loop-bay.bay < length c.args.batch.now.slots =
    (let a = c.loop-bay-test.true in let b = c.count-bay-end.ensures.count in omega (arith, a, b)) in
    let d = element_of c.args.batch.now.slots c.loop-bay.bay slot in
    let dumped = subst (λ (n : ℕ). IsDumpedTo g.K.Sink.tells g.Y.Rack.tells_contents c.args.shape.now (passes_at c.args.batch.now.slots d) n
    (sink_of (g.K.Sink.taken c.args.out.now) (g.K.Sink.faults c.args.out.now)) (map g.Y.Rack.view c.args.bays.now)
    (sink_of (g.K.Sink.taken c.loop-bay.out) (g.K.Sink.faults c.loop-bay.out)) (map g.Y.Rack.view c.loop-bay.bays)) (sym at)
    (c.loop-bay.invariant.dumped d) in
    let below : c.from.result < length c.loop-bay.bays =
    (let b = c.requires.many in let e = c.loop-bay.auto.bays in omega (arith, at, slot, b, e)) in
    ap (λ (v : RackView). v.attached)
    (sym (own_before g.Y.Rack.view no_view _ c.from.result _ c.loop-bay.bays c.index-bays-from.result below dumped.bays))
    ∙ c.requires.attached c.from.result (below_now g.Y.Rack.view no_view _ c.from.result _ c.loop-bay.bays dumped.bays below)

pub returns-in-Err : goal.returns-in-Err
returns-in-Err g c = λ d.
    let at : c.from.result ≡ c.loop-bay.bay = c.from.ensures in
    let slot : c.loop-bay.bay < length c.args.batch.now.slots =
    (let a = c.loop-bay-test.true in let b = c.count-bay-end.ensures.count in omega (arith, a, b)) in
    let sink = sink_of (g.K.Sink.taken c.args.out.now) (g.K.Sink.faults c.args.out.now) in
    let now = sink_of (g.K.Sink.taken c.loop-bay.out) (g.K.Sink.faults c.loop-bay.out) in
    let last = sink_of (g.K.Sink.taken c.dump_records.new.out) (g.K.Sink.faults c.dump_records.new.out) in
    let dumped = subst (λ (n : ℕ). IsDumpedTo g.K.Sink.tells g.Y.Rack.tells_contents c.args.shape.now (passes_at c.args.batch.now.slots d) n
    sink (map g.Y.Rack.view c.args.bays.now) now (map g.Y.Rack.view c.loop-bay.bays)) (sym at) (c.loop-bay.invariant.dumped d) in
    let below : c.from.result < length c.loop-bay.bays =
    (let b = c.requires.many in let e = c.loop-bay.auto.bays in omega (arith, at, slot, b, e)) in
    let area = c.area_of-area.ensures
    ∙ ap area_after (c.passes_of.ensures d ∙ ap (λ (n : ℕ). passes_at c.args.batch.now.slots d n) (sym at)) in
    let looked : IsLooked c.args.shape.now (g.Y.Rack.view (slice_index_or c.loop-bay.bays c.from.result c.index-bays-from.result))
    (g.Y.Rack.view c.dump_records.new.rack) = record {
      state = c.dump_records.ensures.state;
      keeps = c.dump_records.ensures.keeps;
      moves = few_raised (stripes c.args.shape.now) _ _ _ c.dump_records.ensures.moved.moves;
    } in
    let first = below_now g.Y.Rack.view no_view _ c.from.result _ c.loop-bay.bays dumped.bays below in
    let x = failed_at g.Y.Rack.view c.args.shape.now _ c.from.result _ c.loop-bay.bays c.index-bays-from.result c.dump_records.new.rack
    below dumped.bays c.in-Err.ensures.cause in
    record {
      count = same_count g.Y.Rack.view c.from.result c.loop-bay.bays c.dump_records.new.rack ∙ dumped.bays.count;
      bays = λ k here. looked_each g.Y.Rack.view c.args.shape.now c.from.result _ c.loop-bay.bays c.index-bays-from.result
          c.dump_records.new.rack below
          dumped.bays looked k;
      rows = λ ok. absurd (false≢true ok);
      done = λ a b ok. absurd (false≢true ok);
      front = dumped_front g.Y.Rack.view _ _ c.args.shape.now _ c.from.result sink now last _ c.loop-bay.bays c.index-bays-from.result _
          below
          first dumped area c.dump_records.ensures.front;
      failed = λ is. record {
        at = c.from.result;
        below = first;
        cause = record { rose = λ _. x.rose is; sure = λ steady going _. x.sure steady going is };
      };
      sink_fault = λ is. rose_earlier _ _ _ dumped.faults (c.in-Err.ensures.sink_fault is);
      sink_faults = (let low = dumped.faults in let more = c.dump_records.ensures.sink_faults in omega (arith, low, more));
    }

pub loop-bay-preserved : goal.loop-bay-preserved
loop-bay-preserved g c =
    let at : c.from.result ≡ c.loop-bay.bay = c.from.ensures in
    let slot : c.loop-bay.bay < length c.args.batch.now.slots =
    (let a = c.loop-bay-test.true in let b = c.count-bay-end.ensures.count in omega (arith, a, b)) in
    let sink = sink_of (g.K.Sink.taken c.args.out.now) (g.K.Sink.faults c.args.out.now) in
    let now = sink_of (g.K.Sink.taken c.loop-bay.out) (g.K.Sink.faults c.loop-bay.out) in
    let last = sink_of (g.K.Sink.taken c.dump_records.new.out) (g.K.Sink.faults c.dump_records.new.out) in
    let below : c.from.result < length c.loop-bay.bays =
    (let b = c.requires.many in let e = c.loop-bay.auto.bays in omega (arith, at, slot, b, e)) in
    let looked : IsLooked c.args.shape.now (g.Y.Rack.view (slice_index_or c.loop-bay.bays c.from.result c.index-bays-from.result))
    (g.Y.Rack.view c.dump_records.new.rack) = record {
      state = c.dump_records.ensures.state;
      keeps = c.dump_records.ensures.keeps;
      moves = few_raised (stripes c.args.shape.now) _ _ _ c.dump_records.ensures.moved.moves;
    } in
    record {
      dumped = λ d.
          let dumped = subst (λ (n : ℕ). IsDumpedTo g.K.Sink.tells g.Y.Rack.tells_contents c.args.shape.now
          (passes_at c.args.batch.now.slots d) n
          sink (map g.Y.Rack.view c.args.bays.now) now (map g.Y.Rack.view c.loop-bay.bays)) (sym at) (c.loop-bay.invariant.dumped d) in
          let area = c.area_of-area.ensures
          ∙ ap area_after (c.passes_of.ensures d ∙ ap (λ (n : ℕ). passes_at c.args.batch.now.slots d n) (sym at)) in
          subst (λ (n : ℕ). IsDumpedTo g.K.Sink.tells g.Y.Rack.tells_contents c.args.shape.now (passes_at c.args.batch.now.slots d) (n + 1)
          sink (map g.Y.Rack.view c.args.bays.now) last
          (map g.Y.Rack.view (slice_set c.loop-bay.bays c.from.result c.dump_records.new.rack))) at
          (dumped_next g.Y.Rack.view _ _ c.args.shape.now _ c.from.result sink now last _ c.loop-bay.bays c.index-bays-from.result
          c.dump_records.new.rack _ below dumped area (λ a b. c.in-Ok.ensures.done a b refl) c.dump_records.ensures.sink_faults
          (record { looked = looked; rows = c.in-Ok.ensures.moved.moves.done refl }));
      fits = c.dump_records.ensures.fits;
    }

pub returns : goal.returns
returns g c = λ d.
    let dumped = c.loop-bay.invariant.dumped d in
    let all : c.loop-bay.bay ≡ length (map g.Y.Rack.view c.args.bays.now) =
    (let many = length-map c.args.bays.now g.Y.Rack.view in let same = c.requires.many in let count = c.count-bay-end.ensures.count in
    let over = c.loop-bay-test.false in let near = c.loop-bay.auto.bay-end in omega (arith, many, same, count, over, near)) in
    let parts = last_areas c.args.shape.now (passes_at c.args.batch.now.slots d) (map g.Y.Rack.view c.args.bays.now) in
    let written : (IsTrue g.K.Sink.tells) → IsTrue g.Y.Rack.tells_contents → g.K.Sink.taken c.loop-bay.out
    ≡ g.K.Sink.taken c.args.out.now ++ bytes_of (length (map g.Y.Rack.view c.args.bays.now)) parts =
    λ a b. dumped.written a b ∙ ap (λ (n : ℕ). g.K.Sink.taken c.args.out.now ++ bytes_of n parts) all in
    record {
      count = dumped.bays.count;
      bays = λ k here. (dumped.bays.before k (omega (arith, here, all))).looked;
      rows = λ ok k here. (dumped.bays.before k (omega (arith, here, all))).rows;
      done = λ a b ok. written a b;
      front = λ a b. AppendsFront-before _ _ (bytes_of (length (map g.Y.Rack.view c.args.bays.now)) parts) [] _ (sym (append-nil _))
          (written a b);
      failed = λ is. absurd (cc);
      sink_fault = λ is. absurd (cc);
      sink_faults = dumped.faults;
    }
