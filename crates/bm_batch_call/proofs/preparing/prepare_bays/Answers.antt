use Rattle.std.proofs.Common.{map, refl, sym, ◌∙◌, subst}
use Rattle.std.proofs.lemmas.List.{length-map}
use Rattle.bm_base.specs.declared.shape.Shape.{Shape}
use Rattle.bm_top.specs.Moment.{source_of}
use Rattle.bm_batch_call.specs.Opening.{AttachCall}
use Rattle.bm_batch_call.proofs.AttachLemmas.{attach_done}
use Rattle.bm_batch_call.proofs.preparing.prepare_bays.Goals as goal

pub returns-in-Batch-clause-call : goal.returns-in-Batch-clause-call
returns-in-Batch-clause-call g c = λ t d w shape count. rw c.in-Batch.is (c.load_bays.ensures.call t d w shape count)

pub returns-in-Run-clause-call : goal.returns-in-Run-clause-call
returns-in-Run-clause-call g c = λ t d w shape count.
    rw c.in-Run.is
    (attach_done (record t { input = g.S.Source.tells; stands = g.Y.Rack.tells_stands; contents = g.Y.Rack.tells_contents }) w
    (record d {
      input = source_of (g.S.Source.left c.args.input.now) (g.S.Source.faults c.args.input.now);
      bays =
          map g.Y.Rack.view c.args.bays.now;
    })
    (record d {
      input = source_of (g.S.Source.left c.args.input.now) (g.S.Source.faults c.args.input.now);
      bays =
          map g.Y.Rack.view c.attach_bays.new.bays;
    })
    c.attach_bays.result (length-map c.args.bays.now g.Y.Rack.view ∙ sym count) refl refl
    (subst (λ (s : Shape). AttachCall
    (record t { input = g.S.Source.tells; stands = g.Y.Rack.tells_stands; contents = g.Y.Rack.tells_contents }) s
    (map g.Y.Rack.view c.args.bays.now) c.attach_bays.result (map g.Y.Rack.view c.attach_bays.new.bays)) (sym shape)
    (c.attach_bays.ensures (record t { input = g.S.Source.tells }))))
