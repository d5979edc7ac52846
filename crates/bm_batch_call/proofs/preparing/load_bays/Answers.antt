use Rattle.std.proofs.Common.{Ok, Err, true, map, refl, sym, ◌∙◌, subst, arith}
use Rattle.std.proofs.lemmas.Bool.{false≢true}
use Rattle.std.proofs.lemmas.List.{length-map}
use Rattle.bm_base.specs.declared.shape.Shape.{Shape}
use Rattle.bm_top.specs.Moment.{source_of, tells_of}
use Rattle.bm_batch_call.specs.Filling.{FillsCall}
use Rattle.bm_batch_call.specs.Opening.{OpensCall}
use Rattle.bm_batch_call.proofs.LoadLemmas.{load_long, load_fault, load_opened}
use Rattle.bm_batch_call.proofs.NotFilledLemmas.{fill_stopped}
use Rattle.bm_batch_call.proofs.preparing.load_bays.Goals as goal

pub returns-in-Err-clause-call : goal.returns-in-Err-clause-call
returns-in-Err-clause-call g c = λ t d w shape count.
    let fills = subst (λ (s : Shape). FillsCall
    (record t { input = g.S.Source.tells; stands = g.Y.Rack.tells_stands; contents = g.Y.Rack.tells_contents }) s
    (source_of (g.S.Source.left c.args.input.now) (g.S.Source.faults c.args.input.now)) (map g.Y.Rack.view c.args.bays.now)
    (Err c.in-Err.status)
    (source_of (g.S.Source.left c.fill_bays.new.input) (g.S.Source.faults c.fill_bays.new.input)) (map g.Y.Rack.view c.fill_bays.new.bays))
    (sym shape) (c.in-Err.ensures.call t) in
    record {
      ready = λ ok. absurd (false≢true ok);
      refused = fill_stopped (record t { input = g.S.Source.tells; stands = g.Y.Rack.tells_stands; contents = g.Y.Rack.tells_contents }) w
          (record d {
            input = source_of (g.S.Source.left c.args.input.now) (g.S.Source.faults c.args.input.now);
            bays =
                map g.Y.Rack.view c.args.bays.now;
          })
          (record d {
            input = source_of (g.S.Source.left c.fill_bays.new.input) (g.S.Source.faults c.fill_bays.new.input);
            bays =
                map g.Y.Rack.view c.fill_bays.new.bays;
          })
          c.in-Err.status (length-map c.args.bays.now g.Y.Rack.view ∙ sym count) refl fills.few fills.refused;
    }

pub open_bays-requires : goal.open_bays-requires
open_bays-requires g c = λ k below.
    let filled = (c.in-Ok.ensures.call (tells_of true true true true true)).filled refl in
    (filled.before k (let same = filled.count in omega (arith, below, same))).attached

pub returns-in-Ok-true-clause-call : goal.returns-in-Ok-true-clause-call
returns-in-Ok-true-clause-call g c = λ t d w shape count.
    let end = c.in-Ok-true.ensures in
    load_opened (record t { input = g.S.Source.tells; stands = g.Y.Rack.tells_stands; contents = g.Y.Rack.tells_contents }) w
    (record d {
      input = source_of (g.S.Source.left c.args.input.now) (g.S.Source.faults c.args.input.now);
      bays =
          map g.Y.Rack.view c.args.bays.now;
    })
    (record d {
      input = source_of (g.S.Source.left c.fill_bays.new.input) (g.S.Source.faults c.fill_bays.new.input);
      bays =
          map g.Y.Rack.view c.fill_bays.new.bays;
    })
    (record d {
      input = source_of (g.S.Source.left c.is_at_end.new.source) (g.S.Source.faults c.is_at_end.new.source);
      bays =
          map g.Y.Rack.view c.open_bays.new.bays;
    })
    c.open_bays.result (length-map c.args.bays.now g.Y.Rack.view ∙ sym count) refl
    (subst (λ (s : Shape). FillsCall
    (record t { input = g.S.Source.tells; stands = g.Y.Rack.tells_stands; contents = g.Y.Rack.tells_contents }) s
    (source_of (g.S.Source.left c.args.input.now) (g.S.Source.faults c.args.input.now)) (map g.Y.Rack.view c.args.bays.now) (Ok tt)
    (source_of (g.S.Source.left c.fill_bays.new.input) (g.S.Source.faults c.fill_bays.new.input)) (map g.Y.Rack.view c.fill_bays.new.bays))
    (sym shape) (c.in-Ok.ensures.call t))
    (λ told. (end.ended told).0 c.in-Ok-true.field-0-test) (λ told. end.taken told refl) c.is_at_end.ensures.faults
    (subst (λ (s : Shape). OpensCall
    (record t { input = g.S.Source.tells; stands = g.Y.Rack.tells_stands; contents = g.Y.Rack.tells_contents }) s
    (map g.Y.Rack.view c.fill_bays.new.bays) c.open_bays.result (map g.Y.Rack.view c.open_bays.new.bays)) (sym shape)
    (c.open_bays.ensures (record t { input = g.S.Source.tells })))

pub returns-in-Ok-false-clause-call : goal.returns-in-Ok-false-clause-call
returns-in-Ok-false-clause-call g c = λ t d w shape count.
    let end = c.in-Ok-false.ensures in
    record {
      ready = λ ok. absurd (false≢true ok);
      refused = load_long (record t { input = g.S.Source.tells; stands = g.Y.Rack.tells_stands; contents = g.Y.Rack.tells_contents }) w
          (record d {
            input = source_of (g.S.Source.left c.args.input.now) (g.S.Source.faults c.args.input.now);
            bays =
                map g.Y.Rack.view c.args.bays.now;
          })
          (record d {
            input = source_of (g.S.Source.left c.fill_bays.new.input) (g.S.Source.faults c.fill_bays.new.input);
            bays =
                map g.Y.Rack.view c.fill_bays.new.bays;
          })
          (record d {
            input = source_of (g.S.Source.left c.is_at_end.new.source) (g.S.Source.faults c.is_at_end.new.source);
            bays =
                map g.Y.Rack.view c.fill_bays.new.bays;
          })
          (length-map c.args.bays.now g.Y.Rack.view ∙ sym count) refl refl
          (subst (λ (s : Shape). FillsCall
          (record t { input = g.S.Source.tells; stands = g.Y.Rack.tells_stands; contents = g.Y.Rack.tells_contents }) s
          (source_of (g.S.Source.left c.args.input.now) (g.S.Source.faults c.args.input.now)) (map g.Y.Rack.view c.args.bays.now) (Ok tt)
          (source_of (g.S.Source.left c.fill_bays.new.input) (g.S.Source.faults c.fill_bays.new.input))
          (map g.Y.Rack.view c.fill_bays.new.bays))
          (sym shape) (c.in-Ok.ensures.call t))
          (λ told e. false≢true (sym c.in-Ok-false.field-0-test ∙ (end.ended told).1 e)) (λ told. end.taken told refl)
          c.is_at_end.ensures.faults;
    }

pub returns-in-Err-is_at_end-clause-call : goal.returns-in-Err-is_at_end-clause-call
returns-in-Err-is_at_end-clause-call g c = λ t d w shape count. record {
  ready = λ ok. absurd (false≢true ok);
  refused = load_fault (record t { input = g.S.Source.tells; stands = g.Y.Rack.tells_stands; contents = g.Y.Rack.tells_contents }) w
      (record d {
        input = source_of (g.S.Source.left c.args.input.now) (g.S.Source.faults c.args.input.now);
        bays =
            map g.Y.Rack.view c.args.bays.now;
      })
      (record d {
        input = source_of (g.S.Source.left c.fill_bays.new.input) (g.S.Source.faults c.fill_bays.new.input);
        bays =
            map g.Y.Rack.view c.fill_bays.new.bays;
      })
      (record d {
        input = source_of (g.S.Source.left c.is_at_end.new.source) (g.S.Source.faults c.is_at_end.new.source);
        bays =
            map g.Y.Rack.view c.fill_bays.new.bays;
      })
      (length-map c.args.bays.now g.Y.Rack.view ∙ sym count) refl refl
      (subst (λ (s : Shape). FillsCall
      (record t { input = g.S.Source.tells; stands = g.Y.Rack.tells_stands; contents = g.Y.Rack.tells_contents }) s
      (source_of (g.S.Source.left c.args.input.now) (g.S.Source.faults c.args.input.now)) (map g.Y.Rack.view c.args.bays.now) (Ok tt)
      (source_of (g.S.Source.left c.fill_bays.new.input) (g.S.Source.faults c.fill_bays.new.input))
      (map g.Y.Rack.view c.fill_bays.new.bays))
      (sym shape) (c.in-Ok.ensures.call t))
      c.is_at_end.ensures.few (c.in-Err-is_at_end.ensures.cause refl) c.is_at_end.ensures.faults;
}
