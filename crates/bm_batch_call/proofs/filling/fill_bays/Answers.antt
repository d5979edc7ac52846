use Rattle.std.proofs.Common.{◌≡◌, ◌<◌, ◌*◌, ℕ, length, map, refl, subst, arith}
use Rattle.std.proofs.lemmas.Bool.{false≢true}
use Rattle.std.proofs.lemmas.List.{length-map}
use Rattle.bm_base.specs.Shape.{input_size}
use Rattle.bm_top.specs.Moment.{source_of}
use Rattle.bm_batch_call.specs.Filling.{IsFrom}
use Rattle.bm_batch_call.specs.Moment.{no_view}
use Rattle.bm_batch_call.proofs.FillLemmas.{from_none, from_next, filled_as, read_at}
use Rattle.bm_batch_call.proofs.ListLemmas.{up_to_none, up_to_next, up_to_at, ends_at}
use Rattle.bm_batch_call.proofs.filling.fill_bays.Goals as goal

pub loop-bay-init : goal.loop-bay-init
loop-bay-init g c = record {
  bays = λ t. up_to_none no_view _ _;
  is_from = from_none _ c.args.shape.now (source_of (g.S.Source.left c.args.input.now) (g.S.Source.faults c.args.input.now));
  fits = c.requires;
}

pub fill_bay-requires : goal.fill_bay-requires
fill_bay-requires g c = c.loop-bay.invariant.fits

pub loop-bay-preserved : goal.loop-bay-preserved
loop-bay-preserved g c =
    let inv = c.loop-bay.invariant in
    let below : c.loop-bay.bay < length c.loop-bay.bays =
    (let a = c.loop-bay-test.true in let b = c.loop-bay.auto.bays in omega (arith, a, b)) in
    let source = source_of (g.S.Source.left c.args.input.now) (g.S.Source.faults c.args.input.now) in
    let here = source_of (g.S.Source.left c.loop-bay.input) (g.S.Source.faults c.loop-bay.input) in
    let rest = source_of (g.S.Source.left c.fill_bay.new.input) (g.S.Source.faults c.fill_bay.new.input) in
    record {
      bays = λ t.
          up_to_next g.Y.Rack.view no_view _ c.loop-bay.bay _ c.loop-bay.bays c.index-bays-bay.result c.fill_bay.new.rack below (inv.bays t)
          (filled_as (record t { input = g.S.Source.tells; stands = g.Y.Rack.tells_stands; contents = g.Y.Rack.tells_contents })
          c.args.shape.now here.left _ _ _ inv.is_from.left ((c.in-Ok.ensures.call t).filled refl));
      is_from = from_next _ c.args.shape.now source here rest c.loop-bay.bay inv.is_from
          (λ told. (c.in-Ok.ensures.call
          (record {
            job = g.S.Source.tells;
            input = g.S.Source.tells;
            out = g.S.Source.tells;
            stands = g.S.Source.tells;
            contents =
                g.S.Source.tells;
          })).taken told refl)
          (c.in-Ok.ensures.call
          (record {
            job = g.S.Source.tells;
            input = g.S.Source.tells;
            out = g.S.Source.tells;
            stands = g.S.Source.tells;
            contents =
                g.S.Source.tells;
          })).faults;
      fits = c.fill_bay.ensures.fits;
    }

pub returns-in-Err-clause-call : goal.returns-in-Err-clause-call
returns-in-Err-clause-call g c = λ t.
    let inv = c.loop-bay.invariant in
    let s = c.args.shape.now in
    let below : c.loop-bay.bay < length c.loop-bay.bays =
    (let a = c.loop-bay-test.true in let b = c.loop-bay.auto.bays in omega (arith, a, b)) in
    let source = source_of (g.S.Source.left c.args.input.now) (g.S.Source.faults c.args.input.now) in
    let here = source_of (g.S.Source.left c.loop-bay.input) (g.S.Source.faults c.loop-bay.input) in
    let rest = source_of (g.S.Source.left c.fill_bay.new.input) (g.S.Source.faults c.fill_bay.new.input) in
    let call = c.in-Err.ensures.call t in
    record {
      filled = λ ok. absurd (false≢true ok);
      taken = λ ok. absurd (false≢true ok);
      few = read_at _ s source here rest c.loop-bay.bay (length (map g.Y.Rack.view c.args.bays.now))
          (let a = c.loop-bay-test.true in let b = length-map c.args.bays.now g.Y.Rack.view in omega (arith, a, b)) inv.is_from call.few;
      refused = record {
        at = c.loop-bay.bay;
        here = here;
        is_from = inv.is_from;
        bays = ends_at g.Y.Rack.view no_view _ _ c.loop-bay.bay _ c.loop-bay.bays c.index-bays-bay.result c.fill_bay.new.rack below
            (inv.bays t) call.refused;
        faults = call.faults;
      };
    }

pub returns-clause-call : goal.returns-clause-call
returns-clause-call g c = λ t.
    let inv = c.loop-bay.invariant in
    let s = c.args.shape.now in
    let source = source_of (g.S.Source.left c.args.input.now) (g.S.Source.faults c.args.input.now) in
    let rest = source_of (g.S.Source.left c.loop-bay.input) (g.S.Source.faults c.loop-bay.input) in
    let all : c.loop-bay.bay ≡ length (map g.Y.Rack.view c.args.bays.now) =
    (let many = length-map c.args.bays.now g.Y.Rack.view in let over = c.loop-bay-test.false in
    let near = c.loop-bay.auto.bay-end in omega (arith, many, over, near)) in
    let is_from = subst (λ (n : ℕ). IsFrom g.S.Source.tells s source n rest) all inv.is_from in
    record {
      filled = λ ok. up_to_at no_view _ _ _ _ _ all (inv.bays t);
      taken = λ ok. is_from;
      few = λ told. (length (map g.Y.Rack.view c.args.bays.now) * input_size s, omega arith, is_from.left told);
      refused = tt;
    }

pub returns-clause-fits : goal.returns-clause-fits
returns-clause-fits g c = c.loop-bay.invariant.fits
