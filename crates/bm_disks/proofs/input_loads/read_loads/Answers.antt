use Rattle.std.proofs.Common.{◌≡◌, ℕ, ◌+◌, ◌-◌, ◌*◌, ◌^◌, ◌<◌, ◌≤◌, IsTrue, Err, length, sym, ◌∙◌, ap, refl, arith}
use Rattle.std.proofs.lemmas.Bool.{false≢true}
use Rattle.bm_base.specs.declared.area.Area.TheVariants.{Input}
use Rattle.bm_base.specs.Shape.{stripes, load_stripes}
use Rattle.bm_base.specs.Records.{record_in}
use Rattle.bm_base.proofs.ShapeLemmas.{load_in_area}
use Rattle.bm_rack.proofs.FrameLemmas.{ChangesOnly-trans, ChangesOnly-wider, Keeps-trans}
use Rattle.bm_stripe.proofs.UnitLemmas.{IsLoadUnit-area}
use Rattle.bm_base.specs.Shape.{load_size, input_size}
use Rattle.bm_base.proofs.ShapeLemmas.{loads_rows, loads_records}
use Rattle.bm_rack.proofs.CallLemmas.{MovesRows-part, MovesRows-next, MovesRows-failed, MovesRows-all}
use Rattle.bm_base.proofs.CaseLemmas.{ok_of_no_error}
use Rattle.bm_job.proofs.AreaLoadLemmas.{loads_written}
use Rattle.bm_disks.proofs.LoadLemmas.{record_of_fill, left_after_fill, input_fits, load_bytes_fit, load_start_fits, ends_in_load}
use Rattle.bm_disks.proofs.LoadLemmas.{all_bytes, IsRead-later}
use Rattle.bm_disks.proofs.input_loads.read_loads.Goals as goal

pub returns-in-Err-Fault-clause-moved : goal.returns-in-Err-Fault-clause-moved
returns-in-Err-Fault-clause-moved g c =
    let s = c.args.shape.now in
    let load = c.loop-load.load in
    let rows = load_stripes s in
    let few : load * rows + rows ≤ stripes s = load_in_area s load (omega (arith, c.loads-load-end.ensures)) in
    MovesRows-part (load * rows) (stripes s) _ _ _ _ (omega arith) (λ f. absurd (false≢true f)) c.loop-load.invariant.moved

pub overflow_mul-result : goal.overflow_mul-result
overflow_mul-result g c =
    let s = c.args.shape.now in
    let start = load_start_fits s c.loop-load.load (omega (arith, c.loads-load-end.ensures)) in
    rw c.load_bytes-size.ensures (omega (arith, start))

pub overflow_add-result : goal.overflow_add-result
overflow_add-result g c =
    let s = c.args.shape.now in
    let short = c.in-Err-Short.ensures.short c.in-Err-Short.got (ap Err c.in-Err-Short.field-0-is) in
    let few = load_bytes_fit s c.loop-load.load (omega (arith, c.loads-load-end.ensures)) in
    rw (c.in-Err-Short.field-0-is, c.load_bytes-size.ensures)
    (omega (arith, short.0, c.loop-load.auto.buf, c.requires.size, input_fits s, few))

pub returns-in-Err-Short-clause-short : goal.returns-in-Err-Short-clause-short
returns-in-Err-Short-clause-short g c =
    let s = c.args.shape.now in
    let told = g.S.Source.tells in
    let inv = c.loop-load.invariant in
    let size : length c.loop-load.buf ≡ load_size s = c.loop-load.auto.buf ∙ c.requires.size in
    let short = c.in-Err-Short.ensures.short c.in-Err-Short.got (ap Err c.in-Err-Short.field-0-is) in
    let below : c.loop-load.load < 2 ^ (s.n - s.m) = omega (arith, c.loads-load-end.ensures) in
    let all = g.S.Source.left c.args.input.now in
    let whole = ends_in_load told s c.loop-load.load c.in-Err-Short.got all _ _ below inv.whole inv.taken (rw size at short) in
    rw (c.in-Err-Short.field-0-is, c.load_bytes-size.ensures)
    (λ n same. let e : c.loop-load.load * load_size s + c.in-Err-Short.got ≡ n = cc in rw e at whole)

pub returns-in-Err-Short-clause-moved : goal.returns-in-Err-Short-clause-moved
returns-in-Err-Short-clause-moved g c =
    let s = c.args.shape.now in
    let load = c.loop-load.load in
    let rows = load_stripes s in
    let few : load * rows + rows ≤ stripes s = load_in_area s load (omega (arith, c.loads-load-end.ensures)) in
    MovesRows-part (load * rows) (stripes s) _ _ _ _ (omega arith) (λ f. absurd (false≢true f)) c.loop-load.invariant.moved

pub returns-then-is_err-clause-only : goal.returns-then-is_err-clause-only
returns-then-is_err-clause-only g c =
    let s = c.args.shape.now in
    let below : c.loop-load.load < 2 ^ (s.n - s.m) = omega (arith, c.loads-load-end.ensures) in
    ChangesOnly-trans _ _ _ _ c.loop-load.invariant.only
    (ChangesOnly-wider _ _ _ _ (λ u. IsLoadUnit-area s Input c.loop-load.load u below) c.write_load.ensures.only)

pub returns-then-is_err-clause-moved : goal.returns-then-is_err-clause-moved
returns-then-is_err-clause-moved g c =
    let s = c.args.shape.now in
    let load = c.loop-load.load in
    let rows = load_stripes s in
    let few : load * rows + rows ≤ stripes s = load_in_area s load (omega (arith, c.loads-load-end.ensures)) in
    MovesRows-failed (load * rows) rows (stripes s) _ _ _ _ _ few false≢true c.loop-load.invariant.moved
    c.write_load.ensures.moved

pub loop-load-preserved : goal.loop-load-preserved
loop-load-preserved g c =
    let s = c.args.shape.now in
    let load = c.loop-load.load in
    let inv = c.loop-load.invariant in
    let below : load < 2 ^ (s.n - s.m) = omega (arith, c.loads-load-end.ensures) in
    let write_ok = ok_of_no_error c.write_load.result c.if-is_err.ensures.value in
    let size : length c.fill.new.into ≡ load_size s = c.fill.auto.into ∙ c.loop-load.auto.buf ∙ c.requires.size in
    let all = g.S.Source.left c.args.input.now in
    let left = g.S.Source.left c.fill.new.source in
    let after = λ (told : IsTrue g.S.Source.tells). left_after_fill (load_size s) load all (g.S.Source.left c.loop-load.input)
    c.fill.new.into left
    (inv.whole told) (inv.taken told) (c.in-Ok.ensures.whole told refl) size in
    record {
      only = ChangesOnly-trans _ _ _ _ inv.only
          (ChangesOnly-wider _ _ _ _ (λ u. IsLoadUnit-area s Input load u below) c.write_load.ensures.only);
      moved = MovesRows-next (load_stripes s) load _ _ _ _ write_ok inv.moved c.write_load.ensures.moved;
      keeps = Keeps-trans _ _ _ inv.keeps c.write_load.ensures.keeps;
      whole = λ told. (after told).0;
      taken = λ told. (after told).1;
      records = λ told rack. loads_written s Input load _ _ (record_in s all) c.write_load.ensures.only (inv.records told rack)
          (λ i few. c.write_load.ensures.records rack write_ok i few
          ∙ record_of_fill (2 ^ s.m) s.width load i all c.fill.new.into left few size
          (sym (inv.taken told) ∙ c.in-Ok.ensures.whole told refl));
      faults = omega (arith, inv.faults, c.fill.ensures.faults);
      size = inv.size;
    }

pub returns-clause-whole : goal.returns-clause-whole
returns-clause-whole g c told ok =
    let all = all_bytes c.args.shape.now c.loop-load.load (omega (arith, c.loads-load-end.ensures)) in
    rw all at (c.loop-load.invariant.whole told)

pub returns-clause-taken : goal.returns-clause-taken
returns-clause-taken g c told ok =
    let all = all_bytes c.args.shape.now c.loop-load.load (omega (arith, c.loads-load-end.ensures)) in
    rw all at (c.loop-load.invariant.taken told)

pub returns-clause-records : goal.returns-clause-records
returns-clause-records g c told rack ok x below =
    let s = c.args.shape.now in
    let last : c.loop-load.load ≡ 2 ^ (s.n - s.m) = omega (arith, c.loads-load-end.ensures) in
    let all : 2 ^ s.m * c.loop-load.load ≡ 2 ^ s.n = ap (λ (k : ℕ). 2 ^ s.m * k) last ∙ loads_records s in
    c.loop-load.invariant.records told rack x (omega arith)

pub returns-clause-moved : goal.returns-clause-moved
returns-clause-moved g c =
    let s = c.args.shape.now in
    let last : c.loop-load.load ≡ 2 ^ (s.n - s.m) = omega (arith, c.loads-load-end.ensures) in
    let all : c.loop-load.load * load_stripes s ≡ stripes s = ap (λ (x : ℕ). x * load_stripes s) last ∙ loads_rows s in
    MovesRows-all (c.loop-load.load * load_stripes s) (stripes s) _ _ _ all c.loop-load.invariant.moved

pub returns-in-Err-Fault-clause-few : goal.returns-in-Err-Fault-clause-few
returns-in-Err-Fault-clause-few g c told =
    let s = c.args.shape.now in
    let fits = load_bytes_fit s c.loop-load.load (omega (arith, c.loads-load-end.ensures)) in
    let size : length c.loop-load.buf ≡ load_size s = c.loop-load.auto.buf ∙ c.requires.size in
    IsRead-later (load_size s * c.loop-load.load) (load_size s) (input_size s) _ _ _ (omega (arith, fits))
    (c.loop-load.invariant.taken told)
    (rw size at (c.fill.ensures.few told))

pub returns-in-Err-Short-clause-few : goal.returns-in-Err-Short-clause-few
returns-in-Err-Short-clause-few g c told =
    let s = c.args.shape.now in
    let fits = load_bytes_fit s c.loop-load.load (omega (arith, c.loads-load-end.ensures)) in
    let size : length c.loop-load.buf ≡ load_size s = c.loop-load.auto.buf ∙ c.requires.size in
    IsRead-later (load_size s * c.loop-load.load) (load_size s) (input_size s) _ _ _ (omega (arith, fits))
    (c.loop-load.invariant.taken told)
    (rw size at (c.fill.ensures.few told))

pub returns-then-is_err-clause-few : goal.returns-then-is_err-clause-few
returns-then-is_err-clause-few g c told =
    let s = c.args.shape.now in
    let fits = load_bytes_fit s c.loop-load.load (omega (arith, c.loads-load-end.ensures)) in
    let size : length c.loop-load.buf ≡ load_size s = c.loop-load.auto.buf ∙ c.requires.size in
    IsRead-later (load_size s * c.loop-load.load) (load_size s) (input_size s) _ _ _ (omega (arith, fits))
    (c.loop-load.invariant.taken told)
    (rw size at (c.fill.ensures.few told))

pub returns-clause-few : goal.returns-clause-few
returns-clause-few g c told =
    let all = all_bytes c.args.shape.now c.loop-load.load (omega (arith, c.loads-load-end.ensures)) in
    (input_size c.args.shape.now, omega arith, rw all at (c.loop-load.invariant.taken told))
