use Rattle.std.proofs.Common.{◌≡◌, ℕ, List, length, sym, ap, ◌∙◌}
use Rattle.std.specs.Fork.{slice_chunk}
use Rattle.bm_base.specs.Butterfly.{number_in}
use Rattle.bm_detect.specs.Candidate.{input_number}
use Rattle.bm_detect.proofs.LoadLemmas.{load_addresses, load_taken}
use Rattle.bm_base.proofs.CaseLemmas.{ok_of_no_error, refill_all}
use Rattle.bm_detect.proofs.scan_loads.scan_load.Goals as goal

pub take_load-requires-clause-addresses : goal.take_load-requires-clause-addresses
take_load-requires-clause-addresses g c =
    load_addresses c.args.shape.now c.args.load _ _ _ c.n.ensures c.m-2.ensures c.m.ensures c.requires.load

pub returns-clause-knows : goal.returns-clause-knows
returns-clause-knows g c told knows =
    let s = c.args.shape.now in
    let ys = input_number (g.R.Rack.view c.args.rack.now).contents s in
    let read_ok = ok_of_no_error c.read_load.result c.if-is_err.ensures.value in
    let bytes : c.load.result.now ≡ c.read_load.new.buf =
    c.load.ensures ∙ refill_all c.args.bufs.now.load c.read_load.new.buf
    (c.read_load.auto.buf ∙ ap (λ (b : List ℕ). length b) c.load_mut.ensures.value) in
    load_taken s c.args.load _ _ _ ys c.load.result.now c.args.scan c.take_load.result c.n.ensures c.m-2.ensures c.m.ensures c.requires.load
    (λ i few. ap (λ (b : List ℕ). number_in (slice_chunk b 8 i)) bytes
    ∙ ap (λ (w : ℕ). number_in (slice_chunk c.read_load.new.buf w i)) (sym c.requires.width)
    ∙ ap number_in (c.read_load.ensures.records told read_ok i few))
    (c.take_load.ensures.knows ys) knows
