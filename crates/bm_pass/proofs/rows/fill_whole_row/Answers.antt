use Rattle.std.proofs.Common.{◌≡◌, ◌+◌, ◌*◌, ◌^◌, length, bit_xor, sym, ap, ◌∙◌, subst, arith}
use Rattle.bm_base.specs.Records.{record_in}
use Rattle.bm_gf2.specs.Matrix.{image}
use Rattle.bm_bufs.specs.Places.{places_by}
use Rattle.bm_pass.specs.LoadPlaces.{HoldsRowsOfLoad}
use Rattle.bm_pass.proofs.CaseLemmas.{on_ok_from}
use Rattle.bm_pass.proofs.PlaceLemmas.{load_mixed}
use Rattle.bm_pass.proofs.RowLemmas.{whole_row_bytes, HoldsRowsOfLoad-whole}
use Rattle.bm_pass.proofs.rows.fill_whole_row.Goals as goal

pub read_stripe_into-requires-clause-room : goal.read_stripe_into-requires-clause-room
read_stripe_into-requires-clause-room g c =
    let s = c.args.shape.now in
    let p = c.args.placing.now in
    let at = bit_xor p.plus c.apply.result in
    let here : at ≡ places_by p.a p.plus (c.args.row * 2 ^ (s.b + s.d)) =
    ap (bit_xor p.plus) (c.apply.ensures.value ∙ ap (image p.a) c.first_number.ensures.number) in
    let room = whole_row_bytes s p c.args.row at c.requires.placing c.requires.runs c.requires.row here in
    let width : c.from.result ≡ s.width = omega (arith, c.from.ensures, c.width.ensures) in
    let row : length c.row-size.result.now ≡ 2 ^ (s.b + s.d) * s.width = ap length c.row-size.ensures ∙ c.requires.fits.row in
    let load : length c.load_mut.result.now ≡ 2 ^ s.m * s.width = ap length c.load_mut.ensures.value ∙ c.requires.fits.load in
    rw width (omega (arith, room, row, load))

pub returns-clause-records : goal.returns-clause-records
returns-clause-records g c told =
    let s = c.args.shape.now in
    let p = c.args.placing.now in
    let lists = c.args.bufs.now in
    let bytes = c.read_stripe_into.new.bytes in
    let contents = (g.R.Rack.view c.args.rack.now).contents in
    let at = bit_xor p.plus c.apply.result in
    let here : at ≡ places_by p.a p.plus (c.args.row * 2 ^ (s.b + s.d)) =
    ap (bit_xor p.plus) (c.apply.ensures.value ∙ ap (image p.a) c.first_number.ensures.number) in
    let width : c.from.result ≡ s.width = omega (arith, c.from.ensures, c.width.ensures) in
    let start : at * c.from.result ≡ at * s.width = ap (λ w. at * w) width in
    let long : length bytes ≡ length lists.load = c.read_stripe_into.ensures.size ∙ ap length c.load_mut.ensures.value in
    let all = load_mixed lists bytes long in
    on_ok_from c.read_stripe_into.result (λ ok before.
    subst (HoldsRowsOfLoad s p c.args.from c.args.load contents (c.args.row + 1)) (sym all)
    (HoldsRowsOfLoad-whole s p c.args.from c.args.load c.args.row at contents lists.load bytes c.requires.placing c.requires.runs
    c.requires.row here before
    (λ r below. rw c.stripe_of-stripe.ensures.number at (c.read_stripe_into.ensures.records at start told ok r below))
    (λ k beside. c.read_stripe_into.ensures.others at k start beside ∙ ap (λ l. record_in s l k) c.load_mut.ensures.value)))
