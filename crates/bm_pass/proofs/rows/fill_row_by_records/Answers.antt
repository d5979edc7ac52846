use Rattle.std.proofs.Common.{◌≡◌, length, refl, ◌∙◌, ap}
use Rattle.bm_base.specs.Records.{record_in}
use Rattle.bm_bufs.specs.Bufs.{with_row}
use Rattle.bm_pass.proofs.PlaceLemmas.{HasPlaces-row, HoldsRowsOfLoad-row, FitsShape-row_read, row_read}
use Rattle.bm_pass.proofs.rows.fill_row_by_records.Goals as goal

pub place_row-requires : goal.place_row-requires
place_row-requires g c =
    let s = c.args.shape.now in
    let lists = c.args.bufs.now in
    let bytes = c.read_stripe.new.buf in
    let long : length bytes ≡ length lists.row = c.read_stripe.auto.buf ∙ ap length c.row_mut.ensures.value in
    record {
      places = HasPlaces-row s c.args.placing.now c.args.row _ (with_row lists bytes) c.requires.placing
          (FitsShape-row_read s lists bytes long c.requires.fits) c.requires.row c.first_number.ensures.number;
    }

pub returns-clause-records : goal.returns-clause-records
returns-clause-records g c told before =
    let s = c.args.shape.now in
    let lists = c.args.bufs.now in
    let bytes = c.read_stripe.new.buf in
    let long : length bytes ≡ length lists.row = c.read_stripe.auto.buf ∙ ap length c.row_mut.ensures.value in
    let read = rw c.stripe_of-stripe.ensures.number at (c.in_ok-read_stripe.ensures.records told refl) in
    HoldsRowsOfLoad-row s c.args.placing.now c.args.from c.args.load c.args.row _ (g.R.Rack.view c.args.rack.now).contents
    (with_row lists bytes) c.place_row.new.self c.requires.placing
    (FitsShape-row_read s lists bytes long c.requires.fits) c.requires.row c.first_number.ensures.number before
    (λ r below. ap (λ row. record_in s row r) (row_read lists bytes long) ∙ read r below)
    c.place_row.ensures.placed
