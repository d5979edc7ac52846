use Rattle.std.proofs.Common.{◌≡◌, ◌+◌, length, ◌∙◌, ap, arith}
use Rattle.bm_bufs.specs.Bufs.{with_row}
use Rattle.bm_pass.proofs.PlaceLemmas.{HasPlaces-row, FitsShape-row_read, first_of_row}
use Rattle.pass_tests.proofs.placing_rows.place_row.Goals as goal

pub place_row-requires : goal.place_row-requires
place_row-requires c =
    let s = c.args.shape.now in
    let lists = c.args.bufs.now in
    let bytes = c.copy_from_slice.new.self in
    let long : length bytes ≡ length lists.row = c.copy_from_slice.auto.self ∙ ap length c.row_mut.ensures.value in
    let bits : c.b.result + c.d.result ≡ s.b + s.d = omega (arith, c.b.ensures, c.d.ensures) in
    record {
      places = HasPlaces-row s c.args.placing.now c.args.row _ (with_row lists bytes) c.requires.placing
          (FitsShape-row_read s lists bytes long c.requires.fits) c.requires.row
          (first_of_row s c.args.row (c.b.result + c.d.result) c.requires.row bits);
    }
