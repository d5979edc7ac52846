use Rattle.std.proofs.Common.{◌≡◌, ◌+◌, ◌*◌, ◌/◌, ◌^◌, ◌<◌, ◌≤◌, w64, bit_xor, slice_index, sym, ap, ◌∙◌, subst, arith}
use Rattle.std.specs.Int.{trailing_ones}
use Rattle.std.proofs.Math.Pow.{pow_mono}
use Rattle.bm_gf2.specs.Matrix.{column}
use Rattle.bm_bufs.specs.Places.{places_by, PlacesRecords}
use Rattle.bm_bufs.proofs.PlacesLemmas.{places_by-injective}
use Rattle.bm_bufs.proofs.StepLemmas.{has_entry, next_affine}
use Rattle.bm_bufs.proofs.FourLemmas.{four_of, place_fits, row_fits, PlacesRecords-four}
use Rattle.bm_bufs.proofs.record_copy.place_fours_w.Goals as goal

pub copy_record_w-requires-clause-to : goal.copy_record_w-requires-clause-to
copy_record_w-requires-clause-to g c =
    let a = c.args.a.now in
    let inv = c.loop-q.invariant in
    place_fits a c.args.plus _ c.loop-q.here g.row.W _ c.requires.plus inv.here (inv.placed.size ∙ c.requires.load)

pub copy_record_w-requires-in-loop-q-clause-to : goal.copy_record_w-requires-in-loop-q-clause-to
copy_record_w-requires-in-loop-q-clause-to g c =
    let a = c.args.a.now in
    let inv = c.loop-q.invariant in
    let places = four_of a c.args.plus c.args.first c.loop-q.q c.loop-q.here c.requires.bits c.requires.first_whole inv.here in
    place_fits a c.args.plus _ _ g.row.W _ c.requires.plus places.second (c.copy_record_w.ensures.size ∙ inv.placed.size ∙ c.requires.load)

pub copy_record_w-requires-in-loop-q-clause-from : goal.copy_record_w-requires-in-loop-q-clause-from
copy_record_w-requires-in-loop-q-clause-from g c =
    row_fits (4 * c.loop-q.q + 1) c.args.count g.row.W _
    (omega (arith, c.loop-q-test.true, c.loop-q.auto.q-end, c.requires.count_whole)) c.requires.row

pub copy_record_w-requires-in-loop-q-2-clause-to : goal.copy_record_w-requires-in-loop-q-2-clause-to
copy_record_w-requires-in-loop-q-2-clause-to g c =
    let a = c.args.a.now in
    let inv = c.loop-q.invariant in
    let places = four_of a c.args.plus c.args.first c.loop-q.q c.loop-q.here c.requires.bits c.requires.first_whole inv.here in
    place_fits a c.args.plus _ _ g.row.W _ c.requires.plus places.third
    (c.copy_record_w-in-loop-q.ensures.size ∙ c.copy_record_w.ensures.size ∙ inv.placed.size ∙ c.requires.load)

pub copy_record_w-requires-in-loop-q-2-clause-from : goal.copy_record_w-requires-in-loop-q-2-clause-from
copy_record_w-requires-in-loop-q-2-clause-from g c =
    row_fits (4 * c.loop-q.q + 2) c.args.count g.row.W _
    (omega (arith, c.loop-q-test.true, c.loop-q.auto.q-end, c.requires.count_whole)) c.requires.row

pub copy_record_w-requires-in-loop-q-3-clause-to : goal.copy_record_w-requires-in-loop-q-3-clause-to
copy_record_w-requires-in-loop-q-3-clause-to g c =
    let a = c.args.a.now in
    let inv = c.loop-q.invariant in
    let places = four_of a c.args.plus c.args.first c.loop-q.q c.loop-q.here c.requires.bits c.requires.first_whole inv.here in
    place_fits a c.args.plus _ _ g.row.W _ c.requires.plus places.fourth
    (c.copy_record_w-in-loop-q-2.ensures.size ∙ c.copy_record_w-in-loop-q.ensures.size ∙ c.copy_record_w.ensures.size ∙ inv.placed.size
    ∙ c.requires.load)

pub copy_record_w-requires-in-loop-q-3-clause-from : goal.copy_record_w-requires-in-loop-q-3-clause-from
copy_record_w-requires-in-loop-q-3-clause-from g c =
    row_fits (4 * c.loop-q.q + 3) c.args.count g.row.W _
    (omega (arith, c.loop-q-test.true, c.loop-q.auto.q-end, c.requires.count_whole)) c.requires.row

pub bounds-fours-trailing_ones : goal.bounds-fours-trailing_ones
bounds-fours-trailing_ones g c =
    let a = c.args.a.now in
    let most : 2 ^ a.n ≤ 2 ^ 52 = pow_mono {i = a.n} {j = 52} a.few in
    let short : c.args.first / 4 + c.loop-q.q < 2 ^ 52 =
    omega (arith, most, c.requires.numbers, c.loop-q-test.true, c.loop-q.auto.q-end, c.requires.count_whole) in
    subst (λ x. x < 53) (sym c.trailing_ones.ensures) (has_entry (c.args.first / 4 + c.loop-q.q) short)

pub loop-q-preserved : goal.loop-q-preserved
loop-q-preserved g c =
    let a = c.args.a.now in
    let plus = c.args.plus in
    let first = c.args.first in
    let q = c.loop-q.q in
    let inv = c.loop-q.invariant in
    let table = c.step_table-fours.result in
    let most : 2 ^ a.n ≤ 2 ^ 52 = pow_mono {i = a.n} {j = 52} a.few in
    let short : first / 4 + q < 2 ^ 52 =
    omega (arith, most, c.requires.numbers, c.loop-q-test.true, c.loop-q.auto.q-end, c.requires.count_whole) in
    let places = four_of a plus first q c.loop-q.here c.requires.bits c.requires.first_whole inv.here in
    record {
      here = ap (λ x. bit_xor c.loop-q.here (slice_index table x)) c.trailing_ones.ensures
          ∙ ap (λ x. bit_xor x (slice_index table (trailing_ones w64 (first / 4 + q)))) inv.here
          ∙ next_affine (column a) a.n 2 (first / 4 + q) plus table c.step_table-fours.ensures short
          ∙ ap (λ x. places_by a plus (x * 2 ^ 2)) (let e : first / 4 + q + 1 ≡ first / 4 + (q + 1) = omega arith in e);
      placed = subst (λ k. PlacesRecords (places_by a plus) a.n g.row.W first k c.args.row.now c.args.load.now
          c.copy_record_w-in-loop-q-3.new.to)
          (let e : 4 * q + 4 ≡ 4 * (q + 1) = omega arith in e)
          (PlacesRecords-four (places_by a plus) a.n g.row.W first (4 * q) _ _ _ _ c.args.row.now c.args.load.now c.loop-q.load
          c.copy_record_w.new.to c.copy_record_w-in-loop-q.new.to c.copy_record_w-in-loop-q-2.new.to c.copy_record_w-in-loop-q-3.new.to
          (places_by-injective a plus c.requires.nonsingular)
          (omega (arith, c.requires.numbers, c.loop-q-test.true, c.loop-q.auto.q-end, c.requires.count_whole))
          places.first places.second places.third places.fourth inv.placed
          (record { copied = c.copy_record_w.ensures.copied; others = c.copy_record_w.ensures.others; size = c.copy_record_w.ensures.size })
          (record {
            copied = c.copy_record_w-in-loop-q.ensures.copied;
            others = c.copy_record_w-in-loop-q.ensures.others;
            size = c.copy_record_w-in-loop-q.ensures.size;
          })
          (record {
            copied = c.copy_record_w-in-loop-q-2.ensures.copied;
            others = c.copy_record_w-in-loop-q-2.ensures.others;
            size = c.copy_record_w-in-loop-q-2.ensures.size;
          })
          (record {
            copied = c.copy_record_w-in-loop-q-3.ensures.copied;
            others = c.copy_record_w-in-loop-q-3.ensures.others;
            size = c.copy_record_w-in-loop-q-3.ensures.size;
          }));
    }
