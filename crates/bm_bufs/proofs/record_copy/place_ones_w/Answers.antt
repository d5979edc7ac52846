use Rattle.std.proofs.Common.{◌≡◌, ◌+◌, ◌%◌, ◌^◌, ◌<◌, bit_xor, ap, ◌∙◌, arith}
use Rattle.std.proofs.Math.Nat.{mod-eq_of_lt}
use Rattle.bm_gf2.specs.Matrix.{image}
use Rattle.bm_bufs.specs.Places.{places_by}
use Rattle.bm_bufs.proofs.PlacesLemmas.{places_by-injective, PlacesRecords-more}
use Rattle.bm_bufs.proofs.record_copy.place_ones_w.Goals as goal

pub loop-r-preserved : goal.loop-r-preserved
loop-r-preserved g c =
    let a = c.args.a.now in
    let plus = c.args.plus in
    let n = a.n in
    let inv = c.loop-r.invariant in
    let r = c.loop-r.r in
    let test = c.loop-r-test.true in
    let short : c.args.first + r < 2 ^ n = omega (arith, c.requires.numbers) in
    let number : c.loop-r.stepper.position ≡ c.args.first + r = inv.position ∙ mod-eq_of_lt short in
    let place : c.here.result ≡ places_by a plus (c.args.first + r) =
    c.here.ensures.value ∙ ap (λ m. bit_xor c.loop-r.stepper.map.c (image m c.loop-r.stepper.position)) inv.matrix
    ∙ ap (λ p. bit_xor p (image a c.loop-r.stepper.position)) inv.plus ∙ ap (places_by a plus) number in
    record {
      matrix = ap (λ m. m.a) c.step.ensures.map ∙ inv.matrix;
      plus = ap (λ m. m.c) c.step.ensures.map ∙ inv.plus;
      position = c.step.ensures.position ∙ ap (λ m. (c.loop-r.stepper.position + 1) % 2 ^ m.n) inv.matrix
          ∙ ap (λ x. x % 2 ^ n) (let e : c.loop-r.stepper.position + 1 ≡ c.args.first + (r + 1) = omega arith in e);
      placed = PlacesRecords-more (places_by a plus) n g.row.W c.args.first r c.here.result c.args.row.now c.args.load.now c.loop-r.load
          c.copy_record_w.new.to
          (places_by-injective a plus c.requires.nonsingular) short place inv.placed c.copy_record_w.ensures.copied
          c.copy_record_w.ensures.others c.copy_record_w.ensures.size;
    }
