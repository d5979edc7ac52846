use Rattle.std.proofs.Common.{◌≡◌, ◌+◌, ◌*◌, ◌/◌, ◌%◌, ◌^◌, ◌<◌, ◌≤◌, sym, ap, ◌∙◌, subst, arith}
use Rattle.std.proofs.lemmas.Nat.{one_shl}
use Rattle.bm_bufs.specs.Places.{places_by, PlacesRecords}
use Rattle.bm_bufs.proofs.RunLemmas.{run_nonsingular, PlacesRecords-runs, runs_of_load, runs_of_row, runs_inside, run_fits}
use Rattle.bm_bufs.proofs.record_copy.place_in_runs.Goals as goal
use Rattle.bm_base.proofs.PowerLemmas.{cut_below}

pub overflow_mul-run : goal.overflow_mul-run
overflow_mul-run c =
    let a = c.args.a.now in
    let low = c.run_bits-low.result in
    let keeps = c.run_bits-low.ensures.keeps in
    let whole : 1 * 2 ^ low % 2 ^ 64 ≡ 2 ^ low = one_shl low 64 (omega (arith, keeps.inside, a.few)) in
    let less = run_fits a.n low c.args.width (omega (arith, keeps.inside)) in
    rw whole (omega (arith, less, c.requires.load))

pub place_known-requires-clause-nonsingular : goal.place_known-requires-clause-nonsingular
place_known-requires-clause-nonsingular c =
    run_nonsingular c.args.a.now c.run_matrix-runs.result c.args.plus c.run_bits-low.result c.run_bits-low.ensures.keeps
    c.run_matrix-runs.ensures c.requires.nonsingular

pub place_known-requires-clause-plus : goal.place_known-requires-clause-plus
place_known-requires-clause-plus c =
    let low = c.run_bits-low.result in
    subst (λ k. c.args.plus / 2 ^ low < 2 ^ k) (sym c.run_matrix-runs.ensures.size)
    (cut_below c.args.a.now.n low c.args.plus (omega (arith, c.run_bits-low.ensures.keeps.inside)) c.requires.plus)

pub place_known-requires-clause-load : goal.place_known-requires-clause-load
place_known-requires-clause-load c =
    let a = c.args.a.now in
    let low = c.run_bits-low.result in
    let keeps = c.run_bits-low.ensures.keeps in
    let whole : 1 * 2 ^ low % 2 ^ 64 ≡ 2 ^ low = one_shl low 64 (omega (arith, keeps.inside, a.few)) in
    c.requires.load ∙ runs_of_load a.n low c.args.width (omega (arith, keeps.inside))
    ∙ ap (λ k. 2 ^ k * (2 ^ low * c.args.width)) (sym c.run_matrix-runs.ensures.size)
    ∙ ap (λ k. 2 ^ c.run_matrix-runs.result.n * (k * c.args.width)) (sym whole)

pub place_known-requires-clause-row : goal.place_known-requires-clause-row
place_known-requires-clause-row c =
    let a = c.args.a.now in
    let low = c.run_bits-low.result in
    let whole : 1 * 2 ^ low % 2 ^ 64 ≡ 2 ^ low = one_shl low 64 (omega (arith, c.run_bits-low.ensures.keeps.inside, a.few)) in
    let row = runs_of_row c.args.count low c.args.width c.run_bits-low.ensures.count in
    rw whole (omega (arith, row, c.requires.row))

pub place_known-requires-clause-numbers : goal.place_known-requires-clause-numbers
place_known-requires-clause-numbers c =
    let a = c.args.a.now in
    let low = c.run_bits-low.result in
    subst (λ k. c.args.first / 2 ^ low + c.args.count / 2 ^ low ≤ 2 ^ k) (sym c.run_matrix-runs.ensures.size)
    (runs_inside a.n low c.args.first c.args.count
    (omega (arith, c.run_bits-low.ensures.keeps.inside)) c.run_bits-low.ensures.first c.run_bits-low.ensures.count c.requires.numbers)

pub returns : goal.returns
returns c =
    let a = c.args.a.now in
    let plus = c.args.plus in
    let low = c.run_bits-low.result in
    let runs = c.run_matrix-runs.result in
    let keeps = c.run_bits-low.ensures.keeps in
    let whole : 1 * 2 ^ low % 2 ^ 64 ≡ 2 ^ low = one_shl low 64 (omega (arith, keeps.inside, a.few)) in
    record {
      placed = PlacesRecords-runs a runs plus low c.args.width c.args.first c.args.count c.args.row.now c.args.load.now
          c.place_known.new.load keeps c.run_matrix-runs.ensures
          c.run_bits-low.ensures.first c.run_bits-low.ensures.count
          (subst (λ k. PlacesRecords (places_by runs (plus / 2 ^ low)) runs.n (k * c.args.width) (c.args.first / 2 ^ low)
          (c.args.count / 2 ^ low) c.args.row.now c.args.load.now c.place_known.new.load) whole
          c.place_known.ensures.placed);
    }
