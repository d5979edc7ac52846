use Rattle.std.proofs.Common.{◌+◌, ◌*◌, ◌/◌, ◌<◌, ◌≤◌, ◌^◌, ◌∙◌, ℕ, bit_xor, sym, ap, subst, arith}
use Rattle.std.proofs.lemmas.Bool.{false≢true}
use Rattle.std.proofs.lemmas.Nat.{xor_lt}
use Rattle.bm_gf2.specs.Matrix.{image, column}
use Rattle.bm_bufs.specs.Places.{places_by}
use Rattle.bm_bufs.specs.Runs.{KeepsRuns}
use Rattle.bm_split.specs.Tiling.{IsInTile}
use Rattle.bm_split.proofs.StepLemmas.{goes_home, two_steps}
use Rattle.bm_split.proofs.TilingLemmas.{near_in_tile, tile_moves, tile_start}
use Rattle.bm_split.proofs.RunMapLemmas.{run_shape}
use Rattle.bm_split.proofs.splitting.split_placing.Goals as goal

pub returns-in_default-clause-exact : goal.returns-in_default-clause-exact
returns-in_default-clause-exact c = λ some few.
    let a = c.args.placing.now.a in
    absurd (false≢true (c.in_default.ensures.kept.1 (run_shape a.n c.args.low a.few some few (omega (arith, c.requires.low)))))

pub tile_map-inner-requires-clause-plus : goal.tile_map-inner-requires-clause-plus
tile_map-inner-requires-clause-plus c =
    let p = c.args.placing.now in
    let rest = c.mul-rest.result in
    xor_lt rest.n p.plus c.apply.result (subst (λ k. p.plus < 2 ^ k) (sym c.mul-rest.ensures.size) c.requires.plus) c.apply.ensures.below

pub tile_map-inner-requires-clause-home : goal.tile_map-inner-requires-clause-home
tile_map-inner-requires-clause-home c =
    let a = c.args.placing.now.a in
    λ y l.
    goes_home a c.outer_placing-outer.result.a c.in-Ok-inverse.a_back c.in-Ok-inverse-2.outer_back c.mul-rest.result c.mul-home.result y
    c.outer_placing-outer.ensures.size c.in-Ok-inverse.ensures.undone c.in-Ok-inverse-2.ensures.undone c.mul-rest.ensures.composes
    c.mul-home.ensures.composes (subst (λ k. y < 2 ^ k) c.mul-rest.ensures.size l)

pub tile_map-inner-requires-clause-moves : goal.tile_map-inner-requires-clause-moves
tile_map-inner-requires-clause-moves c =
    let a = c.args.placing.now.a in
    let low = c.args.low in
    let outer = c.outer_placing-outer.result.a in
    let basis = c.tile_basis.result in
    let tile = low + c.rank_of.result in
    let images = λ (x : ℕ) (l : x < 2 ^ low).
    subst (λ k. IsInTile basis (low + k) (image a x / 2 ^ low * 2 ^ low)) (sym c.rank_of.ensures.rank) (c.tile_basis.ensures.images x l) in
    λ y l.
    tile_moves a outer c.in-Ok-inverse.a_back c.mul-home.result basis tile c.outer_placing-outer.ensures.size c.in-Ok-inverse.ensures.undone
    c.mul-home.ensures.composes
    (λ j h. near_in_tile a basis low tile (bit_xor (column a j) (column outer j)) (omega arith) c.tile_basis.ensures.lows images
    (c.outer_placing-outer.ensures.near j h))
    y (subst (λ k. y < 2 ^ k) c.mul-rest.ensures.size l)

pub tile_map-inner-requires-clause-start : goal.tile_map-inner-requires-clause-start
tile_map-inner-requires-clause-start c =
    let p = c.args.placing.now in
    let low = c.args.low in
    let outer = c.outer_placing-outer.result in
    let home = c.mul-home.result in
    let up : outer.plus < 2 ^ p.a.n = subst (λ k. outer.plus < 2 ^ k) c.outer_placing-outer.ensures.size c.outer_placing-outer.ensures.plus
    in
    tile_start home c.tile_basis.result low (low + c.rank_of.result) p.plus outer.plus c.apply.result (omega arith)
    c.tile_basis.ensures.lows
    (tile_map-inner-requires-clause-moves c p.plus (subst (λ k. p.plus < 2 ^ k) (sym c.mul-rest.ensures.size) c.requires.plus))
    (ap (image home) c.apply.ensures.value
    ∙ tile_map-inner-requires-clause-home c outer.plus (subst (λ k. outer.plus < 2 ^ k) (sym c.mul-rest.ensures.size) up))
    c.outer_placing-outer.ensures.constant

pub returns-clause-split : goal.returns-clause-split
returns-clause-split c =
    let p = c.args.placing.now in
    let outer = c.outer_placing-outer.result in
    let t = c.tile_map-inner.result in
    let rest = c.mul-rest.result in
    let is = c.tile_map-inner.ensures.placing in
    record {
      outer = record {
        count = c.outer_placing-outer.ensures.size;
        width = c.outer_placing-outer.ensures.width;
        plus = c.outer_placing-outer.ensures.plus;
      };
      inner = record {
        count = ap (λ q. q.a.n) is ∙ c.mul-rest.ensures.size;
        width = ap (λ q. q.width) is;
        plus = t.plus_in;
      };
      nonsingular = c.outer_placing-outer.ensures.nonsingular;
      runs = subst (λ k. KeepsRuns outer.a outer.plus k) (sym c.tile_map-inner.ensures.low) c.outer_placing-outer.ensures.runs;
      tile = subst (λ k. k ≤ c.args.room) (sym c.tile_map-inner.ensures.tile) (omega arith);
      composes = λ x l.
          ap (λ q. places_by q.a q.plus (places_by outer.a outer.plus x)) is
          ∙ ap (λ r. places_by rest (bit_xor p.plus r) (places_by outer.a outer.plus x)) c.apply.ensures.value
          ∙ two_steps p.a outer.a c.in-Ok-inverse-2.outer_back rest p.plus outer.plus x c.outer_placing-outer.ensures.size
          c.in-Ok-inverse-2.ensures.undone c.mul-rest.ensures.composes l;
    }
