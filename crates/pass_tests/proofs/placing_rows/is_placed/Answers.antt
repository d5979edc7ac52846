use Rattle.std.proofs.Common.{◌≡◌, ◌+◌, ◌*◌, ◌^◌, ◌≤◌, length, sym, ap, ◌∙◌, subst}
use Rattle.std.proofs.Math.Nat.{mul-le-mul_right}
use Rattle.std.proofs.Math.Pow.{pow_mono}
use Rattle.pass_tests.proofs.placing_rows.is_placed.Goals as goal

pub settle-requires : goal.settle-requires
settle-requires c =
    let s = c.args.shape.now in
    let inner = c.args.split.now.inner in
    let is = c.requires.split in
    let lists = c.place_rows-placed.new.bufs in
    let fits = c.place_rows-placed.ensures.fits in
    let bits : inner.placing.a.n ≡ s.m = is.inner.count ∙ c.requires.bits in
    let width : inner.placing.width ≡ s.width = is.inner.width ∙ c.requires.width in
    let tile : 2 ^ inner.tile * s.width ≤ 2 ^ (s.b + s.d) * s.width =
    mul-le-mul_right s.width (pow_mono {i = inner.tile} {j = s.b + s.d} is.tile) in
    record {
      room = record {
        load = fits.load ∙ ap (λ n. 2 ^ n * s.width) (sym bits) ∙ ap (λ w. 2 ^ inner.placing.a.n * w) (sym width);
        row = subst (λ w. 2 ^ inner.tile * w ≤ length lists.row) (sym width) (rw (sym fits.row) at tile);
      };
    }
