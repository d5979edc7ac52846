use Rattle.std.proofs.Common.{refl, ◌∙◌}
use Rattle.bm_rack.proofs.FrameLemmas.{Keeps-trans, SameState-trans}
use Rattle.bm_mirror.proofs.HealLemmas.{StaysAttached-more, place_filled}
use Rattle.bm_mirror.proofs.copying.copy_rows.Goals as goal

pub loop-place-preserved : goal.loop-place-preserved
loop-place-preserved g c =
    let from = g.F.Rack.view in
    let to = g.T.Rack.view in
    let inv = c.loop-place.invariant in
    let call = c.copy_row.ensures in
    record {
      same = SameState-trans _ _ _ inv.same call.same;
      read_keeps = Keeps-trans _ _ _ inv.read_keeps call.read_keeps;
      stays = StaysAttached-more _ _ _ _ inv.stays call.changes call.write_keeps;
      dims = refl;
      row = c.copy_row.auto.row ∙ inv.row;
      copied = λ from_told to_told. place_filled c.args.dims.now c.loop-place.place (from c.args.from.now).contents
          (from c.loop-place.from).contents (to c.loop-place.to) (to c.copy_row.new.to) inv.same.contents call.changes
          (c.in-Ok.ensures.copied from_told to_told refl) (inv.copied from_told to_told);
    }
