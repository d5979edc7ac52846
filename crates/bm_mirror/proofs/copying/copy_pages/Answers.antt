use Rattle.std.proofs.Common.{refl}
use Rattle.bm_rack.proofs.FrameLemmas.{Keeps-trans, SameState-trans}
use Rattle.bm_mirror.proofs.HealLemmas.{StaysAttached-more, page_filled}
use Rattle.bm_mirror.proofs.copying.copy_pages.Goals as goal

pub loop-page-preserved : goal.loop-page-preserved
loop-page-preserved g c =
    let from = g.F.Rack.view in
    let to = g.T.Rack.view in
    let inv = c.loop-page.invariant in
    let call = c.copy_page.ensures in
    record {
      same = SameState-trans _ _ _ inv.same call.same;
      read_keeps = Keeps-trans _ _ _ inv.read_keeps call.read_keeps;
      stays = StaysAttached-more _ _ _ _ inv.stays call.changes call.write_keeps;
      dims = refl;
      copied = λ from_told to_told blocks. page_filled c.args.dims.now c.args.dims.now.places c.loop-page.page
          (from c.args.from.now).contents (from c.loop-page.from).contents (to c.loop-page.to) (to c.copy_page.new.to)
          inv.same.contents call.changes
          (c.in-Ok.ensures.copied from_told to_told refl) (inv.copied from_told to_told blocks);
    }
