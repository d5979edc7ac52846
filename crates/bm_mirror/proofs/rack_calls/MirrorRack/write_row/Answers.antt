use Rattle.std.proofs.Common.{◌&&◌, sym, ◌∙◌, refl}
use Rattle.bm_rack.specs.Calls.{RowWritten}
use Rattle.bm_mirror.specs.TwoSides.{two_sides, tells_all}
use Rattle.bm_mirror.proofs.ShownLemmas.{by_settled, shown_row_written}
use Rattle.bm_mirror.proofs.LevelLemmas.{rows_level}
use Rattle.bm_mirror.proofs.SideLemmas.{all_stands, left_stands, right_stands, left_contents, right_contents, sizes_after, mirror_settled}
use Rattle.bm_mirror.proofs.KeepingLemmas.{counted, settled_keeps}
use Rattle.bm_mirror.proofs.rack_calls.MirrorRack.write_row.Goals as goal

pub invariant_of-self-clause-keeps : goal.invariant_of-self-clause-keeps
invariant_of-self-clause-keeps g c =
    let l = g.L.Rack in
    let r = g.G.Rack in
    let ls = l.tells_stands in
    let lc = l.tells_contents in
    let gs = r.tells_stands in
    let gc = r.tells_contents in
    let mirror = c.args.self.now in
    let left = c.write_row_of-left in
    let right = c.write_row_of-right in
    let dims = c.requires.dims in
    let is = c.requires.attached_is in
    mirror_settled (ls && gs) (tells_all ls gs lc gc) (two_sides (l.view mirror.left) (r.view mirror.right) mirror.sides)
    (two_sides (l.view left.new.rack) (r.view right.new.rack) c.settle-answer.new.sides)
    mirror.attached mirror.attached left.result right.result c.settle-answer.result refl mirror.keeps c.settle-answer.ensures
    (λ is_in. (left.ensures.written is_in dims (mirror.keeps.left_attached is_in dims is)).only.attached)
    (λ is_in. (right.ensures.written is_in dims (mirror.keeps.right_attached is_in dims is)).only.attached)
    (λ left_in right_in okx oky level.
    (let a = left.ensures.written left_in dims (mirror.keeps.left_attached left_in dims is) in
    let b = right.ensures.written right_in dims (mirror.keeps.right_attached right_in dims is) in
    rows_level (ls && gs) (tells_all ls gs lc gc) lc gc (l.view mirror.left) (r.view mirror.right)
    (l.view left.new.rack) (r.view right.new.rack) (left_contents ls lc gs gc) (right_contents ls lc gs gc)
    dims c.args.places.now c.args.bytes.now left.result right.result
    (λ told. sizes_after ls lc dims (l.view mirror.left) (l.view left.new.rack) (g.met.L.Rack.consistent mirror.left)
    (g.met.L.Rack.consistent left.new.rack) (left_stands ls gs (all_stands ls lc gs gc told)) (left_contents ls lc gs gc told)
    (mirror.keeps.left_attached left_in dims is) a.only.stands)
    (λ told. sizes_after gs gc dims (r.view mirror.right) (r.view right.new.rack) (g.met.G.Rack.consistent mirror.right)
    (g.met.G.Rack.consistent right.new.rack) (right_stands ls gs (all_stands ls lc gs gc told)) (right_contents ls lc gs gc told)
    (mirror.keeps.right_attached right_in dims is) b.only.stands)
    c.requires.disks okx oky level a b))

pub returns-clause-written : goal.returns-clause-written
returns-clause-written g c dims is =
    let l = g.L.Rack in
    let r = g.G.Rack in
    let ts = l.tells_stands && r.tells_stands in
    let tc = tells_all l.tells_stands r.tells_stands l.tells_contents r.tells_contents in
    let mirror = c.args.self.now in
    let left = c.write_row_of-left in
    let right = c.write_row_of-right in
    by_settled ts tc (two_sides (l.view mirror.left) (r.view mirror.right) mirror.sides)
    (two_sides (l.view left.new.rack) (r.view right.new.rack) c.settle-answer.new.sides)
    mirror.attached mirror.attached _ _ _ _ _ _ _ _ _ _ left.result right.result c.settle-answer.result c.settle-answer.result
    (λ v z w. RowWritten tc dims v c.args.places.now c.args.bytes.now z w) refl mirror.keeps c.settle-answer.ensures
    (λ is_in. shown_row_written ts tc mirror.attached mirror.attached _ _ _ _ _ _ _ _ _ _ _ _ l.tells_contents dims _ _ left.result
    (left_contents l.tells_stands l.tells_contents r.tells_stands r.tells_contents) refl
    (left.ensures.written is_in dims (mirror.keeps.left_attached is_in dims is)))
    (λ is_in. shown_row_written ts tc mirror.attached mirror.attached _ _ _ _ _ _ _ _ _ _ _ _ r.tells_contents dims _ _ right.result
    (right_contents l.tells_stands l.tells_contents r.tells_stands r.tells_contents) refl
    (right.ensures.written is_in dims (mirror.keeps.right_attached is_in dims is)))

pub returns-clause-keeps : goal.returns-clause-keeps
returns-clause-keeps g c =
    let l = g.L.Rack in
    let r = g.G.Rack in
    let mirror = c.args.self.now in
    let left = c.write_row_of-left in
    let right = c.write_row_of-right in
    settled_keeps l.tells_stands l.tells_contents r.tells_stands r.tells_contents
    (two_sides (l.view mirror.left) (r.view mirror.right) mirror.sides)
    (two_sides (l.view left.new.rack) (r.view right.new.rack) c.settle-answer.new.sides)
    mirror.attached mirror.level mirror.lapsed mirror.starved mirror.faults _ _ _ _ _ _ _ mirror.keeps
    (g.met.L.Rack.consistent mirror.left) (g.met.G.Rack.consistent mirror.right)
    (g.met.L.Rack.consistent left.new.rack) (g.met.G.Rack.consistent right.new.rack) (c.requires.dims, c.requires.attached_is)
    1 0 0 left.result right.result c.settle-answer.result
    (counted c.is_err.result mirror.faults _ mirror.faults_fit (λ bad. sym c.is_err.ensures.value ∙ bad)
    c.count_fault.ensures.failed c.count_fault.ensures.quiet)
    left.ensures.asked right.ensures.asked c.settle-answer.ensures
