use Rattle.std.proofs.Common.{◌&&◌, inr}
use Rattle.bm_mirror.specs.TwoSides.{two_sides}
use Rattle.bm_mirror.specs.Lasting.{history}
use Rattle.bm_mirror.proofs.SinceLemmas.{left_fell, left_stays_level, right_stays_level}
use Rattle.mirror_tests.proofs.lasting.worn_out.Goals as goal

pub returns-clause-fell : goal.returns-clause-fell
returns-clause-fell g c fine was out =
    let l = g.L.Rack in
    let r = g.G.Rack in
    let m = c.args.mirror.now in
    let n = c.put_row-2.new.rack in
    let told = l.tells_stands && r.tells_stands in
    let s = two_sides (l.view m.left) (r.view m.right) m.sides in
    let s' = two_sides (l.view n.left) (r.view n.right) n.sides in
    let h = history m.level m.lapsed m.starved m.faults in
    let h' = history n.level n.lapsed n.starved n.faults in
    left_fell told s h s' h'
    (λ fact holds. c.put_row-2.ensures.keeps.lasting fact (c.put_row.ensures.keeps.lasting fact
    (c.heal-healed.ensures.keeps.lasting fact holds))) (inr (fine, was))
    (left_stays_level told s h s' h'
    (λ fact holds. c.put_row-2.ensures.keeps.lasting fact (c.put_row.ensures.keeps.lasting fact
    (c.heal-healed.ensures.keeps.lasting fact holds))) (m.remembers.left fine was)) out

pub returns-clause-level : goal.returns-clause-level
returns-clause-level g c level =
    let l = g.L.Rack in
    let r = g.G.Rack in
    let m = c.args.mirror.now in
    let n = c.put_row-2.new.rack in
    right_stays_level (l.tells_stands && r.tells_stands) (two_sides (l.view m.left) (r.view m.right) m.sides)
    (history m.level m.lapsed m.starved m.faults) (two_sides (l.view n.left) (r.view n.right) n.sides)
    (history n.level n.lapsed n.starved n.faults)
    (λ fact holds. c.put_row-2.ensures.keeps.lasting fact (c.put_row.ensures.keeps.lasting fact
    (c.heal-healed.ensures.keeps.lasting fact holds))) level
