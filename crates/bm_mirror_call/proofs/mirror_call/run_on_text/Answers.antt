use Rattle.std.proofs.Common.{refl}
use Rattle.bm_mirror.specs.Lasting.{history}
use Rattle.bm_mirror.specs.TwoSides.{two_sides}
use Rattle.bm_top.specs.Moment.{source_of, sink_of}
use Rattle.bm_mirror_call.specs.Seen.{mirror_devices, mirror_seen, sides_tell, tells_over}
use Rattle.bm_mirror_call.proofs.SeenLemmas.{seen_is}
use Rattle.bm_mirror_call.proofs.CallLemmas.{carried, carried_sides, not_ready}
use Rattle.bm_mirror_call.proofs.CommandLemmas.{stopped}
use Rattle.bm_mirror_call.proofs.mirror_call.run_on_text.Goals as goal

pub returns-in-Ok-clause-call : goal.returns-in-Ok-clause-call
returns-in-Ok-clause-call g c = λ told.
    let st = sides_tell g.L.Rack.tells_stands g.L.Rack.tells_contents g.G.Rack.tells_stands g.G.Rack.tells_contents in
    let m = c.args.mirror.now in
    let m_sides = two_sides (g.L.Rack.view m.left) (g.G.Rack.view m.right) m.sides in
    let m_past = history m.level m.lapsed m.starved m.faults in
    let m_seen = mirror_seen st m_sides m_past m.attached m.moves m.pages m.syncs in
    let m_is = seen_is st m_sides m_past m.attached m.moves m.pages m.syncs m.keeps m.remembers
    (g.met.L.Rack.consistent m.left) (g.met.G.Rack.consistent m.right) in
    let n = c.heal_for.new.mirror in
    let n_sides = two_sides (g.L.Rack.view n.left) (g.G.Rack.view n.right) n.sides in
    let n_past = history n.level n.lapsed n.starved n.faults in
    let n_seen = mirror_seen st n_sides n_past n.attached n.moves n.pages n.syncs in
    let n_is = seen_is st n_sides n_past n.attached n.moves n.pages n.syncs n.keeps n.remembers
    (g.met.L.Rack.consistent n.left) (g.met.G.Rack.consistent n.right) in
    let e = c.bmmc_top.new.rack in
    let e_sides = two_sides (g.L.Rack.view e.left) (g.G.Rack.view e.right) e.sides in
    let e_past = history e.level e.lapsed e.starved e.faults in
    let e_seen = mirror_seen st e_sides e_past e.attached e.moves e.pages e.syncs in
    let e_is = seen_is st e_sides e_past e.attached e.moves e.pages e.syncs e.keeps e.remembers
    (g.met.L.Rack.consistent e.left) (g.met.G.Rack.consistent e.right) in
    let old = mirror_devices (source_of (g.S.Source.left c.args.input.now) (g.S.Source.faults c.args.input.now))
    (sink_of (g.K.Sink.taken c.args.out.now) (g.K.Sink.faults c.args.out.now)) m_seen in
    let new = mirror_devices (source_of (g.S.Source.left c.bmmc_top.new.input) (g.S.Source.faults c.bmmc_top.new.input))
    (sink_of (g.K.Sink.taken c.bmmc_top.new.out) (g.K.Sink.faults c.bmmc_top.new.out)) e_seen in
    carried (tells_over told g.S.Source.tells g.K.Sink.tells st) c.args.verb c.args.words.now c.args.text.items _ _ old new n_seen.rack
    c.bmmc_top.result c.new-source.ensures.left c.requires.words c.heal_for.ensures.shows (c.in-Ok.ensures.calm refl)
    c.heal_for.ensures.idle
    c.bmmc_top.ensures.call

pub returns-in-Ok-clause-sides : goal.returns-in-Ok-clause-sides
returns-in-Ok-clause-sides g c = λ told.
    let st = sides_tell g.L.Rack.tells_stands g.L.Rack.tells_contents g.G.Rack.tells_stands g.G.Rack.tells_contents in
    let m = c.args.mirror.now in
    let m_sides = two_sides (g.L.Rack.view m.left) (g.G.Rack.view m.right) m.sides in
    let m_past = history m.level m.lapsed m.starved m.faults in
    let m_seen = mirror_seen st m_sides m_past m.attached m.moves m.pages m.syncs in
    let m_is = seen_is st m_sides m_past m.attached m.moves m.pages m.syncs m.keeps m.remembers
    (g.met.L.Rack.consistent m.left) (g.met.G.Rack.consistent m.right) in
    let n = c.heal_for.new.mirror in
    let n_sides = two_sides (g.L.Rack.view n.left) (g.G.Rack.view n.right) n.sides in
    let n_past = history n.level n.lapsed n.starved n.faults in
    let n_seen = mirror_seen st n_sides n_past n.attached n.moves n.pages n.syncs in
    let n_is = seen_is st n_sides n_past n.attached n.moves n.pages n.syncs n.keeps n.remembers
    (g.met.L.Rack.consistent n.left) (g.met.G.Rack.consistent n.right) in
    let e = c.bmmc_top.new.rack in
    let e_sides = two_sides (g.L.Rack.view e.left) (g.G.Rack.view e.right) e.sides in
    let e_past = history e.level e.lapsed e.starved e.faults in
    let e_seen = mirror_seen st e_sides e_past e.attached e.moves e.pages e.syncs in
    let e_is = seen_is st e_sides e_past e.attached e.moves e.pages e.syncs e.keeps e.remembers
    (g.met.L.Rack.consistent e.left) (g.met.G.Rack.consistent e.right) in
    let old = mirror_devices (source_of (g.S.Source.left c.args.input.now) (g.S.Source.faults c.args.input.now))
    (sink_of (g.K.Sink.taken c.args.out.now) (g.K.Sink.faults c.args.out.now)) m_seen in
    let new = mirror_devices (source_of (g.S.Source.left c.bmmc_top.new.input) (g.S.Source.faults c.bmmc_top.new.input))
    (sink_of (g.K.Sink.taken c.bmmc_top.new.out) (g.K.Sink.faults c.bmmc_top.new.out)) e_seen in
    carried_sides (tells_over told g.S.Source.tells g.K.Sink.tells st) c.args.verb c.args.words.now c.deref.result.now c.args.text.items _ _
    old new n_seen c.bmmc_top.result c.deref.ensures.value c.new-source.ensures.left c.requires.words m_is n_is e_is c.requires.fresh
    c.heal_for.ensures.shows (c.in-Ok.ensures.calm refl) c.heal_for.ensures.idle (c.in-Ok.ensures.sides refl) c.bmmc_top.ensures.call

pub returns-in-Err-clause-call : goal.returns-in-Err-clause-call
returns-in-Err-clause-call g c = λ told.
    let st = sides_tell g.L.Rack.tells_stands g.L.Rack.tells_contents g.G.Rack.tells_stands g.G.Rack.tells_contents in
    let m = c.args.mirror.now in
    let m_sides = two_sides (g.L.Rack.view m.left) (g.G.Rack.view m.right) m.sides in
    let m_past = history m.level m.lapsed m.starved m.faults in
    let m_seen = mirror_seen st m_sides m_past m.attached m.moves m.pages m.syncs in
    let m_is = seen_is st m_sides m_past m.attached m.moves m.pages m.syncs m.keeps m.remembers
    (g.met.L.Rack.consistent m.left) (g.met.G.Rack.consistent m.right) in
    let n = c.heal_for.new.mirror in
    let n_sides = two_sides (g.L.Rack.view n.left) (g.G.Rack.view n.right) n.sides in
    let n_past = history n.level n.lapsed n.starved n.faults in
    let n_seen = mirror_seen st n_sides n_past n.attached n.moves n.pages n.syncs in
    let n_is = seen_is st n_sides n_past n.attached n.moves n.pages n.syncs n.keeps n.remembers
    (g.met.L.Rack.consistent n.left) (g.met.G.Rack.consistent n.right) in
    let old = mirror_devices (source_of (g.S.Source.left c.args.input.now) (g.S.Source.faults c.args.input.now))
    (sink_of (g.K.Sink.taken c.args.out.now) (g.K.Sink.faults c.args.out.now)) m_seen in
    let new = mirror_devices (source_of (g.S.Source.left c.args.input.now) (g.S.Source.faults c.args.input.now))
    (sink_of (g.K.Sink.taken c.args.out.now) (g.K.Sink.faults c.args.out.now)) n_seen in
    not_ready (tells_over told g.S.Source.tells g.K.Sink.tells st) c.args.verb c.deref.result.now c.args.text.items old new c.in-Err.status
    c.deref.ensures.value c.in-Err.ensures.stops c.heal_for.ensures.shows refl refl

pub returns-in-Err-clause-sides : goal.returns-in-Err-clause-sides
returns-in-Err-clause-sides g c = λ told.
    let st = sides_tell g.L.Rack.tells_stands g.L.Rack.tells_contents g.G.Rack.tells_stands g.G.Rack.tells_contents in
    let m = c.args.mirror.now in
    let m_sides = two_sides (g.L.Rack.view m.left) (g.G.Rack.view m.right) m.sides in
    let m_past = history m.level m.lapsed m.starved m.faults in
    let m_seen = mirror_seen st m_sides m_past m.attached m.moves m.pages m.syncs in
    let m_is = seen_is st m_sides m_past m.attached m.moves m.pages m.syncs m.keeps m.remembers
    (g.met.L.Rack.consistent m.left) (g.met.G.Rack.consistent m.right) in
    let n = c.heal_for.new.mirror in
    let n_sides = two_sides (g.L.Rack.view n.left) (g.G.Rack.view n.right) n.sides in
    let n_past = history n.level n.lapsed n.starved n.faults in
    let n_seen = mirror_seen st n_sides n_past n.attached n.moves n.pages n.syncs in
    let n_is = seen_is st n_sides n_past n.attached n.moves n.pages n.syncs n.keeps n.remembers
    (g.met.L.Rack.consistent n.left) (g.met.G.Rack.consistent n.right) in
    let old = mirror_devices (source_of (g.S.Source.left c.args.input.now) (g.S.Source.faults c.args.input.now))
    (sink_of (g.K.Sink.taken c.args.out.now) (g.K.Sink.faults c.args.out.now)) m_seen in
    let new = mirror_devices (source_of (g.S.Source.left c.args.input.now) (g.S.Source.faults c.args.input.now))
    (sink_of (g.K.Sink.taken c.args.out.now) (g.K.Sink.faults c.args.out.now)) n_seen in
    let t = tells_over told g.S.Source.tells g.K.Sink.tells st in
    stopped t.stands t c.args.verb c.deref.result.now c.in-Err.status m_seen n_seen refl m_is n_is c.requires.fresh c.heal_for.ensures.shows
    c.in-Err.ensures.stops
