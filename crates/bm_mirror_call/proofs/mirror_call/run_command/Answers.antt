use Rattle.std.proofs.Common.{subst}
use Rattle.bm_mirror.specs.Lasting.{history}
use Rattle.bm_mirror.specs.TwoSides.{two_sides}
use Rattle.bm_top.specs.Moment.{source_of, sink_of}
use Rattle.bm_mirror_call.specs.Seen.{mirror_devices, mirror_moment, mirror_seen, sides_tell, tells_over}
use Rattle.bm_mirror_call.proofs.SeenLemmas.{seen_is}
use Rattle.bm_top.specs.Words.{IsCommand}
use Rattle.bm_mirror_call.proofs.FlipLemmas.{flip_made}
use Rattle.bm_mirror_call.proofs.mirror_call.run_command.Goals as goal

pub run_on_job-requires-clause-words : goal.run_on_job-requires-clause-words
run_on_job-requires-clause-words g c = subst (IsCommand c.args.words.now) c.in-On.is c.requires.words

pub returns-in-Flip-clause-call : goal.returns-in-Flip-clause-call
returns-in-Flip-clause-call g c =
    let st = sides_tell g.L.Rack.tells_stands g.L.Rack.tells_contents g.G.Rack.tells_stands g.G.Rack.tells_contents in
    let m = c.args.mirror.now in
    let m_sides = two_sides (g.L.Rack.view m.left) (g.G.Rack.view m.right) m.sides in
    let m_past = history m.level m.lapsed m.starved m.faults in
    let m_seen = mirror_seen st m_sides m_past m.attached m.moves m.pages m.syncs in
    let m_is = seen_is st m_sides m_past m.attached m.moves m.pages m.syncs m.keeps m.remembers
    (g.met.L.Rack.consistent m.left) (g.met.G.Rack.consistent m.right) in
    let e = c.bmmc_top.new.rack in
    let e_sides = two_sides (g.L.Rack.view e.left) (g.G.Rack.view e.right) e.sides in
    let e_past = history e.level e.lapsed e.starved e.faults in
    let e_seen = mirror_seen st e_sides e_past e.attached e.moves e.pages e.syncs in
    let e_is = seen_is st e_sides e_past e.attached e.moves e.pages e.syncs e.keeps e.remembers
    (g.met.L.Rack.consistent e.left) (g.met.G.Rack.consistent e.right) in
    let old = mirror_devices (source_of (g.S.Source.left c.args.input.now) (g.S.Source.faults c.args.input.now))
    (sink_of (g.K.Sink.taken c.args.out.now) (g.K.Sink.faults c.args.out.now)) m_seen in
    let new = mirror_devices (source_of (g.S.Source.left c.bmmc_top.new.input) (g.S.Source.faults c.bmmc_top.new.input))
    (sink_of (g.K.Sink.taken c.bmmc_top.new.out) (g.K.Sink.faults c.bmmc_top.new.out)) e_seen in
    let t = tells_over g.J.Source.tells g.S.Source.tells g.K.Sink.tells st in
    flip_made t c.args.words.now c.args.command c.in-Flip.field-0
    (mirror_moment (source_of (g.J.Source.left c.args.job.now) (g.J.Source.faults c.args.job.now)) old) c.bmmc_top.result
    (mirror_moment (source_of (g.J.Source.left c.bmmc_top.new.job) (g.J.Source.faults c.bmmc_top.new.job)) new)
    c.in-Flip.is c.requires.words m_is e_is c.requires.fresh c.bmmc_top.ensures.call
