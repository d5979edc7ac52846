use Rattle.std.proofs.Common.{refl}
use Rattle.bm_mirror.specs.Lasting.{history}
use Rattle.bm_mirror.specs.TwoSides.{two_sides}
use Rattle.bm_top.specs.Moment.{source_of, sink_of}
use Rattle.bm_mirror_call.specs.Seen.{mirror_devices, mirror_moment, mirror_seen, sides_tell, tells_over}
use Rattle.bm_mirror_call.proofs.SeenLemmas.{seen_is}
use Rattle.bm_mirror_call.proofs.CallLemmas.{job_made, job_refused}
use Rattle.bm_mirror_call.proofs.CommandLemmas.{unchanged}
use Rattle.bm_mirror_call.proofs.mirror_call.run_on_job.Goals as goal

pub returns-in-Ok-clause-call : goal.returns-in-Ok-clause-call
returns-in-Ok-clause-call g c =
    let st = sides_tell g.L.Rack.tells_stands g.L.Rack.tells_contents g.G.Rack.tells_stands g.G.Rack.tells_contents in
    let m = c.args.mirror.now in
    let m_sides = two_sides (g.L.Rack.view m.left) (g.G.Rack.view m.right) m.sides in
    let m_past = history m.level m.lapsed m.starved m.faults in
    let m_seen = mirror_seen st m_sides m_past m.attached m.moves m.pages m.syncs in
    let m_is = seen_is st m_sides m_past m.attached m.moves m.pages m.syncs m.keeps m.remembers
    (g.met.L.Rack.consistent m.left) (g.met.G.Rack.consistent m.right) in
    let e = c.run_on_text.new.mirror in
    let e_sides = two_sides (g.L.Rack.view e.left) (g.G.Rack.view e.right) e.sides in
    let e_past = history e.level e.lapsed e.starved e.faults in
    let e_seen = mirror_seen st e_sides e_past e.attached e.moves e.pages e.syncs in
    let e_is = seen_is st e_sides e_past e.attached e.moves e.pages e.syncs e.keeps e.remembers
    (g.met.L.Rack.consistent e.left) (g.met.G.Rack.consistent e.right) in
    let old = mirror_devices (source_of (g.S.Source.left c.args.input.now) (g.S.Source.faults c.args.input.now))
    (sink_of (g.K.Sink.taken c.args.out.now) (g.K.Sink.faults c.args.out.now)) m_seen in
    let new = mirror_devices (source_of (g.S.Source.left c.run_on_text.new.input) (g.S.Source.faults c.run_on_text.new.input))
    (sink_of (g.K.Sink.taken c.run_on_text.new.out) (g.K.Sink.faults c.run_on_text.new.out)) e_seen in
    job_made (tells_over g.J.Source.tells g.S.Source.tells g.K.Sink.tells st) c.args.verb c.in-Ok.text.items
    (mirror_moment (source_of (g.J.Source.left c.args.job.now) (g.J.Source.faults c.args.job.now)) old) c.run_on_text.result
    (mirror_moment (source_of (g.J.Source.left c.job_text.new.job) (g.J.Source.faults c.job_text.new.job)) new)
    c.in-Ok.ensures.text c.in-Ok.ensures.short (λ told. c.in-Ok.ensures.ended told refl) c.job_text.ensures.faults
    (c.run_on_text.ensures.call g.J.Source.tells) (c.run_on_text.ensures.sides g.J.Source.tells)

pub returns-in-Err-clause-call : goal.returns-in-Err-clause-call
returns-in-Err-clause-call g c =
    let st = sides_tell g.L.Rack.tells_stands g.L.Rack.tells_contents g.G.Rack.tells_stands g.G.Rack.tells_contents in
    let m = c.args.mirror.now in
    let m_sides = two_sides (g.L.Rack.view m.left) (g.G.Rack.view m.right) m.sides in
    let m_past = history m.level m.lapsed m.starved m.faults in
    let m_seen = mirror_seen st m_sides m_past m.attached m.moves m.pages m.syncs in
    let m_is = seen_is st m_sides m_past m.attached m.moves m.pages m.syncs m.keeps m.remembers
    (g.met.L.Rack.consistent m.left) (g.met.G.Rack.consistent m.right) in
    let old = mirror_devices (source_of (g.S.Source.left c.args.input.now) (g.S.Source.faults c.args.input.now))
    (sink_of (g.K.Sink.taken c.args.out.now) (g.K.Sink.faults c.args.out.now)) m_seen in
    let t = tells_over g.J.Source.tells g.S.Source.tells g.K.Sink.tells st in
    job_refused t c.args.verb
    (mirror_moment (source_of (g.J.Source.left c.args.job.now) (g.J.Source.faults c.args.job.now)) old) c.in-Err.status
    (mirror_moment (source_of (g.J.Source.left c.job_text.new.job) (g.J.Source.faults c.job_text.new.job)) old)
    c.in-Err.ensures.refusal refl (c.in-Err.ensures.refused c.args.verb)
    (unchanged t.stands t c.args.verb c.in-Err.status m_seen m_seen refl m_is m_is c.requires.fresh refl c.in-Err.ensures.refusal)
