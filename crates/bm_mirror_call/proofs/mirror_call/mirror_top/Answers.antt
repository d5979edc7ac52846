use Rattle.std.proofs.Common.{◌≡◌, sym, ◌∙◌, ap, subst}
use Rattle.bm_mirror.specs.declared.sides.Side.TheVariants.{Left}
use Rattle.bm_mirror.specs.Lasting.{history}
use Rattle.bm_mirror.specs.TwoSides.{two_sides}
use Rattle.bm_rack.specs.Sink.{AppendsFront}
use Rattle.bm_top.specs.Moment.{source_of, sink_of}
use Rattle.bm_top.specs.StatusWords.{line_of}
use Rattle.bm_mirror_call.specs.MirrorCall.{CommandCall, last_line}
use Rattle.bm_mirror_call.specs.Seen.{MirrorSeen, mirror_devices, mirror_moment, mirror_seen, new_mirror, sides_tell, tells_over}
use Rattle.bm_mirror_call.specs.Sides.{IsNewMirror}
use Rattle.bm_mirror_call.specs.SidesLine.{sides_line}
use Rattle.bm_mirror_call.proofs.CallLemmas.{fresh_is, new_is, only_is, top_call, top_none}
use Rattle.bm_mirror_call.proofs.LineLemmas.{last_is, lines_fronts}
use Rattle.bm_mirror_call.proofs.WordLemmas.{rest_spells}
use Rattle.bm_mirror_call.proofs.mirror_call.mirror_top.Goals as goal

pub run_command-status-requires-clause-words : goal.run_command-status-requires-clause-words
run_command-status-requires-clause-words g c =
    rest_spells c.args.words.now c.in-Some.spelled.first c.in-Some.spelled.command c.in-Some.ensures.found

pub run_command-status-requires-clause-fresh : goal.run_command-status-requires-clause-fresh
run_command-status-requires-clause-fresh g c =
    let st = sides_tell g.L.Rack.tells_stands g.L.Rack.tells_contents g.G.Rack.tells_stands g.G.Rack.tells_contents in
    let m = c.new-mirror.result in
    let m_sides = two_sides (g.L.Rack.view m.left) (g.G.Rack.view m.right) m.sides in
    let m_past = history m.level m.lapsed m.starved m.faults in
    let m_seen = mirror_seen st m_sides m_past m.attached m.moves m.pages m.syncs in
    let is : m_seen ≡ new_mirror st (g.L.Rack.view c.args.left) (g.G.Rack.view c.args.right) c.in-Some.spelled.first =
    new_is st (g.L.Rack.view c.args.left) (g.G.Rack.view c.args.right) c.in-Some.spelled.first m_sides m_past m.attached m.moves m.pages
    m.syncs
    (ap g.L.Rack.view c.new-mirror.ensures.left) (ap g.G.Rack.view c.new-mirror.ensures.right)
    (only_is c.in-Some.spelled.first m.sides c.new-mirror.ensures.first_left c.new-mirror.ensures.first_right) c.new-mirror.ensures.level
    c.new-mirror.ensures.fresh.0 c.new-mirror.ensures.fresh.1
    c.new-mirror.ensures.counts.0 c.new-mirror.ensures.attached c.new-mirror.ensures.counts.1 c.new-mirror.ensures.counts.2
    c.new-mirror.ensures.counts.3 in
    subst IsNewMirror (sym is) (fresh_is st (g.L.Rack.view c.args.left) (g.G.Rack.view c.args.right) c.in-Some.spelled.first)

pub returns-in-Some-clause-call : goal.returns-in-Some-clause-call
returns-in-Some-clause-call g c =
    let st = sides_tell g.L.Rack.tells_stands g.L.Rack.tells_contents g.G.Rack.tells_stands g.G.Rack.tells_contents in
    let m = c.new-mirror.result in
    let m_sides = two_sides (g.L.Rack.view m.left) (g.G.Rack.view m.right) m.sides in
    let m_past = history m.level m.lapsed m.starved m.faults in
    let m_seen = mirror_seen st m_sides m_past m.attached m.moves m.pages m.syncs in
    let e = c.run_command-status.new.mirror in
    let e_sides = two_sides (g.L.Rack.view e.left) (g.G.Rack.view e.right) e.sides in
    let e_past = history e.level e.lapsed e.starved e.faults in
    let e_seen = mirror_seen st e_sides e_past e.attached e.moves e.pages e.syncs in
    let is : m_seen ≡ new_mirror st (g.L.Rack.view c.args.left) (g.G.Rack.view c.args.right) c.in-Some.spelled.first =
    new_is st (g.L.Rack.view c.args.left) (g.G.Rack.view c.args.right) c.in-Some.spelled.first m_sides m_past m.attached m.moves m.pages
    m.syncs
    (ap g.L.Rack.view c.new-mirror.ensures.left) (ap g.G.Rack.view c.new-mirror.ensures.right)
    (only_is c.in-Some.spelled.first m.sides c.new-mirror.ensures.first_left c.new-mirror.ensures.first_right) c.new-mirror.ensures.level
    c.new-mirror.ensures.fresh.0 c.new-mirror.ensures.fresh.1
    c.new-mirror.ensures.counts.0 c.new-mirror.ensures.attached c.new-mirror.ensures.counts.1 c.new-mirror.ensures.counts.2
    c.new-mirror.ensures.counts.3 in
    let job = source_of (g.J.Source.left c.args.job.now) (g.J.Source.faults c.args.job.now) in
    let input = source_of (g.S.Source.left c.args.input.now) (g.S.Source.faults c.args.input.now) in
    let out = sink_of (g.K.Sink.taken c.args.out.now) (g.K.Sink.faults c.args.out.now) in
    let r = c.run_command-status.new in
    let new = mirror_moment (source_of (g.J.Source.left r.job) (g.J.Source.faults r.job))
    (mirror_devices (source_of (g.S.Source.left r.input) (g.S.Source.faults r.input))
    (sink_of (g.K.Sink.taken r.out) (g.K.Sink.faults r.out)) e_seen) in
    let t = tells_over g.J.Source.tells g.S.Source.tells g.K.Sink.tells st in
    top_call t c.args.words.now c.in-Some.spelled.first c.in-Some.spelled.command
    (λ first. mirror_moment job (mirror_devices input out (new_mirror st (g.L.Rack.view c.args.left) (g.G.Rack.view c.args.right) first)))
    c.run_command-status.result new c.in-Some.ensures.found
    (subst (λ (x : MirrorSeen). CommandCall t c.in-Some.spelled.command (mirror_moment job (mirror_devices input out x))
    c.run_command-status.result new) is c.run_command-status.ensures.call)

pub returns-in-Some-clause-front : goal.returns-in-Some-clause-front
returns-in-Some-clause-front g c = λ told.
    let status = c.run_command-status.result in
    let sides = c.run_command-status.new.mirror.sides in
    lines_fronts (g.E.Sink.taken c.args.err.now) (g.E.Sink.taken c.run_command-status.new.err) (g.E.Sink.taken c.write_sides.new.err)
    (line_of status) (last_line status sides) (c.run_command-status.ensures.front told)
    (subst (λ bytes. AppendsFront (g.E.Sink.taken c.run_command-status.new.err) (g.E.Sink.taken c.write_sides.new.err) bytes)
    (ap sides_line c.sides.ensures.answer ∙ last_is status sides c.run_command-status.ensures.call.answered)
    (c.write_sides.ensures.front told))

pub returns-in-None-clause-call : goal.returns-in-None-clause-call
returns-in-None-clause-call g c =
    let st = sides_tell g.L.Rack.tells_stands g.L.Rack.tells_contents g.G.Rack.tells_stands g.G.Rack.tells_contents in
    let m = c.new.result in
    let m_sides = two_sides (g.L.Rack.view m.left) (g.G.Rack.view m.right) m.sides in
    let m_past = history m.level m.lapsed m.starved m.faults in
    let m_seen = mirror_seen st m_sides m_past m.attached m.moves m.pages m.syncs in
    let is : m_seen ≡ new_mirror st (g.L.Rack.view c.args.left) (g.G.Rack.view c.args.right) Left =
    new_is st (g.L.Rack.view c.args.left) (g.G.Rack.view c.args.right) Left m_sides m_past m.attached m.moves m.pages m.syncs
    (ap g.L.Rack.view c.new.ensures.left) (ap g.G.Rack.view c.new.ensures.right)
    (only_is Left m.sides c.new.ensures.first_left c.new.ensures.first_right) c.new.ensures.level c.new.ensures.fresh.0
    c.new.ensures.fresh.1
    c.new.ensures.counts.0 c.new.ensures.attached c.new.ensures.counts.1 c.new.ensures.counts.2 c.new.ensures.counts.3 in
    let job = source_of (g.J.Source.left c.args.job.now) (g.J.Source.faults c.args.job.now) in
    let input = source_of (g.S.Source.left c.args.input.now) (g.S.Source.faults c.args.input.now) in
    let out = sink_of (g.K.Sink.taken c.args.out.now) (g.K.Sink.faults c.args.out.now) in
    top_none (tells_over g.J.Source.tells g.S.Source.tells g.K.Sink.tells st) c.args.words.now
    (λ first. mirror_moment job (mirror_devices input out (new_mirror st (g.L.Rack.view c.args.left) (g.G.Rack.view c.args.right) first)))
    (mirror_moment job (mirror_devices input out m_seen)) c.in-None.ensures.none
    (ap (λ (x : MirrorSeen). mirror_moment job (mirror_devices input out x)) is)
