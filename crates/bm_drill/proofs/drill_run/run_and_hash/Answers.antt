use Rattle.std.proofs.Common.{length, refl, ap, arith}
use Rattle.bm_base.specs.Shape.{stripes}
use Rattle.bm_drill.proofs.DrillLemmas.{generated_runs, never_refused, drill_leaves, session_counts, sessions_small, hash_rows}
use Rattle.bm_drill.proofs.drill_run.run_and_hash.Goals as goal

pub unreachable-requires : goal.unreachable-requires
unreachable-requires g c =
    let x = c.requires.loaded in
    never_refused c.run_sessions.result c.in_default.field-0
    (c.run_sessions.ensures.complete c.requires.tells c.requires.tells_contents x.sound
    (generated_runs c.args.spec.now.shape c.args.spec.now.start c.args.spec.now.job _ x)) c.in_default.is

pub returns-clause-leaves : goal.returns-clause-leaves
returns-clause-leaves g c =
    let view = g.R.Rack.view in
    let spec = c.args.spec.now in
    let x = c.requires.loaded in
    let e = c.in-Ok.ensures in
    let sound = e.sound c.requires.tells c.requires.tells_contents x.sound in
    drill_leaves spec.shape spec.job (length spec.plan.forms) spec.every spec.start c.in-Ok.sessions _ c.area_of-last.result
    (view c.args.rack.now) (view c.run_sessions.new.rack)
    (view c.hash_area.new.rack) c.requires.body.fits x e.kept sound
    (e.done c.requires.tells c.requires.tells_contents x.sound) c.hash_area.ensures.state
    c.area_of-last.ensures refl (c.in-Ok-hash_area.ensures.digest c.requires.tells_contents)

pub returns-clause-counts : goal.returns-clause-counts
returns-clause-counts g c =
    let view = g.R.Rack.view in
    let spec = c.args.spec.now in
    let x = c.requires.loaded in
    let e = c.in-Ok.ensures in
    let rose = e.moves in
    let few = e.restarts.few in
    let stops = c.requires.stops in
    let list = ap length c.list.ensures in
    let small = sessions_small spec.shape spec.job c.in-Ok.sessions.passes c.in-Ok.sessions.restarts c.in-Ok.sessions.moves
    c.requires.size e.passes.1
    (omega (arith, few, stops, list)) e.most in
    let rows = c.requires.rows in
    let limit = c.pass_limit.ensures.limit in
    session_counts spec.shape spec.job (length spec.plan.forms) spec.every (length spec.stops) spec.start c.in-Ok.sessions _
    (view c.args.rack.now) (view c.run_sessions.new.rack)
    c.requires.body.every_few x (e.done c.requires.tells c.requires.tells_contents x.sound) (omega (arith, few, list)) (omega
    (arith, rose, small, rows)) refl refl refl
    (rw (c.pass_moves.ensures, c.from.ensures, limit) refl)

pub returns-clause-moves : goal.returns-clause-moves
returns-clause-moves g c =
    let view = g.R.Rack.view in
    let spec = c.args.spec.now in
    let e = c.in-Ok.ensures in
    let rose = e.moves in
    let few = e.restarts.few in
    let stops = c.requires.stops in
    let list = ap length c.list.ensures in
    let small = sessions_small spec.shape spec.job c.in-Ok.sessions.passes c.in-Ok.sessions.restarts c.in-Ok.sessions.moves
    c.requires.size e.passes.1
    (omega (arith, few, stops, list)) e.most in
    let rows = c.requires.rows in
    let size = c.requires.size in
    let hashed = hash_rows c.hash_area.result (stripes spec.shape) (view c.run_sessions.new.rack)
    (view c.hash_area.new.rack) c.hash_area.ensures.moved c.in-Ok-hash_area.digest c.in-Ok-hash_area.is in
    omega (arith, rose, small, rows, size, hashed)
