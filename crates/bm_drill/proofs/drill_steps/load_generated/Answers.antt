use Rattle.std.proofs.Common.{◌∙◌, arith}
use Rattle.bm_base.proofs.CaseLemmas.{ok_of_no_error}
use Rattle.bm_control.specs.Pages.{load_gate, job_gate}
use Rattle.bm_job.proofs.CallLemmas.{holds_ok}
use Rattle.bm_drill.proofs.DrillLemmas.{gate_closed, generated_loaded}
use Rattle.bm_drill.proofs.drill_steps.load_generated.Goals as goal

pub returns-clause-loaded : goal.returns-clause-loaded
returns-clause-loaded g c =
    let view = g.R.Rack.view in
    let tc = g.R.Rack.tells_contents in
    let s = c.args.shape.now in
    let wrote = ok_of_no_error c.write_input.result c.if-is_err.ensures.value in
    let opened = ok_of_no_error c.open_load.result c.if-is_err-2.ensures.value in
    let only = c.write_input.ensures.only in
    let told = c.requires.tells_contents in
    let made = c.requires.made in
    let sound = c.open_load.ensures.sound c.requires.tells told (only.attached ∙ made.attached)
    (gate_closed tc s (view c.args.rack.now) (view c.write_input.new.rack) load_gate (omega arith) told made only)
    (gate_closed tc s (view c.args.rack.now) (view c.write_input.new.rack) job_gate (omega arith) told made only) in
    generated_loaded tc s c.args.start _ (view c.args.rack.now) (view c.write_input.new.rack) (view c.open_load.new.rack) told made only
    (c.write_input.ensures.records told wrote) c.open_load.ensures.call sound (holds_ok c.open_load.result opened c.open_load.ensures.clean)
    (holds_ok c.open_load.result opened (c.open_load.ensures.opened told))
    (holds_ok c.open_load.result opened (c.open_load.ensures.body told))
