use Rattle.std.proofs.Common.{refl, sym, ap, ◌∙◌, arith}
use Rattle.bm_base.specs.Contents.{page_unit, page_at}
use Rattle.bm_control.proofs.job_start.close_slots.Goals as goal

pub returns-clause-first : goal.returns-clause-first
returns-clause-first g c told ok =
    ap (page_at (g.R.Rack.view c.write_page-2.new.self).contents) (sym c.slot_gate.ensures)
    ∙ c.write_page-2.ensures.written.only.contents (page_unit c.slot_gate.result)
    (λ e. omega (arith, e, c.slot_gate.ensures, c.slot_gate-2.ensures))
    ∙ c.in_ok-write_page.ensures.written.taking told refl

pub returns-clause-second : goal.returns-clause-second
returns-clause-second g c told ok =
    ap (page_at (g.R.Rack.view c.write_page-2.new.self).contents) (sym c.slot_gate-2.ensures)
    ∙ c.write_page-2.ensures.written.taking told ok
