use Rattle.std.proofs.Common.{sym, ◌∙◌}
use Rattle.std.proofs.lemmas.Bool.{false≢true}
use Rattle.bm_control.proofs.durable.write_page_durably.Goals as goal

pub returns-in_err-write_page-clause-held : goal.returns-in_err-write_page-clause-held
returns-in_err-write_page-clause-held g c told clean =
    absurd (false≢true (sym clean ∙ c.write_page.ensures.written.own_dirty told))
