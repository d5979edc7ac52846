use Rattle.std.proofs.Common.{inl, refl, sym, ◌∙◌, arith}
use Rattle.bm_rack.proofs.FrameLemmas.{RaisesCounts-trans}
use Rattle.bm_control.proofs.EqualLemmas.{some_injective}
use Rattle.bm_control.proofs.StateCallLemmas.{reads_within, first_pages, job_state_pages, slots_later}
use Rattle.bm_control.specs.Pages.{load_body}
use Rattle.bm_control.proofs.StateLemmas.{state_of_job}
use Rattle.bm_control.proofs.WrongPageLemmas.{sound_no_bad, sound_no_bad_answer}
use Rattle.bm_control.proofs.state_reading.read_state.Goals as goal

pub returns-clause-answer : goal.returns-clause-answer
returns-clause-answer g c told =
    let v = (g.R.Rack.view c.args.rack.now).contents in
    let at_2 = c.page_of.ensures.state.contents in
    let at_3 = c.page_of-2.ensures.state.contents ∙ at_2 in
    state_of_job c.in-Some.shape v c.read_job_state.result
    (record {
      load_gate = sym (c.in_ok-load_gate.ensures.bytes told v refl) ∙ c.is_gate.ensures.0 c.if-not-is_gate.false;
      load_body = sym (c.in_ok-load_body.ensures.bytes told v at_2) ∙ (c.in-Some.ensures c.in-Some.shape).0 refl;
      job_gate = sym (c.in_ok-job_gate.ensures.bytes told v at_3) ∙ c.is_gate-2.ensures.0 c.if-not-is_gate-2.false;
    })
    (c.read_job_state.ensures.answer told v (c.page_of-3.ensures.state.contents ∙ at_3))

pub returns-in_default-clause-good : goal.returns-in_default-clause-good
returns-in_default-clause-good g c told_stands told_contents sound page is =
    let v = g.R.Rack.view c.args.rack.now in
    let fits = g.met.R.Rack.consistent c.args.rack.now in
    let dims = c.requires.0 in
    let stands = fits.attached told_stands dims c.requires.1 in
    sound_no_bad dims v load_body stands (fits.sizes told_stands told_contents dims stands) sound
    (inl (
      refl,
      sym (c.in_ok-load_gate.ensures.bytes told_contents v.contents refl) ∙ c.is_gate.ensures.0 c.if-not-is_gate.false,
      λ s body. c.in_default.not-Some s ((c.decode_load.ensures s).1
          (c.in_ok-load_body.ensures.bytes told_contents v.contents c.page_of.ensures.state.contents ∙ body)),
    ))

pub returns-clause-good : goal.returns-clause-good
returns-clause-good g c told_stands told_contents sound page is =
    let fits = g.met.R.Rack.consistent c.args.rack.now in
    let dims = c.requires.0 in
    let stands = fits.attached told_stands dims c.requires.1 in
    sound_no_bad_answer dims (g.R.Rack.view c.args.rack.now) c.read_job_state.result page stands
    (fits.sizes told_stands told_contents dims stands) sound
    (returns-clause-answer g c told_contents) is

pub returns-in_err-load_body-clause-pages : goal.returns-in_err-load_body-clause-pages
returns-in_err-load_body-clause-pages g c told =
    first_pages _ _ _ (sym (c.in_ok-load_gate.ensures.bytes told _ refl) ∙ c.is_gate.ensures.0 c.if-not-is_gate.false)
    (reads_within 2 3 _ _ (g.met.R.Rack.consistent c.args.rack.now) (omega arith)
    (RaisesCounts-trans 0 1 0 0 1 0 _ _ _ c.page_of.ensures.counts c.page_of-2.ensures.counts))

pub returns-in_err-job_gate-clause-pages : goal.returns-in_err-job_gate-clause-pages
returns-in_err-job_gate-clause-pages g c told =
    first_pages _ _ _ (sym (c.in_ok-load_gate.ensures.bytes told _ refl) ∙ c.is_gate.ensures.0 c.if-not-is_gate.false)
    (reads_within 3 3 _ _ (g.met.R.Rack.consistent c.args.rack.now) (omega arith)
    (RaisesCounts-trans 0 2 0 0 1 0 _ _ _ (RaisesCounts-trans 0 1 0 0 1 0 _ _ _ c.page_of.ensures.counts c.page_of-2.ensures.counts)
    c.page_of-3.ensures.counts))

pub returns-then-not-is_gate-2-clause-pages : goal.returns-then-not-is_gate-2-clause-pages
returns-then-not-is_gate-2-clause-pages g c told =
    first_pages _ _ _ (sym (c.in_ok-load_gate.ensures.bytes told _ refl) ∙ c.is_gate.ensures.0 c.if-not-is_gate.false)
    (reads_within 3 3 _ _ (g.met.R.Rack.consistent c.args.rack.now) (omega arith)
    (RaisesCounts-trans 0 2 0 0 1 0 _ _ _ (RaisesCounts-trans 0 1 0 0 1 0 _ _ _ c.page_of.ensures.counts c.page_of-2.ensures.counts)
    c.page_of-3.ensures.counts))

pub returns-clause-pages : goal.returns-clause-pages
returns-clause-pages g c told =
    let v = (g.R.Rack.view c.args.rack.now).contents in
    let at_2 = c.page_of.ensures.state.contents in
    let at_3 = c.page_of-2.ensures.state.contents ∙ at_2 in
    job_state_pages c.in-Some.shape v _ _ _ (g.met.R.Rack.consistent c.args.rack.now)
    (record {
      load_gate = sym (c.in_ok-load_gate.ensures.bytes told v refl) ∙ c.is_gate.ensures.0 c.if-not-is_gate.false;
      load_body = sym (c.in_ok-load_body.ensures.bytes told v at_2) ∙ (c.in-Some.ensures c.in-Some.shape).0 refl;
      job_gate = sym (c.in_ok-job_gate.ensures.bytes told v at_3) ∙ c.is_gate-2.ensures.0 c.if-not-is_gate-2.false;
    })
    (λ t load. some_injective c.in-Some.shape t ((c.in-Some.ensures t).1 (c.in_ok-load_body.ensures.bytes told v at_2 ∙ load)))
    (RaisesCounts-trans 0 2 0 0 1 0 _ _ _ (RaisesCounts-trans 0 1 0 0 1 0 _ _ _ c.page_of.ensures.counts c.page_of-2.ensures.counts)
    c.page_of-3.ensures.counts)
    (c.read_job_state.ensures.pages told v (c.page_of-3.ensures.state.contents ∙ at_3))

pub returns-clause-slots : goal.returns-clause-slots
returns-clause-slots g c told =
    let v = (g.R.Rack.view c.args.rack.now).contents in
    let at_2 = c.page_of.ensures.state.contents in
    let at_3 = c.page_of-2.ensures.state.contents ∙ at_2 in
    slots_later v c.read_job_state.result (g.R.Rack.view c.args.rack.now) (g.R.Rack.view c.page_of-3.new.rack)
    (g.R.Rack.view c.read_job_state.new.rack)
    (RaisesCounts-trans 0 2 0 0 1 0 _ _ _ (RaisesCounts-trans 0 1 0 0 1 0 _ _ _ c.page_of.ensures.counts c.page_of-2.ensures.counts)
    c.page_of-3.ensures.counts)
    (c.read_job_state.ensures.slots told v (c.page_of-3.ensures.state.contents ∙ at_3))
