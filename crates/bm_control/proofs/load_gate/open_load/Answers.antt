use Rattle.std.proofs.Common.{◌≡◌, ◌∙◌, arith}
use Rattle.std.proofs.lemmas.Result.{on_ok_weaker}
use Rattle.bm_base.specs.Contents.{page_unit, page_at}
use Rattle.bm_base.specs.Gate.{IsClosedGate}
use Rattle.bm_base.specs.Shape.{dims_of}
use Rattle.bm_rack.specs.Calls.{IsPage}
use Rattle.bm_control.specs.Bodies.{load_page}
use Rattle.bm_control.specs.Pages.{job_gate, load_body, load_gate, HasLoadBody}
use Rattle.bm_control.proofs.ImageLemmas.{closed_settled, settled_within, settled_clean}
use Rattle.bm_control.proofs.SoundLemmas.{sound_closed, sound_loaded, input_no_page}
use Rattle.bm_control.proofs.load_gate.open_load.Goals as goal

-- both gates stay closed
pub returns-in_err-write_page_durably-clause-sound : goal.returns-in_err-write_page_durably-clause-sound
returns-in_err-write_page_durably-clause-sound g c told_stands told_contents dims_are one three =
    let v = g.R.Rack.view c.args.rack.now in
    let dims = dims_of c.args.shape.now in
    let fits = g.met.R.Rack.consistent c.args.rack.now in
    let stands = fits.attached told_stands dims dims_are in
    let sizes = fits.sizes told_stands told_contents dims stands in
    let w = c.write_page_durably.ensures.call.frame in
    sound_closed _
    (settled_within IsClosedGate (IsPage load_body) load_gate _ _ w (λ e. omega (arith, e))
    (closed_settled v dims load_gate (omega arith) stands sizes one))
    (settled_within IsClosedGate (IsPage load_body) job_gate _ _ w (λ e. omega (arith, e))
    (closed_settled v dims job_gate (omega arith) stands sizes three))

-- the body stands on the disks before its gate is written
pub returns-clause-sound : goal.returns-clause-sound
returns-clause-sound g c told_stands told_contents dims_are one three =
    let v = g.R.Rack.view c.args.rack.now in
    let s = c.args.shape.now in
    let fits = g.met.R.Rack.consistent c.args.rack.now in
    let stands = fits.attached told_stands (dims_of s) dims_are in
    let sizes = fits.sizes told_stands told_contents (dims_of s) stands in
    let clean = c.in_ok-write_page_durably.ensures.clean in
    let first = c.write_page_durably.ensures.call.frame in
    let second = c.write_page_durably-2.ensures.call.frame in
    let body : HasLoadBody s (g.R.Rack.view c.write_page_durably.new.rack).contents =
    c.in_ok-write_page_durably.ensures.taken told_contents ∙ c.encode_load.ensures in
    let three_1 = settled_within IsClosedGate (IsPage load_body) job_gate _ _ first (λ e. omega (arith, e))
    (closed_settled v (dims_of s) job_gate (omega arith) stands sizes three) in
    sound_loaded _ s (second.stands ∙ first.stands ∙ stands)
    (settled_within (λ p. p ≡ load_page s) (IsPage load_gate) load_body _ _ second (λ e. omega (arith, e))
    (settled_clean (λ p. p ≡ load_page s) load_body _ clean body))
    (settled_within IsClosedGate (IsPage load_gate) job_gate _ _ second (λ e. omega (arith, e)) three_1)
    (λ u input. second.dirty u (input_no_page load_gate (dims_of s) u input) (clean u))

pub returns-clause-body : goal.returns-clause-body
returns-clause-body g c told =
    on_ok_weaker c.write_page_durably-2.result
    (λ (taken : page_at (g.R.Rack.view c.write_page_durably-2.new.rack).contents load_gate ≡ c.gate_page.result).
    c.write_page_durably-2.ensures.call.frame.contents (page_unit load_body) (λ e. omega (arith, e))
    ∙ c.in_ok-write_page_durably.ensures.taken told
    ∙ c.encode_load.ensures)
    (c.write_page_durably-2.ensures.taken told)
