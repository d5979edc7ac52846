use Rattle.std.proofs.Common.{◌≡◌, ◌+◌, Some, Err, refl, ◌∙◌, arith}
use Rattle.bm_base.specs.Shape.{dims_of, stripes}
use Rattle.bm_rack.proofs.FrameLemmas.{HasCause-later, Keeps-trans}
use Rattle.bm_rack.proofs.CallLemmas.{MakesPageCalls-done, MovesRows-part}
use Rattle.bm_disks.proofs.GateLemmas.{both_closed, both_in_images, both_sound, shut_closed}
use Rattle.bm_disks.proofs.LoadingLemmas.{closed_through, closed_refusal, loading_frame, input_kept, job_gate_kept, loading_exact}
use Rattle.bm_disks.proofs.OpensLemmas.{opens_old, opens_none, opens_new}
use Rattle.bm_disks.proofs.loading.load_records.Goals as goal

pub returns-in-Err-clause-closed : goal.returns-in-Err-clause-closed
returns-in-Err-clause-closed g c told =
    let s = c.args.shape.now in
    let both = closed_through s _ _ c.read_input.ensures.only
    (both_closed _ c.in_ok-shut_gates.ensures.clean (c.in_ok-shut_gates.ensures.load_gate told)
    (shut_closed _ _ (c.in_ok-shut_gates.ensures.job_gate told))) in
    closed_refusal (Err c.in-Err.error) _ both

pub returns-in-Err-clause-sound : goal.returns-in-Err-clause-sound
returns-in-Err-clause-sound g c stands told sound =
    let s = c.args.shape.now in
    let both = closed_through s _ _ c.read_input.ensures.only
    (both_closed _ c.in_ok-shut_gates.ensures.clean (c.in_ok-shut_gates.ensures.load_gate told)
    (shut_closed _ _ (c.in_ok-shut_gates.ensures.job_gate told))) in
    both_sound _ both

pub returns-in-Err-clause-mended : goal.returns-in-Err-clause-mended
returns-in-Err-clause-mended g c stands told other =
    let s = c.args.shape.now in
    let both = closed_through s _ _ c.read_input.ensures.only
    (both_closed _ c.in_ok-shut_gates.ensures.clean (c.in_ok-shut_gates.ensures.load_gate told)
    (shut_closed _ _ (c.in_ok-shut_gates.ensures.job_gate told))) in
    both_sound _ both

pub returns-in_err-open_load-in-Ok-clause-sound : goal.returns-in_err-open_load-in-Ok-clause-sound
returns-in_err-open_load-in-Ok-clause-sound g c stands told sound =
    let s = c.args.shape.now in
    let both = closed_through s _ _ c.read_input.ensures.only
    (both_closed _ c.in_ok-shut_gates.ensures.clean (c.in_ok-shut_gates.ensures.load_gate told)
    (shut_closed _ _ (c.in_ok-shut_gates.ensures.job_gate told))) in
    let attached : (g.R.Rack.view c.read_input.new.rack).attached ≡ Some (dims_of s) =
    c.read_input.ensures.only.attached ∙ c.shut_gates.ensures.call.frame.attached ∙ c.requires.attached in
    c.open_load.ensures.sound stands told attached (λ dims image is i. (both_in_images _ both dims image is i).0)
    (λ dims image is i. (both_in_images _ both dims image is i).1)

pub returns-in_ok-open_load-in-Ok-clause-sound : goal.returns-in_ok-open_load-in-Ok-clause-sound
returns-in_ok-open_load-in-Ok-clause-sound g c stands told sound =
    let s = c.args.shape.now in
    let both = closed_through s _ _ c.read_input.ensures.only
    (both_closed _ c.in_ok-shut_gates.ensures.clean (c.in_ok-shut_gates.ensures.load_gate told)
    (shut_closed _ _ (c.in_ok-shut_gates.ensures.job_gate told))) in
    let attached : (g.R.Rack.view c.read_input.new.rack).attached ≡ Some (dims_of s) =
    c.read_input.ensures.only.attached ∙ c.shut_gates.ensures.call.frame.attached ∙ c.requires.attached in
    c.open_load.ensures.sound stands told attached (λ dims image is i. (both_in_images _ both dims image is i).0)
    (λ dims image is i. (both_in_images _ both dims image is i).1)

pub returns-in_ok-open_load-in-Ok-clause-mended : goal.returns-in_ok-open_load-in-Ok-clause-mended
returns-in_ok-open_load-in-Ok-clause-mended g c stands told other =
    let s = c.args.shape.now in
    let both = closed_through s _ _ c.read_input.ensures.only
    (both_closed _ c.in_ok-shut_gates.ensures.clean (c.in_ok-shut_gates.ensures.load_gate told)
    (shut_closed _ _ (c.in_ok-shut_gates.ensures.job_gate told))) in
    let attached : (g.R.Rack.view c.read_input.new.rack).attached ≡ Some (dims_of s) =
    c.read_input.ensures.only.attached ∙ c.shut_gates.ensures.call.frame.attached ∙ c.requires.attached in
    c.open_load.ensures.sound stands told attached (λ dims image is i. (both_in_images _ both dims image is i).0)
    (λ dims image is i. (both_in_images _ both dims image is i).1)

pub returns-in_err-open_load-in-Ok-clause-call : goal.returns-in_err-open_load-in-Ok-clause-call
returns-in_err-open_load-in-Ok-clause-call g c =
    let failed = HasCause-later _ _ _ _ (Keeps-trans _ _ _ c.shut_gates.ensures.call.keeps c.read_input.ensures.keeps)
    c.in_err-open_load-in-Ok.ensures.call.cause in
    record {
      frame = loading_frame c.args.shape.now _ _ _ _ c.shut_gates.ensures.call.frame c.read_input.ensures.only
          c.open_load.ensures.call.frame;
      keeps = Keeps-trans _ _ _ c.shut_gates.ensures.call.keeps
          (Keeps-trans _ _ _ c.read_input.ensures.keeps c.open_load.ensures.call.keeps);
      cause = record { rose = λ _. failed.rose refl; sure = λ steady going _. failed.sure steady going refl };
    }

pub returns-in_ok-open_load-in-Ok-clause-call : goal.returns-in_ok-open_load-in-Ok-clause-call
returns-in_ok-open_load-in-Ok-clause-call g c = record {
  frame = loading_frame c.args.shape.now _ _ _ _ c.shut_gates.ensures.call.frame c.read_input.ensures.only c.open_load.ensures.call.frame;
  keeps = Keeps-trans _ _ _ c.shut_gates.ensures.call.keeps (Keeps-trans _ _ _ c.read_input.ensures.keeps c.open_load.ensures.call.keeps);
  cause = record { rose = λ is. (cc); sure = λ steady going is. (cc) };
}

pub returns-in_ok-open_load-in-Ok-clause-records : goal.returns-in_ok-open_load-in-Ok-clause-records
returns-in_ok-open_load-in-Ok-clause-records g c tells told =
    input_kept c.args.shape.now _ _ _ c.open_load.ensures.call.frame (c.in-Ok.ensures.records tells told refl)

pub returns-in_ok-open_load-in-Ok-clause-gates : goal.returns-in_ok-open_load-in-Ok-clause-gates
returns-in_ok-open_load-in-Ok-clause-gates g c told = record {
  body = c.in_ok-open_load-in-Ok.ensures.body told;
  opened = c.in_ok-open_load-in-Ok.ensures.opened told;
  no_job = job_gate_kept c.args.shape.now _ _ _ _ c.read_input.ensures.only c.open_load.ensures.call.frame
      (c.in_ok-shut_gates.ensures.job_gate told);
}

pub returns-in_ok-open_load-in-Ok-clause-exact : goal.returns-in_ok-open_load-in-Ok-clause-exact
returns-in_ok-open_load-in-Ok-clause-exact g c told ok one three load job =
    loading_exact (one + three) (stripes c.args.shape.now) _ _ _ _ (c.in_ok-shut_gates.ensures.exact told refl one three load job)
    (MovesRows-part _ _ _ (Unit {0}) _ _ (omega arith) (λ _. (refl, refl)) c.in-Ok.ensures.moved)
    (MakesPageCalls-done _ 2 2 _ _ (g.met.R.Rack.consistent c.read_input.new.rack) refl c.in_ok-open_load-in-Ok.ensures.counts)

pub returns-in_err-shut_gates-clause-opened : goal.returns-in_err-shut_gates-clause-opened
returns-in_err-shut_gates-clause-opened g c tells stands told sound =
    let s = c.args.shape.now in
    let fits = g.met.R.Rack.consistent c.args.rack.now in
    let there = fits.attached stands (dims_of s) c.requires.attached in
    opens_old s _ (dims_of s) _ _ there (fits.sizes stands told (dims_of s) there) c.shut_gates.ensures.call.frame
    (c.shut_gates.ensures.stays told) (c.shut_gates.ensures.sound stands told sound)

pub returns-in-Err-clause-opened : goal.returns-in-Err-clause-opened
returns-in-Err-clause-opened g c tells stands told sound =
    let s = c.args.shape.now in
    opens_none s _ _ _ (closed_through s _ _ c.read_input.ensures.only
    (both_closed _ c.in_ok-shut_gates.ensures.clean (c.in_ok-shut_gates.ensures.load_gate told)
    (shut_closed _ _ (c.in_ok-shut_gates.ensures.job_gate told))))

pub returns-in_err-open_load-in-Ok-clause-opened : goal.returns-in_err-open_load-in-Ok-clause-opened
returns-in_err-open_load-in-Ok-clause-opened g c tells stands told sound =
    let s = c.args.shape.now in
    let both = closed_through s _ _ c.read_input.ensures.only
    (both_closed _ c.in_ok-shut_gates.ensures.clean (c.in_ok-shut_gates.ensures.load_gate told)
    (shut_closed _ _ (c.in_ok-shut_gates.ensures.job_gate told))) in
    let attached : (g.R.Rack.view c.read_input.new.rack).attached ≡ Some (dims_of s) =
    c.read_input.ensures.only.attached ∙ c.shut_gates.ensures.call.frame.attached ∙ c.requires.attached in
    let there = (g.met.R.Rack.consistent c.read_input.new.rack).attached stands (dims_of s) attached in
    opens_new s _ _ _ _ (c.in-Ok.ensures.answer tells).0 (c.in-Ok.ensures.records tells told refl)
    c.open_load.ensures.call.frame (c.open_load.ensures.call.frame.stands ∙ there)
    (c.open_load.ensures.sound stands told attached (λ dims image is i. (both_in_images _ both dims image is i).0)
    (λ dims image is i. (both_in_images _ both dims image is i).1))

pub returns-in_ok-open_load-in-Ok-clause-opened : goal.returns-in_ok-open_load-in-Ok-clause-opened
returns-in_ok-open_load-in-Ok-clause-opened g c tells stands told sound =
    let s = c.args.shape.now in
    let both = closed_through s _ _ c.read_input.ensures.only
    (both_closed _ c.in_ok-shut_gates.ensures.clean (c.in_ok-shut_gates.ensures.load_gate told)
    (shut_closed _ _ (c.in_ok-shut_gates.ensures.job_gate told))) in
    let attached : (g.R.Rack.view c.read_input.new.rack).attached ≡ Some (dims_of s) =
    c.read_input.ensures.only.attached ∙ c.shut_gates.ensures.call.frame.attached ∙ c.requires.attached in
    let there = (g.met.R.Rack.consistent c.read_input.new.rack).attached stands (dims_of s) attached in
    opens_new s _ _ _ _ (c.in-Ok.ensures.answer tells).0 (c.in-Ok.ensures.records tells told refl)
    c.open_load.ensures.call.frame (c.open_load.ensures.call.frame.stands ∙ there)
    (c.open_load.ensures.sound stands told attached (λ dims image is i. (both_in_images _ both dims image is i).0)
    (λ dims image is i. (both_in_images _ both dims image is i).1))
