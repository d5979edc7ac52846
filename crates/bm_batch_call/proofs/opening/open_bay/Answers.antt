use Rattle.std.proofs.lemmas.Bool.{false≢true}
use Rattle.bm_batch_call.proofs.opening.open_bay.Goals as goal

pub returns-in-Ok-clause-opens : goal.returns-in-Ok-clause-opens
returns-in-Ok-clause-opens g c = λ t. record {
  sound = λ told attached closed. c.open_load.ensures.sound told.0 told.1 attached (λ dims image is i. (closed dims image is i).0)
      (λ dims image is i. (closed dims image is i).1);
  clean = λ ok. c.in-Ok.ensures.clean;
  gate = λ told ok. c.in-Ok.ensures.opened told;
  body = λ told ok. c.in-Ok.ensures.body told;
  call = c.in-Ok.ensures.call;
  moves = c.open_load.ensures.counts.moves;
}

pub returns-in-Err-clause-opens : goal.returns-in-Err-clause-opens
returns-in-Err-clause-opens g c = λ t. record {
  sound = λ told attached closed. c.open_load.ensures.sound told.0 told.1 attached (λ dims image is i. (closed dims image is i).0)
      (λ dims image is i. (closed dims image is i).1);
  clean = λ ok. absurd (false≢true ok);
  gate = λ told ok. absurd (false≢true ok);
  body = λ told ok. absurd (false≢true ok);
  call = c.in-Err.ensures.call;
  moves = c.open_load.ensures.counts.moves;
}
