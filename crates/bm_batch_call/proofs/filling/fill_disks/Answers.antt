use Rattle.std.proofs.Common.{ℕ, IsTrue, refl, ◌∙◌, ap, arith}
use Rattle.std.proofs.lemmas.Bool.{false≢true}
use Rattle.bm_base.specs.declared.area.Area.TheVariants.{Input}
use Rattle.bm_base.specs.Count.{raised}
use Rattle.bm_base.specs.Shape.{stripes}
use Rattle.bm_rack.proofs.FrameLemmas.{Keeps-trans, HasCause-later, DirtiesOnly-changes}
use Rattle.bm_stripe.specs.Units.{IsAreaUnit}
use Rattle.bm_disks.proofs.GateLemmas.{both_closed, both_in_images, both_sound, shut_closed, load_shut_within}
use Rattle.bm_disks.proofs.LoadingLemmas.{closed_through}
use Rattle.bm_top.proofs.ExitLemmas.{IsRead-none}
use Rattle.bm_batch_call.proofs.RowLemmas.{few_same, few_raised, few_both}
use Rattle.bm_batch_call.proofs.filling.fill_disks.Goals as goal

pub returns-in-Ok-clause-call : goal.returns-in-Ok-clause-call
returns-in-Ok-clause-call g c =
    let s = c.args.shape.now in
    let old = g.Y.Rack.view c.args.rack.now in
    let mid = g.Y.Rack.view c.shut_gates.new.rack in
    let new = g.Y.Rack.view c.read_loads.new.rack in
    let loads = c.read_loads.ensures in
    let both = λ (told : IsTrue g.Y.Rack.tells_contents). closed_through s _ _ loads.only
    (both_closed _ c.in-Ok.ensures.clean (c.in-Ok.ensures.load_gate told) (shut_closed _ _ (c.in-Ok.ensures.job_gate told))) in
    record {
      whole = loads.whole;
      taken = loads.taken;
      short = loads.short;
      long = loads.long;
      few = loads.few;
      data_fault = loads.data_fault;
      faults = loads.faults;
      holds = loads.records;
      closed = λ told not. both_in_images _ (both told);
      no_job = λ told ok. (both told).three.holds;
      sound = λ stands told sound. both_sound _ (both told);
      mended = λ told not. both_sound _ (both told);
      stays = λ told shut. load_shut_within (IsAreaUnit s Input) _ _ (DirtiesOnly-changes (IsAreaUnit s Input) _ _ loads.only) (λ e. e)
          (c.shut_gates.ensures.stays told shut);
      stands = loads.only.stands ∙ c.shut_gates.ensures.call.frame.stands;
      attached = loads.only.attached ∙ c.shut_gates.ensures.call.frame.attached;
      keeps = Keeps-trans _ _ _ c.shut_gates.ensures.call.keeps loads.keeps;
      cause = HasCause-later _ _ _ _ c.shut_gates.ensures.call.keeps loads.cause;
      moves = few_both 0 (stripes s) (stripes s) old mid new (omega arith) (few_same 0 old mid c.shut_gates.ensures.counts.moves)
          (few_raised (stripes s) _ mid new loads.moved.moves);
      rows = λ ok. loads.moved.moves.done ok ∙ ap (λ (k : ℕ). raised k (stripes s)) c.shut_gates.ensures.counts.moves;
    }

pub returns-in-Err-clause-call : goal.returns-in-Err-clause-call
returns-in-Err-clause-call g c =
    let shut = c.shut_gates.ensures in
    record {
      whole = λ told ok. absurd (false≢true ok);
      taken = λ told ok. absurd (false≢true ok);
      short = λ got e. absurd (cc);
      long = λ e. cc;
      few = λ told. IsRead-none _ _;
      data_fault = λ e. absurd (cc);
      faults = omega arith;
      holds = λ input told ok. absurd (false≢true ok);
      closed = λ told not. absurd (not refl);
      no_job = λ told ok. absurd (false≢true ok);
      sound = shut.sound;
      mended = λ told not. absurd (not refl);
      stays = shut.stays;
      stands = shut.call.frame.stands;
      attached = shut.call.frame.attached;
      keeps = shut.call.keeps;
      cause = record {
        rose = λ e. c.in-Err.ensures.call.cause.rose refl;
        sure =
            λ steady going e. c.in-Err.ensures.call.cause.sure steady going refl;
      };
      moves = few_same (stripes c.args.shape.now) _ _ shut.counts.moves;
      rows = λ ok. absurd (false≢true ok);
    }
