-- What a plan leaves that the output refused.
use Rattle.std.proofs.Common.{inl, ◌≤◌, IsTrue, refl, arith}
use Rattle.bm_base.specs.Count.{Rose}
use Rattle.bm_rack.specs.Sink.{AppendsFront}
use Rattle.bm_rack.proofs.FrameLemmas.{Keeps-refl}
use Rattle.bm_text.specs.PlanText.{plan_text}
use Rattle.bm_top.specs.Moment.{SinkView, Devices, Tells}
use Rattle.bm_top.specs.TopCall.{TaskCall}
use Rattle.bm_top.specs.declared.task.Task.{Task}
use Rattle.bm_top.specs.declared.words.Verb.TheVariants.{Plan}
use Rattle.bm_top.specs.declared.status.Status.TheVariants.{SinkFault}
use Rattle.bm_top.proofs.ExitLemmas.{SameCalls-refl, IsRead-none}
use Rattle.bm_rack.proofs.CallLemmas.{CallsGrow-same}

pub plan_refused : (t : Tells) (task : Task) (d : Devices) (old new : SinkView)
    → (IsTrue t.out → AppendsFront old.taken new.taken (plan_text task.shape task.job)) → Rose old.faults new.faults
    → old.faults ≤ new.faults
    → TaskCall t Plan task (record d { out = old }) SinkFault (record d { out = new })
plan_refused t task d old new front rose low = record {
  may = tt;
  cause = (λ told. tt, rose);
  done = λ e. absurd (cc);
  leaves = record { front = front; unwritten = λ e. absurd (cc); input = refl; rack = refl };
  each = record {
    sound = λ told sound. sound;
    stands = λ told. inl refl;
    keeps = Keeps-refl d.rack;
    fault = record { rose = λ e. absurd (cc); sure = λ steady going e. absurd (cc) };
    calls = λ of. absurd of;
    grow = CallsGrow-same d.rack d.rack (SameCalls-refl d.rack);
    unattached = λ e. absurd (cc);
    few = λ told. IsRead-none _ d.input.left;
    input_faults = omega arith;
    out_faults = low;
  };
  complete = λ is calm. absurd (calm.out rose);
}
