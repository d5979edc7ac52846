use Rattle.bm_top.specs.Moment.{sink_of}
use Rattle.bm_top.specs.declared.words.Verb.TheVariants as verbs
use Rattle.bm_top.proofs.MemoryLemmas.{memory_refused}
use Rattle.bm_top.proofs.commands.detect.run_detect.Goals as goal

pub returns-in-Err : goal.returns-in-Err
returns-in-Err g c = λ t d.
    memory_refused (record t { out = g.K.Sink.tells; stands = g.R.Rack.tells_stands; contents = g.R.Rack.tells_contents }) verbs.Detect
    c.args.task.now (record d {
      out = sink_of (g.K.Sink.taken c.args.out.now)
          (g.K.Sink.faults c.args.out.now);
      rack = g.R.Rack.view c.args.rack.now;
    })
    g.R.Rack.tells_stands g.R.Rack.tells_contents (g.met.R.Rack.consistent c.args.rack.now)
