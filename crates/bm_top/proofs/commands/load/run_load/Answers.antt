use Rattle.bm_top.specs.Moment.{source_of}
use Rattle.bm_top.specs.declared.words.Verb.TheVariants as verbs
use Rattle.bm_top.proofs.MemoryLemmas.{memory_refused}
use Rattle.bm_top.proofs.commands.load.run_load.Goals as goal

pub returns-in-Err : goal.returns-in-Err
returns-in-Err g c = λ t d.
    memory_refused (record t { input = g.S.Source.tells; stands = g.R.Rack.tells_stands; contents = g.R.Rack.tells_contents }) verbs.Load
    c.args.task.now (record d {
      input = source_of (g.S.Source.left c.args.input.now)
          (g.S.Source.faults c.args.input.now);
      rack = g.R.Rack.view c.args.rack.now;
    })
    g.R.Rack.tells_stands g.R.Rack.tells_contents (g.met.R.Rack.consistent c.args.rack.now)
