use Rattle.bm_bufs.specs.Places.{places_by}
use Rattle.bm_kindjob.proofs.ListMoveLemmas.{mixed_back}
use Rattle.bm_kindjob.proofs.one_load.mix_load.Goals as goal

pub returns-clause-records : goal.returns-clause-records
returns-clause-records g c =
    let p = c.args.placing.now in
    mixed_back (g.K.Kernel.meaning c.args.kernel.now) p.a.n c.args.set p.width (places_by p.a p.plus) c.args.bufs.now.load
    c.load_mut.result.now c.kernel_at.new.buf c.requires.width c.load_mut.ensures.value c.kernel_at.ensures.size
    c.kernel_at.ensures.records
