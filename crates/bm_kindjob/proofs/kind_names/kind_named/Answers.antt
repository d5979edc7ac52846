use Rattle.bm_jobfile.proofs.KindLemmas.{texts_differ}
use Rattle.bm_kindjob.specs.KindNames.{kind_named}
use Rattle.bm_kindjob.proofs.kind_names.kind_named.Goals as goal

pub returns-in_default : goal.returns-in_default
unfolding kind_named
returns-in_default c =
    let n = c.in_default in
    rw (texts_differ _ _ n.not-text, texts_differ _ _ n.not-sums, texts_differ _ _ n.not-differences, texts_differ _ _ n.not-xors)
