use Rattle.bm_jobfile.specs.Kinds.{kind_named}
use Rattle.bm_jobfile.proofs.KindLemmas.{texts_differ}
use Rattle.bm_jobfile.proofs.kinds.kind_named.Goals as goal

pub returns-in_default : goal.returns-in_default
unfolding kind_named
returns-in_default c =
    let n = c.in_default in
    rw (
      texts_differ _ _ n.not-identity,
      texts_differ _ _ n.not-reversal,
      texts_differ _ _ n.not-text,
      texts_differ _ _ n.not-transpose,
      texts_differ _ _ n.not-gray,
      texts_differ _ _ n.not-text-2,
      texts_differ _ _ n.not-rotation,
      texts_differ _ _ n.not-bits,
      texts_differ _ _ n.not-rows,
      texts_differ _ _ n.not-walsh,
    )
