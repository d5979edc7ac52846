use Rattle.std.proofs.Common.{ℕ, ap, ◌∙◌}
use Rattle.bm_base.specs.Butterfly.{record_of}
use Rattle.bm_butter.proofs.OnBitLemmas.{same_pair}
use Rattle.bm_butter.proofs.pair.pair.Goals as goal

pub returns-clause-paired : goal.returns-clause-paired
returns-clause-paired g c =
    let f = g.K.Kernel.meaning c.args.kernel.now in
    let made = c.pair-first.ensures ∙ same_pair f c.number_at.ensures.word c.number_at-2.ensures.word in
    record {
      first = c.set_number-2.ensures.others c.args.i c.requires.apart ∙ c.set_number.ensures.written
          ∙ ap (λ (r : ℕ × ℕ). record_of r.0) made;
      second = c.set_number-2.ensures.written ∙ ap (λ (r : ℕ × ℕ). record_of r.1) made;
    }
