use Rattle.std.proofs.Common.{ℕ, List, ap, ◌∙◌}
use Rattle.bm_butter.specs.Records.{record_at_place}
use Rattle.bm_butter.proofs.SignLemmas.{sign_digits}
use Rattle.bm_butter.proofs.low_bits.butterflies_at.Goals as goal

pub returns-clause-records : goal.returns-clause-records
returns-clause-records c x inside =
    c.lowest_at.ensures.records x inside
    ∙ ap (λ (ys : ℕ → List ℕ). ys x) (sign_digits c.args.low (record_at_place c.args.a.now c.args.plus c.args.buf.now))
