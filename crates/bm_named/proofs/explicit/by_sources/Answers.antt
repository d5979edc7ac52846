use Rattle.std.proofs.Common.{◌≡◌, ℕ, ◌<◌, ◌^◌, subst, sym, ◌∙◌, slice_index, arith, get_or-take}
use Rattle.std.proofs.lemmas.Nat.{pow_below}
use Rattle.bm_named.proofs.explicit.by_sources.Goals as goal

pub from_rows-requires-clause-below : goal.from_rows-requires-clause-below
from_rows-requires-clause-below c = λ i inside.
    let n = c.args.n in
    let whole : c.from-2.result ≡ n = c.from-2.ensures in
    let unit = get_or-take c.from-2.result c.loop-i.rows i 0 (subst (λ (k : ℕ). i < k) (sym whole) inside)
    ∙ c.loop-i.invariant.1 i (omega arith) in
    subst (λ (x : ℕ). x < 2 ^ n) (sym unit) (pow_below (slice_index c.args.list.now i) n (c.requires.below i inside))
