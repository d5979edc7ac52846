use Rattle.std.proofs.Common.{◌+◌, ◌-◌, ◌∙◌, sym, ap, ℕ}
use Rattle.std.proofs.lemmas.Bool.{false≢true}
use Rattle.std.specs.Int.{div_ceil}
use Rattle.bm_rank.specs.Rank.{rank_of_rows}
use Rattle.bm_forms.specs.Mld.{IsMld}
use Rattle.bm_forms.proofs.PassCountLemmas.{passes-mld, passes-several}
use Rattle.bm_forms.proofs.passes.map_passes.Goals as goal

pub returns-then-is_ok-clause-passes : goal.returns-then-is_ok-clause-passes
returns-then-is_ok-clause-passes c =
    sym (passes-mld c.args.shape.now c.args.a.now c.requires (c.of.ensures.exact.0 (sym c.is_ok.ensures.value ∙ c.if-is_ok.true)))

pub returns-clause-passes : goal.returns-clause-passes
returns-clause-passes c =
    let a = c.args.a.now in
    let s = c.args.shape.now in
    let not_mld : ¬ IsMld a s.b s.m = λ mld.
    false≢true (sym c.if-is_ok.false ∙ c.is_ok.ensures.value ∙ c.of.ensures.exact.1 mld) in
    let rank = c.rank_of.ensures.rank in
    let first = c.m.ensures in
    let second = c.m-2.ensures in
    let top = c.m-3.ensures in
    let low = c.b.ensures in
    ap (λ (k : ℕ). k + 1)
    (c.div_ceil.ensures ∙ rw (rank, first, second, top, low) (λ i. div_ceil (rank_of_rows a.cols s.m s.m) (s.m - s.b)))
    ∙ sym (passes-several s a c.requires not_mld)
