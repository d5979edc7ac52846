use Rattle.std.proofs.Common.{ℕ, List, sym, subst, ◌≡◌, ap, drop, ◌∙◌, ◌-◌, ◌<◌, ◌≤◌, length, slice_index, arith}
use Rattle.std.proofs.lemmas.Nat.{shr_le}
use Rattle.bm_rank.specs.Rank.{rank, cut_columns, rank_of_rows}
use Rattle.bm_rank.proofs.DimensionLemmas.{rank-le}
use Rattle.bm_rank.proofs.DimensionLawLemmas.{rank-dimension, rank-nonsingular, cut_short}
use Rattle.bm_rank.proofs.RankLemmas.{IsRanked, ranked_none, ranked_turn, length-cut}
use Rattle.bm_rank.proofs.column_rank.rank_of.Goals as goal

pub loop-j-init : goal.loop-j-init
loop-j-init c =
    let long : c.args.cols ≤ length c.args.a.now.cols = omega (arith, c.args.a.now.few) in
    let e = length-cut c.args.a.now.cols c.args.row c.args.cols long in
    rw c.new-found.ensures.empty (
      ranked_none (cut_columns c.args.a.now.cols c.args.row c.args.cols) c.args.cols (omega (arith, e)),
      c.new-found.ensures.size,
      omega arith,
    )

pub insert-fresh-requires : goal.insert-fresh-requires
insert-fresh-requires c =
    let i : c.loop-j.j - 1 < c.args.a.now.n = omega arith in
    rw (c.from.ensures, c.loop-j.invariant.1)
    (omega (arith, shr_le (slice_index c.args.a.now.cols (c.loop-j.j - 1)) c.args.row, c.args.a.now.below (c.loop-j.j - 1) i))

pub loop-j-preserved-then-fresh : goal.loop-j-preserved-then-fresh
loop-j-preserved-then-fresh c =
    let long : c.args.cols ≤ length c.args.a.now.cols = omega (arith, c.args.a.now.few) in (
      rw c.if-fresh.true at (ranked_turn c.args.a.now.cols c.args.row c.args.cols c.loop-j.j long (omega arith)
          (omega arith) c.loop-j.found.kept c.insert-fresh.new.self.kept c.loop-j.rank c.insert-fresh.result c.loop-j.invariant.0 _
          c.from.ensures c.insert-fresh.ensures.fresh c.insert-fresh.ensures.kept),
      c.insert-fresh.ensures.size ∙ c.loop-j.invariant.1,
      omega arith,
    )

pub loop-j-preserved : goal.loop-j-preserved
loop-j-preserved c =
    let long : c.args.cols ≤ length c.args.a.now.cols = omega (arith, c.args.a.now.few) in (
      rw c.if-fresh.false at (ranked_turn c.args.a.now.cols c.args.row c.args.cols c.loop-j.j long (omega arith)
          (omega arith) c.loop-j.found.kept c.insert-fresh.new.self.kept c.loop-j.rank c.insert-fresh.result c.loop-j.invariant.0 _
          c.from.ensures c.insert-fresh.ensures.fresh c.insert-fresh.ensures.kept),
      c.insert-fresh.ensures.size ∙ c.loop-j.invariant.1,
      omega arith,
    )

-- the loop's last count
counted : (ws : List ℕ) (j r : ℕ) (kept : List ℕ) → IsRanked ws j kept r → j ≡ 0 → r ≡ rank ws
counted ws j r kept ranked none = ranked.rank_is ∙ ap (λ (k : ℕ). rank (drop k ws)) none

pub returns-clause-dimension : goal.returns-clause-dimension
returns-clause-dimension c =
    let a = c.args.a.now in
    let few : a.n ≤ 52 = a.few in
    let less : a.n - c.args.row ≤ 52 = omega arith in
    let long : a.n ≤ length a.cols = omega arith in
    let all = counted (cut_columns a.cols c.args.row c.args.cols) c.loop-j.j c.loop-j.rank c.loop-j.found.kept c.loop-j.invariant.0
    (omega arith) in
    λ basis is_basis.
    rank-dimension (a.n - c.args.row) basis (cut_columns a.cols c.args.row c.args.cols) less
    (cut_short a c.args.row c.args.cols c.requires.row c.requires.cols long) is_basis
    ∙ sym all

pub returns-clause-within_rows : goal.returns-clause-within_rows
returns-clause-within_rows c =
    let a = c.args.a.now in
    let few : a.n ≤ 52 = a.few in
    let less : a.n - c.args.row ≤ 52 = omega arith in
    let long : a.n ≤ length a.cols = omega arith in
    let all = counted (cut_columns a.cols c.args.row c.args.cols) c.loop-j.j c.loop-j.rank c.loop-j.found.kept c.loop-j.invariant.0
    (omega arith) in
    subst (λ (r : ℕ). r ≤ a.n - c.args.row) (sym all)
    (rank-le (a.n - c.args.row) (cut_columns a.cols c.args.row c.args.cols) less
    (cut_short a c.args.row c.args.cols c.requires.row c.requires.cols long))

pub returns-clause-nonsingular : goal.returns-clause-nonsingular
returns-clause-nonsingular c =
    let a = c.args.a.now in
    let few : a.n ≤ 52 = a.few in
    let long : a.n ≤ length a.cols = omega arith in
    let all = counted (cut_columns a.cols c.args.row c.args.cols) c.loop-j.j c.loop-j.rank c.loop-j.found.kept c.loop-j.invariant.0
    (omega arith) in
    λ whole_rows all_columns.
    let same : c.loop-j.rank ≡ rank_of_rows a.cols 0 a.n = all ∙ ap (λ (r : ℕ). rank_of_rows a.cols r c.args.cols) whole_rows
    ∙ ap (rank_of_rows a.cols 0) all_columns in
    (λ full. (rank-nonsingular a long).0 (sym same ∙ full), λ nonsingular. same ∙ (rank-nonsingular a long).1 nonsingular)
