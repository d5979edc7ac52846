use Rattle.std.proofs.Common.{ℕ, ◌≡◌, ◌+◌, ◌-◌, ◌<◌, ◌∙◌, arith}
use Rattle.bm_factor.proofs.ColumnOrderLemmas.{nonsingular_exchanged, reducer_exchanged}
use Rattle.bm_factor.proofs.reducing.move_down.Goals as goal

pub loop-k-preserved : goal.loop-k-preserved
loop-k-preserved c =
    let i : ℕ = c.loop-k.k - 1 in
    let size : c.loop-k.r.n ≡ c.args.r.now.n = c.loop-k.invariant.0 in
    let low : i < c.args.from = omega arith in
    let first : i < c.loop-k.r.n = omega (arith, c.requires.from) in
    let second : i + 1 < c.loop-k.r.n = omega (arith, c.requires.from) in
    let swap = c.swap_columns.ensures in (
      swap.size ∙ size,
      λ a m l mn s. reducer_exchanged c.loop-k.r c.swap_columns.new.self i (i + 1) swap.size swap.first swap.second swap.others a m
          (omega arith) (omega arith) mn (c.loop-k.invariant.1 a m l mn s),
      λ n. nonsingular_exchanged c.loop-k.r c.swap_columns.new.self i (i + 1) swap.size swap.first swap.second swap.others first second
          (c.loop-k.invariant.2 n),
    )
