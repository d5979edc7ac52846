use Rattle.std.proofs.Common.{◌≡◌, ◌≤◌, ℕ, List, take, drop, length, refl, sym, ◌∙◌, ap, arith}
use Rattle.std.proofs.lemmas.List.{drop_at, length-take-le}
use Rattle.bm_disks.proofs.source_bytes.is_at_end.Goals as goal

pub returns-in_err-count-clause-few : goal.returns-in_err-count-clause-few
returns-in_err-count-clause-few g c told = (0, omega arith, c.in_err-count.ensures.read.failed refl)

pub returns-clause-few : goal.returns-clause-few
returns-clause-few g c told =
    let k = c.in_ok-count.count in
    let into = c.read.new.into in
    let bound : k ≤ 1 = c.in_ok-count.ensures.read.bound in
    let long : length into ≡ 1 = c.read.auto.into in (
      k,
      bound,
      sym (drop_at (take k into) (g.S.Source.left c.read.new.self) k (length-take-le k into (omega (arith, bound, long))))
          ∙ ap (λ (z : List ℕ). drop k z) (sym (c.in_ok-count.ensures.read.bytes told)),
    )
