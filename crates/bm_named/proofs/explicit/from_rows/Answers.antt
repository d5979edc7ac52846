use Rattle.std.proofs.Common.{◌≡◌, ℕ, ◌<◌, subst}
use Rattle.bm_named.specs.RowList.{AreRows, IsLeastKernelOfRows}
use Rattle.bm_named.proofs.RowListLemmas.{least_sent}
use Rattle.bm_named.proofs.explicit.from_rows.Goals as goal

pub returns-in-Some-kernel_least-clause-fault : goal.returns-in-Some-kernel_least-clause-fault
returns-in-Some-kernel_least-clause-fault c =
    let n = c.args.n in
    let rows = c.args.rows.now in
    let a = c.from_rows-a.result in
    let x = c.in-Some-kernel_least.x in
    let size : a.n ≡ n = c.from_rows-a.ensures.size in
    let valid : AreRows n rows = record { long = c.in_ok-check_length.ensures.ok; below = c.in_default.ensures.none } in
    let least : IsLeastKernelOfRows a.n rows x =
    least_sent a rows
    (λ i j row col. c.from_rows-a.ensures.entries i j (subst (λ (k : ℕ). i < k) size row) (subst (λ (k : ℕ). j < k) size col))
    x c.in-Some-kernel_least.ensures in
    (valid, subst (λ (k : ℕ). IsLeastKernelOfRows k rows x) size least)
