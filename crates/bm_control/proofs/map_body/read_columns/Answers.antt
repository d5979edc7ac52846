use Rattle.std.proofs.Common.{◌≡◌, ℕ, ◌+◌, ◌*◌, ◌^◌, ◌<◌, List, set, length, drop, slice_index, inl, inr, ap, sym, subst, ◌∙◌, arith}
use Rattle.std.proofs.Common.{length-set}
use Rattle.std.proofs.Common.{get_or-set_same, get_or-set_other}
use Rattle.std.proofs.lemmas.Bool.{cases_eq}
use Rattle.bm_forms.proofs.MldLemmas.{below_of_none}
use Rattle.bm_control.specs.Bodies.{u64_in}
use Rattle.bm_control.proofs.map_body.read_columns.Goals as goal

-- a fact of each column below k, and of column k, which was just set
one_more : (P : ℕ → ℕ → Type 0) (cols : List ℕ) (k at v : ℕ) → at ≡ k → k < length cols → P k v
    → ((j : ℕ) → j < k → P j (slice_index cols j))
    → (j : ℕ) → j < k + 1 → P j (slice_index (set cols at v) j)
one_more P cols k at v is within here before j below = elim (cases_eq j at) [
  | inl same ↦
      let e : slice_index (set cols at v) at ≡ v = get_or-set_same cols at v 0 (omega arith) in
      subst (λ (x : ℕ). P x (slice_index (set cols at v) x)) (sym same) (subst (P at) (sym e) (subst (λ (x : ℕ). P x v) (sym is) here))
  | inr other ↦ subst (P j) (sym (get_or-set_other cols at j v 0 other)) (before j (omega arith))
]

pub loop-j-preserved : goal.loop-j-preserved
loop-j-preserved c =
    let is : c.from-in-loop-j.result ≡ c.loop-j.j = c.from-in-loop-j.ensures in
    let few = c.requires in
    let within : c.loop-j.j < length c.loop-j.cols = omega (arith, c.loop-j.invariant.long, few) in
    let seen : c.u64_at-column.result ≡ u64_in (drop (24 + 8 * c.loop-j.j) c.args.page.now) =
    c.u64_at-column.ensures ∙ ap (λ (k : ℕ). u64_in (drop (24 + 8 * k) c.args.page.now)) c.from.ensures in
    record {
      long = length-set c.loop-j.cols c.from-in-loop-j.result c.u64_at-column.result ∙ c.loop-j.invariant.long;
      columns = one_more (λ j v. v ≡ u64_in (drop (24 + 8 * j) c.args.page.now)) c.loop-j.cols c.loop-j.j _ _ is within seen
          c.loop-j.invariant.columns;
      below = one_more (λ j v. v < 2 ^ c.args.n) c.loop-j.cols c.loop-j.j _ _ is within (below_of_none _ c.args.n c.if-column-n-ne0.false)
          c.loop-j.invariant.below;
      rest = λ j h. get_or-set_other c.loop-j.cols c.from-in-loop-j.result j c.u64_at-column.result 0 (λ e. omega (arith, e))
          ∙ c.loop-j.invariant.rest j (omega arith);
    }
