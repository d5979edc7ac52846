use Rattle.std.proofs.Common.{◌≡◌, ℕ, ◌+◌, ◌<◌, inl, inr, List, length, slice_set, Option, Some, None, ◌∙◌, ap, arith}
use Rattle.std.proofs.lemmas.Bool.{cases_lt}
use Rattle.std.proofs.lemmas.List.{length-set, get_or-set_same, get_or-set_other}
use Rattle.bm_base.proofs.ShapeLemmas.{disks_fit}
use Rattle.bm_rack.specs.Calls.{place_on}
use Rattle.bm_stripe.specs.Rows.{spread_place}
use Rattle.bm_stripe.proofs.spread_write.places_of_row.Goals as goal

-- an entry more was set
entries_more : (at : ℕ → ℕ) (places : List (Option ℕ)) (n value : ℕ) → n < length places
    → ((k : ℕ) → k < n → place_on places k ≡ Some (at k)) → value ≡ at n
    → (k : ℕ) → k < n + 1 → place_on (slice_set places n (Some value)) k ≡ Some (at k)
entries_more at places n value fits before here k below = elim (cases_lt k n) [
  | inl early ↦ get_or-set_other places n k (Some value) None (omega arith) ∙ before k early
  | inr late ↦
      let same : k ≡ n = omega arith in
      rw same (get_or-set_same places n (Some value) None fits ∙ ap (λ x. Some x) here)
]

pub bounds-places-disk : goal.bounds-places-disk
bounds-places-disk c = omega (arith, disks_fit c.args.shape.now, rw c.dims-disk-end.ensures at c.loop-disk-test.true)

pub loop-disk-preserved : goal.loop-disk-preserved
loop-disk-preserved c = record {
  length_is = length-set c.loop-disk.places c.loop-disk.disk (Some c.place_of_block.result) ∙ c.loop-disk.invariant.length_is;
  entries = entries_more (spread_place c.args.shape.now c.args.area c.args.spread.now c.args.row) c.loop-disk.places c.loop-disk.disk
      c.place_of_block.result (omega (arith, disks_fit c.args.shape.now, rw c.dims-disk-end.ensures at c.loop-disk-test.true))
      c.loop-disk.invariant.entries
      (c.place_of_block.ensures ∙ ap (spread_place c.args.shape.now c.args.area c.args.spread.now c.args.row) c.from.ensures);
}
