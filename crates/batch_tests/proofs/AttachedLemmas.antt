-- Bays that are attached, as a batch asks for it.
use Rattle.std.proofs.Common.{◌≡◌, ℕ, ◌<◌, List, length, map, Some, ◌∙◌, ap, subst, arith}
use Rattle.std.specs.List.{All}
use Rattle.std.proofs.lemmas.List.{length-map}
use Rattle.bm_base.specs.declared.shape.Shape.{Shape}
use Rattle.bm_base.specs.Shape.{dims_of}
use Rattle.bm_rack.specs.RackView.{RackView}
use Rattle.bm_batch.specs.Batches.{AreAllAttached}
use Rattle.bm_batch.proofs.BatchLemmas.{element_of, view_here}

pub all_attached : {A : Type 0} (view : A → RackView) (s : Shape) (bays : List A)
    → All (λ (y : A). (view y).attached ≡ Some (dims_of s)) bays → AreAllAttached s (map view bays)
all_attached view s bays attached k below =
    let here : k < length bays = (let many = length-map bays view in omega (arith, below, many)) in
    let d = element_of bays k here in
    ap (λ (v : RackView). v.attached) (view_here view bays k d here) ∙ attached k d here

-- numbers below a count are below what the count is
pub all_below : (xs : List ℕ) (a b : ℕ) → a ≡ b → All (λ x. x < a) xs → All (λ x. x < b) xs
all_below xs a b same below = subst (λ (k : ℕ). All (λ x. x < k) xs) same below
