-- A row of a load whose records stay together.
use Rattle.std.proofs.Common.{◌≡◌, ℕ, ◌⊎◌, inl, inr, ⊎_elim, ◌+◌, ◌-◌, ◌*◌, ◌^◌, ◌<◌, ◌≤◌, List, sym, ap, ◌∙◌, subst, arith}
use Rattle.std.specs.Fork.{slice_chunk}
use Rattle.std.proofs.lemmas.Bool.{cases_lt}
use Rattle.std.proofs.lemmas.Nat.{pow_pos}
use Rattle.std.proofs.Math.Nat.{mul-le-mul_right, add-mul}
use Rattle.bm_base.specs.declared.shape.Shape.{Shape}
use Rattle.bm_base.specs.declared.area.Area.{Area}
use Rattle.bm_base.specs.Contents.{Contents}
use Rattle.bm_base.specs.Shape.{load_stripes}
use Rattle.bm_base.specs.Records.{record_at, record_in}
use Rattle.bm_bufs.specs.declared.placing.Placing.{Placing}
use Rattle.bm_bufs.specs.Places.{places_by}
use Rattle.bm_bufs.specs.Runs.{KeepsRuns}
use Rattle.bm_bufs.proofs.PlacesLemmas.{places_by-injective}
use Rattle.bm_bufs.proofs.RunLemmas.{place_follows}
use Rattle.bm_pass.specs.LoadPlaces.{IsOfLoad, HoldsRowsOfLoad}
use Rattle.bm_pass.proofs.PlaceLemmas.{row_room, place_below, record_of_row}

-- the row has room at its place
pub whole_row_room : (s : Shape) (p : Placing) (row : ℕ) → IsOfLoad s p → KeepsRuns p.a p.plus (s.b + s.d) → row < load_stripes s
    → places_by p.a p.plus (row * 2 ^ (s.b + s.d)) + 2 ^ (s.b + s.d) ≤ 2 ^ s.m
whole_row_room s p row of keeps below =
    let size = 2 ^ (s.b + s.d) in
    let some : 0 < size = pow_pos (s.b + s.d) in
    let last : places_by p.a p.plus (row * size + (size - 1)) ≡ places_by p.a p.plus (row * size) + (size - 1) =
    place_follows p.a p.plus (s.b + s.d) row (size - 1) keeps (omega arith) in
    let inside : places_by p.a p.plus (row * size + (size - 1)) < 2 ^ s.m =
    subst (λ k. places_by p.a p.plus (row * size + (size - 1)) < 2 ^ k) of.bits (place_below p (row * size + (size - 1)) of.plus) in
    omega arith

-- .. and so have its bytes
pub whole_row_bytes : (s : Shape) (p : Placing) (row at : ℕ) → IsOfLoad s p → KeepsRuns p.a p.plus (s.b + s.d) → row < load_stripes s
    → at ≡ places_by p.a p.plus (row * 2 ^ (s.b + s.d)) → at * s.width + 2 ^ (s.b + s.d) * s.width ≤ 2 ^ s.m * s.width
whole_row_bytes s p row at of keeps below here =
    let room : at + 2 ^ (s.b + s.d) ≤ 2 ^ s.m = rw here (whole_row_room s p row of keeps below) in
    omega (arith, mul-le-mul_right s.width room, add-mul at (2 ^ (s.b + s.d)) s.width)

-- the place of a number of another row lies outside
outside_row : (s : Shape) (p : Placing) (row i : ℕ) → IsOfLoad s p → KeepsRuns p.a p.plus (s.b + s.d) → row < load_stripes s
    → i < row * 2 ^ (s.b + s.d)
    → (places_by p.a p.plus i < places_by p.a p.plus (row * 2 ^ (s.b + s.d)))
    ⊎ (places_by p.a p.plus (row * 2 ^ (s.b + s.d)) + 2 ^ (s.b + s.d) ≤ places_by p.a p.plus i)
outside_row s p row i of keeps below early =
    let size = 2 ^ (s.b + s.d) in
    let at = places_by p.a p.plus (row * size) in
    let q = places_by p.a p.plus i in
    let room = row_room s row below in
    ⊎_elim (λ (l : q < at). inl l)
    (λ (h : at ≤ q). ⊎_elim
    (λ (l : q < at + size).
    let t = q - at in
    let same : q ≡ places_by p.a p.plus (row * size + t) =
    (let e : q ≡ at + t = omega arith in e) ∙ sym (place_follows p.a p.plus (s.b + s.d) row t keeps (omega arith)) in
    let long : 2 ^ p.a.n ≡ 2 ^ s.m = ap (λ k. 2 ^ k) of.bits in
    absurd ((places_by-injective p.a p.plus of.nonsingular).apart i (row * size + t) (omega arith) (omega arith)
    (λ e. absurd (omega arith)) same))
    (λ (h2 : at + size ≤ q). inr h2)
    (cases_lt q (at + size)))
    (cases_lt q at)

-- one row more, read into its place
pub HoldsRowsOfLoad-whole : (s : Shape) (p : Placing) (from : Area) (load row at : ℕ) (contents : Contents) (old new : List ℕ)
    → IsOfLoad s p → KeepsRuns p.a p.plus (s.b + s.d) → row < load_stripes s → at ≡ places_by p.a p.plus (row * 2 ^ (s.b + s.d))
    → HoldsRowsOfLoad s p from load contents row old
    → ((r : ℕ) → r < 2 ^ (s.b + s.d)
    → record_in s new (at + r) ≡ record_at contents s from (2 ^ (s.b + s.d) * (load * load_stripes s + row) + r))
    → ((k : ℕ) → (k < at) ⊎ (at + 2 ^ (s.b + s.d) ≤ k) → record_in s new k ≡ record_in s old k)
    → HoldsRowsOfLoad s p from load contents (row + 1) new
HoldsRowsOfLoad-whole s p from load row at contents old new of keeps below here before read others i inside =
    let size = 2 ^ (s.b + s.d) in
    let place = places_by p.a p.plus in
    let end : (row + 1) * size ≡ row * size + size = omega arith in
    ⊎_elim
    (λ (early : i < row * size).
    ap (λ w. slice_chunk new w (place i)) of.width
    ∙ others (place i) (rw here (outside_row s p row i of keeps below early))
    ∙ ap (λ w. slice_chunk old w (place i)) (sym of.width)
    ∙ before i early)
    (λ (late : row * size ≤ i).
    let r = i - row * size in
    let back : row * size + r ≡ i = omega arith in
    let in_row : r < size = omega arith in
    ap (λ w. slice_chunk new w (place i)) of.width
    ∙ ap (record_in s new) (ap place (sym back) ∙ place_follows p.a p.plus (s.b + s.d) row r keeps in_row ∙ ap (λ k. k + r) (sym here))
    ∙ read r in_row
    ∙ ap (record_at contents s from) (record_of_row s load row r ∙ ap (λ x. 2 ^ s.m * load + x) back))
    (cases_lt i (row * size))
