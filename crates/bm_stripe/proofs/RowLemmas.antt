-- One row more was read or written.
use Rattle.std.proofs.Common.{◌≡◌, ◌≢◌, inl, inr, ℕ, ◌+◌, ◌*◌, ◌<◌, ◌≤◌, Bool, IsTrue, List, length, take, drop, Option, Some, None, Result}
use Rattle.std.proofs.Common.{IsOk, sym, ◌∙◌, ap, arith, get_or-take, length-take}
use Rattle.std.proofs.Math.Nat.{mul-le-mul_right}
use Rattle.std.proofs.lemmas.Nat.{mul-add-lt}
use Rattle.std.proofs.lemmas.Bool.{cases_lt}
use Rattle.std.proofs.lemmas.List.{get_or_past}
use borrow.Rule.Slice.PartMut.{put_mid}
use Rattle.std.specs.Fork.{slice_chunk}
use Rattle.bm_base.specs.declared.dims.Dims.{Dims}
use Rattle.bm_base.specs.Contents.{Contents, RackUnit, block_unit, page_unit, block_at}
use Rattle.bm_base.specs.declared.fault.Failed.{Failed}
use Rattle.bm_base.proofs.ChunkLemmas.{chunk_before, chunk_within, chunk_of_part}
use Rattle.bm_rack.specs.RackView.{RackView}
use Rattle.bm_rack.specs.Frames.{ChangesOnly}
use Rattle.bm_rack.specs.Calls.{InRow, RowWritten, place_on}
use Rattle.bm_rack.proofs.FrameLemmas.{ChangesOnly-trans, ChangesOnly-wider}
use Rattle.bm_stripe.specs.Rows.{HoldsRows, IsRowsUnit}

-- the block of a row on a disk begins so many bytes after the row does
block_start : (dims : Dims) (row disk : ℕ) → (row * dims.disks + disk) * dims.block ≡ row * (dims.disks * dims.block) + disk * dims.block
block_start dims row disk = omega arith

-- a row was read behind those before it
pub HoldsRows-read : (dims : Dims) (contents : Contents) (place : ℕ → ℕ → ℕ) (rows k : ℕ) (buf row : List ℕ)
    → length row ≡ dims.disks * dims.block
    → rows * (dims.disks * dims.block) ≤ length buf
    → HoldsRows dims contents place rows buf
    → ((disk : ℕ) → disk < dims.disks → slice_chunk row dims.block disk ≡ block_at contents disk (place rows disk))
    → HoldsRows dims contents place (rows + 1) (put_mid (rows * (dims.disks * dims.block)) k buf row)
HoldsRows-read dims contents place rows k buf row long fits before here i disk below in_row =
    elim (cases_lt i rows) [
      | inl early ↦
          let inside : (i * dims.disks + disk) < rows * dims.disks = omega (arith, mul-add-lt i dims.disks disk rows early in_row) in
          let end : (i * dims.disks + disk + 1) * dims.block ≤ (rows * dims.disks) * dims.block =
          mul-le-mul_right dims.block (omega arith) in
          chunk_before dims.block ((i * dims.disks + disk) * dims.block) (rows * (dims.disks * dims.block)) k buf row (omega arith) fits
          ∙ before i disk early in_row
      | inr late ↦
          let same : i ≡ rows = omega arith in
          let end : (disk + 1) * dims.block ≤ dims.disks * dims.block = mul-le-mul_right dims.block (omega arith) in
          ap (λ (x : ℕ). take dims.block (drop x (put_mid (rows * (dims.disks * dims.block)) k buf row)))
          (rw same (block_start dims rows disk))
          ∙ chunk_within dims.block (disk * dims.block) (rows * (dims.disks * dims.block)) k buf row (omega arith) fits
          ∙ here disk in_row
          ∙ ap (λ (x : ℕ). block_at contents disk (place x disk)) (sym same)
    ]

-- the entries of a row that is the front of a longer list
pub front_entry : (disks : ℕ) (at : ℕ → ℕ) (places : List (Option ℕ)) → ((k : ℕ) → k < disks → place_on places k ≡ Some (at k)) → (k : ℕ)
    → k < disks → place_on (take disks places) k ≡ Some (at k)
front_entry disks at places each k below = get_or-take disks places k None below ∙ each k below

-- a row was written, and no row before it has a block in common with it
pub HoldsRows-written : {T : Type 0} (told : Bool) (dims : Dims) (old new : RackView) (place : ℕ → ℕ → ℕ) (rows : ℕ)
    (places : List (Option ℕ)) (buf : List ℕ) (result : Result T Failed)
    → HoldsRows dims old.contents place rows buf
    → RowWritten told dims old (take dims.disks places) (slice_chunk buf (dims.disks * dims.block) rows) result new
    → IsTrue told → IsOk result
    → ((disk : ℕ) → disk < dims.disks → place_on places disk ≡ Some (place rows disk))
    → ((i disk : ℕ) → i < rows → disk < dims.disks → place i disk ≢ place rows disk)
    → HoldsRows dims new.contents place (rows + 1) buf
HoldsRows-written told dims old new place rows places buf result before written tells ok each apart i disk below in_row =
    let entry = front_entry dims.disks (place rows) places each disk in_row in
    elim (cases_lt i rows) [
      | inl early ↦
          let outside : ¬ InRow (take dims.disks places) (block_unit disk (place i disk)) =
          λ is. (let e = sym is ∙ entry in apart i disk early in_row (cc)) in
          before i disk early in_row ∙ sym (written.only.contents (block_unit disk (place i disk)) outside)
      | inr late ↦
          let same : i ≡ rows = omega arith in
          let end : (disk + 1) * dims.block ≤ dims.disks * dims.block = mul-le-mul_right dims.block (omega arith) in
          ap (λ (x : ℕ). take dims.block (drop x buf)) (rw same (block_start dims rows disk))
          ∙ sym (chunk_of_part dims.block (disk * dims.block) (dims.disks * dims.block) (rows * (dims.disks * dims.block)) buf
          (omega arith))
          ∙ sym (written.taking tells ok disk (place rows disk) in_row entry)
          ∙ ap (λ (x : ℕ). block_at new.contents disk (place x disk)) (sym same)
    ]

-- a block of the front of a longer list is one of its row
IsRowsUnit-row : (disks : ℕ) (place : ℕ → ℕ → ℕ) (row rows : ℕ) (places : List (Option ℕ)) → disks ≤ length places
    → ((disk : ℕ) → disk < disks → place_on places disk ≡ Some (place row disk)) → row < rows
    → (u : RackUnit) → InRow (take disks places) u → IsRowsUnit disks place rows u
IsRowsUnit-row disks place row rows places long each below (block_unit disk at) is = elim (cases_lt disk disks) [
  | inl inside ↦ let e = sym is ∙ front_entry disks (place row) places each disk inside in (row, below, inside, cc)
  | inr past ↦ let e = sym is ∙ get_or_past (take disks places) disk None (simp (length-take) (omega arith)) in absurd (cc)
]
IsRowsUnit-row disks place row rows places long each below (page_unit page) is = absurd is

-- fewer rows
IsRowsUnit-wider : (disks : ℕ) (place : ℕ → ℕ → ℕ) (few rows : ℕ) → few ≤ rows → (u : RackUnit) → IsRowsUnit disks place few u
    → IsRowsUnit disks place rows u
IsRowsUnit-wider disks place few rows below (block_unit disk at) is = (is.0, omega (arith, is.1), is.2, is.3)
IsRowsUnit-wider disks place few rows below (page_unit page) is = absurd is

-- a row more was written
pub ChangesOnly-row : (disks : ℕ) (place : ℕ → ℕ → ℕ) (row rows : ℕ) (places : List (Option ℕ)) (a b c : RackView) → disks ≤ length places
    → row < rows → ((disk : ℕ) → disk < disks → place_on places disk ≡ Some (place row disk))
    → ChangesOnly (IsRowsUnit disks place row) a b → ChangesOnly (InRow (take disks places)) b c
    → ChangesOnly (IsRowsUnit disks place rows) a c
ChangesOnly-row disks place row rows places a b c long below each before written =
    ChangesOnly-trans (IsRowsUnit disks place rows) a b c
    (ChangesOnly-wider (IsRowsUnit disks place row) (IsRowsUnit disks place rows) a b
    (IsRowsUnit-wider disks place row rows (omega arith)) before)
    (ChangesOnly-wider (InRow (take disks places)) (IsRowsUnit disks place rows) b c
    (IsRowsUnit-row disks place row rows places long each below) written)
