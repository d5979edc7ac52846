-- A list of units of which a stop leaves what is chosen, unit by unit.
use Rattle.std.proofs.Common.{◌≡◌, ◌≢◌, inl, inr, ℕ, ◌+◌, ◌*◌, ◌<◌, ◌≤◌, Bool, true, false, zero, suc, if◌then◌else◌, List, length}
use Rattle.std.proofs.Common.{slice_index_or, sym, ◌∙◌, ap, refl, subst, arith, length-append, length-take}
use Rattle.std.specs.Fork.{slice_chunk}
use Rattle.std.proofs.lemmas.Bool.{cases_lt}
use Rattle.std.proofs.lemmas.List.{length-replicate}
use Rattle.std.proofs.lemmas.List.FromFn.{sum_by-map-range_with_len_more}
use borrow.Rule.Slice.PartMut.{put_mid}
use Rattle.bm_base.proofs.ChunkLemmas.{chunk_other, chunk_same, block_fits_at}
use Rattle.bm_memrack.proofs.BlockCopyLemmas.{chunk_long}
use Rattle.bm_memrack.specs.declared.crash_choice.CrashChoice.{CrashChoice}
use Rattle.bm_memrack.specs.declared.crash_choice.CrashChoice.TheVariants.{Written, Zeros, Ones, FrontHalf}
use Rattle.bm_memrack.specs.BlockCopy.{flag_at}
use Rattle.bm_memrack.specs.CrashChoice.{choice_of, remains_of, dirty_count, unit_after}

-- the first units are served, and the later ones are as before
pub record UnitsChosen (dirty : List Bool) (first pick size count : ℕ) (old new : List ℕ) : Type 0 where
  pub units : (k : ℕ) → k < count → slice_chunk new size k ≡ unit_after (flag_at dirty) first pick k (slice_chunk old size k)
  pub later : (k : ℕ) → count ≤ k → k < length dirty → slice_chunk new size k ≡ slice_chunk old size k

-- a unit keeps its length
pub length-remains_of : (choice : CrashChoice) (bytes : List ℕ) → length (remains_of choice bytes) ≡ length bytes
length-remains_of Written bytes = refl
length-remains_of Zeros bytes = length-replicate (length bytes) 0
length-remains_of Ones bytes = length-replicate (length bytes) 255
length-remains_of FrontHalf bytes = simp (length-append, length-take, length-replicate) (omega arith)

-- no unit is counted yet
pub dirty_count-zero : (dirty : ℕ → Bool) → dirty_count dirty 0 ≡ 0
unfolding dirty_count
dirty_count-zero dirty = refl

-- one unit more to count
dirty_count-suc : (dirty : ℕ → Bool) (k : ℕ) → dirty_count dirty (k + 1) ≡ dirty_count dirty k + (if dirty k then 1 else 0)
unfolding dirty_count
dirty_count-suc dirty k = sum_by-map-range_with_len_more (λ flag. if flag then 1 else 0) dirty 0 k k (omega arith)

pub dirty_count_yes : (dirty : ℕ → Bool) (k : ℕ) → dirty k ≡ true → dirty_count dirty (k + 1) ≡ dirty_count dirty k + 1
dirty_count_yes dirty k is = dirty_count-suc dirty k ∙ ap (λ (flag : Bool). dirty_count dirty k + (if flag then 1 else 0)) is

pub dirty_count_no : (dirty : ℕ → Bool) (k : ℕ) → dirty k ≡ false → dirty_count dirty (k + 1) ≡ dirty_count dirty k
dirty_count_no dirty k is = dirty_count-suc dirty k ∙ ap (λ (flag : Bool). dirty_count dirty k + (if flag then 1 else 0)) is ∙ omega arith

-- the same units, counted by another test
pub dirty_count_agree : (p q : ℕ → Bool) (n : ℕ) → ((k : ℕ) → k < n → p k ≡ q k) → dirty_count p n ≡ dirty_count q n
unfolding dirty_count
dirty_count_agree p q zero same = refl
dirty_count_agree p q (suc n) same =
    let one_more : suc n ≡ n + 1 = omega arith in
    subst (λ m. dirty_count p m ≡ dirty_count q m) (sym one_more) (
    dirty_count-suc p n
    ∙ ap (λ (flag : Bool). dirty_count p n + (if flag then 1 else 0)) (same n (omega arith))
    ∙ ap (λ (m : ℕ). m + (if q n then 1 else 0)) (dirty_count_agree p q n (λ k below. same k (omega arith)))
    ∙ sym (dirty_count-suc q n))

pub unit_after_clean : (dirty : ℕ → Bool) (first pick k : ℕ) (bytes : List ℕ) → dirty k ≡ false
    → unit_after dirty first pick k bytes ≡ bytes
unit_after_clean dirty first pick k bytes clean = rw clean refl

pub unit_after_dirty : (dirty : ℕ → Bool) (first pick k : ℕ) (bytes : List ℕ) → dirty k ≡ true
    → unit_after dirty first pick k bytes ≡ remains_of (choice_of pick (first + dirty_count dirty k)) bytes
unit_after_dirty dirty first pick k bytes is = rw is refl

-- no unit is served yet
pub chosen_none : (dirty : List Bool) (first pick size : ℕ) (bytes : List ℕ) → UnitsChosen dirty first pick size 0 bytes bytes
chosen_none dirty first pick size bytes = record { units = λ k below. absurd (omega arith); later = λ k above below. refl }

-- a clean unit
pub chosen_skip : (dirty : List Bool) (first pick size p : ℕ) (old new : List ℕ) → p < length dirty → slice_index_or dirty p false ≡ false
    → UnitsChosen dirty first pick size p old new → UnitsChosen dirty first pick size (p + 1) old new
chosen_skip dirty first pick size p old new inside clean was = record {
  units = λ k below. elim (cases_lt k p) [
    | inl early ↦ was.units k early
    | inr late ↦
        let same : k ≡ p = omega arith in
        was.later k late (omega arith)
        ∙ sym (unit_after_clean (flag_at dirty) first pick k (slice_chunk old size k) (ap (λ x. slice_index_or dirty x false) same ∙ clean))
  ];
  later = λ k above below. was.later k (omega arith) below;
}

-- a dirty unit
pub chosen_more : (dirty : List Bool) (first pick size p : ℕ) (old new left : List ℕ)
    → p < length dirty → slice_index_or dirty p false ≡ true → length new ≡ length dirty * size
    → left ≡ remains_of (choice_of pick (first + dirty_count (flag_at dirty) p)) (slice_chunk new size p)
    → UnitsChosen dirty first pick size p old new → UnitsChosen dirty first pick size (p + 1) old (put_mid (p * size) size new left)
chosen_more dirty first pick size p old new left inside is long left_is was = record {
  units = λ k below. elim (cases_lt k p) [
    | inl early ↦ other k (omega arith) ∙ was.units k early
    | inr late ↦
        let same : k ≡ p = omega arith in
        subst (λ j. slice_chunk (put_mid (p * size) size new left) size j ≡ unit_after (flag_at dirty) first pick j
        (slice_chunk old size j))
        (sym same) own
  ];
  later = λ k above below. other k (omega arith) ∙ was.later k (omega arith) below;
}
  where
    fits : (p + 1) * size ≤ length new
    fits = omega (arith, block_fits_at size p (length dirty) inside)

    left_long : length left ≡ size
    left_long = ap length left_is
        ∙ length-remains_of (choice_of pick (first + dirty_count (flag_at dirty) p)) (slice_chunk new size p)
        ∙ chunk_long size (length dirty) p new long inside

    other : (k : ℕ) → k ≢ p → slice_chunk (put_mid (p * size) size new left) size k ≡ slice_chunk new size k
    other k apart = chunk_other size k p size size new left apart fits (omega arith) refl left_long

    own : slice_chunk (put_mid (p * size) size new left) size p ≡ unit_after (flag_at dirty) first pick p (slice_chunk old size p)
    own = chunk_same size p size new left (omega (arith, fits)) left_long ∙ left_is
        ∙ ap (λ x. remains_of (choice_of pick (first + dirty_count (flag_at dirty) p)) x) (was.later p (omega arith) inside)
        ∙ sym (unit_after_dirty (flag_at dirty) first pick p (slice_chunk old size p) is)
