-- One more vector in an echelon.
use Rattle.std.proofs.Common.{◌≡◌, ◌≢◌, ℕ, ◌+◌, ◌*◌, ◌^◌, ◌<◌, ◌≤◌, true, false, List, length, take, set, slice_index, bit_xor, refl, sym}
use Rattle.std.proofs.Common.{ap, ◌∙◌, subst, arith, ⊎_elim, get_or-set_other, get_or-set_same, zero-mul}
use Rattle.std.specs.Int.{bit_at}
use Rattle.std.specs.Int.Bits.{xor_assoc, xor_zero_r}
use Rattle.std.proofs.lemmas.Nat.{xor_comm, xor_lt, pow_below, pow_pos}
use Rattle.std.proofs.lemmas.Nat.Bits.{bit_at-lt, bit_at_above, bit_at-zero, same_from_bits_below}
use Rattle.std.proofs.lemmas.Bool.{cases_lt, cases_eq}
use Rattle.bm_gf2.specs.Vector.{xor_sum}
use Rattle.bm_gf2.proofs.VectorLemmas.{xor_sum_start, xor_sum-xor, xor_sum-zero, xor_sum-pow, xor_sum-xor_sum, xor_sum-ext, xor_sum-bits}
use Rattle.bm_gf2.proofs.VectorLemmas.{xor_sum-more, xor_sum-lt, bit_cases, xor_same, xor_cancel_right, eq_of_xor-zero, xor_cancel}
use Rattle.bm_rank.specs.Echelon.{IsRowEchelon, IsReduced, pivot_count}
use Rattle.bm_rank.specs.Span.{in_span}
use Rattle.bm_rank.specs.Echelon.{IsEchelon}
use Rattle.bm_rank.specs.Span.{sum_of}
use Rattle.bm_rank.proofs.SpanLemmas.{false_from, sum_of-take, sum_of_span, in_span-sum}
use Rattle.bm_rank.proofs.ReductionLemmas.{reduced_fewer, reduced_xor}
use Rattle.bm_rank.proofs.PivotLemmas.{leading_is_set, leading_below, pivot_count-le, pivot_count-set, pivot_count-none, pivot_count-all}

-- the sum of marked rows is the sum of the kept vectors that the marks pick
pub marks_sum : (n count : ℕ) (kept rows marks : List ℕ) → IsEchelon n count kept rows marks → (used : ℕ)
    → xor_sum (slice_index kept) count (xor_sum (slice_index marks) n used) ≡ xor_sum (slice_index rows) n used
marks_sum n count kept rows marks e used =
    xor_sum-xor_sum (slice_index kept) (slice_index marks) count n used
    ∙ xor_sum-ext (λ j. xor_sum (slice_index kept) count (slice_index marks j)) (slice_index rows) n used e.marked

-- a reduced sum of kept vectors is 0
pub reduced_sum : (n count : ℕ) (kept rows marks : List ℕ) → IsEchelon n count kept rows marks → (x : ℕ)
    → IsReduced rows n (xor_sum (slice_index kept) count x) → xor_sum (slice_index kept) count x ≡ 0
reduced_sum n count kept rows marks e x r =
    xor_sum-bits (slice_index kept) count x 0 (λ j l. e.unique x r j l ∙ sym (bit_at-zero j)) ∙ xor_sum-zero (slice_index kept) count

-- what is left is 0 exactly where the vector is in the span
pub rest_of_span : (n count : ℕ) (kept rows marks : List ℕ) → IsEchelon n count kept rows marks → count ≤ length kept
    → (v rest used : ℕ) → rest ≡ bit_xor v (xor_sum (slice_index rows) n used) → IsReduced rows n rest
    → in_span (take count kept) v ≡ true → rest ≡ 0
rest_of_span n count kept rows marks e l v rest used s r h =
    let w = sum_of_span (take count kept) v h in
    let k : ℕ → ℕ = slice_index kept in
    let m : ℕ = xor_sum (slice_index marks) n used in
    let q : rest ≡ xor_sum k count (bit_xor w.0 m) =
    s ∙ xor_same (sym w.1 ∙ sum_of-take kept count w.0 l) (sym (marks_sum n count kept rows marks e used))
    ∙ sym (xor_sum-xor k count w.0 m) in
    q ∙ reduced_sum n count kept rows marks e (bit_xor w.0 m) (subst (λ (c : ℕ). IsReduced rows n c) q r)

-- where nothing is left, the marks of the used rows pick a set of vectors with the sum v
pub span_of_rest : (n count : ℕ) (kept rows marks : List ℕ) → IsEchelon n count kept rows marks → count ≤ length kept
    → (v rest used : ℕ) → rest ≡ bit_xor v (xor_sum (slice_index rows) n used) → rest ≡ 0
    → sum_of (take count kept) (xor_sum (slice_index marks) n used) ≡ v
span_of_rest n count kept rows marks e l v rest used s z =
    sum_of-take kept count (xor_sum (slice_index marks) n used) l
    ∙ marks_sum n count kept rows marks e used
    ∙ sym (eq_of_xor-zero v (xor_sum (slice_index rows) n used) (sym s ∙ z))

-- a new list of vectors picks what the old one did, and the new vector by its own bit
sum_with_pushed : (kept : List ℕ) (count v x : ℕ) → count < length kept
    → xor_sum (slice_index (set kept count v)) (count + 1) x ≡ bit_xor (xor_sum (slice_index kept) count x) (bit_at x count * v)
sum_with_pushed kept count v x l =
    let k2 : ℕ → ℕ = slice_index (set kept count v) in
    let new : k2 count ≡ v = rw get_or-set_same refl in
    xor_sum-more k2 count x
    ∙ xor_same
    (xor_sum-ext k2 (slice_index kept) count x (λ j m. let p : j ≢ count = omega arith in rw get_or-set_other refl))
    (ap (λ (c : ℕ). bit_at x count * c) new)

-- one more vector, by what is left of it
module _ (n count : ℕ) (kept rows marks : List ℕ) (e : IsEchelon n count kept rows marks)
    (lk : length kept ≡ 52) (lr : length rows ≡ 52) (lm : length marks ≡ 52)
    (v rest used lead : ℕ) (below : v < 2 ^ n) (s : rest ≡ bit_xor v (xor_sum (slice_index rows) n used)) (r : IsReduced rows n rest)
    (top : 2 ^ lead ≤ rest) (top_below : rest < 2 ^ (lead + 1)) (rest_below : rest < 2 ^ n) where
  abbrev pub mark : ℕ
  mark = bit_xor (xor_sum (slice_index marks) n used) (2 ^ count)

  -- the leading bit of the rest is below n
  pub lead_fits : lead < n
  lead_fits = leading_below rest lead n top rest_below

  -- the rest is not 0
  rest_is : rest ≢ 0
  rest_is z = let p : 0 < 2 ^ lead = pow_pos lead in absurd (omega arith)

  -- its leading bit is set
  lead_set : bit_at rest lead ≡ 1
  lead_set = leading_is_set rest lead top top_below

  -- that row was empty
  pub lead_empty : slice_index rows lead ≡ 0
  lead_empty =
      ⊎_elim
      (λ (p : slice_index rows lead ≡ 0). p)
      (λ (p : slice_index rows lead ≢ 0). let a : bit_at rest lead ≡ 0 = r lead lead_fits p in let b : bit_at rest lead ≡ 1 = lead_set in
      absurd (omega arith))
      (cases_eq (slice_index rows lead) 0)

  -- one pivot more
  count_more : count + 1 ≡ pivot_count (set rows lead rest) n
  count_more = let few : n ≤ 52 = e.few in ap (λ (c : ℕ). c + 1) e.counted
      ∙ sym (pivot_count-set rows n lead rest lead_fits (omega arith) lead_empty rest_is)

  -- there was room
  pub count_fits : count < n
  count_fits = omega (arith, count_more, pivot_count-le (set rows lead rest) n)

  -- the kept vectors that the marks pick
  marks_pick : xor_sum (slice_index kept) count (xor_sum (slice_index marks) n used) ≡ bit_xor v rest
  marks_pick =
      marks_sum n count kept rows marks e used
      ∙ sym (ap (bit_xor v) s ∙ xor_cancel v (xor_sum (slice_index rows) n used))

  -- the marks of the used rows pick vectors kept before
  marks_fit : xor_sum (slice_index marks) n used < 2 ^ count
  marks_fit = xor_sum-lt (slice_index marks) n count used e.marks_below

  -- the kept vectors stay short
  grown_kept_below : (j : ℕ) → j < count + 1 → slice_index (set kept count v) j < 2 ^ n
  grown_kept_below j h =
      let fits : count < n = count_fits in
      let few : n ≤ 52 = e.few in
      let room : count < length kept = omega arith in
      ⊎_elim
      (λ (p : j ≡ count). rw p (rw get_or-set_same below))
      (λ (p : j ≢ count). rw get_or-set_other (e.kept_below j (omega arith)))
      (cases_eq j count)

  -- the rows keep distinct leading bits
  grown_stairs : IsRowEchelon (set rows lead rest) n
  grown_stairs =
      let few : n ≤ 52 = e.few in
      let fits : lead < n = lead_fits in
      let room : lead < length rows = omega arith in
      record {
        short = λ i l.
            ⊎_elim
            (λ (p : i ≡ lead). rw p (rw get_or-set_same top_below))
            (λ (p : i ≢ lead). rw get_or-set_other (e.stairs.short i l))
            (cases_eq i lead);
        leads = λ i l nz.
            ⊎_elim
            (λ (p : i ≡ lead). let q : slice_index (set rows lead rest) lead ≡ rest = rw get_or-set_same refl in rw (p, q) lead_set)
            (λ (p : i ≢ lead). let q : slice_index (set rows lead rest) i ≡ slice_index rows i = rw get_or-set_other refl in
            rw q (e.stairs.leads i l (λ z. nz (q ∙ z))))
            (cases_eq i lead);
      }

  -- the marks pick kept vectors
  grown_marks_below : (i : ℕ) → i < n → slice_index (set marks lead mark) i < 2 ^ (count + 1)
  grown_marks_below i l =
      let few : n ≤ 52 = e.few in
      let fits : lead < n = lead_fits in
      let room : lead < length marks = omega arith in
      let more : 2 ^ count < 2 ^ (count + 1) = pow_below count (count + 1) (omega arith) in
      let small : xor_sum (slice_index marks) n used < 2 ^ count = marks_fit in
      ⊎_elim
      (λ (p : i ≡ lead). rw p (rw get_or-set_same (xor_lt (count + 1) (xor_sum (slice_index marks) n used) (2 ^ count) (omega arith) more)))
      (λ (p : i ≢ lead). let old : slice_index marks i < 2 ^ count = e.marks_below i l in rw get_or-set_other (omega arith))
      (cases_eq i lead)

  -- each row is the sum that its marks pick
  grown_marked : (i : ℕ) → i < n
      → xor_sum (slice_index (set kept count v)) (count + 1) (slice_index (set marks lead mark) i) ≡ slice_index (set rows lead rest) i
  grown_marked i l =
      let few : n ≤ 52 = e.few in
      let fits : lead < n = lead_fits in
      let cfits : count < n = count_fits in
      let room : lead < length marks = omega arith in
      let roomr : lead < length rows = omega arith in
      let roomk : count < length kept = omega arith in
      let k : ℕ → ℕ = slice_index kept in
      let k2 : ℕ → ℕ = slice_index (set kept count v) in
      let m : ℕ = xor_sum (slice_index marks) n used in
      ⊎_elim
      (λ (p : i ≡ lead).
      let a : slice_index (set marks lead mark) i ≡ mark = rw p (rw get_or-set_same refl) in
      let b : slice_index (set rows lead rest) i ≡ rest = rw p (rw get_or-set_same refl) in
      let unit : xor_sum k2 (count + 1) (2 ^ count) ≡ v = xor_sum-pow k2 (count + 1) count (omega arith) ∙ rw get_or-set_same refl in
      let old : xor_sum k2 (count + 1) m ≡ bit_xor v rest =
      sum_with_pushed kept count v m roomk
      ∙ xor_same marks_pick (ap (λ (c : ℕ). c * v) (bit_at_above m count count marks_fit (omega arith)) ∙ zero-mul v)
      ∙ xor_zero_r (bit_xor v rest) in
      ap (xor_sum k2 (count + 1)) a ∙ xor_sum-xor k2 (count + 1) m (2 ^ count) ∙ xor_same old unit
      ∙ xor_comm (bit_xor v rest) v ∙ xor_cancel v rest ∙ sym b)
      (λ (p : i ≢ lead).
      let a : slice_index (set marks lead mark) i ≡ slice_index marks i = rw get_or-set_other refl in
      let b : slice_index (set rows lead rest) i ≡ slice_index rows i = rw get_or-set_other refl in
      ap (xor_sum k2 (count + 1)) a
      ∙ sum_with_pushed kept count v (slice_index marks i) roomk
      ∙ xor_same (e.marked i l)
      (ap (λ (c : ℕ). c * v) (bit_at_above (slice_index marks i) count count (e.marks_below i l) (omega arith)) ∙ zero-mul v)
      ∙ xor_zero_r (slice_index rows i) ∙ sym b)
      (cases_eq i lead)

  -- only no vectors have a reduced sum
  grown_unique : (x : ℕ) → IsReduced (set rows lead rest) n (xor_sum (slice_index (set kept count v)) (count + 1) x) → (j : ℕ)
      → j < count + 1 → bit_at x j ≡ 0
  grown_unique x h j l =
      let few : n ≤ 52 = e.few in
      let fits : lead < n = lead_fits in
      let cfits : count < n = count_fits in
      let roomr : lead < length rows = omega arith in
      let roomk : count < length kept = omega arith in
      let k : ℕ → ℕ = slice_index kept in
      let m : ℕ = xor_sum (slice_index marks) n used in
      let whole : ℕ = xor_sum (slice_index (set kept count v)) (count + 1) x in
      let cut : IsReduced rows n whole = reduced_fewer rows n lead rest whole lead_empty h in
      let pushed : whole ≡ bit_xor (xor_sum k count x) (bit_at x count * v) = sum_with_pushed kept count v x roomk in
      ⊎_elim
      (λ (p : (bit_at x count ≡ 0) × (bit_at x count * v ≡ 0)).
      let same : whole ≡ xor_sum k count x = pushed ∙ ap (bit_xor (xor_sum k count x)) p.1 ∙ xor_zero_r (xor_sum k count x) in
      ⊎_elim
      (λ (q : j < count). e.unique x (subst (λ (c : ℕ). IsReduced rows n c) same cut) j q)
      (λ (q : count ≤ j). let t : j ≡ count = omega arith in rw t p.0)
      (cases_lt j count))
      (λ (p : (bit_at x count ≡ 1) × (bit_at x count * v ≡ v)).
      let v_is : v ≡ bit_xor (xor_sum k count m) rest = sym (ap (λ (c : ℕ). bit_xor c rest) marks_pick ∙ xor_cancel_right v rest) in
      let same : whole ≡ bit_xor (xor_sum k count (bit_xor x m)) rest =
      pushed ∙ ap (bit_xor (xor_sum k count x)) (p.1 ∙ v_is) ∙ sym (xor_assoc (xor_sum k count x) (xor_sum k count m) rest)
      ∙ ap (λ (c : ℕ). bit_xor c rest) (sym (xor_sum-xor k count x m)) in
      let back : bit_xor whole rest ≡ xor_sum k count (bit_xor x m) =
      ap (λ (c : ℕ). bit_xor c rest) same ∙ xor_cancel_right (xor_sum k count (bit_xor x m)) rest in
      let zero_sum : xor_sum k count (bit_xor x m) ≡ 0 =
      reduced_sum n count kept rows marks e (bit_xor x m)
      (subst (λ (c : ℕ). IsReduced rows n c) back (reduced_xor rows n whole rest cut r)) in
      let is_rest : whole ≡ rest = same ∙ ap (λ (c : ℕ). bit_xor c rest) zero_sum in
      let row : slice_index (set rows lead rest) lead ≡ rest = rw get_or-set_same refl in
      let clear : bit_at whole lead ≡ 0 = h lead lead_fits (λ z. rest_is (sym row ∙ z)) in
      let set_there : bit_at whole lead ≡ 1 = ap (λ (c : ℕ). bit_at c lead) is_rest ∙ lead_set in
      absurd (omega arith))
      (bit_cases (bit_at x count) v (bit_at-lt x count))

  -- all together
  pub grown : IsEchelon n (count + 1) (set kept count v) (set rows lead rest) (set marks lead mark)
  grown = record {
    few = e.few;
    kept_below = grown_kept_below;
    stairs = grown_stairs;
    marks_below = grown_marks_below;
    marked = grown_marked;
    unique = grown_unique;
    counted = count_more;
  }

-- no more vectors than bits
pub count_le : (n count : ℕ) (kept rows marks : List ℕ) → IsEchelon n count kept rows marks → count ≤ n
count_le n count kept rows marks e = omega (arith, e.counted, pivot_count-le rows n)

-- where nothing is left, the vector is in the span
pub in_span_of_rest : (n count : ℕ) (kept rows marks : List ℕ) → IsEchelon n count kept rows marks → count ≤ length kept
    → (v rest used : ℕ) → rest ≡ bit_xor v (xor_sum (slice_index rows) n used) → rest ≡ 0 → in_span (take count kept) v ≡ true
in_span_of_rest n count kept rows marks e l v rest used s z =
    subst (λ (c : ℕ). in_span (take count kept) c ≡ true) (span_of_rest n count kept rows marks e l v rest used s z)
    (in_span-sum (take count kept) (xor_sum (slice_index marks) n used))

-- what was taken off is in the span
pub span_of_used : (n count : ℕ) (kept rows marks : List ℕ) → IsEchelon n count kept rows marks → count ≤ length kept
    → (v rest used : ℕ) → rest ≡ bit_xor v (xor_sum (slice_index rows) n used) → in_span (take count kept) (bit_xor v rest) ≡ true
span_of_used n count kept rows marks e l v rest used s =
    let taken : sum_of (take count kept) (xor_sum (slice_index marks) n used) ≡ bit_xor v rest =
    sum_of-take kept count (xor_sum (slice_index marks) n used) l
    ∙ marks_sum n count kept rows marks e used
    ∙ sym (ap (bit_xor v) s ∙ xor_cancel v (xor_sum (slice_index rows) n used)) in
    subst (λ (c : ℕ). in_span (take count kept) c ≡ true) taken (in_span-sum (take count kept) (xor_sum (slice_index marks) n used))

-- where something is left, it is not
pub no_span_of_rest : (n count : ℕ) (kept rows marks : List ℕ) → IsEchelon n count kept rows marks → count ≤ length kept
    → (v rest used : ℕ) → rest ≡ bit_xor v (xor_sum (slice_index rows) n used) → IsReduced rows n rest → rest ≢ 0
    → in_span (take count kept) v ≡ false
no_span_of_rest n count kept rows marks e l v rest used s r nz =
    false_from (in_span (take count kept) v) (λ h. nz (rest_of_span n count kept rows marks e l v rest used s r h))

-- nothing kept yet
pub none_kept : (n : ℕ) (kept rows marks : List ℕ) → n ≤ 52 → ((i : ℕ) → slice_index rows i ≡ 0) → ((i : ℕ) → slice_index marks i ≡ 0)
    → IsEchelon n 0 kept rows marks
none_kept n kept rows marks few zr zm = record {
  few = few;
  kept_below = λ j l. absurd (omega arith);
  stairs = record {
    short = λ i l. rw (zr i) (pow_pos (i + 1));
    leads = λ i l nz. absurd (nz (zr i));
  };
  marks_below = λ i l. rw (zm i) (pow_pos 0);
  marked = λ i l. xor_sum_start (slice_index kept) (slice_index marks i) ∙ sym (zr i);
  unique = λ x r j l. absurd (omega arith);
  counted = sym (pivot_count-none rows n (λ i l. zr i));
}

-- n kept vectors fill every row, and nothing is left of any vector
pub nothing_left : (n count : ℕ) (kept rows marks : List ℕ) → IsEchelon n count kept rows marks → count ≡ n
    → (rest : ℕ) → rest < 2 ^ n → IsReduced rows n rest → rest ≡ 0
nothing_left n count kept rows marks e full rest below r =
    same_from_bits_below n rest 0 below (pow_pos n)
    (λ i l. r i l (pivot_count-all rows n i (sym e.counted ∙ full) l) ∙ sym (bit_at-zero i))
