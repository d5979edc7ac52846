-- The loop that keeps independent vectors.
use Rattle.std.proofs.Common.{◌≡◌, ◌≢◌, ℕ, ◌+◌, ◌^◌, ◌<◌, ◌≤◌, Bool, true, false, not, if◌then◌else◌, List, [], ◌∷◌, ◌++◌, length}
use Rattle.std.proofs.Common.{length-set, take, set, get_or-set_other, get_or-set_same, slice_index, refl, sym, ap, ◌∙◌, subst, arith}
use Rattle.std.proofs.Common.{add-one, ⊎_elim}
use Rattle.std.proofs.Math.Seq.{take-suc}
use Rattle.std.proofs.lemmas.Grind.{take-set_at}
use Rattle.std.proofs.lemmas.Bool.{cases_eq}
use Rattle.std.proofs.lemmas.List.{take-set-le, length-take-le}
use Rattle.bm_gf2.proofs.VectorLemmas.{xor_sum-ext}
use Rattle.bm_rank.specs.Span.{in_span}
use Rattle.bm_rank.specs.Rank.{IsBasis}
use Rattle.bm_rank.proofs.SpanLemmas.{in_span-cons_known, in_span-cons_same, in_span-push, sum_of-take}
use Rattle.bm_rank.proofs.KernelLemmas.{IsIndependent, independent_none, independent_more, not_a_sum}
use Rattle.bm_factor.proofs.InsertLemmas.{insert_known, insert_fresh, insert_done, insert_same}

-- the first few of these are a basis
pub record HasFirst (ones : List ℕ) (next : ℕ) (ws : List ℕ) : Type 0 where
  pub number : ℕ
  pub few : number ≤ next
  pub is : IsBasis (take number ones) ws

-- the first `next` of `ones` are what was kept of the first i vectors
pub record IsFound (vectors : List ℕ) (i next : ℕ) (kept ones : List ℕ) : Type 0 where
  pub taken : take next ones ≡ kept
  pub long : length ones ≡ 52
  pub fewer : next ≤ i
  pub independent : IsIndependent (slice_index ones) next
  pub spans : (v : ℕ) → in_span kept v ≡ in_span (take i vectors) v
  pub bases : (k : ℕ) → k ≤ i → HasFirst ones next (take k vectors)

-- independent vectors are a basis of their span
first_basis : (ones ws : List ℕ) (r : ℕ) → r ≤ length ones → IsIndependent (slice_index ones) r
    → ((v : ℕ) → in_span (take r ones) v ≡ in_span ws v) → IsBasis (take r ones) ws
first_basis ones ws r l i same = record {
  independent = λ x h z. i.only x (subst (λ k. x < 2 ^ k) (length-take-le r ones l) h) (sym (sum_of-take ones r x l) ∙ z);
  spans = same;
}

-- no vector yet
pub found_none : (vectors ones : List ℕ) → length ones ≡ 52 → IsFound vectors 0 0 [] ones
found_none vectors ones long = record {
  taken = refl;
  long = long;
  fewer = omega arith;
  independent = independent_none (slice_index ones);
  spans = λ v. refl;
  bases = λ k l.
      let e : k ≡ 0 = omega arith in
      rw e (record {
        number = 0;
        few = omega arith;
        is = first_basis ones [] 0 (omega arith) (independent_none (slice_index ones))
            (λ v. refl);
      });
}

-- one vector more, which is a sum of those before it
pub found_known : (vectors : List ℕ) (i next : ℕ) (kept kept2 ones : List ℕ) (b : Bool) → IsFound vectors i next kept ones
    → i < length vectors
    → b ≡ false → b ≡ not (in_span kept (slice_index vectors i))
    → kept2 ≡ (if b then kept ++ (slice_index vectors i) ∷ [] else kept)
    → next ≤ 52 → IsFound vectors (i + 1) next kept2 ones
found_known vectors i next kept kept2 ones b is inside refused refused_is kept_is room =
    let u : ℕ = slice_index vectors i in
    let same : kept2 ≡ kept = insert_same kept kept2 u b kept_is refused in
    let known : in_span kept u ≡ true = insert_known (in_span kept u) b refused_is refused in
    let more : take (i + 1) vectors ≡ take i vectors ++ u ∷ [] = rw add-one (take-suc vectors i 0 inside) in
    let spans : (v : ℕ) → in_span kept v ≡ in_span (take (i + 1) vectors) v = λ v.
    sym (in_span-cons_known u kept v known) ∙ in_span-cons_same u kept (take i vectors) is.spans v
    ∙ sym (in_span-push u (take i vectors) v) ∙ ap (λ l. in_span l v) (sym more) in
    let long = is.long in
    let fewer = is.fewer in
    rw same (record {
      taken = is.taken;
      long = is.long;
      fewer = omega arith;
      independent = is.independent;
      spans = spans;
      bases = λ k l.
          ⊎_elim
          (λ (e : k ≡ i + 1). rw e (record {
            number = next;
            few = omega arith;
            is = first_basis ones (take (i + 1) vectors) next (omega arith) is.independent (λ v. ap (λ l. in_span l v) is.taken ∙ spans v);
          }))
          (λ (e : k ≢ i + 1). is.bases k (omega arith))
          (cases_eq k (i + 1));
    })

-- one vector more, which is none
pub found_fresh : (vectors : List ℕ) (i next at : ℕ) (kept kept2 ones : List ℕ) (b : Bool) → IsFound vectors i next kept ones
    → i < length vectors
    → b ≡ true → b ≡ not (in_span kept (slice_index vectors i))
    → kept2 ≡ (if b then kept ++ (slice_index vectors i) ∷ [] else kept)
    → at ≡ next → next < 52 → IsFound vectors (i + 1) (next + 1) kept2 (set ones at (slice_index vectors i))
found_fresh vectors i next at kept kept2 ones b is inside taken fresh_is kept_is here room =
    let u : ℕ = slice_index vectors i in
    let ones2 : List ℕ = set ones next u in
    let fresh : in_span kept u ≡ false = insert_fresh (in_span kept u) b fresh_is taken in
    let done : kept2 ≡ kept ++ u ∷ [] = insert_done kept kept2 u (in_span kept u) b fresh_is kept_is fresh in
    let more : take (i + 1) vectors ≡ take i vectors ++ u ∷ [] = rw add-one (take-suc vectors i 0 inside) in
    let long : length ones ≡ 52 = is.long in
    let fewer = is.fewer in
    let new : take (next + 1) ones2 ≡ kept2 =
    take-set_at ones next (next + 1) u refl (omega arith) ∙ ap (λ l. l ++ u ∷ []) is.taken ∙ sym done in
    let old : (r : ℕ) → r ≤ next → take r ones2 ≡ take r ones = λ r l. take-set-le r ones next u l in
    let spans : (v : ℕ) → in_span kept2 v ≡ in_span (take (i + 1) vectors) v = λ v.
    ap (λ l. in_span l v) done ∙ in_span-push u kept v ∙ in_span-cons_same u kept (take i vectors) is.spans v
    ∙ sym (in_span-push u (take i vectors) v) ∙ ap (λ l. in_span l v) (sym more) in
    let long2 : length ones2 ≡ 52 = length-set ones next u ∙ is.long in
    let before : IsIndependent (slice_index ones2) next = record {
      only = λ x l z. is.independent.only x l (sym (xor_sum-ext (slice_index ones2) (slice_index ones) next x (λ j h.
          let ne : j ≢ next = omega arith in rw get_or-set_other refl)) ∙ z);
    } in
    let last : slice_index ones2 next ≡ u = let l : next < length ones = omega arith in rw get_or-set_same refl in
    let outside : in_span (take next ones2) (slice_index ones2 next) ≡ false =
    ap (λ l. in_span l (slice_index ones2 next)) (old next (omega arith) ∙ is.taken) ∙ ap (in_span kept) last ∙ fresh in
    let independent : IsIndependent (slice_index ones2) (next + 1) =
    independent_more (slice_index ones2) next before (not_a_sum ones2 next (slice_index ones2 next) (omega arith) outside) in
    rw here (record {
      taken = new;
      long = long2;
      fewer = omega arith;
      independent = independent;
      spans = spans;
      bases = λ k l.
          ⊎_elim
          (λ (e : k ≡ i + 1). rw e (record {
            number = next + 1;
            few = omega arith;
            is = first_basis ones2 (take (i + 1) vectors) (next + 1) (omega arith) independent (λ v. ap (λ l. in_span l v) new ∙ spans v);
          }))
          (λ (e : k ≢ i + 1).
          let f = is.bases k (omega arith) in
          record {
            number = f.number;
            few = (let g = f.few in omega arith);
            is = subst (λ l. IsBasis l (take k vectors)) (sym (old f.number f.few)) f.is;
          })
          (cases_eq k (i + 1));
    })

-- a bound stays after a write
pub set_within : (ones : List ℕ) (at v bound : ℕ) → at < length ones → ((k : ℕ) → slice_index ones k < bound) → v < bound
    → (k : ℕ) → slice_index (set ones at v) k < bound
set_within ones at v bound room old new k =
    ⊎_elim
    (λ (e : k ≡ at). rw (e, get_or-set_same) new)
    (λ (e : k ≢ at). rw get_or-set_other (old k))
    (cases_eq k at)
