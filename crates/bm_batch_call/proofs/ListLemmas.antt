-- Loops over a list of devices.
use Rattle.std.proofs.Common.{◌≡◌, ◌≢◌, inl, inr, ℕ, ◌+◌, ◌<◌, List}
use Rattle.std.proofs.Common.{length, map, slice_index_or, slice_set, refl, sym, ◌∙◌, ap, subst, subst₂, arith}
use Rattle.std.proofs.lemmas.Bool.{cases_eq, cases_lt}
use Rattle.std.proofs.lemmas.List.{get_or-map, get_or-set_same, get_or-set_other, length-set, map-set, length-map}
use Rattle.bm_batch_call.specs.Lists.{UpTo, EndsAt}

-- nothing is done yet
pub up_to_none : {V : Type 0} (none : V) (P : ℕ → V → V → Type 0) (old : List V) → UpTo none P 0 old old
up_to_none none P old = record { count = refl; before = λ k early. absurd (omega (arith, early)); after = λ k late. refl }

-- the element at a place, before and after one was set there
pub own_before : {A V : Type 0} (view : A → V) (none : V) (P : ℕ → V → V → Type 0) (at : ℕ) (old : List V) (xs : List A) (x : A)
    → at < length xs → UpTo none P at old (map view xs) → slice_index_or old at none ≡ view (slice_index_or xs at x)
own_before view none P at old xs x below u = sym (u.after at (omega arith)) ∙ get_or-map view xs at x none below

own_after : {A V : Type 0} (view : A → V) (none : V) (at : ℕ) (xs : List A) (after : A) → at < length xs
    → slice_index_or (map view (slice_set xs at after)) at none ≡ view after
own_after view none at xs after below =
    ap (λ (l : List _). slice_index_or l at none) (map-set view xs at after)
    ∙ get_or-set_same (map view xs) at (view after) none (let many = length-map xs view in omega (arith, many, below))

others : {A V : Type 0} (view : A → V) (none : V) (at k : ℕ) (xs : List A) (after : A) → k ≢ at
    → slice_index_or (map view (slice_set xs at after)) k none ≡ slice_index_or (map view xs) k none
others view none at k xs after other =
    ap (λ (l : List _). slice_index_or l k none) (map-set view xs at after)
    ∙ get_or-set_other (map view xs) at k (view after) none other

pub same_count : {A V : Type 0} (view : A → V) (at : ℕ) (xs : List A) (after : A)
    → length (map view (slice_set xs at after)) ≡ length (map view xs)
same_count view at xs after = length-map (slice_set xs at after) view ∙ length-set xs at after ∙ sym (length-map xs view)

-- there is such an element
pub below_now : {A V : Type 0} (view : A → V) (none : V) (P : ℕ → V → V → Type 0) (at : ℕ) (old : List V) (xs : List A)
    → UpTo none P at old (map view xs) → at < length xs → at < length old
below_now view none P at old xs u below = (let many = u.count in let same = length-map xs view in omega (arith, many, same, below))

-- one more is done
pub up_to_next : {A V : Type 0} (view : A → V) (none : V) (P : ℕ → V → V → Type 0) (at : ℕ) (old : List V) (xs : List A) (x after : A)
    → at < length xs → UpTo none P at old (map view xs) → P at (view (slice_index_or xs at x)) (view after)
    → UpTo none P (at + 1) old (map view (slice_set xs at after))
up_to_next view none P at old xs x after below u p = record {
  count = same_count view at xs after ∙ u.count;
  before = λ k early. elim (cases_eq k at) [
    | inl same ↦ subst (λ (i : ℕ). P i (slice_index_or old i none) (slice_index_or (map view (slice_set xs at after)) i none)) (sym same)
        (subst₂ (λ (v : _) (w : _). P at v w) (sym (own_before view none P at old xs x below u))
        (sym (own_after view none at xs after below)) p)
    | inr other ↦ subst (λ (w : _). P k (slice_index_or old k none) w) (sym (others view none at k xs after other))
        (u.before k (omega (arith, early, other)))
  ];
  after = λ k late. others view none at k xs after (λ same. omega (arith, late, same)) ∙ u.after k (omega (arith, late));
}

-- or the loop ends there
pub ends_at : {A V : Type 0} (view : A → V) (none : V) (P Q : ℕ → V → V → Type 0) (at : ℕ) (old : List V) (xs : List A) (x after : A)
    → at < length xs → UpTo none P at old (map view xs) → Q at (view (slice_index_or xs at x)) (view after)
    → EndsAt none P Q at old (map view (slice_set xs at after))
ends_at view none P Q at old xs x after below u q = record {
  below = (let many = u.count in let same = length-map xs view in omega (arith, many, same, below));
  count = same_count view at xs after ∙ u.count;
  before = λ k early. subst (λ (w : _). P k (slice_index_or old k none) w)
      (sym (others view none at k xs after (λ same. omega (arith, early, same)))) (u.before k early);
  here = subst₂ (λ (v : _) (w : _). Q at v w) (sym (own_before view none P at old xs x below u))
      (sym (own_after view none at xs after below)) q;
  after = λ k late. others view none at k xs after (λ same. omega (arith, late, same)) ∙ u.after k (omega (arith, late));
}

-- what was done, in other words
pub up_to_as : {V : Type 0} (none : V) (P Q : ℕ → V → V → Type 0) (at : ℕ) (old new : List V)
    → ((k : ℕ) (a b : V) → k < at → P k a b → Q k a b) → UpTo none P at old new → UpTo none Q at old new
up_to_as none P Q at old new turn u = record {
  count = u.count;
  before = λ k early. turn k _ _ early (u.before k early);
  after = u.after;
}

-- up to the same place
pub up_to_at : {V : Type 0} (none : V) (P : ℕ → V → V → Type 0) (at there : ℕ) (old new : List V) → at ≡ there
    → UpTo none P at old new → UpTo none P there old new
up_to_at none P at there old new same u = subst (λ (k : ℕ). UpTo none P k old new) same u

-- each, where the loop ended at one
pub ends_each : {V : Type 0} (none : V) (P Q R : ℕ → V → V → Type 0) (at : ℕ) (old new : List V) → EndsAt none P Q at old new
    → ((k : ℕ) (a b : V) → k < at → P k a b → R k a b) → ((a b : V) → Q at a b → R at a b) → ((k : ℕ) (a : V) → at < k → R k a a)
    → (k : ℕ) → R k (slice_index_or old k none) (slice_index_or new k none)
ends_each none P Q R at old new e before here after k = elim (cases_lt k at) [
  | inl early ↦ before k _ _ early (e.before k early)
  | inr late ↦ elim (cases_eq k at) [
    | inl same ↦ subst (λ (i : ℕ). R i (slice_index_or old i none) (slice_index_or new i none)) (sym same) (here _ _ e.here)
    | inr other ↦ subst (λ (w : _). R k (slice_index_or old k none) w) (sym (e.after k (omega (arith, late, other))))
        (after k (slice_index_or old k none) (omega (arith, late, other)))
  ]
]
