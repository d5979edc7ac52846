-- Areas of bays, written in order.
use Rattle.std.proofs.Common.{◌≡◌, ℕ, ◌+◌, ◌<◌, ◌≤◌, ◌++◌, Bool, IsTrue, List, [], length}
use Rattle.std.proofs.Common.{map, slice_index_or, slice_set, refl, sym, ◌∙◌, ap, subst, arith, add-one, append_assoc}
use Rattle.std.proofs.lemmas.List.{append-nil}
use Rattle.bm_base.specs.declared.area.Area.{Area}
use Rattle.bm_base.specs.declared.shape.Shape.{Shape}
use Rattle.bm_base.specs.Area.{area_after}
use Rattle.bm_base.specs.Records.{bytes_of}
use Rattle.bm_base.specs.Shape.{stripes}
use Rattle.bm_rack.specs.RackView.{RackView}
use Rattle.bm_rack.specs.Frames.{HasCause}
use Rattle.bm_rack.specs.Sink.{AppendsFront}
use Rattle.bm_rack.proofs.FrameLemmas.{SameState-refl, Keeps-refl}
use Rattle.bm_rack.proofs.SinkLemmas.{AppendsFront-part}
use Rattle.bm_disks.specs.Dumping.{area_bytes}
use Rattle.bm_disks.proofs.DumpLemmas.{loads_before}
use Rattle.bm_top.specs.Moment.{SinkView}
use Rattle.bm_batch.specs.Batches.{view_at}
use Rattle.bm_batch_call.specs.Dumping.{IsLooked, IsDumped, last_areas, IsDumpedTo}
use Rattle.bm_batch_call.specs.Lists.{UpTo}
use Rattle.bm_batch_call.specs.Moment.{no_view}
use Rattle.bm_batch_call.proofs.RowLemmas.{few_same}
use Rattle.bm_batch_call.proofs.ListLemmas.{up_to_none, up_to_next, ends_at, ends_each, own_before}

bytes_next : (n : ℕ) (xs : ℕ → List ℕ) → bytes_of (n + 1) xs ≡ bytes_of n xs ++ xs n
unfolding bytes_of
bytes_next n xs = rw add-one refl

no_bytes : (xs : ℕ → List ℕ) → bytes_of 0 xs ≡ []
unfolding bytes_of
no_bytes xs = refl

pub looked_none : (s : Shape) (v : RackView) → IsLooked s v v
looked_none s v = record { state = SameState-refl v; keeps = Keeps-refl v; moves = few_same (stripes s) v v refl }

pub dumped_none : (to tc : Bool) (s : Shape) (passes : ℕ → ℕ) (sink : SinkView) (old : List RackView)
    → IsDumpedTo to tc s passes 0 sink old sink old
dumped_none to tc s passes sink old = record {
  bays = up_to_none no_view _ old;
  written = λ a b. sym (ap (λ (z : List ℕ). sink.taken ++ z) (no_bytes (last_areas s passes old)) ∙ append-nil sink.taken);
  faults = omega arith;
}

-- the bytes of the next bay
next_bytes : {A : Type 0} (view : A → RackView) (s : Shape) (passes : ℕ → ℕ) (at : ℕ) (old : List RackView) (xs : List A) (x : A)
    (area : Area) → at < length xs → UpTo no_view (λ k was is. IsDumped s was is) at old (map view xs) → area ≡ area_after (passes at)
    → area_bytes (view (slice_index_or xs at x)).contents s area ≡ last_areas s passes old at
next_bytes view s passes at old xs x area below u is =
    ap (λ (a : Area). area_bytes (view (slice_index_or xs at x)).contents s a) is
    ∙ ap (λ (v : RackView). area_bytes v.contents s (area_after (passes at))) (sym (own_before view no_view _ at old xs x below u))

pub dumped_next : {A : Type 0} (view : A → RackView) (to tc : Bool) (s : Shape) (passes : ℕ → ℕ) (at : ℕ) (sink now last : SinkView)
    (old : List RackView) (xs : List A) (x after : A) (area : Area) → at < length xs
    → IsDumpedTo to tc s passes at sink old now (map view xs) → area ≡ area_after (passes at)
    → (IsTrue to → IsTrue tc → last.taken ≡ now.taken ++ area_bytes (view (slice_index_or xs at x)).contents s area)
    → now.faults ≤ last.faults → IsDumped s (view (slice_index_or xs at x)) (view after)
    → IsDumpedTo to tc s passes (at + 1) sink old last (map view (slice_set xs at after))
dumped_next view to tc s passes at sink now last old xs x after area below d is wrote low looked = record {
  bays = up_to_next view no_view _ at old xs x after below d.bays looked;
  written = λ a b.
      wrote a b
      ∙ ap (λ (z : List ℕ). now.taken ++ z) (next_bytes view s passes at old xs x area below d.bays is)
      ∙ ap (λ (z : List ℕ). z ++ last_areas s passes old at) (d.written a b)
      ∙ append_assoc sink.taken (bytes_of at (last_areas s passes old)) (last_areas s passes old at)
      ∙ ap (λ (z : List ℕ). sink.taken ++ z) (sym (bytes_next at (last_areas s passes old)));
  faults = (let h = d.faults in omega (arith, h, low));
}

-- a front of what is written, where one bay was not wholly written
pub dumped_front : {A : Type 0} (view : A → RackView) (to tc : Bool) (s : Shape) (passes : ℕ → ℕ) (at : ℕ) (sink now last : SinkView)
    (old : List RackView) (xs : List A) (x : A) (area : Area) → at < length xs → at < length old
    → IsDumpedTo to tc s passes at sink old now (map view xs) → area ≡ area_after (passes at)
    → (IsTrue to → IsTrue tc → AppendsFront now.taken last.taken (area_bytes (view (slice_index_or xs at x)).contents s area))
    → IsTrue to → IsTrue tc → AppendsFront sink.taken last.taken (bytes_of (length old) (last_areas s passes old))
dumped_front view to tc s passes at sink now last old xs x area below few d is front a b =
    let parts = last_areas s passes old in
    let rest = loads_before (length old) (at + 1) parts (omega (arith, few)) in
    AppendsFront-part sink.taken now.taken last.taken (bytes_of at parts) (parts at) rest.0 (bytes_of (length old) parts)
    (rest.1 ∙ ap (λ (z : List ℕ). z ++ rest.0) (bytes_next at parts)) (d.written a b)
    (subst (λ (z : List ℕ). AppendsFront now.taken last.taken z) (next_bytes view s passes at old xs x area below d.bays is) (front a b))

-- each bay was looked at, where the loop ended at one
pub looked_each : {A : Type 0} (view : A → RackView) (s : Shape) (at : ℕ) (old : List RackView) (xs : List A) (x after : A) → at < length xs
    → UpTo no_view (λ k was is. IsDumped s was is) at old (map view xs) → IsLooked s (view (slice_index_or xs at x)) (view after)
    → (k : ℕ) → IsLooked s (view_at old k) (view_at (map view (slice_set xs at after)) k)
looked_each view s at old xs x after below u looked =
    ends_each no_view (λ k was is. IsDumped s was is) (λ k was is. IsLooked s was is) (λ k was is. IsLooked s was is) at old
    (map view (slice_set xs at after)) (ends_at view no_view _ _ at old xs x after below u looked) (λ k a b early l. l.looked) (λ a b l. l)
    (λ k a late. looked_none s a)

-- and failed there
pub failed_at : {A : Type 0} (view : A → RackView) (s : Shape) (P : Type 0) (at : ℕ) (old : List RackView) (xs : List A) (x after : A)
    → at < length xs → UpTo no_view (λ k was is. IsDumped s was is) at old (map view xs)
    → HasCause P (view (slice_index_or xs at x)) (view after) → HasCause P (view_at old at) (view_at (map view (slice_set xs at after)) at)
failed_at view s P at old xs x after below u cause =
    (ends_at view no_view (λ k was is. IsDumped s was is) (λ k was is. HasCause P was is) at old xs x after below u cause).here
