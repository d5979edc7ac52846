-- One call after another.
use Rattle.std.proofs.Common.{◌≡◌, inl, inr, ⊎_elim, ℕ, ◌+◌, ◌^◌, ◌<◌, ◌≤◌, Bool, false, Result, Ok, Err, sym, ◌∙◌, ap, refl, arith}
use Rattle.bm_base.specs.declared.fault.Failed.{Failed}
use Rattle.bm_base.specs.Contents.{RackUnit, unit_at}
use Rattle.bm_base.specs.Count.{raised}
use Rattle.bm_rack.specs.RackView.{RackView, IsWellFormed}
use Rattle.bm_rack.specs.Frames.{RaisesCounts, Keeps, SameState, ChangesOnly, DirtiesOnly, HasCause}
use Rattle.bm_rack.specs.Calls.{Synced}

pub raised-zero : (n : ℕ) → n < 2 ^ 64 → raised n 0 ≡ n
raised-zero n h = omega arith

pub raised-raised : (n a b : ℕ) → raised (raised n a) b ≡ raised n (a + b)
raised-raised n a b = omega arith

pub raised-mono : (n a b : ℕ) → a ≤ b → raised n a ≤ raised n b
raised-mono n a b h = omega arith

pub RaisesCounts-refl : (tells_stands tells_contents : Bool) (v : RackView) → IsWellFormed tells_stands tells_contents v
    → RaisesCounts 0 0 0 v v
RaisesCounts-refl _ _ v k = record {
  moves = sym (raised-zero v.moves k.moves);
  pages = sym (raised-zero v.pages k.pages);
  syncs = sym (raised-zero v.syncs k.syncs);
}

pub RaisesCounts-trans : (m p s m' p' s' : ℕ) (a b c : RackView) → RaisesCounts m p s a b → RaisesCounts m' p' s' b c
    → RaisesCounts (m + m') (p + p') (s + s') a c
RaisesCounts-trans m p s m' p' s' a b c x y = record {
  moves = y.moves ∙ ap (λ n. raised n m') x.moves ∙ raised-raised a.moves m m';
  pages = y.pages ∙ ap (λ n. raised n p') x.pages ∙ raised-raised a.pages p p';
  syncs = y.syncs ∙ ap (λ n. raised n s') x.syncs ∙ raised-raised a.syncs s s';
}

pub Keeps-refl : (v : RackView) → Keeps v v
Keeps-refl v = record { faults = omega arith; steady = λ h. h; stopping = refl; sure = λ _ _. refl; lasting = λ _ h. h }

pub Keeps-trans : (a b c : RackView) → Keeps a b → Keeps b c → Keeps a c
Keeps-trans a b c x y = record {
  faults = omega (arith, x.faults, y.faults);
  steady = λ h. y.steady (x.steady h);
  stopping = y.stopping ∙ x.stopping;
  sure = λ h k. y.sure (x.steady h) (x.stopping ∙ k) ∙ x.sure h k;
  lasting = λ fact h. y.lasting fact (x.lasting fact h);
}

pub SameState-refl : (v : RackView) → SameState v v
SameState-refl v = record { stands = refl; contents = refl; dirty = refl; attached = refl }

pub SameState-trans : (a b c : RackView) → SameState a b → SameState b c → SameState a c
SameState-trans a b c x y = record {
  stands = y.stands ∙ x.stands;
  contents = y.contents ∙ x.contents;
  dirty = y.dirty ∙ x.dirty;
  attached = y.attached ∙ x.attached;
}

-- a fault of a later call is one of the whole
pub HasCause-later : (failed : Type 0) (a b c : RackView) → Keeps a b → HasCause failed b c → HasCause failed a c
HasCause-later failed a b c x y = record {
  rose = λ e. ⊎_elim (λ h. inl (omega (arith, x.faults, h))) (λ h. inr h) (y.rose e);
  sure = λ h k. y.sure (x.steady h) (x.stopping ∙ k);
}

pub ChangesOnly-refl : (P : RackUnit → Type 0) (v : RackView) → ChangesOnly P v v
ChangesOnly-refl P v = record { stands = refl; attached = refl; contents = λ u h. refl; dirty = λ u h. refl }

pub ChangesOnly-trans : (P : RackUnit → Type 0) (a b c : RackView) → ChangesOnly P a b → ChangesOnly P b c → ChangesOnly P a c
ChangesOnly-trans P a b c x y = record {
  stands = y.stands ∙ x.stands;
  attached = y.attached ∙ x.attached;
  contents = λ u h. y.contents u h ∙ x.contents u h;
  dirty = λ u h. y.dirty u h ∙ x.dirty u h;
}

pub ChangesOnly-wider : (P Q : RackUnit → Type 0) (a b : RackView) → ((u : RackUnit) → P u → Q u) → ChangesOnly P a b → ChangesOnly Q a b
ChangesOnly-wider P Q a b w x = record {
  stands = x.stands;
  attached = x.attached;
  contents = λ u h. x.contents u (λ p. h (w u p));
  dirty = λ u h. x.dirty u (λ p. h (w u p));
}

pub ChangesOnly-same : (P : RackUnit → Type 0) (a b : RackView) → SameState a b → ChangesOnly P a b
ChangesOnly-same P a b x = record {
  stands = x.stands;
  attached = x.attached;
  contents = λ u h. ap (λ c. unit_at c u) x.contents;
  dirty = λ u h. ap (λ (d : RackUnit → Bool). d u) x.dirty;
}

pub DirtiesOnly-changes : (P : RackUnit → Type 0) (a b : RackView) → ChangesOnly P a b → DirtiesOnly P a b
DirtiesOnly-changes P a b x = record {
  stands = x.stands;
  attached = x.attached;
  contents = x.contents;
  dirty = λ u h clean. x.dirty u h ∙ clean;
}

pub DirtiesOnly-trans : (P : RackUnit → Type 0) (a b c : RackView) → DirtiesOnly P a b → DirtiesOnly P b c → DirtiesOnly P a c
DirtiesOnly-trans P a b c x y = record {
  stands = y.stands ∙ x.stands;
  attached = y.attached ∙ x.attached;
  contents = λ u h. y.contents u h ∙ x.contents u h;
  dirty = λ u h clean. y.dirty u h (x.dirty u h clean);
}

pub DirtiesOnly-wider : (P Q : RackUnit → Type 0) (a b : RackView) → ((u : RackUnit) → P u → Q u) → DirtiesOnly P a b → DirtiesOnly Q a b
DirtiesOnly-wider P Q a b w x = record {
  stands = x.stands;
  attached = x.attached;
  contents = λ u h. x.contents u (λ p. h (w u p));
  dirty = λ u h. x.dirty u (λ p. h (w u p));
}

clean_by : {T : Type 0} (old new : RackView) (r : Result T Failed) (u : RackUnit) → Synced old r new → old.dirty u ≡ false
    → new.dirty u ≡ false
clean_by old new (Ok x) u s h = s.clean refl u
clean_by old new (Err e) u s h = ap (λ (d : RackUnit → Bool). d u) (s.failed refl) ∙ h

-- a sync, whether it fails or not
pub DirtiesOnly-synced : {T : Type 0} (P : RackUnit → Type 0) (old new : RackView) (r : Result T Failed) → Synced old r new
    → DirtiesOnly P old new
DirtiesOnly-synced P old new r s = record {
  stands = s.stands;
  attached = s.attached;
  contents = λ u h. ap (λ c. unit_at c u) s.contents;
  dirty = λ u h clean. clean_by old new r u s clean;
}
