-- Gates that were shut, and what both of them say of a rack.
use Rattle.std.proofs.Common.{◌≡◌, inl, inr, ℕ, ◌+◌, Bool, List, Ok, Err, Result, OnOk, sym, ◌∙◌, ap, subst, arith}
use Rattle.bm_base.specs.declared.fault.Failed.{Failed}
use Rattle.bm_base.specs.Contents.{Contents, RackUnit, page_unit, page_at}
use Rattle.bm_base.specs.Count.{raised}
use Rattle.bm_base.specs.Gate.{IsClosedGate}
use Rattle.bm_rack.specs.RackView.{RackView, IsClean}
use Rattle.bm_rack.specs.Calls.{Synced}
use Rattle.bm_rack.specs.Frames.{SameState, RaisesCounts, DirtiesOnly}
use Rattle.bm_rack.proofs.FrameLemmas.{RaisesCounts-trans, ChangesOnly-same, DirtiesOnly-changes, DirtiesOnly-synced}
use Rattle.bm_control.specs.Closing.{IsShut}
use Rattle.bm_control.specs.Sound.{IsSound}
use Rattle.bm_control.proofs.ImageLemmas.{Settled, settled_in_image, settled_clean, settled_within, zeros_closed}
use Rattle.bm_control.proofs.SoundLemmas.{sound_closed}
use Rattle.bm_disks.specs.Loading.{IsLoadShut, AreGatesClosed}

-- a gate that was shut is closed
pub shut_closed : (old new : List ℕ) → IsShut old new → IsClosedGate new
shut_closed old new (inl was) = zeros_closed new was.1
shut_closed old new (inr was) = subst IsClosedGate (sym was.1) was.0

-- an open gate that is closed now, and a closed one that is as before, are shut
pub shut_same : (old now new : List ℕ) → now ≡ old → IsShut now new → IsShut old new
shut_same old now new same is = subst (λ (page : List ℕ). IsShut page new) same is

-- both gates are closed, on the disks
pub record BothClosed (v : RackView) : Type 0 where
  pub one : Settled IsClosedGate 1 v
  pub three : Settled IsClosedGate 3 v

pub both_closed : (v : RackView) → IsClean v → IsClosedGate (page_at v.contents 1) → IsClosedGate (page_at v.contents 3) → BothClosed v
both_closed v clean one three = record {
  one = settled_clean IsClosedGate 1 v clean one;
  three = settled_clean IsClosedGate 3 v clean three;
}

-- a change elsewhere
pub both_within : (P : RackUnit → Type 0) (old new : RackView) → DirtiesOnly P old new → ¬ P (page_unit 1) → ¬ P (page_unit 3)
    → BothClosed old → BothClosed new
both_within P old new only one three b = record {
  one = settled_within IsClosedGate P 1 old new only one b.one;
  three = settled_within IsClosedGate P 3 old new only three b.three;
}

-- then they are closed in every image
pub both_in_images : (v : RackView) → BothClosed v → AreGatesClosed v
both_in_images v b dims image stands i =
    (settled_in_image IsClosedGate 1 v dims image b.one i, settled_in_image IsClosedGate 3 v dims image b.three i)

-- and the rack is sound
pub both_sound : (v : RackView) → BothClosed v → IsSound v
both_sound v b = sound_closed v b.one b.three

-- a load gate that no stop opens: a change elsewhere
pub load_shut_within : (P : RackUnit → Type 0) (old new : RackView) → DirtiesOnly P old new → ¬ P (page_unit 1) → IsLoadShut old
    → IsLoadShut new
load_shut_within P old new only apart shut =
    (only.dirty (page_unit 1) apart shut.0, subst IsClosedGate (sym (only.contents (page_unit 1) apart)) shut.1)

-- a sync, whether it fails or not
pub load_shut_synced : {T : Type 0} (old new : RackView) (r : Result T Failed) → Synced old r new → IsLoadShut old → IsLoadShut new
load_shut_synced old new r s = load_shut_within (λ u. ⊥) old new (DirtiesOnly-synced (λ u. ⊥) old new r s) (λ e. e)

-- and counts alone
pub load_shut_same : (old new : RackView) → SameState old new → IsLoadShut old → IsLoadShut new
load_shut_same old new s =
    load_shut_within (λ u. ⊥) old new (DirtiesOnly-changes (λ u. ⊥) old new (ChangesOnly-same (λ u. ⊥) old new s)) (λ e. e)

-- what is clean stays clean where nothing but counts changed
pub clean_same : (old new : RackView) → SameState old new → IsClean old → IsClean new
clean_same old new s clean u = ap (λ (f : RackUnit → Bool). f u) s.dirty ∙ clean u

-- a page where nothing but counts changed
pub page_same : (P : List ℕ → Type 0) (page : ℕ) (old new : RackView) → SameState old new → P (page_at old.contents page)
    → P (page_at new.contents page)
page_same P page old new s holds = subst (λ (v : Contents). P (page_at v page)) (sym s.contents) holds

-- what holds holds where a call succeeds
pub on_ok : {T E : Type 0} (r : Result T E) (P : Type 0) → P → OnOk r P
on_ok (Ok x) P holds = holds
on_ok (Err e) P holds = tt

-- counts that rose by the same
raises_as : (p q s t : ℕ) (a b : RackView) → p ≡ q → s ≡ t → RaisesCounts 0 p s a b → RaisesCounts 0 q t a b
raises_as p q s t a b pages syncs x = record {
  moves = x.moves;
  pages = x.pages ∙ ap (raised a.pages) pages;
  syncs = x.syncs ∙ ap (raised a.syncs) syncs;
}

-- the calls of a sync, and of both gates that are shut after it
pub shut_counts : (one three : ℕ) (a b c d : RackView) → RaisesCounts 0 0 1 a b → RaisesCounts 0 (1 + three) three b c
    → RaisesCounts 0 (1 + one) one c d → RaisesCounts 0 (2 + (one + three)) (1 + (one + three)) a d
shut_counts one three a b c d x y z =
    raises_as (0 + (1 + three) + (1 + one)) (2 + (one + three)) (1 + three + one) (1 + (one + three)) a d (omega arith) (omega arith)
    (RaisesCounts-trans 0 (0 + (1 + three)) (1 + three) 0 (1 + one) one a c d (RaisesCounts-trans 0 0 1 0 (1 + three) three a b c x y) z)
