-- Calls of a rack as those of a turn.
use Rattle.std.proofs.Common.{◌≡◌, ℕ, ◌+◌, Bool, Result, Ok, Err, IsOk, OnOk, sym, subst, arith}
use Rattle.std.proofs.lemmas.Bool.{false≢true}
use Rattle.bm_base.specs.Contents.{RackUnit}
use Rattle.bm_rack.specs.RackView.{RackView, IsWellFormed}
use Rattle.bm_rack.specs.Frames.{SameState, DirtiesOnly, Keeps, HasCause, RaisesCounts, MovesRows, RackCall, MakesCalls, MakesPageCalls}
use Rattle.bm_rack.specs.Frames.{RisesMost}
use Rattle.bm_rack.proofs.CallLemmas.{rises_by, rises_then, rises_wider, most_of, most_then}
use Rattle.bm_rack.proofs.FrameLemmas.{ChangesOnly-same, DirtiesOnly-wider, DirtiesOnly-changes, DirtiesOnly-trans, Keeps-trans}
use Rattle.bm_rack.proofs.FrameLemmas.{HasCause-later}
use Rattle.bm_control.specs.PageCalls.{IsSlotPage}

-- an answer is no refusal
pub no_refusal : {T E : Type 0} (x : T) (e : E) → ¬ (◌≡◌ {A = Result T E} (Ok x) (Err e))
no_refusal x e is = cc

-- what holds of an answer that is none
pub holds_ok : {T E P : Type 0} (r : Result T E) → IsOk r → OnOk r P → P
holds_ok (Ok x) ok holds = holds
holds_ok (Err e) ok holds = absurd (false≢true ok)

-- a call whose failures are among those of another
pub cause_of : (failed other : Type 0) (old new : RackView) → (other → failed) → HasCause failed old new → HasCause other old new
cause_of failed other old new f x = record { rose = λ e. x.rose (f e); sure = λ h k e. x.sure h k (f e) }

pub call_of : (P Q : RackUnit → Type 0) (failed other : Type 0) (old new : RackView) → ((u : RackUnit) → P u → Q u) → (other → failed)
    → RackCall P failed old new → RackCall Q other old new
call_of P Q failed other old new wider f x = record {
  frame = DirtiesOnly-wider P Q old new wider x.frame;
  keeps = x.keeps;
  cause = cause_of failed other old new f x.cause;
}

-- a slot's pages by the slot's other name
pub slot_call : (free at : ℕ) (failed other : Type 0) (old new : RackView) → free ≡ at → (other → failed)
    → RackCall (IsSlotPage free) failed old new
    → RackCall (IsSlotPage at) other old new
slot_call free at failed other old new same f x =
    subst (λ (k : ℕ). RackCall (IsSlotPage k) other old new) same
    (call_of (IsSlotPage free) (IsSlotPage free) failed other old new (λ u is. is) f x)

-- a call after others that changed less
pub call_then : (P Q S : RackUnit → Type 0) (failed other : Type 0) (a b c : RackView) → ((u : RackUnit) → P u → S u)
    → ((u : RackUnit) → Q u → S u)
    → (other → failed) → DirtiesOnly P a b → Keeps a b → RackCall Q failed b c → RackCall S other a c
call_then P Q S failed other a b c first second f w keeps x = record {
  frame = DirtiesOnly-trans S a b c (DirtiesOnly-wider P S a b first w) (DirtiesOnly-wider Q S b c second x.frame);
  keeps = Keeps-trans a b c keeps x.keeps;
  cause = cause_of failed other a c f (HasCause-later failed a b c keeps x.cause);
}

-- a call that changed nothing
pub quiet : (a b : RackView) → SameState a b → DirtiesOnly (λ u. ⊥) a b
quiet a b s = DirtiesOnly-changes (λ u. ⊥) a b (ChangesOnly-same (λ u. ⊥) a b s)

-- a turn that ended while its load was moved
pub calls_failed : {tells_stands tells_contents : Bool} (succeeds finished : Type 0) (rows read pages syncs : ℕ) (a b c : RackView)
    → IsWellFormed tells_stands tells_contents a → ¬ succeeds → RaisesCounts 0 read 0 a b → MovesRows rows finished b c
    → MakesCalls succeeds rows (read + pages) syncs a c
calls_failed succeeds finished rows read pages syncs a b c well fails x y = record {
  moves = rises_wider (0 + rows) rows finished succeeds _ _ (omega arith) (λ ok. absurd (fails ok))
      (rises_then 0 rows (Unit {0}) finished _ _ _ (λ _. tt) (rises_by (Unit {0}) 0 _ _ well.moves x.moves) y.moves);
  pages = most_of read (read + pages) ⊥ _ _ (omega arith)
      (subst (λ (n : ℕ). RisesMost read a.pages n) (sym y.pages) (rises_by ⊥ read _ _ well.pages x.pages));
  syncs = most_of 0 syncs ⊥ _ _ (omega arith)
      (subst (λ (n : ℕ). RisesMost 0 a.syncs n) (sym y.syncs) (rises_by ⊥ 0 _ _ well.syncs x.syncs));
}

-- a turn whose load was moved
pub calls_all : {tells_stands tells_contents : Bool} (succeeds finished : Type 0) (rows read pages syncs : ℕ) (a b c d : RackView)
    → IsWellFormed tells_stands tells_contents a → finished → RaisesCounts 0 read 0 a b → MovesRows rows finished b c
    → MakesPageCalls ⊥ pages syncs c d → MakesCalls succeeds rows (read + pages) syncs a d
calls_all succeeds finished rows read pages syncs a b c d well all x y z =
    let before = calls_failed ⊥ finished rows read 0 0 a b c well (λ e. e) x y in
    let made = y.moves.done all in
    record {
      moves = record {
        done = λ _. omega (arith, x.moves, made, z.moves, well.moves);
        low = omega (arith, before.moves.low, z.moves);
        high = omega (arith, before.moves.high, z.moves);
      };
      pages = most_then read pages (read + pages) _ _ _ (omega arith)
          (most_of (read + 0) read ⊥ _ _ (omega arith) before.pages) z.pages;
      syncs = most_then 0 syncs syncs _ _ _ (omega arith) before.syncs z.syncs;
    }
