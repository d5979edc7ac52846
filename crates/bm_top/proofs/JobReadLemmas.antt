-- What is read of a job source.
use Rattle.std.proofs.Common.{◌≡◌, ◌≢◌, inr, ℕ, ◌≤◌, ◌++◌, Bool, IsTrue, List, [], length, drop}
use Rattle.std.proofs.Common.{sym, ap, subst, ◌∙◌, arith}
use Rattle.std.proofs.lemmas.List.{drop_all, drop_at, length-append}
use Rattle.bm_base.specs.Count.{Rose}
use Rattle.bm_disks.specs.Input.{IsRead}
use Rattle.bm_top.specs.declared.status.Status.{Status}
use Rattle.bm_top.specs.declared.status.Status.TheVariants.{JobFault, JobText}
use Rattle.bm_top.specs.Moment.{SourceView}
use Rattle.bm_top.specs.Status.{RefusesJob}
use Rattle.bm_top.specs.JobRead.{JobCause, JobRead}
use Rattle.bm_top.specs.declared.words.Verb.{Verb}
use Rattle.bm_top.proofs.JobCauseLemmas.{no_cause, too_long_cause}

-- what is read of a text is read of its source
pub read_most : (old new : List ℕ) (most : ℕ) → most ≡ 65537 → IsRead most old new → IsRead 65537 old new
read_most old new most is few = (few.0, omega (arith, is, few.1), few.2)

-- one that held more than a job text
pub source_too_long : (verb : Verb) (told : Bool) (text : List ℕ) (old new : SourceView) (most : ℕ) → most ≡ 65537 → length text ≡ most
    → (IsTrue told → old.left ≡ text ++ new.left) → (IsTrue told → IsRead most old.left new.left) → old.faults ≤ new.faults
    → JobRead verb told old JobText new
source_too_long verb told text old new most is long whole few low = record {
  cause = λ t.
      let all = ap length (whole t) ∙ length-append text new.left in
      too_long_cause verb old.left (omega (arith, all, long, is));
  ended = λ t is. absurd is;
  read = λ t read. sym (ap (drop 65537) (whole t) ∙ drop_at text new.left 65537 (long ∙ is));
  memory = λ t e. absurd (cc);
  few = λ t. read_most old.left new.left most is (few t);
  fault = λ e. absurd (cc);
  faults = low;
}

-- one of which a read failed
pub source_failed : (verb : Verb) (told : Bool) (old new : SourceView) (most : ℕ) → most ≡ 65537
    → (IsTrue told → IsRead most old.left new.left)
    → Rose old.faults new.faults → old.faults ≤ new.faults → JobRead verb told old JobFault new
source_failed verb told old new most is few rose low = record {
  cause = λ t. record {
    document = λ e. absurd (cc);
    field = λ which e. absurd (cc);
    rule = λ rule e. absurd (cc);
    map = λ fault e. absurd (cc);
  };
  ended = λ t is. absurd is;
  read = λ t is. absurd is;
  memory = λ t e. absurd (cc);
  few = λ t. read_most old.left new.left most is (few t);
  fault = λ e. rose;
  faults = low;
}

-- of one whose text was read whole
pub read_whole : (told : Bool) (text : List ℕ) (old new : SourceView) → (IsTrue told → text ≡ old.left) → length text ≤ 65536
    → (IsTrue told → new.left ≡ []) → IsTrue told → (new.left ≡ []) × (length old.left ≤ 65536)
read_whole told text old new same short end t = (end t, subst (λ (x : List ℕ). length x ≤ 65536) (same t) short)

-- one that ended
pub source_ended : (verb : Verb) (told : Bool) (answer : Status) (old new : SourceView) → answer ≢ JobFault
    → (IsTrue told → (new.left ≡ []) × (length old.left ≤ 65536)) → old.faults ≤ new.faults → (IsTrue told → JobCause verb old.left answer)
    → JobRead verb told old answer new
source_ended verb told answer old new other end low cause = record {
  cause = cause;
  ended = λ t is. (end t).0;
  read = λ t read. (end t).0 ∙ sym (drop_all 65537 old.left (omega (arith, (end t).1)));
  memory = λ t e. inr (end t).0;
  few = λ t. (length old.left, omega (arith, (end t).1), (end t).0 ∙ sym (drop_all (length old.left) old.left (omega arith)));
  fault = λ e. absurd (other e);
  faults = low;
}

-- one whose task was taken
pub source_taken : (verb : Verb) (told : Bool) (answer : Status) (old new : SourceView) → ¬ RefusesJob answer
    → (IsTrue told → (new.left ≡ []) × (length old.left ≤ 65536)) → old.faults ≤ new.faults → JobRead verb told old answer new
source_taken verb told answer old new fine end low =
    source_ended verb told answer old new (λ e. fine (subst RefusesJob (sym e) tt)) end low (λ t. no_cause verb old.left answer fine)
