use Rattle.std.proofs.Common.{◌≡◌, ◌≢◌, ℕ, ◌+◌, ◌<◌, ◌≤◌, ◌⊎◌, inl, inr, ◌∙◌, subst, sym, arith, ⊎_elim}
use Rattle.std.proofs.lemmas.Bool.{cases_eq}
use Rattle.bm_butter.specs.Pairs.{IsPaired}
use Rattle.bm_butter.proofs.PairedLemmas.{IsPaired-from, IsPaired-kept}
use Rattle.bm_butter.proofs.on_bit.make_pairs.Goals as goal

pub loop-k-preserved : goal.loop-k-preserved
loop-k-preserved g c =
    let f = g.K.Kernel.meaning c.args.kernel.now in
    let inv = c.loop-k.invariant in
    let test = c.loop-k-test.true in
    let at = c.loop-k.k in
    let first = c.args.first in
    let second = c.args.second in
    let old = c.args.buf.now in
    let now = c.loop-k.buf in
    let new = c.pair.new.buf in
    let apart : (k : ℕ) → k < c.args.count → (m : ℕ) → m < c.args.count → first + k ≢ second + m = λ k below m within e.
    ⊎_elim (λ (p : first + c.args.count ≤ second). absurd (omega arith))
    (λ (p : second + c.args.count ≤ first). absurd (omega arith)) c.requires.apart in
    let out_first : (k : ℕ) → k < c.args.count → (m : ℕ) → m ≤ c.args.count
    → (second + k < first) ⊎ (first + m ≤ second + k) = λ k below m within.
    ⊎_elim (λ (p : first + c.args.count ≤ second). inr (omega arith))
    (λ (p : second + c.args.count ≤ first). inl (omega arith)) c.requires.apart in
    let out_second : (k : ℕ) → k < c.args.count → (m : ℕ) → m ≤ c.args.count
    → (first + k < second) ⊎ (second + m ≤ first + k) = λ k below m within.
    ⊎_elim (λ (p : first + c.args.count ≤ second). inl (omega arith))
    (λ (p : second + c.args.count ≤ first). inr (omega arith)) c.requires.apart in
    record {
      size = c.pair.ensures.size ∙ inv.size;
      paired = λ k below.
          ⊎_elim
          (λ (p : k ≡ at). subst (λ m. IsPaired f old new (first + m) (second + m)) (sym p)
          (IsPaired-from f old now new (first + at) (second + at) c.pair.ensures.paired
          (inv.others (first + at) (inr (omega arith)) (out_second at (omega arith) at (omega arith)))
          (inv.others (second + at) (out_first at (omega arith) at (omega arith)) (inr (omega arith)))))
          (λ (p : k ≢ at). IsPaired-kept f old now new (first + k) (second + k) (inv.paired k (omega arith))
          (c.pair.ensures.others (first + k) (λ e. p (omega arith)) (apart k (omega arith) at (omega arith)))
          (c.pair.ensures.others (second + k) (λ e. apart at (omega arith) k (omega arith) (sym e)) (λ e. p (omega arith))))
          (cases_eq k at);
      others = λ k no_first no_second.
          c.pair.ensures.others k
          (⊎_elim (λ (p : k < first). λ (e : k ≡ first + at). absurd (omega arith))
          (λ (p : first + (at + 1) ≤ k). λ (e : k ≡ first + at). absurd (omega arith)) no_first)
          (⊎_elim (λ (p : k < second). λ (e : k ≡ second + at). absurd (omega arith))
          (λ (p : second + (at + 1) ≤ k). λ (e : k ≡ second + at). absurd (omega arith)) no_second)
          ∙ inv.others k (⊎_elim (λ (p : k < first). inl p) (λ (p : first + (at + 1) ≤ k). inr (omega arith)) no_first)
          (⊎_elim (λ (p : k < second). inl p) (λ (p : second + (at + 1) ≤ k). inr (omega arith)) no_second);
    }
