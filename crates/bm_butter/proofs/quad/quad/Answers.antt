use Rattle.std.proofs.Common.{◌≡◌, ℕ, List, ap, ◌∙◌}
use Rattle.bm_base.specs.Butterfly.{record_of}
use Rattle.bm_butter.specs.Records.{record_in_order}
use Rattle.bm_butter.specs.OnBits.{kernel_digits}
use Rattle.bm_butter.specs.Groups.{pick}
use Rattle.bm_butter.proofs.FourLemmas.{by_four}
use Rattle.bm_butter.proofs.OnBitLemmas.{same_pair}
use Rattle.bm_butter.proofs.QuadLemmas.{BothRounds-made}
use Rattle.bm_butter.proofs.quad.quad.Goals as goal

pub returns-clause-group : goal.returns-clause-group
unfolding pick
returns-clause-group g c =
    let f = g.K.Kernel.meaning c.args.kernel.now in
    let p = c.args.p in
    let q = c.args.q in
    let r = c.args.r in
    let s = c.args.s in
    let apart = c.requires.apart in
    let new = c.set_number-4.new.buf in
    let xs : ℕ → List ℕ = λ k. record_in_order c.args.buf.now (pick p q r s k) in
    let rounds = BothRounds-made f xs c.pair-above.result c.pair-below.result (g.met.K.Kernel.keeps c.args.kernel.now)
    (c.pair-above.ensures ∙ same_pair f c.number_at.ensures.word c.number_at-2.ensures.word)
    (c.pair-below.ensures ∙ same_pair f c.number_at-3.ensures.word c.number_at-4.ensures.word) in
    let above = ap (λ (t : ℕ × ℕ). record_of t.0) c.pair-at_p.ensures in
    by_four (λ t. record_in_order new (pick p q r s t) ≡ kernel_digits f 2 xs t)
    (c.set_number-4.ensures.others p apart.p_s ∙ c.set_number-3.ensures.others p apart.p_r ∙ c.set_number-2.ensures.others p apart.p_q
    ∙ c.set_number.ensures.written ∙ above ∙ rounds.first)
    (c.set_number-4.ensures.others q apart.q_s ∙ c.set_number-3.ensures.others q apart.q_r ∙ c.set_number-2.ensures.written
    ∙ ap (λ (t : ℕ × ℕ). record_of t.0) c.pair-at_q.ensures ∙ rounds.second)
    (c.set_number-4.ensures.others r apart.r_s ∙ c.set_number-3.ensures.written
    ∙ ap (λ (t : ℕ × ℕ). record_of t.1) c.pair-at_p.ensures ∙ rounds.third)
    (c.set_number-4.ensures.written ∙ ap (λ (t : ℕ × ℕ). record_of t.1) c.pair-at_q.ensures ∙ rounds.fourth)
