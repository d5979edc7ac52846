use Rattle.std.proofs.Common.{◌+◌, refl, sym, ◌∙◌, arith}
use Rattle.std.proofs.lemmas.Bool.{false≢true}
use Rattle.bm_base.specs.Shape.{input_size}
use Rattle.bm_disks.proofs.LoadLemmas.{input_whole, input_long, IsRead-later}
use Rattle.bm_disks.proofs.input_loads.read_input.Goals as goal

pub returns-in-Ok-true-clause-answer : goal.returns-in-Ok-true-clause-answer
returns-in-Ok-true-clause-answer g c told =
    let loaded = c.in_ok-read_loads.ensures in
    let end = c.in-Ok-true.ensures in
    input_whole (input_size c.args.shape.now) (g.S.Source.left c.args.input.now) _ _ (loaded.whole told refl) (loaded.taken told refl)
    ((end.ended told).0 c.in-Ok-true.field-0-test) (end.taken told refl)

pub returns-in-Ok-false-clause-answer : goal.returns-in-Ok-false-clause-answer
returns-in-Ok-false-clause-answer g c told =
    let loaded = c.in_ok-read_loads.ensures in
    let end = c.in-Ok-false.ensures in
    input_long (input_size c.args.shape.now) (g.S.Source.left c.args.input.now) _ _ (loaded.whole told refl) (loaded.taken told refl)
    (λ e. false≢true (sym c.in-Ok-false.field-0-test ∙ (end.ended told).1 e)) (end.taken told refl)

pub returns-in-Ok-false-clause-few : goal.returns-in-Ok-false-clause-few
returns-in-Ok-false-clause-few g c told =
    let size = input_size c.args.shape.now in
    IsRead-later size 1 (size + 1) _ _ _ (omega arith) (c.in_ok-read_loads.ensures.taken told refl) (c.is_at_end.ensures.few told)

pub returns-in-Err-clause-few : goal.returns-in-Err-clause-few
returns-in-Err-clause-few g c told =
    let size = input_size c.args.shape.now in
    IsRead-later size 1 (size + 1) _ _ _ (omega arith) (c.in_ok-read_loads.ensures.taken told refl) (c.is_at_end.ensures.few told)
