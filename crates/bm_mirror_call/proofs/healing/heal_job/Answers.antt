use Rattle.bm_mirror_call.proofs.TextLemmas.{no_field, no_map, no_rule, stops_for}
use Rattle.bm_mirror_call.proofs.healing.heal_job.Goals as goal

pub returns-then-takes-clause-stops : goal.returns-then-takes-clause-stops
returns-then-takes-clause-stops g c =
    stops_for c.args.verb c.args.text.now c.in-Ok.file c.heal_disks.result _ _ c.requires c.in-Ok.ensures.file
    (c.takes.ensures.0 c.if-takes.true) c.heal_disks.ensures.stops

pub returns-in-Err-Field-clause-sides : goal.returns-in-Err-Field-clause-sides
returns-in-Err-Field-clause-sides g c = λ ok file means.
    absurd (no_field c.args.text.now file means c.in-Err-Field.field-0-0 (c.in-Err-Field.ensures.field c.in-Err-Field.field-0-0 (cc)))

pub returns-in-Err-Shape-clause-sides : goal.returns-in-Err-Shape-clause-sides
returns-in-Err-Shape-clause-sides g c = λ ok file means.
    absurd (no_rule c.args.text.now file means c.in-Err-Shape.field-0-0 (c.in-Err-Shape.ensures.shape c.in-Err-Shape.field-0-0 (cc)))

pub returns-clause-sides : goal.returns-clause-sides
returns-clause-sides g c = λ ok file means.
    absurd (no_map c.args.text.now file means c.in-Err-Map.field-0-0 c.in-Err-Map.field-0-1
    (c.in-Err-Map.ensures.map c.in-Err-Map.field-0-0 c.in-Err-Map.field-0-1 (cc)))
