use Rattle.std.proofs.Common.{rules, ◌≡◌}
use Rattle.bm_kindjob.specs.KindFile.{HasMapFault}
use Rattle.bm_kind_call.proofs.TextLemmas.{map_cause, map_set}
use Rattle.bm_kind_call.proofs.text_reading.file_of.Goals as goal

pub returns-in-Err-Map-clause-cause : goal.returns-in-Err-Map-clause-cause
returns-in-Err-Map-clause-cause c =
    let faulty : HasMapFault c.args.text.now c.in-Err-Map.field-0-0 c.in-Err-Map.fault = search rules in
    map_cause _ _ _ faulty

pub returns-in-Err-Map-clause-map : goal.returns-in-Err-Map-clause-map
returns-in-Err-Map-clause-map c fault e =
    let faulty : HasMapFault c.args.text.now c.in-Err-Map.field-0-0 c.in-Err-Map.fault = search rules in
    let same : c.in-Err-Map.fault ≡ fault = cc in
    map_set _ _ _ fault faulty same
