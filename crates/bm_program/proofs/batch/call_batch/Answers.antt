use Rattle.std.proofs.Common.{length, sym, ◌∙◌, ap}
use Rattle.std.proofs.lemmas.List.{length-map}
use Rattle.bm_program.proofs.batch.call_batch.Goals as goal

pub batch_top-requires : goal.batch_top-requires
batch_top-requires g c = record {
  enough = λ verb seed names is.
      let enough = c.job_names-names.ensures.enough verb seed names is in (
        ap length c.deref_mut.ensures.value ∙ c.in-Ok-job_files.ensures ∙ enough.0,
        ap length c.deref_mut-2.ensures.value ∙ c.in-Ok.ensures ∙ enough.1,
      );
}

pub returns-clause-call : goal.returns-clause-call
returns-clause-call g c = (
  _,
  _,
  _,
  _,
  length-map c.deref_mut-2.result.now _
      ∙ ap length c.deref_mut-2.ensures.value
      ∙ c.in-Ok.ensures
      ∙ sym c.in-Ok-job_files.ensures
      ∙ sym (ap length c.deref_mut.ensures.value)
      ∙ sym (length-map c.deref_mut.result.now _),
  c.batch_top.ensures.call,
)
