use Rattle.std.proofs.Common.{inl, inr, sym, ◌∙◌, arith}
use Rattle.std.proofs.lemmas.Bool.{cases_eq}
use Rattle.bm_base.specs.Shape.{loads_of}
use Rattle.bm_control.proofs.JobBodyLemmas.{job_numbers, version_whole, version_parts, named_parts}
use Rattle.bm_control.proofs.job_body.read_every.Goals as goal

pub returns-then-u16_at-eq-WHOLE_PASSES : goal.returns-then-u16_at-eq-WHOLE_PASSES
returns-then-u16_at-eq-WHOLE_PASSES c = record {
  read = λ job passes every body.
      let numbers = job_numbers c.args.shape.now c.args.page.now job passes every body in
      let read = c.u16_at.ensures ∙ numbers.version in
      elim (cases_eq every (loads_of c.args.shape.now)) [
        | inl same ↦ c.loads.ensures ∙ sym same
        | inr other ↦ (let two = version_parts c.args.shape.now every other in absurd
            (omega (arith, read, two, c.if-u16_at-eq-WHOLE_PASSES.true)))
      ];
}

pub returns-else-u16_at-eq-WHOLE_PASSES : goal.returns-else-u16_at-eq-WHOLE_PASSES
returns-else-u16_at-eq-WHOLE_PASSES c = record {
  read = λ job passes every body.
      let numbers = job_numbers c.args.shape.now c.args.page.now job passes every body in
      let read = c.u16_at.ensures ∙ numbers.version in
      elim (cases_eq every (loads_of c.args.shape.now)) [
        | inl same ↦ (let one = version_whole c.args.shape.now every same in absurd (c.if-u16_at-eq-WHOLE_PASSES.false (read ∙ one)))
        | inr other ↦ c.u64_at.ensures ∙ numbers.named ∙ named_parts c.args.shape.now every other
      ];
}
