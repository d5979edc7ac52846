use Rattle.std.proofs.Common.{ℕ, ap, sym, ◌∙◌, refl}
use Rattle.std.proofs.Math.Path.{subst₂}
use Rattle.bm_control.specs.Bodies.{part_page, IsPartBody, PartBodyFits}
use Rattle.bm_control.proofs.EqualLemmas.{none_some, pair_injective, one_outcome}
use Rattle.bm_control.proofs.BodyLemmas.{part_numbers}
use Rattle.bm_control.proofs.part_body.decode_part.Goals as goal

pub returns-then-not-are_in_range : goal.returns-then-not-are_in_range
returns-then-not-are_in_range c pass loads = (
  λ e. absurd (none_some (pass, loads) e),
  λ body.
      let numbers = part_numbers c.args.shape.now _ pass loads body in
      let in_range = c.are_in_range.ensures.1 (subst₂ (λ (p l : ℕ). PartBodyFits c.args.shape.now p l)
      (sym (c.u16_at-pass.ensures ∙ numbers.pass_is)) (sym (c.u64_at-loads.ensures ∙ numbers.loads_are)) body.fits) in
      absurd (one_outcome c.are_in_range.result in_range c.if-not-are_in_range.true),
)

pub returns-then-same_page : goal.returns-then-same_page
returns-then-same_page c pass loads =
    let fits = c.are_in_range.ensures.0 c.if-not-are_in_range.false in
    let whole = sym (c.same_page.ensures.0 c.if-same_page.true) ∙ c.encode_part.ensures in (
      λ e.
          let same = pair_injective c.u16_at-pass.result pass c.u64_at-loads.result loads e in
          subst₂ (λ (p l : ℕ). IsPartBody c.args.shape.now c.args.page.now p l) same.0 same.1 (record { fits = fits; page_is = whole }),
      λ body.
          let numbers = part_numbers c.args.shape.now _ pass loads body in
          let one = c.u16_at-pass.ensures ∙ numbers.pass_is in
          let two = c.u64_at-loads.ensures ∙ numbers.loads_are in
          rw (one, two) refl,
    )

pub returns-else-same_page : goal.returns-else-same_page
returns-else-same_page c pass loads = (
  λ e. absurd (none_some (pass, loads) e),
  λ body.
      let numbers = part_numbers c.args.shape.now _ pass loads body in
      let one = c.u16_at-pass.ensures ∙ numbers.pass_is in
      let two = c.u64_at-loads.ensures ∙ numbers.loads_are in
      let yes = c.same_page.ensures.1 (c.encode_part.ensures ∙ ap (λ (p : ℕ). part_page p c.u64_at-loads.result) one
      ∙ ap (part_page pass) two
      ∙ sym body.page_is) in
      absurd (one_outcome c.same_page.result yes c.if-same_page.false),
)
