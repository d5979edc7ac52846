use Rattle.std.proofs.Common.{Some, ap, sym, ◌∙◌}
use Rattle.std.proofs.lemmas.Bool.{false≢true}
use Rattle.bm_control.specs.Bodies.{load_page}
use Rattle.bm_control.proofs.BodyLemmas.{load_numbers}
use Rattle.bm_base.proofs.EqualLemmas.{shape_equal, broken_rule-kept}
use Rattle.bm_control.proofs.EqualLemmas.{some_injective, none_some, one_outcome}
use Rattle.bm_control.proofs.load_body.decode_load.Goals as goal

pub returns-in_default : goal.returns-in_default
returns-in_default c shape = (
  λ e. absurd (none_some shape e),
  λ is.
      let numbers = load_numbers shape _ is in
      let width = c.u16_at-width.ensures ∙ numbers.width in
      let kept = broken_rule-kept shape.n shape.b shape.d shape.m shape.width shape.keeps in
      let here = c.in_default.ensures.kept.1 (simp (numbers.n, numbers.b, numbers.d, numbers.m, width) kept) in
      absurd (false≢true here),
)

pub returns-then-same_page : goal.returns-then-same_page
returns-then-same_page c shape =
    let whole = sym (c.same_page.ensures.0 c.if-same_page.true) ∙ c.encode_load.ensures in
    let sizes = c.in-Ok.ensures.sizes in (
      λ e. whole ∙ ap load_page (some_injective c.in-Ok.shape shape e),
      λ is.
          let numbers = load_numbers shape _ is in
          ap Some (shape_equal c.in-Ok.shape shape (sizes.0 ∙ numbers.n) (sizes.1 ∙ numbers.b) (sizes.2 ∙ numbers.d) (sizes.3 ∙ numbers.m)
          (sizes.4 ∙ c.u16_at-width.ensures ∙ numbers.width)),
    )

pub returns-else-same_page : goal.returns-else-same_page
returns-else-same_page c shape = (
  λ e. absurd (none_some shape e),
  λ is.
      let numbers = load_numbers shape _ is in
      let sizes = c.in-Ok.ensures.sizes in
      let same = shape_equal c.in-Ok.shape shape (sizes.0 ∙ numbers.n) (sizes.1 ∙ numbers.b) (sizes.2 ∙ numbers.d) (sizes.3 ∙ numbers.m)
      (sizes.4 ∙ c.u16_at-width.ensures ∙ numbers.width) in
      let yes = c.same_page.ensures.1 (c.encode_load.ensures ∙ ap load_page same ∙ sym is) in
      absurd (one_outcome c.same_page.result yes c.if-same_page.false),
)
