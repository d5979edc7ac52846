use Rattle.std.proofs.Common.{◌⊎◌, inl, inr, ℕ, refl, sym, ap, ◌∙◌, subst, arith}
use Rattle.bm_base.specs.Contents.{page_unit, page_at}
use Rattle.bm_rack.specs.Calls.{IsPage}
use Rattle.bm_rack.proofs.FrameLemmas.{DirtiesOnly-changes, DirtiesOnly-wider, DirtiesOnly-trans, Keeps-trans, HasCause-later}
use Rattle.bm_rack.proofs.FrameLemmas.{RaisesCounts-trans}
use Rattle.bm_control.specs.Pages.{pass_body, pass_gate}
use Rattle.bm_control.proofs.PageCallLemmas.{exact}
use Rattle.bm_control.proofs.job_start.write_pass.Goals as goal

pub returns-clause-body : goal.returns-clause-body
returns-clause-body g c told ok = record {
  number = (let few = c.requires.number in omega (arith, few));
  of_shape = c.requires.shape;
  page_is = ap (page_at (g.R.Rack.view c.write_page-2.new.self).contents) (sym c.pass_body.ensures)
      ∙ c.write_page-2.ensures.written.only.contents (page_unit c.pass_body.result)
      (λ e. omega (arith, e, c.pass_body.ensures, c.pass_gate.ensures))
      ∙ c.in_ok-write_page.ensures.written.taking told refl
      ∙ c.encode_pass-body.ensures;
}

pub returns-clause-gate : goal.returns-clause-gate
returns-clause-gate g c told ok =
    ap (page_at (g.R.Rack.view c.write_page-2.new.self).contents) (sym c.pass_gate.ensures) ∙ c.write_page-2.ensures.written.taking told ok

pub returns-clause-call : goal.returns-clause-call
returns-clause-call g c =
    record {
      frame = DirtiesOnly-trans (λ u. IsPage (pass_body c.args.k) u ⊎ IsPage (pass_gate c.args.k) u) _ _ _
          (DirtiesOnly-wider (IsPage c.pass_body.result) (λ u. IsPage (pass_body c.args.k) u ⊎ IsPage (pass_gate c.args.k) u) _ _
          (λ u i. inl (subst (λ (k : ℕ). IsPage k u) c.pass_body.ensures i))
          (DirtiesOnly-changes _ _ _ c.write_page.ensures.written.only))
          (DirtiesOnly-wider (IsPage c.pass_gate.result) (λ u. IsPage (pass_body c.args.k) u ⊎ IsPage (pass_gate c.args.k) u) _ _
          (λ u i. inr (subst (λ (k : ℕ). IsPage k u) c.pass_gate.ensures i))
          (DirtiesOnly-changes _ _ _ c.write_page-2.ensures.written.only));
      keeps = Keeps-trans _ _ _ c.write_page.ensures.keeps c.write_page-2.ensures.keeps;
      cause = HasCause-later _ _ _ _ c.write_page.ensures.keeps c.write_page-2.ensures.cause;
    }

pub returns-clause-counts : goal.returns-clause-counts
returns-clause-counts g c =
    exact _ 2 0 _ _ (g.met.R.Rack.consistent c.args.rack.now)
    (RaisesCounts-trans 0 1 0 0 1 0 _ _ _ c.write_page.ensures.counts c.write_page-2.ensures.counts)
