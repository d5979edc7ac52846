use Rattle.std.proofs.Common.{◌≡◌, ◌&&◌, ℕ, List, true, nat_eq, sym, ap, subst, ◌∙◌}
use Rattle.std.specs.Bool.{Decides}
use Rattle.std.specs.Cmp.{unsigned_Decides}
use Rattle.std.specs.Cmp.Lexicographic.{pointwise, same_text}
use Rattle.std.proofs.lemmas.Bool.Decides.{Decides-and}
use Rattle.std.proofs.lemmas.Cmp.{nat_list_eq_equiv}
use Rattle.bm_gf2.specs.declared.affine.Affine.{Affine}
use Rattle.bm_gf2.proofs.MapLemmas.{matrix_equal, affine_equal}
use Rattle.bm_control.proofs.same.same_map.Goals as goal

-- the test of two lists of numbers
lists_decide : (xs ys : List ℕ) → Decides (pointwise nat_eq xs ys) (xs ≡ ys)
lists_decide xs ys = (
  λ yes. same_text xs ys (sym yes),
  λ same. subst (λ (zs : List ℕ). pointwise nat_eq xs zs ≡ true) same (nat_list_eq_equiv.refl xs),
)

-- the test of two maps: their sizes, columns and constants
maps_decide : (f g : Affine) → Decides ((nat_eq f.a.n g.a.n && pointwise nat_eq f.a.cols g.a.cols) && nat_eq f.c g.c) (f ≡ g)
maps_decide f g =
    let matrices = Decides-and _ _ (unsigned_Decides f.a.n g.a.n) (lists_decide f.a.cols g.a.cols) in
    let parts = Decides-and _ _ matrices (unsigned_Decides f.c g.c) in (
      λ yes. (let all = parts.0 yes in affine_equal f g (matrix_equal f.a g.a all.0.0 all.0.1) all.1),
      λ same. parts.1 ((ap (λ (h : Affine). h.a.n) same, ap (λ (h : Affine). h.a.cols) same), ap (λ (h : Affine). h.c) same),
    )

pub returns : goal.returns
returns c =
    let test = maps_decide c.args.one.now c.args.other.now in (
      λ yes. test.0 (sym c.eq.ensures ∙ yes),
      λ same. c.eq.ensures ∙ test.1 same,
    )
