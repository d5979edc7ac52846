use Rattle.std.proofs.Common.{◌≡◌, ◌≤◌, ◌*◌, ◌^◌, ◌∙◌, ap, bit_xor, ℕ, arith}
use Rattle.std.proofs.lemmas.Nat.{one_shl}
use Rattle.bm_gf2.specs.Matrix.{image}
use Rattle.bm_rank.proofs.RowCutLemmas.{leading_nonsingular}
use Rattle.bm_forms.proofs.MldLemmas.{first_of_load, covered_of_solution, places}
use Rattle.bm_forms.proofs.mld_form.MldForm.placing_for.Goals as goal

pub apply-from-requires : goal.apply-from-requires
apply-from-requires c =
    let f = c.args.self.now in
    let e = first_of_load c.args.load f.m f.map.a.n c.requires f.memory f.map.a.few in
    rw e.0 e.1

pub returns-clause-nonsingular : goal.returns-clause-nonsingular
returns-clause-nonsingular c =
    let f = c.args.self.now in
    leading_nonsingular f.map.a c.leading_block.result f.b f.m f.nonsingular (omega (arith, f.block)) f.memory
    (covered_of_solution f.map.a f.k f.b f.m f.solved)
    c.leading_block.ensures.size c.leading_block.ensures.block

pub returns-clause-places : goal.returns-clause-places
returns-clause-places c = λ i h.
    let f = c.args.self.now in
    let e = first_of_load c.args.load f.m f.map.a.n c.requires f.memory f.map.a.few in
    let few : f.map.a.n ≤ 52 = f.map.a.few in
    let le : f.m ≤ f.map.a.n = f.memory in
    let v : c.apply-from.result ≡ bit_xor f.map.c (image f.map.a (2 ^ f.m * c.args.load)) =
    c.apply-from.ensures.value ∙ ap (λ (w : ℕ). bit_xor f.map.c (image f.map.a w)) e.0 in
    rw (one_shl f.m 64 (omega arith), v)
    (places f.map.a f.m f.map.c c.args.load i h c.leading_block.result c.leading_block.ensures.size c.leading_block.ensures.block f.memory)
