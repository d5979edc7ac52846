use Rattle.std.proofs.Common.{◌≡◌, ◌*◌, replicate, ◌∙◌, ap}
use Rattle.bm_memrack.proofs.store.make_store.Goals as goal

pub returns-clause-flat : goal.returns-clause-flat
returns-clause-flat c =
    let dims = c.args.dims.now in
    let e : c.in-Some-checked_mul.size ≡ dims.disks * dims.places * dims.block =
    c.in-Some-checked_mul.ensures.1 ∙ ap (λ n. n * dims.block) c.in-Some.ensures.1 in
    c.in_ok-vec.ensures.items_if_clones_equal (λ y h. h) ∙ ap (λ n. replicate n 0) e

pub returns-clause-slate : goal.returns-clause-slate
returns-clause-slate c = c.in_ok-vec-2.ensures.items_if_clones_equal (λ y h. h)
