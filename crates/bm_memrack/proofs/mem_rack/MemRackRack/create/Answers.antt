use Rattle.std.proofs.Common.{ℕ, List, IsTrue, sym, ◌∙◌, ap, subst}
use Rattle.bm_memrack.specs.FaultList.{is_empty}
use Rattle.bm_memrack.proofs.BlockCopyLemmas.{none_if}
use Rattle.bm_memrack.proofs.StoreLemmas.{store_created}
use Rattle.bm_memrack.proofs.mem_rack.MemRackRack.create.Goals as goal

pub returns-in-Ok-clause-created : goal.returns-in-Ok-clause-created
returns-in-Ok-clause-created c =
    let rack = c.args.self.now in
    store_created rack.store c.in-Ok.store rack.attached _ c.args.dims.now (none_if _ (sym c.is_some.ensures ∙ c.if-is_some.false))
    c.in-Ok.ensures.dims c.in-Ok.ensures.flat c.in-Ok.ensures.slate c.in-Ok.ensures.dirty_blocks c.in-Ok.ensures.dirty_pages

pub returns-in-Ok-clause-keeps : goal.returns-in-Ok-clause-keeps
returns-in-Ok-clause-keeps c = record {
  faults = c.fails.ensures.counted;
  steady = λ steady. subst (λ (numbers : List ℕ). IsTrue (is_empty numbers)) (sym (ap (λ v. v.items) c.fails.ensures.numbers)) steady;
  stopping = c.fails.ensures.stopping;
  sure = λ _ _. c.fails.ensures.quiet c.if-fails.false;
  lasting = λ _ h. h;
}
