use Rattle.std.proofs.Common.{◌∙◌, ap, ℕ, bit_xor, refl, rules}
use Rattle.bm_top.proofs.commands.flip.flip_task.Goals as goal

pub returns-clause-task : goal.returns-clause-task
returns-clause-task c = record {
  shape = refl;
  map = c.with_complement-map.result;
  job = refl;
  sends = λ x below. c.with_complement-map.ensures.value x
      ∙ ap (λ (y : ℕ). bit_xor y c.args.c) (c.identity.ensures.value x (rw c.n.ensures below));
  every = c.loads.ensures;
  fits = search rules;
}
