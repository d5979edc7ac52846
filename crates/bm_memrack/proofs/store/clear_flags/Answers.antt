use Rattle.std.proofs.Common.{inl, inr, length, false, arith}
use Rattle.std.proofs.lemmas.List.{get_or_past}
use Rattle.std.proofs.lemmas.Bool.{cases_lt}
use Rattle.bm_memrack.proofs.store.clear_flags.Goals as goal

pub returns : goal.returns
returns c k = elim (cases_lt k (length c.loop-flag.flags)) [
  | inl below ↦ c.loop-flag.invariant k (omega arith)
  | inr past ↦ get_or_past c.loop-flag.flags k false past
]
