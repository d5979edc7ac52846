use Rattle.std.proofs.Common.{refl}
use Rattle.bm_butter.specs.Kernels.{pairing}
use Rattle.bm_butter.proofs.OnBitLemmas.{same_two}
use Rattle.bm_butter.proofs.kernels.XorsKernel.pair.Goals as goal

pub returns : goal.returns
unfolding pairing
returns c = same_two refl refl
