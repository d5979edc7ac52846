-- Answers of calls that may fail.
use Rattle.std.proofs.Common.{Result, Ok, Err, IsOk, OnOk, refl}

-- what holds where a call succeeded
pub on_ok_from : {T E P : Type 0} (result : Result T E) → (IsOk result → P) → OnOk result P
on_ok_from (Ok value) holds = holds refl
on_ok_from (Err error) holds = tt
