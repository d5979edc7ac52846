use Rattle.std.proofs.Common.{sym, ◌∙◌}
use Rattle.bm_mirror.proofs.SideLemmas.{ok_if}
use Rattle.bm_mirror.proofs.copying.copy_blocks.Goals as goal

pub returns-clause-copied : goal.returns-clause-copied
returns-clause-copied g c from_told to_told ok dims from_is to_is disk place below at =
    let was_read = ok_if c.read_row.result (sym c.is_err.ensures.value ∙ c.if-is_err.false) in
    let was_written = ok_if c.write_row.result (sym c.is_err-2.ensures.value ∙ c.if-is_err-2.false) in
    (c.write_row.ensures.written dims to_is).taking to_told was_written disk place below at
    ∙ (c.read_row.ensures.bytes dims from_is).taking from_told was_read disk place below at
