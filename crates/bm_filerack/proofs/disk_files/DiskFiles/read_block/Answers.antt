use Rattle.std.proofs.Common.{arith, refl, ◌∙◌, ◌≡◌, ◌+◌, ◌-◌, ◌*◌, ◌≤◌, length, drop, length-drop}
use Rattle.std.proofs.lemmas.List.{length-take-le}
use Rattle.bm_base.proofs.ChunkLemmas.{chunk_other, block_fits_at}
use Rattle.bm_filerack.proofs.disk_files.DiskFiles.read_block.Goals as goal

pub returns : goal.returns
returns g c =
    let block = c.args.self.now.dims.block in
    let disk = c.args.disk in
    let bytes = c.args.bytes.now in
    let size = disk * block + block - disk * block in
    let fits : (disk + 1) * block ≤ c.args.self.now.dims.disks * block = block_fits_at block disk c.args.self.now.dims.disks c.requires.disk
    in
    let left : length (drop (disk * block) bytes) ≡ length bytes - disk * block = length-drop (disk * block) bytes in
    let long : length c.read_unit.new.bytes ≡ size = c.read_unit.ensures ∙ length-take-le size (drop (disk * block) bytes) (omega arith) in
    record {
      others = λ other apart. chunk_other block other disk size size bytes c.read_unit.new.bytes apart (omega arith) (omega arith) refl
          long;
    }
