use Rattle.std.proofs.Common.{◌≡◌}
use Rattle.std.specs.List.{list_all}
use Rattle.toml.specs.View.{table_view}
use Rattle.bm_jobfile.specs.Keys.{known_keys, has_only}
use Rattle.bm_jobfile.proofs.KeyLemmas.{is_named}
use Rattle.bm_jobfile.proofs.key_tables.has_known_keys.Given as goal

-- the keys that are left decide
abbrev pub invariant-loop-key : goal.invariant-loop-key
invariant-loop-key l = has_only (known_keys l.name) (table_view l.table) ≡ list_all (is_named (known_keys l.name)) l.key-iterator
