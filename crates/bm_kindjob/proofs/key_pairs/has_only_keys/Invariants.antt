use Rattle.std.proofs.Common.{◌≡◌, [], ◌∷◌}
use Rattle.std.specs.List.{list_all}
use Rattle.toml.specs.View.{table_view}
use Rattle.bm_jobfile.specs.Keys.{has_only}
use Rattle.bm_jobfile.proofs.KeyLemmas.{is_named}
use Rattle.bm_kindjob.proofs.key_pairs.has_only_keys.Given as goal

-- the keys that are left decide
abbrev pub invariant-loop-key : goal.invariant-loop-key
invariant-loop-key l = has_only (l.one ∷ l.other ∷ []) (table_view l.table) ≡ list_all (is_named (l.one ∷ l.other ∷ [])) l.key-iterator
