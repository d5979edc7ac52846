-- The bytes of the loads of an area, one after another, and fronts of them.
use Rattle.std.proofs.Common.{◌≡◌, ℕ, ◌+◌, ◌-◌, ◌*◌, ◌≤◌, List, [], ◌++◌, sym, ◌∙◌, ap, arith}
use Rattle.std.proofs.lemmas.List.{append-nil}
use Rattle.bm_base.specs.Records.{bytes_of}
use Rattle.bm_base.proofs.RecordLemmas.{bytes_of-add}
use Rattle.bm_rack.specs.Sink.{AppendsFront}
use Rattle.bm_rack.proofs.SinkLemmas.{AppendsFront-part}

-- the bytes of the loads before are a front of all
pub loads_before : (count before : ℕ) (records : ℕ → List ℕ) → before ≤ count
    → (rest : List ℕ) × (bytes_of count records ≡ bytes_of before records ++ rest)
loads_before count before records few =
    let left = count - before in (
      bytes_of left (λ i. records (before + i)),
      ap (λ (n : ℕ). bytes_of n records) (let e : count ≡ before + left = omega arith in e) ∙ bytes_of-add before left records,
    )

-- the parts before alone
pub AppendsFront-before : (old now before rest bytes : List ℕ) → bytes ≡ before ++ rest → now ≡ old ++ before
    → AppendsFront old now bytes
AppendsFront-before old now before rest bytes whole was =
    AppendsFront-part old now now before [] rest bytes
    (whole ∙ ap (λ (z : List ℕ). z ++ rest) (sym (append-nil before))) was
    (0, omega arith, sym (append-nil now))

-- before the first load
pub nothing_dumped : (size : ℕ) (records : ℕ → List ℕ) (out : List ℕ) → out ≡ out ++ bytes_of (size * 0) records
unfolding bytes_of
nothing_dumped size records out =
    sym (append-nil out) ∙ ap (λ (n : ℕ). out ++ bytes_of n records) (let e : 0 ≡ size * 0 = omega arith in e)
