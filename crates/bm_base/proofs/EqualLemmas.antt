-- Shapes with equal numbers are equal; no shape breaks a rule, and numbers that break none are of a shape.
use Rattle.std.proofs.Common.{◌≡◌, ◌≢◌, ℕ, ◌+◌, ◌*◌, ◌^◌, nat_lt, nat_le, Bool, true, false, if◌then◌else◌, refl, subst, arith}
use Rattle.std.proofs.lemmas.Bool.{le-ltb, lt-leb, ltb-false, leb-false}
use denote.Struct.Props.{props}
use Rattle.std.proofs.Math.Path.{subst₂}
use Rattle.bm_base.specs.declared.shape.Shape.{Shape}
use Rattle.bm_base.specs.ShapeRules.{IsShape, broken_rule}

-- the rules of a shape hold in one way
pub IsShape-prop : (n b d m width : ℕ) → IsProp (IsShape n b d m width)
IsShape-prop n b d m width = hlevel props

-- shapes of the same numbers are equal
pub shape_equal : (s t : Shape) → s.n ≡ t.n → s.b ≡ t.b → s.d ≡ t.d → s.m ≡ t.m → s.width ≡ t.width → s ≡ t
shape_equal s t en eb ed em ew =
    subst₂ (λ (n b : ℕ). (keeps : IsShape n b t.d t.m t.width)
    → s ≡ record { n = n; b = b; d = t.d; m = t.m; width = t.width; keeps = keeps })
    en eb
    (subst₂ (λ (d m : ℕ). (keeps : IsShape s.n s.b d m t.width)
    → s ≡ record { n = s.n; b = s.b; d = d; m = m; width = t.width; keeps = keeps })
    ed em
    (subst (λ (w : ℕ). (keeps : IsShape s.n s.b s.d s.m w) → s ≡ record { n = s.n; b = s.b; d = s.d; m = s.m; width = w; keeps = keeps })
    ew
    (λ keeps i. record {
      n = s.n;
      b = s.b;
      d = s.d;
      m = s.m;
      width = s.width;
      keeps = IsShape-prop s.n s.b s.d s.m s.width s.keeps keeps i;
    })))
    t.keeps

-- the numbers of a shape break no rule
pub broken_rule-kept : (n b d m width : ℕ) → IsShape n b d m width → broken_rule n b d m width ≡ 0
broken_rule-kept n b d m width keeps =
    rw (
      le-ltb 52 n keeps.addresses,
      le-ltb 6 d keeps.disks,
      lt-leb m b keeps.block,
      le-ltb m (b + d) keeps.stripe,
      le-ltb n m keeps.memory,
      le-ltb width 1 keeps.record_some,
      le-ltb 4096 width keeps.record_few,
      le-ltb (2 ^ 30) (2 ^ m * width) keeps.load,
      le-ltb (2 ^ (63 + d)) (3 * 2 ^ n * width) keeps.disk,
    ) refl

-- a rule that is not the first broken one holds
kept : (test : Bool) (rule rest : ℕ) → rule ≢ 0 → (if test then rule else rest) ≡ 0 → (test ≡ false) × (rest ≡ 0)
kept true rule rest some is = absurd (some is)
kept false rule rest some is = (refl, is)

-- numbers that break no rule are those of a shape
pub is_shape : (n b d m width : ℕ) → broken_rule n b d m width ≡ 0 → IsShape n b d m width
is_shape n b d m width none =
    let addresses = kept (nat_lt 52 n) 1 _ (λ e. omega (arith, e)) none in
    let disks = kept (nat_lt 6 d) 2 _ (λ e. omega (arith, e)) addresses.1 in
    let block = kept (nat_le m b) 3 _ (λ e. omega (arith, e)) disks.1 in
    let stripe = kept (nat_lt m (b + d)) 4 _ (λ e. omega (arith, e)) block.1 in
    let memory = kept (nat_lt n m) 5 _ (λ e. omega (arith, e)) stripe.1 in
    let some = kept (nat_lt width 1) 6 _ (λ e. omega (arith, e)) memory.1 in
    let few = kept (nat_lt 4096 width) 6 _ (λ e. omega (arith, e)) some.1 in
    let load = kept (nat_lt (2 ^ 30) (2 ^ m * width)) 7 _ (λ e. omega (arith, e)) few.1 in
    let disk = kept (nat_lt (2 ^ (63 + d)) (3 * 2 ^ n * width)) 9 0 (λ e. omega (arith, e)) load.1 in
    record {
      addresses = ltb-false 52 n addresses.0;
      disks = ltb-false 6 d disks.0;
      block = leb-false m b block.0;
      stripe = ltb-false m (b + d) stripe.0;
      memory = ltb-false n m memory.0;
      record_some = ltb-false width 1 some.0;
      record_few = ltb-false 4096 width few.0;
      load = ltb-false (2 ^ 30) (2 ^ m * width) load.0;
      disk = ltb-false (2 ^ (63 + d)) (3 * 2 ^ n * width) disk.0;
    }
