-- What stands where in a body page.
use Rattle.std.proofs.Common.{◌≡◌, ℕ, zero, suc, ◌+◌, ◌-◌, ◌*◌, ◌^◌, ◌<◌, ◌≤◌, List, [], ◌∷◌, ◌++◌, length, drop, get_or, slice_index}
use Rattle.std.proofs.Common.{replicate}
use Rattle.std.proofs.Common.{refl, sym, ap, ◌∙◌, arith, append_assoc, length-append, codes}
use Rattle.std.proofs.lemmas.List.{drop_at, get_or-append-add, append-nil}
use Rattle.std.proofs.Math.Nat.{pow-le-pow_right}
use Rattle.std.proofs.Math.Pow.{pow-lt}
use Rattle.byteorder.specs.Endian.{little_bytes, little_number}
use Rattle.byteorder.specs.Numbers.{little_number-reads_back, length-bytes_low_first}
use Rattle.bm_base.specs.declared.shape.Shape.{Shape}
use Rattle.bm_gf2.specs.declared.affine.Affine.{Affine}
use Rattle.bm_gf2.specs.Matrix.{column}
use Rattle.bm_control.specs.Bodies.{u16_bytes, u64_bytes, u16_in, u64_in, padded, body_head, column_bytes, map_bytes, map_page, load_page}
use Rattle.bm_base.specs.Shape.{loads_of}
use Rattle.bm_control.specs.Bodies.{part_page, IsPartBody}
use Rattle.bm_control.proofs.PageFrontLemmas.{length-padded}

-- the number that stands behind a front
pub u64_behind : (x at : ℕ) (front rest page : List ℕ) → x < 2 ^ 64 → length front ≡ at → page ≡ front ++ (u64_bytes x ++ rest)
    → u64_in (drop at page) ≡ x
unfolding u64_bytes u64_in
u64_behind x at front rest page small long is =
    ap (little_number 8) (ap (drop at) is ∙ drop_at front (little_bytes 8 x ++ rest) at long) ∙ little_number-reads_back 8 x rest small

pub u16_behind : (x at : ℕ) (front rest page : List ℕ) → x < 2 ^ 16 → length front ≡ at → page ≡ front ++ (u16_bytes x ++ rest)
    → u16_in (drop at page) ≡ x
unfolding u16_bytes u16_in
u16_behind x at front rest page small long is =
    ap (little_number 2) (ap (drop at) is ∙ drop_at front (little_bytes 2 x ++ rest) at long) ∙ little_number-reads_back 2 x rest small

pub length-u64_bytes : (x : ℕ) → length (u64_bytes x) ≡ 8
unfolding u64_bytes
length-u64_bytes x = length-bytes_low_first 0 8 x

pub length-u16_bytes : (x : ℕ) → length (u16_bytes x) ≡ 2
unfolding u16_bytes
length-u16_bytes x = length-bytes_low_first 0 2 x

-- the byte that stands behind a front
pub byte_behind : (x at : ℕ) (front rest page : List ℕ) → length front ≡ at → page ≡ front ++ x ∷ rest → slice_index page at ≡ x
byte_behind x at front rest page long is =
    ap (λ (p : List ℕ). get_or p at 0) is
    ∙ ap (λ (n : ℕ). get_or (front ++ x ∷ rest) n 0) (let e : at ≡ length front + 0 = omega arith in e)
    ∙ get_or-append-add front (x ∷ rest) 0 0

pub length-body_head : (text : List ℕ) (version first second number : ℕ) → length text ≡ 8
    → length (body_head text version first second number) ≡ 16
unfolding body_head
length-body_head text version first second number h =
    let a : length (u16_bytes version) ≡ 2 = length-u16_bytes version in
    let b : length (u16_bytes number) ≡ 2 = length-u16_bytes number in
    simp length-append (omega arith)

pub length-column_bytes : (a : List ℕ) (k : ℕ) → length (column_bytes a k) ≡ 8 * k
unfolding column_bytes
length-column_bytes a zero = refl
length-column_bytes a (suc k) =
    let h : length (u64_bytes (slice_index a k)) ≡ 8 = length-u64_bytes (slice_index a k) in
    let i : length (column_bytes a k) ≡ 8 * k = length-column_bytes a k in
    length-append (column_bytes a k) (u64_bytes (slice_index a k))
    ∙ (let e : length (column_bytes a k) + length (u64_bytes (slice_index a k)) ≡ 8 * suc k = omega arith in e)

pub length-map_bytes : (f : Affine) → length (map_bytes f) ≡ 8 + 8 * f.a.n
unfolding map_bytes
length-map_bytes f =
    let h : length (u64_bytes f.c) ≡ 8 = length-u64_bytes f.c in
    let i : length (column_bytes f.a.cols f.a.n) ≡ 8 * f.a.n = length-column_bytes f.a.cols f.a.n in
    length-append (u64_bytes f.c) (column_bytes f.a.cols f.a.n)
    ∙ (let e : length (u64_bytes f.c) + length (column_bytes f.a.cols f.a.n) ≡ 8 + 8 * f.a.n = omega arith in e)

-- the columns before number j, and those from it on
columns_after : List ℕ → ℕ → ℕ → List ℕ
columns_after a j zero = []
columns_after a j (suc k) = columns_after a j k ++ u64_bytes (slice_index a (j + 1 + k))

split_columns : (a : List ℕ) (j k : ℕ)
    → column_bytes a (j + 1 + k) ≡ column_bytes a j ++ (u64_bytes (slice_index a j) ++ columns_after a j k)
unfolding column_bytes columns_after
split_columns a j zero =
    let e : j + 1 + 0 ≡ suc j = omega arith in
    ap (column_bytes a) e ∙ ap (λ (x : List ℕ). column_bytes a j ++ x) (sym (append-nil (u64_bytes (slice_index a j))))
split_columns a j (suc k) =
    let e : j + 1 + suc k ≡ suc (j + 1 + k) = omega arith in
    ap (column_bytes a) e
    ∙ ap (λ (x : List ℕ). x ++ u64_bytes (slice_index a (j + 1 + k))) (split_columns a j k)
    ∙ append_assoc (column_bytes a j) (u64_bytes (slice_index a j) ++ columns_after a j k) (u64_bytes (slice_index a (j + 1 + k)))
    ∙ ap (λ (x : List ℕ). column_bytes a j ++ x) (append_assoc (u64_bytes (slice_index a j)) (columns_after a j k)
    (u64_bytes (slice_index a (j + 1 + k))))

-- what stands behind the map of a page
abbrev after_map : List ℕ → List ℕ → ℕ → List ℕ
after_map head map last = replicate (504 - length (head ++ map)) 0 ++ u64_bytes last

pub map_page_parts : (head map : List ℕ) (last : ℕ) → map_page head map last ≡ head ++ (map ++ after_map head map last)
unfolding map_page padded
map_page_parts head map last = append_assoc (head ++ map) _ _ ∙ append_assoc head map _

-- the map's constant
pub constant_of : (head page : List ℕ) (f : Affine) (last : ℕ) → length head ≡ 16 → f.c < 2 ^ 64 → page ≡ map_page head (map_bytes f) last
    → u64_in (drop 16 page) ≡ f.c
unfolding map_bytes
constant_of head page f last long small is =
    u64_behind f.c 16 head (column_bytes f.a.cols f.a.n ++ after_map head (map_bytes f) last) page small long
    (is ∙ map_page_parts head (map_bytes f) last ∙ ap (λ (x : List ℕ). head ++ x)
    (append_assoc (u64_bytes f.c) (column_bytes f.a.cols f.a.n) (after_map head (map_bytes f) last)))

-- the map's column j
pub column_of : (head page : List ℕ) (f : Affine) (last j : ℕ) → length head ≡ 16 → j < f.a.n → column f.a j < 2 ^ 64
    → page ≡ map_page head (map_bytes f) last
    → u64_in (drop (24 + 8 * j) page) ≡ column f.a j
unfolding map_bytes
column_of head page f last j long within small is =
    let k = f.a.n - j - 1 in
    let e : f.a.n ≡ j + 1 + (f.a.n - j - 1) = omega arith in
    let columns : column_bytes f.a.cols f.a.n ≡ column_bytes f.a.cols j ++ (u64_bytes (column f.a j) ++ columns_after f.a.cols j k) =
    ap (column_bytes f.a.cols) e ∙ split_columns f.a.cols j k in
    let lc : length (u64_bytes f.c) ≡ 8 = length-u64_bytes f.c in
    let lb : length (column_bytes f.a.cols j) ≡ 8 * j = length-column_bytes f.a.cols j in
    u64_behind (column f.a j) (24 + 8 * j) (head ++ (u64_bytes f.c ++ column_bytes f.a.cols j))
    (columns_after f.a.cols j k ++ after_map head (map_bytes f) last) page small
    (simp length-append (omega arith))
    (is ∙ map_page_parts head (map_bytes f) last
    ∙ ap (λ (x : List ℕ). head ++ ((u64_bytes f.c ++ x) ++ after_map head (map_bytes f) last)) columns
    ∙ simp append_assoc)

-- the last number
pub last_of : (head map page : List ℕ) (last : ℕ) → length head + length map ≤ 504 → last < 2 ^ 64 → page ≡ map_page head map last
    → u64_in (drop 504 page) ≡ last
unfolding map_page
last_of head map page last fits small is =
    u64_behind last 504 (padded 504 (head ++ map)) [] page small
    (length-padded 504 (head ++ map) (simp length-append fits))
    (is ∙ ap (λ (x : List ℕ). padded 504 (head ++ map) ++ x) (sym (append-nil (u64_bytes last))))

-- the parts of a head, in a page
pub head_parts : (text map : List ℕ) (version first second number last : ℕ) → (rest : List ℕ)
    × (map_page (body_head text version first second number) map last
    ≡ text ++ (u16_bytes version ++ (first ∷ second ∷ (u16_bytes number ++ rest))))
unfolding body_head
head_parts text map version first second number last = (
  0 ∷ 0 ∷ (map ++ after_map (body_head text version first second number) map last),
  map_page_parts (body_head text version first second number) map last ∙ simp append_assoc,
)

pub version_of : (text map page : List ℕ) (version first second number last : ℕ) → length text ≡ 8 → version < 2 ^ 16
    → page ≡ map_page (body_head text version first second number) map last → u16_in (drop 8 page) ≡ version
version_of text map page version first second number last long small is =
    let parts = head_parts text map version first second number last in
    u16_behind version 8 text _ page small long (is ∙ parts.1)

pub first_of : (text map page : List ℕ) (version first second number last : ℕ) → length text ≡ 8
    → page ≡ map_page (body_head text version first second number) map last → slice_index page 10 ≡ first
first_of text map page version first second number last long is =
    let parts = head_parts text map version first second number last in
    let a : length (u16_bytes version) ≡ 2 = length-u16_bytes version in
    byte_behind first 10 (text ++ u16_bytes version) (second ∷ (u16_bytes number ++ parts.0)) page
    (simp length-append (omega arith)) (is ∙ parts.1 ∙ sym (append_assoc text _ _))

pub second_of : (text map page : List ℕ) (version first second number last : ℕ) → length text ≡ 8
    → page ≡ map_page (body_head text version first second number) map last → slice_index page 11 ≡ second
second_of text map page version first second number last long is =
    let parts = head_parts text map version first second number last in
    let a : length (u16_bytes version) ≡ 2 = length-u16_bytes version in
    byte_behind second 11 (text ++ (u16_bytes version ++ first ∷ [])) (u16_bytes number ++ parts.0) page
    (simp length-append (omega arith)) (is ∙ parts.1 ∙ simp append_assoc)

pub number_of_head : (text map page : List ℕ) (version first second number last : ℕ) → length text ≡ 8 → number < 2 ^ 16
    → page ≡ map_page (body_head text version first second number) map last → u16_in (drop 12 page) ≡ number
number_of_head text map page version first second number last long small is =
    let parts = head_parts text map version first second number last in
    let a : length (u16_bytes version) ≡ 2 = length-u16_bytes version in
    u16_behind number 12 (text ++ (u16_bytes version ++ first ∷ second ∷ [])) parts.0 page small
    (simp length-append (omega arith)) (is ∙ parts.1 ∙ simp append_assoc)

-- a number of at most 52 bits is one of 64
pub small_number : (v n : ℕ) → n ≤ 52 → v < 2 ^ n → v < 2 ^ 64
small_number v n few h =
    let p : 2 ^ n ≤ 2 ^ 64 = pow-le-pow_right (let e : 0 < 2 = omega arith in e) (let e : n ≤ 64 = omega arith in e) in
    omega arith

-- what four and five writes make together
pub joined_4 : (v₀ v₁ v₂ v₃ v₄ a b p d : List ℕ) → v₀ ≡ [] → v₁ ≡ v₀ ++ a → v₂ ≡ v₁ ++ b → v₃ ≡ v₂ ++ p → v₄ ≡ v₃ ++ d
    → v₄ ≡ a ++ (b ++ (p ++ d))
joined_4 v₀ v₁ v₂ v₃ v₄ a b p d h₀ h₁ h₂ h₃ h₄ =
    h₄ ∙ ap (λ (x : List ℕ). x ++ d)
    (h₃ ∙ ap (λ (x : List ℕ). x ++ p) (h₂ ∙ ap (λ (x : List ℕ). x ++ b) (h₁ ∙ ap (λ (x : List ℕ). x ++ a) h₀)))
    ∙ simp append_assoc

pub joined_5 : (v₀ v₁ v₂ v₃ v₄ v₅ a b p d e : List ℕ) → v₀ ≡ [] → v₁ ≡ v₀ ++ a → v₂ ≡ v₁ ++ b → v₃ ≡ v₂ ++ p → v₄ ≡ v₃ ++ d → v₅ ≡ v₄ ++ e
    → v₅ ≡ a ++ (b ++ (p ++ (d ++ e)))
joined_5 v₀ v₁ v₂ v₃ v₄ v₅ a b p d e h₀ h₁ h₂ h₃ h₄ h₅ =
    h₅ ∙ ap (λ (x : List ℕ). x ++ e) (joined_4 v₀ v₁ v₂ v₃ v₄ a b p d h₀ h₁ h₂ h₃ h₄) ∙ simp append_assoc

-- the numbers of a load body
load_parts : (s : Shape) → (rest : List ℕ) × (load_page s ≡ codes "BMMCLOAD" ++ (u16_bytes 1 ++ (s.n ∷ s.b ∷ s.d ∷ s.m ∷ (u16_bytes
    s.width ++ rest))))
unfolding load_page padded
load_parts s = (
  replicate (512 - length (codes "BMMCLOAD" ++ (u16_bytes 1 ++ (s.n ∷ s.b ∷ s.d ∷ s.m ∷ u16_bytes s.width)))) 0,
  simp
      append_assoc,
)

pub record LoadNumbers (s : Shape) (page : List ℕ) : Type 0 where
  pub n : slice_index page 10 ≡ s.n
  pub b : slice_index page 11 ≡ s.b
  pub d : slice_index page 12 ≡ s.d
  pub m : slice_index page 13 ≡ s.m
  pub width : u16_in (drop 14 page) ≡ s.width

pub load_numbers : (s : Shape) (page : List ℕ) → page ≡ load_page s → LoadNumbers s page
load_numbers s page is =
    let parts = load_parts s in
    let front = codes "BMMCLOAD" ++ u16_bytes 1 in
    let one : length (u16_bytes 1) ≡ 2 = length-u16_bytes 1 in
    let long : length (codes "BMMCLOAD" ++ u16_bytes 1) ≡ 10 = length-append (codes "BMMCLOAD") (u16_bytes 1) ∙ ap (λ (k : ℕ). 8 + k) one in
    let whole = is ∙ parts.1 ∙ sym (append_assoc (codes "BMMCLOAD") (u16_bytes 1) (s.n ∷ s.b ∷ s.d ∷ s.m ∷ (u16_bytes s.width ++ parts.0)))
    in
    let few = s.keeps.record_few in
    record {
      n = byte_behind s.n 10 front (s.b ∷ s.d ∷ s.m ∷ (u16_bytes s.width ++ parts.0)) page long whole;
      b = byte_behind s.b 11 (front ++ s.n ∷ []) (s.d ∷ s.m ∷ (u16_bytes s.width ++ parts.0)) page
          (length-append front (s.n ∷ []) ∙ ap (λ (k : ℕ). k + 1) long) (whole ∙ sym (append_assoc front (s.n ∷ []) _));
      d = byte_behind s.d 12 (front ++ s.n ∷ s.b ∷ []) (s.m ∷ (u16_bytes s.width ++ parts.0)) page
          (length-append front (s.n ∷ s.b ∷ []) ∙ ap (λ (k : ℕ). k + 2) long) (whole ∙ sym (append_assoc front (s.n ∷ s.b ∷ []) _));
      m = byte_behind s.m 13 (front ++ s.n ∷ s.b ∷ s.d ∷ []) (u16_bytes s.width ++ parts.0) page
          (length-append front (s.n ∷ s.b ∷ s.d ∷ []) ∙ ap (λ (k : ℕ). k + 3) long)
          (whole ∙ sym (append_assoc front (s.n ∷ s.b ∷ s.d ∷ []) _));
      width = u16_behind s.width 14 (front ++ s.n ∷ s.b ∷ s.d ∷ s.m ∷ []) parts.0 page (omega (arith, few))
          (length-append front (s.n ∷ s.b ∷ s.d ∷ s.m ∷ []) ∙ ap (λ (k : ℕ). k + 4) long)
          (whole ∙ sym (append_assoc front (s.n ∷ s.b ∷ s.d ∷ s.m ∷ []) _));
    }

-- the numbers of a part body
part_parts : (pass loads : ℕ) → (rest : List ℕ) × (part_page pass loads ≡ codes "BMMCPART" ++ (u16_bytes 2 ++ (u16_bytes
    pass ++ (0 ∷ 0 ∷ 0 ∷ 0 ∷ (u64_bytes loads ++ rest)))))
unfolding part_page padded
part_parts pass loads = (
  replicate (512 - length (codes "BMMCPART" ++ (u16_bytes 2 ++ (u16_bytes pass ++ (0 ∷ 0 ∷ 0 ∷ 0 ∷ u64_bytes loads))))) 0,
  simp
      append_assoc,
)

part_pass : (pass loads : ℕ) (page : List ℕ) → pass < 2 ^ 16 → page ≡ part_page pass loads → u16_in (drop 10 page) ≡ pass
part_pass pass loads page small is =
    let parts = part_parts pass loads in
    u16_behind pass 10 (codes "BMMCPART" ++ u16_bytes 2) (0 ∷ 0 ∷ 0 ∷ 0 ∷ (u64_bytes loads ++ parts.0)) page small
    (length-append (codes "BMMCPART") (u16_bytes 2) ∙ ap (λ (k : ℕ). 8 + k) (length-u16_bytes 2))
    (is ∙ parts.1 ∙ simp append_assoc)

part_loads : (pass loads : ℕ) (page : List ℕ) → loads < 2 ^ 64 → page ≡ part_page pass loads → u64_in (drop 16 page) ≡ loads
part_loads pass loads page small is =
    let parts = part_parts pass loads in
    let a : length (u16_bytes 2) ≡ 2 = length-u16_bytes 2 in
    let b : length (u16_bytes pass) ≡ 2 = length-u16_bytes pass in
    u64_behind loads 16 (codes "BMMCPART" ++ (u16_bytes 2 ++ (u16_bytes pass ++ 0 ∷ 0 ∷ 0 ∷ 0 ∷ []))) parts.0 page small
    (simp length-append (omega arith))
    (is ∙ parts.1 ∙ simp append_assoc)

-- the loads of an area are few
pub loads_small : (s : Shape) → loads_of s < 2 ^ 64
loads_small s =
    let few = s.keeps.addresses in
    let p : 2 ^ (s.n - s.m) < 2 ^ 64 = pow-lt (let e : s.n - s.m < 64 = omega (arith, few) in e) in
    p

pub record PartNumbers (page : List ℕ) (pass loads : ℕ) : Type 0 where
  pub pass_is : u16_in (drop 10 page) ≡ pass
  pub loads_are : u64_in (drop 16 page) ≡ loads

pub part_numbers : (s : Shape) (page : List ℕ) (pass loads : ℕ) → IsPartBody s page pass loads → PartNumbers page pass loads
part_numbers s page pass loads body =
    let few = body.fits.pass_few in
    let less = body.fits.loads_few in
    let small = loads_small s in
    record {
      pass_is = part_pass pass loads page (omega (arith, few)) body.page_is;
      loads_are = part_loads pass loads page (omega (arith, less, small)) body.page_is;
    }
