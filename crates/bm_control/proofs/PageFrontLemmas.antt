-- Pages that are filled from their front.
use Rattle.std.proofs.Common.{◌≡◌, ℕ, ◌+◌, ◌-◌, ◌≤◌, List, ◌++◌, length, take, drop, replicate, sym, ap, ◌∙◌, arith}
use Rattle.std.proofs.lemmas.List.{length-replicate, drop-replicate, length-append, length-take-le, take-replicate, take-append-drop}
use Rattle.std.proofs.lemmas.List.{drop-drop}
use Rattle.std.proofs.lemmas.List.{length-drop, append-nil}
use Rattle.std.proofs.lemmas.Slice.{drop-put_mid, take-put_mid}
use Rattle.std.proofs.Math.Seq.{take-add}
use borrow.Rule.Slice.PartMut.{put_mid}
use Rattle.bm_control.specs.Bodies.{padded}
use Rattle.bm_control.specs.PageFront.{IsFront}

-- the page is its front and zeros
pub page_of_front : (len : ℕ) (bytes : List ℕ) → IsFront len bytes → bytes ≡ padded 512 (take len bytes)
unfolding padded
page_of_front len bytes f =
    let long : length (take len bytes) ≡ len = length-take-le len bytes (omega (arith, f.size, f.within)) in
    sym (take-append-drop len bytes) ∙ ap (λ (x : List ℕ). take len bytes ++ x) (f.zeros ∙ ap (λ (n : ℕ). replicate (512 - n) 0) (sym long))

-- what stands behind a place stands behind a later one
rest_of_front : (len place : ℕ) (bytes : List ℕ) → IsFront len bytes → len ≤ place → place ≤ 512
    → drop place bytes ≡ replicate (512 - place) 0
rest_of_front len place bytes f more fits =
    let e : place ≡ len + (place - len) = omega arith in
    ap (λ (n : ℕ). drop n bytes) e
    ∙ sym (drop-drop (place - len) len bytes)
    ∙ ap (λ (x : List ℕ). drop (place - len) x) f.zeros
    ∙ drop-replicate (place - len) (512 - len) 0
    ∙ ap (λ (n : ℕ). replicate n 0) (let q : 512 - len - (place - len) ≡ 512 - place = omega arith in q)

-- a part that is put in place of one as long
length-put_mid : (a k : ℕ) (xs ys : List ℕ) → a + k ≤ length xs → length ys ≡ k → length (put_mid a k xs ys) ≡ length xs
length-put_mid a k xs ys fits long =
    let front : take (a + k) (put_mid a k xs ys) ≡ take a xs ++ ys = take-put_mid a k xs ys (a + k) (omega arith) (omega arith) in
    let back : drop (a + k) (put_mid a k xs ys) ≡ drop (a + k) xs = drop-put_mid a k xs ys (a + k) (omega arith) (omega arith) long in
    let whole : (take a xs ++ ys) ++ drop (a + k) xs ≡ put_mid a k xs ys =
    ap (λ (x : List ℕ). x ++ drop (a + k) xs) (sym front) ∙ ap (λ (x : List ℕ). take (a + k) (put_mid a k xs ys) ++ x) (sym back)
    ∙ take-append-drop (a + k) (put_mid a k xs ys) in
    let h1 : length (take a xs) ≡ a = length-take-le a xs (omega arith) in
    let h2 : length (drop (a + k) xs) ≡ length xs - (a + k) = length-drop (a + k) xs in
    ap length (sym whole) ∙ length-append (take a xs ++ ys) (drop (a + k) xs)
    ∙ (let e : length (take a xs ++ ys) ≡ length (take a xs) + length ys = length-append (take a xs) ys in omega arith)

-- more bytes in front
pub front_put : (len size k : ℕ) (bytes more : List ℕ) → IsFront len bytes → k ≡ size → length more ≡ size → len + size ≤ 512
    → IsFront (len + size) (put_mid len k bytes more)
front_put len size k bytes more f same long fits = record {
  within = fits;
  size = length-put_mid len k bytes more (omega (arith, f.size)) (long ∙ sym same) ∙ f.size;
  zeros = drop-put_mid len k bytes more (len + size) (omega arith) (omega (arith, f.size)) (long ∙ sym same)
      ∙ rest_of_front len (len + size) bytes f (omega arith) fits;
}

-- zeros in front
pub front_skip : (len place : ℕ) (bytes : List ℕ) → IsFront len bytes → len ≤ place → place ≤ 512 → IsFront place bytes
front_skip len place bytes f more fits = record { within = fits; size = f.size; zeros = rest_of_front len place bytes f more fits }

-- the bytes up to a later place are the front and zeros
pub skipped : (len place : ℕ) (bytes : List ℕ) → IsFront len bytes → len ≤ place → place ≤ 512
    → take place bytes ≡ padded place (take len bytes)
unfolding padded
skipped len place bytes f more fits =
    let e : place ≡ len + (place - len) = omega arith in
    let long : length (take len bytes) ≡ len = length-take-le len bytes (omega (arith, f.size, f.within)) in
    ap (λ (n : ℕ). take n bytes) e
    ∙ take-add len (place - len) bytes
    ∙ ap (λ (x : List ℕ). take len bytes ++ x)
    (ap (λ (x : List ℕ). take (place - len) x) f.zeros
    ∙ take-replicate (place - len) (512 - len) 0 (omega arith)
    ∙ ap (λ (n : ℕ). replicate (place - n) 0) (sym long))

pub length-padded : (size : ℕ) (bytes : List ℕ) → length bytes ≤ size → length (padded size bytes) ≡ size
unfolding padded
length-padded size bytes h =
    let e : length (replicate (size - length bytes) 0) ≡ size - length bytes = length-replicate (size - length bytes) 0 in
    length-append bytes (replicate (size - length bytes) 0) ∙ ap (λ (n : ℕ). length bytes + n) e
    ∙ (let sum : length bytes + (size - length bytes) ≡ size = omega arith in sum)

-- bytes that fill the page
pub padded_full : (size : ℕ) (bytes : List ℕ) → length bytes ≡ size → padded size bytes ≡ bytes
unfolding padded
padded_full size bytes h =
    ap (λ (n : ℕ). bytes ++ replicate n 0) (let e : size - length bytes ≡ 0 = omega arith in e) ∙ append-nil bytes
