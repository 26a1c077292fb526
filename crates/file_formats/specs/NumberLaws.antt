-- Numbers are lawful; their bytes group by group; signed numbers by plain ones.
use Rattle.std.specs.Prelude.{◌≡◌, refl, Bool, true, false, List, [], ◌∷◌, ◌++◌, ℕ, zero, suc, ◌+◌, ◌*◌, ◌-◌, ◌/◌, ◌%◌, ◌<◌, ◌≤◌, ◌^◌, eqb, ltb, leb, length, ℤ}
use Rattle.std.specs.Prelude.{pos, negsuc, nat_abs, ◌-ℤ◌, ◌≤ℤ◌, ◌<ℤ◌}
use Rattle.std.proofs.Common.{ap, arith, lt-ltb, le-ltb, le-leb, eq-eqb, ne_eqb, ltb-true, ltb-false, leb-true, eqb-true}
use Rattle.std.proofs.lemmas.Bool.{eqb-false}
use Rattle.laws.specs.Integers.{ext, diff, lt_in}
use Rattle.file_formats.specs.Formats.{Parse, parsed, refused, tested}
use Rattle.file_formats.specs.Numbers.{largest_word, groups, encode_number, parse_number, number, zigzag, unzigzag, signed, Word}
use Rattle.file_formats.specs.FormatLaws.{Bytes, bytes_tail, Lawful, not_refused, tested_in, Single, tested_single, through_single, through_laws}

-- ---- the bytes of a number

enough : (k j n : ℕ) → n < k → n < j → groups k n ≡ groups j n
unfolding groups
enough zero j n h g = absurd (omega arith)
enough (suc k) zero n h g = absurd (omega arith)
enough (suc k) (suc j) n h g = by (ltb n 128) refl (enough k j (n / 128))
  where
    by : (t : Bool) → ltb n 128 ≡ t → (n / 128 < k → n / 128 < j → groups k (n / 128) ≡ groups j (n / 128)) → groups (suc k) n ≡ groups (suc j) n
    by true e f = simp e
    by false e f = let low = ltb-false n 128 e in simp (e, f (omega arith) (omega arith))

pub encode_one : (n : ℕ) → n < 128 → encode_number n ≡ n ∷ []
unfolding encode_number groups
encode_one n h = simp (lt-ltb n 128 h)

pub encode_more : (n : ℕ) → 128 ≤ n → encode_number n ≡ (128 + n % 128) ∷ encode_number (n / 128)
unfolding encode_number groups
encode_more n h = simp (le-ltb n 128 h) (ap (λ (l : List ℕ). (128 + n % 128) ∷ l) (enough n (suc (n / 128)) (n / 128) (omega arith) (omega arith)))

-- a number below 128 to the g + 1 has at most g + 1 bytes
pub encode_short : (g n : ℕ) → n < 128 ^ suc g → length (encode_number n) ≤ suc g
encode_short zero n h = omega (arith, ap length (encode_one n (omega arith)))
encode_short (suc g) n h = by (ltb n 128) refl (encode_short g (n / 128))
  where
    by : (t : Bool) → ltb n 128 ≡ t → (n / 128 < 128 ^ suc g → length (encode_number (n / 128)) ≤ suc g) → length (encode_number n) ≤ suc (suc g)
    by true e f = omega (arith, ap length (encode_one n (ltb-true n 128 e)))
    by false e f = omega (arith, ap length (encode_more n (ltb-false n 128 e)), f (omega arith))

pub word_bytes : (n : ℕ) → n < 2 ^ 32 → length (encode_number n) ≤ 5
word_bytes n h = encode_short 4 n (omega arith)

pub number_bytes : (n : ℕ) → n < 2 ^ 64 → length (encode_number n) ≤ 10
number_bytes n h = encode_short 9 n (omega arith)

pub encode_pos : (n : ℕ) → 0 < length (encode_number n)
encode_pos n = by (ltb n 128) refl
  where
    by : (t : Bool) → ltb n 128 ≡ t → 0 < length (encode_number n)
    by true e = omega (arith, ap length (encode_one n (ltb-true n 128 e)))
    by false e = omega (arith, ap length (encode_more n (ltb-false n 128 e)))

-- ---- numbers are lawful

groups_there : (k n : ℕ) (r : List ℕ) → n < k → parse_number (groups k n ++ r) ≡ parsed n r
unfolding parse_number groups
groups_there zero n r h = absurd (omega arith)
groups_there (suc k) n r h = by (ltb n 128) refl (groups_there k (n / 128) r)
  where
    by : (t : Bool) → ltb n 128 ≡ t → (n / 128 < k → parse_number (groups k (n / 128) ++ r) ≡ parsed (n / 128) r)
        → parse_number (groups (suc k) n ++ r) ≡ parsed n r
    by true e f = simp e
    by false e f =
        let low : 128 ≤ n = ltb-false n 128 e in
        let ih : parse_number (groups k (n / 128) ++ r) ≡ parsed (n / 128) r = f (omega arith) in
        simp (e, ih, le-ltb (128 + n % 128) 128 (omega arith), lt-ltb 0 (n / 128) (omega arith)) (ap (λ (m : ℕ). parsed m r) (omega arith))

-- the bytes l are those of n and then r
abbrev Wrote : ℕ → List ℕ → List ℕ → Type 0
Wrote n l r = l ≡ encode_number n ++ r

wrote_more : (b v : ℕ) (l r : List ℕ) → 128 ≤ b → b < 256 → 0 < v → Wrote v l r → Wrote (b - 128 + 128 * v) (b ∷ l) r
wrote_more b v l r h g p w =
    let q : (b - 128 + 128 * v) / 128 ≡ v = omega arith in
    let m : 128 + (b - 128 + 128 * v) % 128 ≡ b = omega arith in
    simp (encode_more (b - 128 + 128 * v) (omega arith), q, m, ← w)

groups_back : (l : List ℕ) (n : ℕ) (r : List ℕ) → Bytes l → parse_number l ≡ parsed n r → Wrote n l r
unfolding parse_number
groups_back [] n r bs e = not_refused e
groups_back (b ∷ l) n r bs e = by (ltb b 128) refl (parse_number l) refl (λ v s. groups_back l v s (bytes_tail b l bs))
  where
    by : (t : Bool) → ltb b 128 ≡ t → (d : Parse ℕ) → parse_number l ≡ d → ((v : ℕ) (s : List ℕ) → parse_number l ≡ parsed v s → Wrote v l s)
        → Wrote n (b ∷ l) r
    by true p d q f =
        let e' : parsed b l ≡ parsed n r = simp p at e in
        let x : n ≡ b = cc in
        let y : r ≡ l = cc in
        rw (x, y) (simp (encode_one b (ltb-true b 128 p)))
    by false p (refused s) q f = let e' : refused s ≡ parsed n r = simp (p, q) at e in not_refused e'
    by false p (parsed v s) q f = last (ltb 0 v) refl
      where
        last : (t : Bool) → ltb 0 v ≡ t → Wrote n (b ∷ l) r
        last true o =
            let e' : parsed (b - 128 + 128 * v) s ≡ parsed n r = simp (p, q, o) at e in
            let x : n ≡ b - 128 + 128 * v = cc in
            let y : r ≡ s = cc in
            rw (x, y) (wrote_more b v l s (ltb-false b 128 p) (bs 0 (omega arith)) (ltb-true 0 v o) (f v s q))
        last false o = let e' : refused s ≡ parsed n r = simp (p, q, o) at e in not_refused e'

pub number_laws : (top : ℕ) → Lawful (number top)
unfolding encode_number
number_laws top = record { there = to; back = fro }
  where
    to : (n : ℕ) (r : List ℕ) → n ≤ top → tested (λ n. leb n top) (encode_number n ++ r) (parse_number (encode_number n ++ r)) ≡ parsed n r
    to n r h = simp (groups_there (suc n) n r (omega arith), le-leb n top h)

    fro : (l : List ℕ) (n : ℕ) (r : List ℕ) → Bytes l → tested (λ n. leb n top) l (parse_number l) ≡ parsed n r → (n ≤ top) × (l ≡ encode_number n ++ r)
    fro l n r bs e =
        let i = tested_in (λ n. leb n top) l (parse_number l) n r e in
        (leb-true n top i.1, groups_back l n r bs i.0)

pub number_single : (top : ℕ) → Single (number top)
number_single top l r e = tested_single (λ n. leb n top) l (parse_number l) r e

-- ---- signed numbers

pub unzigzag_zigzag : (z : ℤ) → unzigzag (zigzag z) ≡ z
unzigzag_zigzag (pos n) = simp (eq-eqb ((2 * n) % 2) 0 (omega arith)) (ap pos (omega arith))
unzigzag_zigzag (negsuc n) = simp (ne_eqb ((2 * n + 1) % 2) 0 (omega arith)) (ap negsuc (omega arith))

pub zigzag_unzigzag : (n : ℕ) → zigzag (unzigzag n) ≡ n
zigzag_unzigzag n = by (eqb (n % 2) 0) refl
  where
    by : (t : Bool) → eqb (n % 2) 0 ≡ t → zigzag (unzigzag n) ≡ n
    by true e = let p : n % 2 ≡ 0 = eqb-true (n % 2) 0 e in simp e (omega arith)
    by false e = let p : (n % 2 ≡ 0 → ⊥) = eqb-false (n % 2) 0 e in simp e (omega arith)

pub signed_laws : (top : ℕ) → Lawful (signed top)
signed_laws top = through_laws unzigzag zigzag (number top) zigzag_unzigzag unzigzag_zigzag (number_laws top)

pub signed_single : (top : ℕ) → Single (signed top)
signed_single top = through_single unzigzag zigzag (number top) (number_single top)

-- a signed number, by its plain one
module _ (top : ℕ) (l : List ℕ) where
  pub signed_parsed : (m : ℕ) (r : List ℕ) → (number top).parse l ≡ parsed m r → (signed top).parse l ≡ parsed (unzigzag m) r
  signed_parsed m r e = simp e

  pub signed_refused : (number top).parse l ≡ refused l → (signed top).parse l ≡ refused l
  signed_refused e = simp e

-- by the lowest bit, and by the sign
pub unzigzag_even : (m : ℕ) → m % 2 ≡ 0 → unzigzag m ≡ pos (m / 2)
unzigzag_even m h = simp (eq-eqb (m % 2) 0 h)

pub unzigzag_odd : (m : ℕ) → (m % 2 ≡ 0 → ⊥) → unzigzag m ≡ negsuc (m / 2)
unzigzag_odd m h = simp (ne_eqb (m % 2) 0 h)

pub zigzag_pos : (z : ℤ) → pos 0 ≤ℤ z → zigzag z ≡ 2 * nat_abs z
zigzag_pos (pos n) h = refl
zigzag_pos (negsuc n) h = absurd h.le

pub zigzag_neg : (z : ℤ) → z <ℤ pos 0 → zigzag z ≡ 2 * nat_abs (negsuc 0 -ℤ z) + 1
zigzag_neg (pos n) h = absurd (omega (arith, lt_in h))
zigzag_neg (negsuc n) h =
    let e : negsuc 0 -ℤ negsuc n ≡ pos n = omega (arith, ext, diff (negsuc 0) (negsuc n)) in
    simp e

-- 32 bits
pub word_sent : (z : ℤ) → Word z → zigzag z ≤ largest_word
word_sent (pos n) h = omega arith
word_sent (negsuc n) h = omega arith

pub sent_word : (z : ℤ) → zigzag z ≤ largest_word → Word z
sent_word (pos n) h = omega arith
sent_word (negsuc n) h = omega arith

-- magnitudes
pub unzigzag_abs : (m B : ℕ) → m < 2 * B → nat_abs (unzigzag m) ≤ B
unzigzag_abs m B h = by (eqb (m % 2) 0) refl
  where
    by : (t : Bool) → eqb (m % 2) 0 ≡ t → nat_abs (unzigzag m) ≤ B
    by true e = simp e (omega arith)
    by false e = simp e (omega arith)

pub zigzag_abs : (z : ℤ) → zigzag z ≤ 2 * nat_abs z
zigzag_abs (pos n) = omega arith
zigzag_abs (negsuc n) = omega arith
