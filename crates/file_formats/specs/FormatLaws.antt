-- Lawful formats: what is written is read back, and what is read was written so. Each combinator keeps that.
use Rattle.std.proofs.Math.Path.{◌≡◌, refl, ap, subst}
use Rattle.std.proofs.Common.{sym, ◌∙◌, arith, length-append, get_or-append-add}
use Rattle.std.specs.Prelude.{Bool, true, false, T, length, get_or}
use mathlib.Core.List.{List, [], ◌∷◌, ◌++◌, append_assoc, append-nil}
use Prim.Native.Nat.{ℕ, zero, suc, ◌+◌, ◌<◌}
use Rattle.laws.specs.Booleans.{from_T}
pub use Rattle.file_formats.specs.Formats.{Bytes}
use Rattle.file_formats.specs.Formats.{Parse, parsed, refused, Format, and_then, mapped, tested, obeyed, through, ruled, obeying, pair, headed, valid_all}
use Rattle.file_formats.specs.Formats.{encode_all, parse_all, sequence, counted, holds, finished, decoded_in, decode}

pub bytes_tail : (b : ℕ) (l : List ℕ) → Bytes (b ∷ l) → Bytes l
bytes_tail b l h i k = h (suc i) (omega arith)

pub bytes_rest : (s r l : List ℕ) → l ≡ s ++ r → Bytes l → Bytes r
bytes_rest s r l e h i k =
    subst (λ (n : ℕ). n < 256) (ap (λ (m : List ℕ). get_or m (length s + i) 0) e ∙ get_or-append-add s r i 0)
    (h (length s + i) (omega (arith, ap length e, length-append s r)))

pub record Lawful {A : Type 0} (F : Format A) : Type 0 where
  pub there : (a : A) (r : List ℕ) → F.valid a → F.parse (F.encode a ++ r) ≡ parsed a r
  pub back : (l : List ℕ) (a : A) (r : List ℕ) → Bytes l → F.parse l ≡ parsed a r → F.valid a × (l ≡ F.encode a ++ r)

-- ---- what a successful parse was made of

pub not_refused : {A : Type 0} {P : Type 0} {s r : List ℕ} {a : A} → refused s ≡ parsed a r → P
not_refused e = cc

pub tested_in : {A : Type 0} (t : A → Bool) (s : List ℕ) (d : Parse A) (a : A) (r : List ℕ) → tested t s d ≡ parsed a r → (d ≡ parsed a r) × (t a ≡ true)
tested_in t s (refused q) a r e = not_refused e
tested_in t s (parsed b q) a r e = by (t b) refl
  where
    by : (c : Bool) → t b ≡ c → (parsed b q ≡ parsed a r) × (t a ≡ true)
    by true p = let e' : parsed b q ≡ parsed a r = simp p at e in (e', cc)
    by false p = let e' : refused s ≡ parsed a r = simp p at e in not_refused e'

pub obeyed_in : {A : Type 0} (t : A → Bool) (s : List ℕ) (d : Parse A) (a : A) (r : List ℕ) → obeyed t s d ≡ parsed a r → (d ≡ parsed a r) × (t a ≡ true)
obeyed_in t s (refused q) a r e = not_refused e
obeyed_in t s (parsed b q) a r e = tested_in t s (parsed b q) a r e

pub mapped_in : {A B : Type 0} (f : A → B) (d : Parse A) (b : B) (r : List ℕ) → mapped f d ≡ parsed b r → (a : A) × (d ≡ parsed a r) × (f a ≡ b)
mapped_in f (refused q) b r e = not_refused e
mapped_in f (parsed a q) b r e = (a, cc, cc)

pub then_in : {A B : Type 0} (d : Parse A) (f : A → List ℕ → Parse B) (b : B) (r : List ℕ) → and_then d f ≡ parsed b r
    → (a : A) × (s : List ℕ) × (d ≡ parsed a s) × (f a s ≡ parsed b r)
then_in (refused q) f b r e = not_refused e
then_in (parsed a q) f b r e = (a, q, refl, e)

-- ---- single values: what is refused is refused from its first byte on

abbrev pub Single : {A : Type 0} → Format A → Type 0
Single F = (l r : List ℕ) → F.parse l ≡ refused r → r ≡ l

pub tested_single : {A : Type 0} (t : A → Bool) (s : List ℕ) (d : Parse A) (r : List ℕ) → tested t s d ≡ refused r → r ≡ s
tested_single t s (refused q) r e = cc
tested_single t s (parsed b q) r e = by (t b) refl
  where
    by : (c : Bool) → t b ≡ c → r ≡ s
    by true p = let e' : parsed b q ≡ refused r = simp p at e in not_refused (sym e')
    by false p = let e' : refused s ≡ refused r = simp p at e in cc

pub ruled_single : {A : Type 0} (t : A → Bool) (F : Format A) → Single (ruled t F)
ruled_single t F l r e = tested_single t l (F.parse l) r e

pub through_single : {A B : Type 0} (f : A → B) (g : B → A) (F : Format A) → Single F → Single (through f g F)
through_single {A} f g F h l r e = by (F.parse l) refl
  where
    by : (d : Parse A) → F.parse l ≡ d → r ≡ l
    by (parsed a q) p = let e' : parsed (f a) q ≡ refused r = simp p at e in not_refused (sym e')
    by (refused q) p = let e' : refused q ≡ refused r = simp p at e in let s : r ≡ q = cc in s ∙ h l q p

-- ---- the combinators

pub true_T : {b : Bool} → b ≡ true → T b
true_T e = subst T (sym e) tt

pub through_laws : {A B : Type 0} (f : A → B) (g : B → A) (F : Format A) → ((a : A) → g (f a) ≡ a) → ((b : B) → f (g b) ≡ b) → Lawful F → Lawful (through f g F)
through_laws {A} {B} f g F gf fg L = record { there = to; back = fro }
  where
    to : (b : B) (r : List ℕ) → F.valid (g b) → mapped f (F.parse (F.encode (g b) ++ r)) ≡ parsed b r
    to b r h = simp (L.there (g b) r h, fg)

    fro : (l : List ℕ) (b : B) (r : List ℕ) → Bytes l → mapped f (F.parse l) ≡ parsed b r → F.valid (g b) × (l ≡ F.encode (g b) ++ r)
    fro l b r bs e =
        let i = mapped_in f (F.parse l) b r e in
        let p : g b ≡ i.0 = ap g (sym i.2) ∙ gf i.0 in
        rw p (L.back l i.0 r bs i.1)

pub ruled_laws : {A : Type 0} (t : A → Bool) (F : Format A) → Lawful F → Lawful (ruled t F)
ruled_laws {A} t F L = record { there = to; back = fro }
  where
    to : (a : A) (r : List ℕ) → F.valid a × T (t a) → tested t (F.encode a ++ r) (F.parse (F.encode a ++ r)) ≡ parsed a r
    to a r h = simp (L.there a r h.0, from_T (t a) h.1)

    fro : (l : List ℕ) (a : A) (r : List ℕ) → Bytes l → tested t l (F.parse l) ≡ parsed a r → (F.valid a × T (t a)) × (l ≡ F.encode a ++ r)
    fro l a r bs e =
        let i = tested_in t l (F.parse l) a r e in
        let h = L.back l a r bs i.0 in
        ((h.0, true_T i.1), h.1)

pub obeying_laws : {A : Type 0} (t : A → Bool) (F : Format A) → Lawful F → Lawful (obeying t F)
obeying_laws {A} t F L = record { there = to; back = fro }
  where
    to : (a : A) (r : List ℕ) → F.valid a × T (t a) → obeyed t (F.encode a ++ r) (F.parse (F.encode a ++ r)) ≡ parsed a r
    to a r h = simp (L.there a r h.0, from_T (t a) h.1)

    fro : (l : List ℕ) (a : A) (r : List ℕ) → Bytes l → obeyed t l (F.parse l) ≡ parsed a r → (F.valid a × T (t a)) × (l ≡ F.encode a ++ r)
    fro l a r bs e =
        let i = obeyed_in t l (F.parse l) a r e in
        let h = L.back l a r bs i.0 in
        ((h.0, true_T i.1), h.1)

-- one piece before another
joined_back : (l a m b r : List ℕ) → l ≡ a ++ m → m ≡ b ++ r → l ≡ (a ++ b) ++ r
joined_back l a m b r e f = e ∙ ap (λ (n : List ℕ). a ++ n) f ∙ sym (append_assoc a b r)

pub pair_laws : {A B : Type 0} (F : Format A) (G : A → Format B) → Lawful F → ((a : A) → Lawful (G a)) → Lawful (pair F G)
pair_laws {A} {B} F G L M = record { there = to; back = fro }
  where
    to : (p : A × B) (r : List ℕ) → (pair F G).valid p → (pair F G).parse ((pair F G).encode p ++ r) ≡ parsed p r
    to p r h = simp (append_assoc, L.there p.0 ((G p.0).encode p.1 ++ r) h.0, (M p.0).there p.1 r h.1)

    fro : (l : List ℕ) (p : A × B) (r : List ℕ) → Bytes l → (pair F G).parse l ≡ parsed p r → (pair F G).valid p × (l ≡ (pair F G).encode p ++ r)
    fro l p r bs e =
        let i = then_in (F.parse l) (λ a r. mapped (λ b. (a, b)) ((G a).parse r)) p r e in
        let j = mapped_in {B = A × B} (λ b. (i.0, b)) ((G i.0).parse i.1) p r i.3 in
        let h = L.back l i.0 i.1 bs i.2 in
        let g = (M i.0).back i.1 j.0 r (bytes_rest (F.encode i.0) i.1 l h.1 bs) j.1 in
        subst (λ (q : A × B). (pair F G).valid q × (l ≡ (pair F G).encode q ++ r)) j.2
        ((h.0, g.0), joined_back l (F.encode i.0) i.1 ((G i.0).encode j.0) r h.1 g.1)

-- what is valid after a key has that key
pub headed_laws : {K A : Type 0} (key : A → K) (F : Format K) (G : K → Format A) → ((k : K) (a : A) → (G k).valid a → key a ≡ k) → Lawful F
    → ((k : K) → Lawful (G k)) → Lawful (headed key F G)
headed_laws {K} {A} key F G same L M = record { there = to; back = fro }
  where
    to : (a : A) (r : List ℕ) → (headed key F G).valid a → (headed key F G).parse ((headed key F G).encode a ++ r) ≡ parsed a r
    to a r h = simp (append_assoc, L.there (key a) ((G (key a)).encode a ++ r) h.0, (M (key a)).there a r h.1)

    fro : (l : List ℕ) (a : A) (r : List ℕ) → Bytes l → (headed key F G).parse l ≡ parsed a r
        → (headed key F G).valid a × (l ≡ (headed key F G).encode a ++ r)
    fro l a r bs e =
        let i = then_in (F.parse l) (λ k r. (G k).parse r) a r e in
        let h = L.back l i.0 i.1 bs i.2 in
        let g = (M i.0).back i.1 a r (bytes_rest (F.encode i.0) i.1 l h.1 bs) i.3 in
        let p : key a ≡ i.0 = same i.0 a g.0 in
        rw p ((h.0, g.0), joined_back l (F.encode i.0) i.1 ((G i.0).encode a) r h.1 g.1)

module _ {S A : Type 0} (F : S → Format A) (step : S → A → S) where
  pub valid_length : (n : ℕ) (s : S) (xs : List A) → valid_all F step n s xs → length xs ≡ n
  valid_length zero s [] h = refl
  valid_length zero s (x ∷ xs) h = absurd h
  valid_length (suc n) s [] h = absurd h
  valid_length (suc n) s (x ∷ xs) h = ap suc (valid_length n (step s x) xs h.1)

  module _ (L : (s : S) → Lawful (F s)) where
    all_there : (n : ℕ) (s : S) (xs : List A) (r : List ℕ) → valid_all F step n s xs → parse_all F step n s (encode_all F step s xs ++ r) ≡ parsed xs r
    unfolding encode_all parse_all
    all_there zero s [] r h = refl
    all_there zero s (x ∷ xs) r h = absurd h
    all_there (suc n) s [] r h = absurd h
    all_there (suc n) s (x ∷ xs) r h =
        simp (append_assoc, (L s).there x (encode_all F step (step s x) xs ++ r) h.0, all_there n (step s x) xs r h.1)

    all_back : (n : ℕ) (s : S) (l : List ℕ) (xs : List A) (r : List ℕ) → Bytes l → parse_all F step n s l ≡ parsed xs r
        → valid_all F step n s xs × (l ≡ encode_all F step s xs ++ r)
    unfolding encode_all parse_all
    all_back zero s l [] r bs e = (tt, cc)
    all_back zero s l (x ∷ xs) r bs e = cc
    all_back (suc n) s l xs r bs e =
        let i = then_in ((F s).parse l) (λ a r. mapped (λ rest. a ∷ rest) (parse_all F step n (step s a) r)) xs r e in
        let j = mapped_in (λ rest. i.0 ∷ rest) (parse_all F step n (step s i.0) i.1) xs r i.3 in
        let h = (L s).back l i.0 i.1 bs i.2 in
        let g = all_back n (step s i.0) i.1 j.0 r (bytes_rest ((F s).encode i.0) i.1 l h.1 bs) j.1 in
        subst (λ (ys : List A). valid_all F step (suc n) s ys × (l ≡ encode_all F step s ys ++ r)) j.2
        ((h.0, g.0), joined_back l ((F s).encode i.0) i.1 (encode_all F step (step s i.0) j.0) r h.1 g.1)

    pub sequence_laws : (n : ℕ) (s : S) → Lawful (sequence F step n s)
    sequence_laws n s = record { there = all_there n s; back = all_back n s }

    pub counted_laws : (C : Format ℕ) (s : S) → Lawful C → Lawful (counted F step C s)
    counted_laws C s M = headed_laws length C (λ n. sequence F step n s) (λ n xs h. valid_length n s xs h) M (λ n. sequence_laws n s)

-- ---- whole files

pub finished_in : {A : Type 0} (d : Parse A) (a : A) (r : List ℕ) → finished d ≡ parsed a r → (d ≡ parsed a []) × (r ≡ [])
finished_in (refused q) a r e = not_refused e
finished_in (parsed b []) a r e = (cc, cc)
finished_in (parsed b (x ∷ q)) a r e = not_refused e

pub placed_in : {A : Type 0} (n : ℕ) (d : Parse A) (a : A) → decoded_in n d ≡ holds a → (r : List ℕ) × (d ≡ parsed a r)
placed_in n (refused q) a e = cc
placed_in n (parsed b q) a e = (q, ap (λ (c : _). parsed c q) cc)

module _ {A : Type 0} (F : Format A) (L : Lawful F) where
  -- a file that was written from a valid value holds it
  pub decode_there : (a : A) → F.valid a → decode F (F.encode a) ≡ holds a
  decode_there a h =
      let e : F.parse (F.encode a) ≡ parsed a [] = subst (λ (l : List ℕ). F.parse l ≡ parsed a []) (append-nil (F.encode a)) (L.there a [] h) in
      simp e

  -- a file that holds a value was written from it
  pub decode_back : (l : List ℕ) (a : A) → Bytes l → decode F l ≡ holds a → F.valid a × (l ≡ F.encode a)
  decode_back l a bs e =
      let i = placed_in (length l) (finished (F.parse l)) a e in
      let j = finished_in (F.parse l) a i.0 i.1 in
      let h = L.back l a [] bs j.0 in
      (h.0, h.1 ∙ append-nil (F.encode a))

  -- no two files hold the same
  pub decode_one : (l m : List ℕ) (a : A) → Bytes l → Bytes m → decode F l ≡ holds a → decode F m ≡ holds a → l ≡ m
  decode_one l m a bl bm e f = (decode_back l a bl e).1 ∙ sym (decode_back m a bm f).1

-- ---- two formats of the same values

-- what the first parses the second parses too, as the same value
abbrev pub Within : {A : Type 0} → Format A → Format A → Type 0
Within {A} F G = (l : List ℕ) (a : A) (r : List ℕ) → F.parse l ≡ parsed a r → G.parse l ≡ parsed a r

pub obeying_within : {A : Type 0} (t : A → Bool) (F : Format A) → Within (obeying t F) F
obeying_within t F l a r e = (obeyed_in t l (F.parse l) a r e).0

pub through_within : {A B : Type 0} (f : A → B) (g : B → A) (F G : Format A) → Within F G → Within (through f g F) (through f g G)
through_within f g F G W l b r e =
    let i = mapped_in f (F.parse l) b r e in
    ap (mapped f) (W l i.0 r i.1) ∙ ap (λ (c : _). parsed c r) i.2

pub pair_within : {A B : Type 0} (F : Format A) (G H : A → Format B) → ((a : A) → Within (G a) (H a)) → Within (pair F G) (pair F H)
pair_within {A} {B} F G H W l p r e =
    let i = then_in (F.parse l) (λ a r. mapped {B = A × B} (λ b. (a, b)) ((G a).parse r)) p r e in
    let j = mapped_in {B = A × B} (λ b. (i.0, b)) ((G i.0).parse i.1) p r i.3 in
    ap (λ (d : Parse A). and_then d (λ a r. mapped {B = A × B} (λ b. (a, b)) ((H a).parse r))) i.2
    ∙ ap (mapped {B = A × B} (λ b. (i.0, b))) (W i.0 i.1 j.0 r j.1)
    ∙ ap (λ (q : A × B). parsed q r) j.2

module _ {S A : Type 0} (F G : S → Format A) (step : S → A → S) where
  pub sequence_within : ((s : S) → Within (F s) (G s)) → (n : ℕ) (s : S) → Within (sequence F step n s) (sequence G step n s)
  unfolding parse_all
  sequence_within W zero s l xs r e = e
  sequence_within W (suc n) s l xs r e =
      let i = then_in ((F s).parse l) (λ a r. mapped (λ rest. a ∷ rest) (parse_all F step n (step s a) r)) xs r e in
      let j = mapped_in (λ rest. i.0 ∷ rest) (parse_all F step n (step s i.0) i.1) xs r i.3 in
      ap (λ (d : Parse A). and_then d (λ a r. mapped (λ rest. a ∷ rest) (parse_all G step n (step s a) r))) (W s l i.0 i.1 i.2)
      ∙ ap (mapped (λ rest. i.0 ∷ rest)) (sequence_within W n (step s i.0) i.1 j.0 r j.1)
      ∙ ap (λ (ys : List A). parsed ys r) j.2

  pub counted_within : ((s : S) → Within (F s) (G s)) → (C : Format ℕ) (s : S) → Within (counted F step C s) (counted G step C s)
  counted_within W C s l xs r e =
      let i = then_in (C.parse l) (λ n r. parse_all F step n s r) xs r e in
      ap (λ (d : Parse ℕ). and_then d (λ n r. parse_all G step n s r)) i.2 ∙ sequence_within W i.0 s i.1 xs r i.3

  -- both write each value alike, and so lists of them
  pub encode_alike : ((s : S) (a : A) → (F s).encode a ≡ (G s).encode a) → (s : S) (xs : List A) → encode_all F step s xs ≡ encode_all G step s xs
  unfolding encode_all
  encode_alike h s [] = refl
  encode_alike h s (x ∷ xs) = λ i. h s x i ++ encode_alike h (step s x) xs i

pub decode_within : {A : Type 0} (F G : Format A) → Within F G → (l : List ℕ) (a : A) → decode F l ≡ holds a → decode G l ≡ holds a
decode_within F G W l a e =
    let i = placed_in (length l) (finished (F.parse l)) a e in
    let j = finished_in (F.parse l) a i.0 i.1 in
    ap (λ (d : Parse _). decoded_in (length l) (finished d)) (W l a [] j.0)
