-- Values at a position, as parsing gives them: what was read lies in the file, and parsing goes on after it.
use Rattle.std.specs.Prelude.{◌≡◌, refl, Bool, true, false, List, [], ◌∷◌, ltb, leb, length, drop, Result, Ok, Err}
use Rattle.std.proofs.Common.{sym, ap, ◌∙◌, arith, length-drop, drop_of_length-le, drop-drop, leb-true}
use Rattle.std.proofs.Math.Path.{subst}
use Prim.Native.Nat.{ℕ, zero, suc, ◌+◌, ◌*◌, ◌-◌, ◌<◌, ◌≤◌}
use Rattle.file_formats.specs.Formats.{Parse, parsed, refused, Format, mapped, through, ruled, obeying, pair, headed, parse_all, sequence, counted}
use Rattle.file_formats.specs.Formats.{holds, broken, decode}
use Rattle.file_formats.specs.FormatLaws.{not_refused, tested_in, obeyed_in, mapped_in, then_in}
use Rattle.file_formats.specs.Numbers.{parse_number, number, zigzag, unzigzag, signed}
use Rattle.file_formats.specs.Positions.{breaks_at, number_at, extent_at}
pub use Rattle.file_formats.specs.Positions.{ParsedAt}
use Rattle.file_formats.specs.declared.Broken.{Broken}

-- the place of what is left from a position on
pub place_drop : (file : List ℕ) (at : ℕ) → at ≤ length file → length file - length (drop at file) ≡ at
place_drop file at h = omega (arith, length-drop at file)

-- ---- what is left after a value is a part of what was left before it

pub record Tail (l r : List ℕ) : Type 0 where
  pub size : ℕ
  pub inside : size ≤ length l
  pub is : r ≡ drop size l

tail_self : (l : List ℕ) → Tail l l
tail_self l = record { size = 0; inside = omega arith; is = refl }

tail_trans : {l m r : List ℕ} → Tail l m → Tail m r → Tail l r
tail_trans {l} {m} {r} a b =
    record {
      size = a.size + b.size;
      inside = omega (arith, a.inside, b.inside, ap length a.is ∙ length-drop a.size l);
      is = b.is ∙ ap (drop b.size) a.is ∙ drop-drop b.size a.size l;
    }

-- a format whose values are read so
abbrev pub Tails : {A : Type 0} → Format A → Type 0
Tails {A} F = (l : List ℕ) (a : A) (r : List ℕ) → F.parse l ≡ parsed a r → Tail l r

-- a number takes a byte at least
number_tail : (l : List ℕ) (v : ℕ) (r : List ℕ) → parse_number l ≡ parsed v r → (k : ℕ) × (k < length l) × (r ≡ drop (suc k) l)
unfolding parse_number
number_tail [] v r e = not_refused e
number_tail (b ∷ l) v r e = by (ltb b 128) refl (parse_number l) refl (number_tail l)
  where
    by : (t : Bool) → ltb b 128 ≡ t → (d : Parse ℕ) → parse_number l ≡ d
        → ((w : ℕ) (q : List ℕ) → parse_number l ≡ parsed w q → (k : ℕ) × (k < length l) × (q ≡ drop (suc k) l))
        → (k : ℕ) × (k < length (b ∷ l)) × (r ≡ drop (suc k) (b ∷ l))
    by true p d q f = let e' : parsed b l ≡ parsed v r = simp p at e in let y : r ≡ l = cc in (0, omega arith, y)
    by false p (refused s) q f = let e' : refused s ≡ parsed v r = simp (p, q) at e in not_refused e'
    by false p (parsed w s) q f = last (ltb 0 w) refl
      where
        last : (t : Bool) → ltb 0 w ≡ t → (k : ℕ) × (k < length (b ∷ l)) × (r ≡ drop (suc k) (b ∷ l))
        last true o =
            let e' : parsed (b - 128 + 128 * w) s ≡ parsed v r = simp (p, q, o) at e in
            let y : r ≡ s = cc in
            let i = f w s q in
            (suc i.0, omega (arith, i.1), y ∙ i.2)
        last false o = let e' : refused s ≡ parsed v r = simp (p, q, o) at e in not_refused e'

pub number_tails : (top : ℕ) → Tails (number top)
number_tails top l n r e =
    let i = number_tail l n r (tested_in (λ n. leb n top) l (parse_number l) n r e).0 in
    record { size = suc i.0; inside = i.1; is = i.2 }

pub through_tails : {A B : Type 0} (f : A → B) (g : B → A) (F : Format A) → Tails F → Tails (through f g F)
through_tails f g F T l b r e = let i = mapped_in f (F.parse l) b r e in T l i.0 r i.1

pub signed_tails : (top : ℕ) → Tails (signed top)
signed_tails top = through_tails unzigzag zigzag (number top) (number_tails top)

pub ruled_tails : {A : Type 0} (t : A → Bool) (F : Format A) → Tails F → Tails (ruled t F)
ruled_tails t F T l a r e = T l a r (tested_in t l (F.parse l) a r e).0

pub obeying_tails : {A : Type 0} (t : A → Bool) (F : Format A) → Tails F → Tails (obeying t F)
obeying_tails t F T l a r e = T l a r (obeyed_in t l (F.parse l) a r e).0

pub pair_tails : {A B : Type 0} (F : Format A) (G : A → Format B) → Tails F → ((a : A) → Tails (G a)) → Tails (pair F G)
pair_tails {A} {B} F G T U l p r e =
    let i = then_in (F.parse l) (λ a r. mapped {B = A × B} (λ b. (a, b)) ((G a).parse r)) p r e in
    let j = mapped_in {B = A × B} (λ b. (i.0, b)) ((G i.0).parse i.1) p r i.3 in
    tail_trans (T l i.0 i.1 i.2) (U i.0 i.1 j.0 r j.1)

pub headed_tails : {K A : Type 0} (key : A → K) (F : Format K) (G : K → Format A) → Tails F → ((k : K) → Tails (G k)) → Tails (headed key F G)
headed_tails key F G T U l a r e =
    let i = then_in (F.parse l) (λ k r. (G k).parse r) a r e in
    tail_trans (T l i.0 i.1 i.2) (U i.0 i.1 a r i.3)

module _ {S A : Type 0} (F : S → Format A) (step : S → A → S) where
  pub sequence_tails : ((s : S) → Tails (F s)) → (n : ℕ) (s : S) → Tails (sequence F step n s)
  unfolding parse_all
  sequence_tails T zero s l xs r e = let p : l ≡ r = cc in subst (Tail l) p (tail_self l)
  sequence_tails T (suc n) s l xs r e =
      let i = then_in ((F s).parse l) (λ a r. mapped (λ rest. a ∷ rest) (parse_all F step n (step s a) r)) xs r e in
      let j = mapped_in (λ rest. i.0 ∷ rest) (parse_all F step n (step s i.0) i.1) xs r i.3 in
      tail_trans (T s l i.0 i.1 i.2) (sequence_tails T n (step s i.0) i.1 j.0 r j.1)

  pub counted_tails : ((s : S) → Tails (F s)) → (C : Format ℕ) (s : S) → Tails C → Tails (counted F step C s)
  counted_tails T C s U = headed_tails length C (λ n. sequence F step n s) U (λ n. sequence_tails T n s)

-- ---- by positions

pub parsed_at : {A : Type 0} {F : Format A} → Tails F → (file : List ℕ) (at : ℕ) → at ≤ length file → (a : A) (r : List ℕ)
    → F.parse (drop at file) ≡ parsed a r
    → ParsedAt F file at a (length file - length r)
parsed_at T file at h a r p =
    let t = T (drop at file) a r p in
    let e : r ≡ drop (at + t.size) file = t.is ∙ drop-drop t.size at file in
    let n : length file - length r ≡ at + t.size = omega (arith, ap length e ∙ length-drop (at + t.size) file, t.inside, length-drop at file) in
    record { inside = omega arith; parses = p ∙ ap (parsed a) (e ∙ ap (λ (k : ℕ). drop k file) (sym n)) }

-- a number was read, and v stands from `at` to `next`
pub record Took (top : ℕ) (file : List ℕ) (at v next : ℕ) : Type 0 where
  pub low : v ≤ top
  pub on : at < next
  pub inside : next ≤ length file
  pub parses : (number top).parse (drop at file) ≡ parsed v (drop next file)

pub took : {top : ℕ} {file : List ℕ} {at v next : ℕ} → number_at top file at ≡ Ok (v, next) → Took top file at v next
unfolding number_at
took {top} {file} {at} {v} {next} e = by ((number top).parse (drop at file)) refl
  where
    by : (d : Parse ℕ) → (number top).parse (drop at file) ≡ d → Took top file at v next
    by (refused r) p = let e' : Err (breaks_at at) ≡ Ok (v, next) = simp p at e in cc
    by (parsed w r) p =
        let e' : Ok (w, length file - length r) ≡ Ok (v, next) = simp p at e in
        let q : ◌≡◌ {A = ℕ × ℕ} (w, length file - length r) (v, next) = cc in
        let x : w ≡ v = ap (λ (t : ℕ × ℕ). t.0) q in
        let y : length file - length r ≡ next = ap (λ (t : ℕ × ℕ). t.1) q in
        let j = tested_in (λ n. leb n top) (drop at file) (parse_number (drop at file)) w r p in
        let i = number_tail (drop at file) w r j.0 in
        let z : r ≡ drop (at + suc i.0) file = i.2 ∙ drop-drop (suc i.0) at file in
        let len = ap length z ∙ length-drop (at + suc i.0) file in
        let n : at + suc i.0 ≡ next = omega (arith, i.1, length-drop at file) in
        record {
          low = omega (arith, leb-true w top j.1);
          on = omega arith;
          inside = omega (arith, i.1, length-drop at file);
          parses = p ∙ ap (λ (m : ℕ). parsed m r) x ∙ ap (parsed v) (z ∙ ap (λ (m : ℕ). drop m file) n);
        }

-- where no number may stand, it breaks there
pub number_breaks : (top : ℕ) (file : List ℕ) (at : ℕ) {b : Broken} → number_at top file at ≡ Err b → b ≡ breaks_at at
unfolding number_at
number_breaks top file at {b} e = by ((number top).parse (drop at file)) refl
  where
    by : (d : Parse ℕ) → (number top).parse (drop at file) ≡ d → b ≡ breaks_at at
    by (refused r) p = let e' : Err (breaks_at at) ≡ Err b = simp p at e in cc
    by (parsed w r) p = let e' : Ok (w, length file - length r) ≡ Err b = simp p at e in cc

pub not_took : (top : ℕ) (file : List ℕ) (at : ℕ) {b : Broken} → number_at top file at ≡ Err b → (number top).parse (drop at file) ≡ refused (drop at file)
unfolding number_at
not_took top file at {b} e = by (parse_number (drop at file)) refl
  where
    by : (d : Parse ℕ) → parse_number (drop at file) ≡ d → (number top).parse (drop at file) ≡ refused (drop at file)
    by (refused r) p = simp p
    by (parsed w r) p = pick (leb w top) refl
      where
        pick : (t : Bool) → leb w top ≡ t → (number top).parse (drop at file) ≡ refused (drop at file)
        pick false q = simp (p, q)
        pick true q = let e' : Ok (w, length file - length r) ≡ Err b = simp (p, q) at e in cc

-- a file that breaks here and there breaks at one position
pub same_place : {A : Type 0} {i j : ℕ} → ◌≡◌ {A = Result A Broken} (Err (breaks_at i)) (Err (breaks_at j)) → i ≡ j
same_place {A} {i} {j} e = let b : breaks_at i ≡ breaks_at j = cc in ap (λ (b : Broken). b.at) b

-- the two answers of a check
pub passed : {A : Type 0} (F : Format A) (file : List ℕ) (at next : ℕ) → Tails F → at ≤ length file → extent_at F file at ≡ Ok next
    → (a : A) × ParsedAt F file at a next
unfolding extent_at
passed {A} F file at next T h e = by (F.parse (drop at file)) refl
  where
    by : (d : Parse A) → F.parse (drop at file) ≡ d → (a : A) × ParsedAt F file at a next
    by (refused r) p = let e' : Err (breaks_at (length file - length r)) ≡ Ok next = simp p at e in cc
    by (parsed a r) p =
        let e' : Ok (length file - length r) ≡ Ok next = simp p at e in
        let y : length file - length r ≡ next = cc in
        (a, subst (ParsedAt F file at a) y (parsed_at T file at h a r p))

pub stopped : {A : Type 0} (F : Format A) (file : List ℕ) (at i : ℕ) → extent_at F file at ≡ Err (breaks_at i)
    → (r : List ℕ) × (F.parse (drop at file) ≡ refused r) × (i ≡ length file - length r)
unfolding extent_at
stopped {A} F file at i e = by (F.parse (drop at file)) refl
  where
    by : (d : Parse A) → F.parse (drop at file) ≡ d → (r : List ℕ) × (F.parse (drop at file) ≡ refused r) × (i ≡ length file - length r)
    by (parsed a r) p = let e' : Ok (length file - length r) ≡ Err (breaks_at i) = simp p at e in cc
    by (refused r) p = let e' : Err (breaks_at (length file - length r)) ≡ Err (breaks_at i) = simp p at e in (r, p, same_place (sym e'))

-- ---- a whole file, by how far it is in its format

module _ {A : Type 0} (F : Format A) (file : List ℕ) (i : ℕ) where
  pub file_refused : extent_at F file 0 ≡ Err (breaks_at i) → decode F file ≡ broken i
  file_refused e =
      let s = stopped F file 0 i e in
      let p : F.parse file ≡ refused s.0 = s.1 in
      simp p (ap broken (sym s.2))

  module _ (T : Tails F) (e : extent_at F file 0 ≡ Ok i) where
    pub file_left_over : i < length file → decode F file ≡ broken i
    file_left_over h =
        let q = passed F file 0 i T (omega arith) e in
        let p : F.parse file ≡ parsed q.0 (drop i file) = q.1.parses in
        by (drop i file) p (length-drop i file)
      where
        by : {a : A} (r : List ℕ) → F.parse file ≡ parsed a r → length r ≡ length file - i → decode F file ≡ broken i
        by [] p n = absurd (omega arith)
        by (b ∷ r) p n = simp p (ap broken (omega arith))

    pub file_whole : length file ≤ i → (a : A) × (F.parse file ≡ parsed a []) × (decode F file ≡ holds a)
    file_whole h =
        let q = passed F file 0 i T (omega arith) e in
        let p : F.parse file ≡ parsed q.0 (drop i file) = q.1.parses in
        let n : F.parse file ≡ parsed q.0 [] = p ∙ ap (parsed q.0) (drop_of_length-le file h) in
        (q.0, n, simp n)
