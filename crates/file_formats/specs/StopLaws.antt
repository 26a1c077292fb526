-- Where a format refuses bytes that were written value by value: at the first value that it does not take, after all bytes of those before.
use Rattle.std.specs.Prelude.{◌≡◌, refl, ℕ, zero, suc, length}
use Rattle.std.proofs.Common.{sym, ◌∙◌, length-append}
use Rattle.std.proofs.Math.Path.{ap}
use mathlib.Core.List.{List, [], ◌∷◌, ◌++◌, append_assoc}
use Rattle.file_formats.specs.Formats.{Parse, refused, Format, and_then, mapped, through, pair, headed, valid_all, encode_all, parse_all, state_after}
use Rattle.file_formats.specs.Formats.{sequence}
use Rattle.file_formats.specs.FormatLaws.{Lawful, sequence_laws}
use Rattle.file_formats.specs.SequenceLaws.{parse_split, encode_append, encode_first}

-- of these bytes those of `head` are taken, and what is refused starts with those of `value`, whatever follows
pub record Stops {A : Type 0} (F : Format A) (bytes head value : List ℕ) : Type 0 where
  pub tail : List ℕ
  pub is : bytes ≡ head ++ (value ++ tail)
  pub stops : (r : List ℕ) → F.parse (bytes ++ r) ≡ refused (value ++ (tail ++ r))

pub through_stops : {A B : Type 0} (f : A → B) (g : B → A) (F : Format A) {bytes head value : List ℕ} → Stops F bytes head value
    → Stops (through f g F) bytes head value
through_stops f g F s = record { tail = s.tail; is = s.is; stops = λ r. ap (mapped f) (s.stops r) }

-- behind a value that is taken
module _ {A : Type 0} (F : Format A) (L : Lawful F) (a : A) (v : F.valid a) {bytes head value : List ℕ} where
  behind : {B : Type 0} (G : Format B) (next : A → List ℕ → Parse B) → ((l : List ℕ) → next a l ≡ G.parse l) → (s : Stops G bytes head value) (r : List ℕ)
      → and_then (F.parse ((F.encode a ++ bytes) ++ r)) next ≡ refused (value ++ (s.tail ++ r))
  behind G next same s r =
      ap (λ (l : List ℕ). and_then (F.parse l) next) (append_assoc (F.encode a) bytes r)
      ∙ ap (λ (d : Parse A). and_then d next) (L.there a (bytes ++ r) v)
      ∙ same (bytes ++ r) ∙ s.stops r

  front_is : {B : Type 0} {G : Format B} (s : Stops G bytes head value) → F.encode a ++ bytes ≡ (F.encode a ++ head) ++ (value ++ s.tail)
  front_is s = ap (λ (l : List ℕ). F.encode a ++ l) s.is ∙ sym (append_assoc (F.encode a) head (value ++ s.tail))

  pub pair_stops : {B : Type 0} (G : A → Format B) → Stops (G a) bytes head value → Stops (pair F G) (F.encode a ++ bytes) (F.encode a ++ head) value
  pair_stops {B} G s =
      let t : Stops (through {B = A × B} (λ b. (a, b)) (λ q. q.1) (G a)) bytes head value = through_stops (λ b. (a, b)) (λ q. q.1) (G a) s in
      record {
        tail = t.tail;
        is = front_is t;
        stops = behind (through (λ b. (a, b)) (λ q. q.1) (G a)) (λ a r. mapped (λ b. (a, b)) ((G a).parse r)) (λ l. refl) t;
      }

  pub headed_stops : {B : Type 0} (key : B → A) (G : A → Format B) → Stops (G a) bytes head value
      → Stops (headed key F G) (F.encode a ++ bytes) (F.encode a ++ head) value
  headed_stops key G s = record { tail = s.tail; is = front_is s; stops = behind (G a) (λ k r. (G k).parse r) (λ l. refl) s }

module _ {S A : Type 0} (F : S → Format A) (step : S → A → S) where
  -- what may be written of a list may be of its first values, and of the next
  pub valid_split : (n : ℕ) (s : S) (xs : List A) (y : A) (ys : List A) → valid_all F step n s (xs ++ (y ∷ ys))
      → valid_all F step (length xs) s xs × (F (state_after F step s xs)).valid y
  valid_split zero s [] y ys h = absurd h
  valid_split (suc n) s [] y ys h = (tt, h.0)
  valid_split zero s (x ∷ xs) y ys h = absurd h
  valid_split (suc n) s (x ∷ xs) y ys h = let r = valid_split n (step s x) xs y ys h.1 in ((h.0, r.0), r.1)

  pub state_alike : (G : S → Format A) (s : S) (xs : List A) → state_after F step s xs ≡ state_after G step s xs
  state_alike G s [] = refl
  state_alike G s (x ∷ xs) = state_alike G (step s x) xs

  module _ (L : (s : S) → Lawful (F s)) (s : S) (xs : List A) (y : A) (ys : List A) (v : valid_all F step (length xs) s xs) where
    abbrev reached : S
    reached = state_after F step s xs

    abbrev front : List ℕ
    front = encode_all F step s xs

    abbrev rest : List ℕ
    rest = encode_all F step (step reached y) ys

    written : encode_all F step s (xs ++ (y ∷ ys)) ≡ front ++ ((F reached).encode y ++ rest)
    written = encode_append F step s xs (y ∷ ys) ∙ ap (λ (l : List ℕ). front ++ l) (encode_first F step reached y ys)

    -- after the first values, in the next
    pub sequence_stops : {head value : List ℕ} → Stops (F reached) ((F reached).encode y) head value
        → Stops (sequence F step (length (xs ++ (y ∷ ys))) s) (encode_all F step s (xs ++ (y ∷ ys))) (front ++ head) value
    unfolding parse_all
    sequence_stops {head} {value} t =
        record {
          tail = t.tail ++ rest;
          is =
              written
              ∙ ap (λ (l : List ℕ). front ++ (l ++ rest)) t.is
              ∙ simp append_assoc;
          stops = λ r.
              (λ i. parse_all F step (length-append xs (y ∷ ys) i) s (onward r i))
              ∙ parse_split F step (length xs) (suc (length ys)) s (front ++ ((F reached).encode y ++ (rest ++ r)))
              ∙ ap (λ (d : Parse (List A)). and_then d after) ((sequence_laws F step L (length xs) s).there xs ((F reached).encode y ++ (rest ++ r)) v)
              ∙ ap (λ (d : Parse A). mapped (λ zs. xs ++ zs) (and_then d next)) (t.stops (rest ++ r))
              ∙ ap (λ (l : List ℕ). refused (value ++ l)) (sym (append_assoc t.tail rest r));
        }
      where
        onward : (r : List ℕ) → encode_all F step s (xs ++ (y ∷ ys)) ++ r ≡ front ++ ((F reached).encode y ++ (rest ++ r))
        onward r = ap (λ (l : List ℕ). l ++ r) written ∙ simp append_assoc

        next : A → List ℕ → Parse (List A)
        next a r = mapped (λ rest. a ∷ rest) (parse_all F step (length ys) (step reached a) r)

        after : List A → List ℕ → Parse (List A)
        after zs r = mapped (λ us. zs ++ us) (parse_all F step (suc (length ys)) (state_after F step s zs) r)
