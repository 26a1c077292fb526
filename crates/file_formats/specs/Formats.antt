-- Formats of bytes: which values may be written, how each is written,
-- and how it is read back, with the place of 13 (READ-6 to READ-8).
-- Parsing works on what is left of a file and carries no position: a refusal holds what is left from the refused value on, so its place is the file's length
-- less that.
use Rattle.std.specs.Prelude.{ℕ, zero, suc, ◌-◌, ◌<◌, Bool, cond, List, [], ◌∷◌, ◌++◌, T, length, get_or}
pub use Rattle.polygons.specs.Flat.{Each}

-- a list of bytes
abbrev pub Bytes : List ℕ → Type 0
Bytes l = (i : ℕ) → i < length l → get_or l i 0 < 256

-- a value and what is left after it, or what is left from the refused value on
pub data Parse (A : Type 0) : Type 0 where
  parsed : A → List ℕ → Parse A
  refused : List ℕ → Parse A

-- which values may be written, the bytes of a value, and the value at the front of some bytes
pub record Format (A : Type 0) : Type 1 where
  pub valid : A → Type 0
  pub encode : A → List ℕ
  pub parse : List ℕ → Parse A

-- ---- parsing

-- the next value, after this one
abbrev pub and_then : {A B : Type 0} → Parse A → (A → List ℕ → Parse B) → Parse B
and_then (parsed a r) f = f a r
and_then (refused r) f = refused r

-- another value in its stead
abbrev pub mapped : {A B : Type 0} → (A → B) → Parse A → Parse B
mapped f (parsed a r) = parsed (f a) r
mapped f (refused r) = refused r

-- the value if it passes the test; whatever is refused is refused from the first byte of s on (READ-6)
abbrev pub tested : {A : Type 0} → (A → Bool) → List ℕ → Parse A → Parse A
tested t s (parsed a r) = cond (t a) (parsed a r) (refused s)
tested t s (refused r) = refused s

-- the value if it passes the test, else refused from the first byte of s on; what is refused already stays refused where it is
abbrev pub obeyed : {A : Type 0} → (A → Bool) → List ℕ → Parse A → Parse A
obeyed t s (parsed a r) = cond (t a) (parsed a r) (refused s)
obeyed t s (refused r) = refused r

-- ---- formats from others

-- a value that stands for another one
abbrev pub through : {A B : Type 0} → (A → B) → (B → A) → Format A → Format B
through f g F =
    record {
      valid = λ b. F.valid (g b);
      encode = λ b. F.encode (g b);
      parse = λ l. mapped f (F.parse l);
    }

-- a value that obeys a rule
abbrev pub ruled : {A : Type 0} → (A → Bool) → Format A → Format A
ruled t F =
    record {
      valid = λ a. F.valid a × T (t a);
      encode = F.encode;
      parse = λ l. tested t l (F.parse l);
    }

-- a value that obeys one rule more: where it breaks that one it is refused at its first byte, all else where it was
abbrev pub obeying : {A : Type 0} → (A → Bool) → Format A → Format A
obeying t F =
    record {
      valid = λ a. F.valid a × T (t a);
      encode = F.encode;
      parse = λ l. obeyed t l (F.parse l);
    }

-- two values, where the second's format may depend on the first
abbrev pub pair : {A B : Type 0} → Format A → (A → Format B) → Format (A × B)
pair F G =
    record {
      valid = λ p. F.valid p.0 × (G p.0).valid p.1;
      encode = λ p. F.encode p.0 ++ (G p.0).encode p.1;
      parse = λ l. and_then (F.parse l) (λ a r. mapped (λ b. (a, b)) ((G a).parse r));
    }

-- a value after a key of it, such as a list after its length
abbrev pub headed : {K A : Type 0} → (A → K) → Format K → (K → Format A) → Format A
headed key F G =
    record {
      valid = λ a. F.valid (key a) × (G (key a)).valid a;
      encode = λ a. F.encode (key a) ++ (G (key a)).encode a;
      parse = λ l. and_then (F.parse l) (λ k r. (G k).parse r);
    }

-- n values in turn, where each changes the state that the next one's format depends on
module _ {S A : Type 0} (F : S → Format A) (step : S → A → S) where
  -- as many as there should be, each valid in its turn
  abbrev pub valid_all : ℕ → S → List A → Type 0
  valid_all zero s [] = Unit {0}
  valid_all zero s (a ∷ l) = ⊥
  valid_all (suc n) s [] = ⊥
  valid_all (suc n) s (a ∷ l) = (F s).valid a × valid_all n (step s a) l

  -- one after another
  unfoldable pub encode_all : S → List A → List ℕ
  encode_all s [] = []
  encode_all s (a ∷ l) = (F s).encode a ++ encode_all (step s a) l

  -- n of them from the front, and what is left
  unfoldable pub parse_all : ℕ → S → List ℕ → Parse (List A)
  parse_all zero s l = parsed [] l
  parse_all (suc n) s l = and_then ((F s).parse l) (λ a r. mapped (λ rest. a ∷ rest) (parse_all n (step s a) r))

  -- the state after some values
  abbrev pub state_after : S → List A → S
  state_after s [] = s
  state_after s (a ∷ l) = state_after (step s a) l

  -- n values, the first in the state s
  abbrev pub sequence : ℕ → S → Format (List A)
  sequence n s = record { valid = valid_all n s; encode = encode_all s; parse = parse_all n s }

  -- a list after its length
  abbrev pub counted : Format ℕ → S → Format (List A)
  counted C s = headed length C (λ n. sequence n s)

-- values that do not depend on each other
abbrev pub alike : {A : Type 0} → Format A → Unit {0} → Format A
alike F s = F

-- and change no state
abbrev pub stay : {A : Type 0} → Unit {0} → A → Unit {0}
stay s a = s

-- ---- files

-- what a file holds, or refusal 13 with its place
pub data Decoded (A : Type 0) : Type 0 where
  holds : A → Decoded A
  broken : ℕ → Decoded A

-- nothing may be left over (READ-8)
abbrev pub finished : {A : Type 0} → Parse A → Parse A
finished (parsed a []) = parsed a []
finished (parsed a (b ∷ r)) = refused (b ∷ r)
finished (refused r) = refused r

-- in a file of n bytes, the place of a refusal (READ-6): n where nothing is left (READ-7)
abbrev pub decoded_in : {A : Type 0} → ℕ → Parse A → Decoded A
decoded_in n (parsed a r) = holds a
decoded_in n (refused r) = broken (n - length r)

-- a whole file in a format (READ-1)
abbrev pub decode : {A : Type 0} → Format A → List ℕ → Decoded A
decode F file = decoded_in (length file) (finished (F.parse file))
