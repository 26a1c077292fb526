-- Calls written one after another: the tables that Preview of a run leaves, and the calls of a contour that are left at a point.
use Prim.Native.Nat.{ℕ, zero, suc, ◌+◌, ◌-◌, ◌*◌, ◌≤◌, ◌<◌}
use Rattle.std.specs.Prelude.{◌≡◌, length, set, take, ℤ, Float, Some, slice_get}
use Rattle.std.proofs.Math.Path.{refl, sym, ap}
use Rattle.std.proofs.Common.{◌∙◌, ⊎_elim, not-suc-le-zero, add-zero, suc-add, add-suc, length-append, length-set}
use mathlib.Core.List.{List, [], ◌∷◌, ◌++◌}
use native.Mathlib.Omega.{arith}
use borrow.Author.Tests.{eq-eqb, ne_eqb}
use Rattle.laws.specs.Booleans.{split_eq}
use Rattle.laws.specs.Tables.{overwrite}
use Rattle.preview_floats.specs.declared.Origin.{Origin}
use Rattle.preview.specs.declared.PathCall.{PathCall}
use Rattle.preview.specs.declared.PathCall.TheVariants.{Move, Line, Close}
use Rattle.preview.specs.Calls.{move, line, drawn_call}
use Rattle.preview.specs.Preview.{CallTables, call_tables, kind_of, first_float, second_float, floats_after, filled_with}
use Rattle.preview.specs.Places.{table_point, call_here, lines_from, rest_from, calls_left, put_call, put_calls}

-- ---- one after another

pub put_append : (n : ℕ) (a b : List PathCall) (u : CallTables) → put_calls n (a ++ b) u ≡ put_calls (n + length a) b (put_calls n a u)
unfolding put_calls
put_append n [] b u = ap (λ (k : ℕ). put_calls k b u) (sym (add-zero n))
put_append n (c ∷ a) b u =
    put_append (suc n) a b (put_call n c u)
    ∙ ap (λ (k : ℕ). put_calls k b (put_calls (suc n) a (put_call n c u))) (suc-add n (length a) ∙ sym (add-suc n (length a)))

pub put_one : (n : ℕ) (a : List PathCall) (c : PathCall) (u : CallTables) → put_call (n + length a) c (put_calls n a u) ≡ put_calls n (a ++ (c ∷ [])) u
unfolding put_calls
put_one n a c u = sym (put_append n a (c ∷ []) u)

-- the tables are as long as before
pub record LongAsBefore (u u' : CallTables) : Type 0 where
  pub kinds_long : length u'.kinds ≡ length u.kinds
  pub floats_long : length u'.floats ≡ length u.floats

put_long : (n : ℕ) (c : PathCall) (u : CallTables) → LongAsBefore u (put_call n c u)
put_long n (Move x y) u = record {
  kinds_long = length-set u.kinds n 0;
  floats_long = length-set (set u.floats (2 * n) x) (2 * n + 1) y ∙ length-set u.floats (2 * n) x;
}
put_long n (Line x y) u = record {
  kinds_long = length-set u.kinds n 1;
  floats_long = length-set (set u.floats (2 * n) x) (2 * n + 1) y ∙ length-set u.floats (2 * n) x;
}
put_long n Close u = record { kinds_long = length-set u.kinds n 2; floats_long = refl }

pub puts_long : (n : ℕ) (calls : List PathCall) (u : CallTables) → LongAsBefore u (put_calls n calls u)
unfolding put_calls
puts_long n [] u = record { kinds_long = refl; floats_long = refl }
puts_long n (c ∷ calls) u =
    let a = put_long n c u in
    let b = puts_long (suc n) calls (put_call n c u) in
    record { kinds_long = b.kinds_long ∙ a.kinds_long; floats_long = b.floats_long ∙ a.floats_long }

-- ---- from the first on they are the calls in front

-- an entry of kinds and two of floats before the others
abbrev behind_one : ℕ → Float → Float → CallTables → CallTables
behind_one k a b u = call_tables (k ∷ u.kinds) (a ∷ b ∷ u.floats)

two_later : (n : ℕ) (a b x y : Float) (floats : List Float)
    → set (set (a ∷ b ∷ floats) (2 * suc n) x) (2 * suc n + 1) y ≡ a ∷ b ∷ set (set floats (2 * n) x) (2 * n + 1) y
two_later n a b x y floats =
    let even : 2 * suc n ≡ suc (suc (2 * n)) = omega arith in
    let odd : 2 * suc n + 1 ≡ suc (suc (2 * n + 1)) = omega arith in
    λ i. set (set (a ∷ b ∷ floats) (even i) x) (odd i) y

put_later : (n : ℕ) (c : PathCall) (k : ℕ) (a b : Float) (u : CallTables) → put_call (suc n) c (behind_one k a b u) ≡ behind_one k a b (put_call n c u)
put_later n (Move x y) k a b u = ap (call_tables (k ∷ set u.kinds n 0)) (two_later n a b x y u.floats)
put_later n (Line x y) k a b u = ap (call_tables (k ∷ set u.kinds n 1)) (two_later n a b x y u.floats)
put_later n Close k a b u = refl

puts_later : (n : ℕ) (calls : List PathCall) (k : ℕ) (a b : Float) (u : CallTables)
    → put_calls (suc n) calls (behind_one k a b u) ≡ behind_one k a b (put_calls n calls u)
unfolding put_calls
puts_later n [] k a b u = refl
puts_later n (c ∷ calls) k a b u = ap (put_calls (suc (suc n)) calls) (put_later n c k a b u) ∙ puts_later (suc n) calls k a b (put_call n c u)

put_first : (c : PathCall) (k : ℕ) (a b : Float) (u : CallTables)
    → put_call 0 c (behind_one k a b u) ≡ behind_one (kind_of c) (first_float c a) (second_float c b) u
put_first (Move x y) k a b u = refl
put_first (Line x y) k a b u = refl
put_first Close k a b u = refl

puts_filled : (calls : List PathCall) (kinds : List ℕ) (floats : List Float) → length calls ≤ length kinds → 2 * length calls ≤ length floats
    → put_calls 0 calls (call_tables kinds floats) ≡ filled_with calls (call_tables kinds floats)
unfolding put_calls floats_after overwrite
puts_filled [] kinds floats h l = refl
puts_filled (c ∷ calls) [] floats h l = absurd (not-suc-le-zero h)
puts_filled (c ∷ calls) (k ∷ kinds) [] h l = absurd (omega arith)
puts_filled (c ∷ calls) (k ∷ kinds) (a ∷ []) h l = absurd (omega arith)
puts_filled (c ∷ calls) (k ∷ kinds) (a ∷ b ∷ floats) h l =
    ap (put_calls 1 calls) (put_first c k a b (call_tables kinds floats))
    ∙ puts_later 0 calls (kind_of c) (first_float c a) (second_float c b) (call_tables kinds floats)
    ∙ ap (behind_one (kind_of c) (first_float c a) (second_float c b)) (puts_filled calls kinds floats (omega arith) (omega arith))

pub put_filled : (calls : List PathCall) (u : CallTables) → length calls ≤ length u.kinds → 2 * length calls ≤ length u.floats
    → put_calls 0 calls u ≡ filled_with calls u
put_filled calls u = puts_filled calls u.kinds u.floats

-- ---- the calls of a contour that are left

module _ (o : Origin) (points : List ℤ) where
  pub lines_count : (i n : ℕ) → length (lines_from o points i n) ≡ n
  unfolding lines_from
  lines_count i zero = refl
  lines_count i (suc n) = ap suc (lines_count (suc i) n)

  -- one line more
  pub lines_more : (i n : ℕ) → lines_from o points i n ++ (drawn_call o (line (table_point points (i + n))) ∷ []) ≡ lines_from o points i (suc n)
  unfolding lines_from
  lines_more i zero = ap (λ (k : ℕ). drawn_call o (line (table_point points k)) ∷ []) (add-zero i)
  lines_more i (suc n) =
      ap (λ (l : List PathCall). drawn_call o (line (table_point points i)) ∷ l)
      (ap (λ (k : ℕ). lines_from o points (suc i) n ++ (drawn_call o (line (table_point points k)) ∷ [])) (add-suc i n ∙ sym (suc-add i n)) ∙ lines_more
      (suc i) n)

  pub here_close : (s e i : ℕ) → i ≡ e → call_here o points s e i ≡ Close
  unfolding call_here
  here_close s e i h = rw (eq-eqb i e h)

  pub here_move : (s e i : ℕ) → (i ≡ e → ⊥) → i ≡ s → call_here o points s e i ≡ drawn_call o (move (table_point points i))
  unfolding call_here
  here_move s e i h k = rw (ne_eqb i e h, eq-eqb i s k)

  pub here_line : (s e i : ℕ) → (i ≡ e → ⊥) → (i ≡ s → ⊥) → call_here o points s e i ≡ drawn_call o (line (table_point points i))
  unfolding call_here
  here_line s e i h k = rw (ne_eqb i e h, ne_eqb i s k)

  -- lines and a close, past the start
  lines_here : (s e i n m : ℕ) → s < i → i + n ≡ e → m ≤ n → slice_get (lines_from o points i n ++ (Close ∷ [])) m ≡ Some (call_here o points s e (i + m))
  unfolding lines_from
  lines_here s e i zero zero a b h = ap Some (sym (here_close s e (i + 0) (omega arith)))
  lines_here s e i zero (suc m) a b h = absurd (not-suc-le-zero h)
  lines_here s e i (suc n) zero a b h =
      let first : i + 0 ≡ i = omega arith in
      ap Some (sym (here_line s e (i + 0) (λ q. omega arith) (λ q. omega arith) ∙ ap (λ (k : ℕ). drawn_call o (line (table_point points k))) first))
  lines_here s e i (suc n) (suc m) a b h =
      let next : suc i + m ≡ i + suc m = omega arith in
      lines_here s e (suc i) n m (omega arith) (omega arith) (omega arith) ∙ ap (λ (k : ℕ). Some (call_here o points s e k)) next

  -- ---- what is left at the start, and past it

  pub left_move : (s e i : ℕ) → i ≡ s → calls_left o points s e i ≡ drawn_call o (move (table_point points i)) ∷ rest_from o points (suc i) e
  unfolding calls_left
  left_move s e i q = rw (eq-eqb i s q)

  pub left_rest : (s e i : ℕ) → (i ≡ s → ⊥) → calls_left o points s e i ≡ rest_from o points i e
  unfolding calls_left
  left_rest s e i q = rw (ne_eqb i s q)

  -- the m-th of those that are left at point i
  pub left_here : (s e i m : ℕ) → s < e → s ≤ i → i + m ≤ e → slice_get (calls_left o points s e i) m ≡ Some (call_here o points s e (i + m))
  left_here s e i m full from to = ⊎_elim first later (split_eq i s)
    where
      begun : i ≡ s → (m : ℕ) → i + m ≤ e
          → slice_get (drawn_call o (move (table_point points i)) ∷ rest_from o points (suc i) e) m ≡ Some (call_here o points s e (i + m))
      begun q zero h =
          let at : i + 0 ≡ i = omega arith in
          ap Some (sym (here_move s e (i + 0) (λ z. omega arith) (omega arith) ∙ ap (λ (k : ℕ). drawn_call o (move (table_point points k))) at))
      begun q (suc m) h =
          let next : suc i + m ≡ i + suc m = omega arith in
          lines_here s e (suc i) (e - suc i) m (omega arith) (omega arith) (omega arith) ∙ ap (λ (k : ℕ). Some (call_here o points s e k)) next

      first : i ≡ s → slice_get (calls_left o points s e i) m ≡ Some (call_here o points s e (i + m))
      first q = ap (λ (l : List PathCall). slice_get l m) (left_move s e i q) ∙ begun q m to

      later : (i ≡ s → ⊥) → slice_get (calls_left o points s e i) m ≡ Some (call_here o points s e (i + m))
      later q =
          ap (λ (l : List PathCall). slice_get l m) (left_rest s e i q)
          ∙ lines_here s e i (e - i) m (omega arith) (omega arith) (omega arith)

  -- the first lines, whatever follows
  pub lines_first : (i n m : ℕ) (rest : List PathCall) → m ≤ n → take m (lines_from o points i n ++ rest) ≡ lines_from o points i m
  unfolding lines_from
  lines_first i n zero rest h = refl
  lines_first i zero (suc m) rest h = absurd (not-suc-le-zero h)
  lines_first i (suc n) (suc m) rest h = ap (λ (l : List PathCall). drawn_call o (line (table_point points i)) ∷ l) (lines_first (suc i) n m rest (omega arith))

  rest_count : (i e : ℕ) → length (rest_from o points i e) ≡ suc (e - i)
  rest_count i e = omega (arith, length-append (lines_from o points i (e - i)) (Close ∷ []), lines_count i (e - i))

  pub left_count : (s e i : ℕ) → s < e → i ≤ e → length (calls_left o points s e i) ≡ suc (e - i)
  left_count s e i full within =
      ⊎_elim (λ q. omega (arith, ap length (left_move s e i q), rest_count (suc i) e)) (λ q. ap length (left_rest s e i q) ∙ rest_count i e) (split_eq i s)
