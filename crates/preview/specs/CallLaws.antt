-- Which call has which number, and how many there are (PREVIEW-1, PREVIEW-5).
use Rattle.std.specs.Prelude.{ℕ, zero, suc, ◌+◌, ◌-◌, ◌≤◌, ◌<◌, ◌≡◌, refl, cond, eqb, length, get_or, Some, slice_get}
use Rattle.std.proofs.Common.{sym, ap, ◌∙◌, ⊎_elim, arith, not-suc-le-zero, length-append, get_or-append-add}
use mathlib.Core.List.{List, [], ◌∷◌, ◌++◌, map, flatten, append_assoc}
use borrow.Author.Tests.{eq-eqb, ne_eqb}
use Rattle.std.proofs.Math.ListN.{get_or-append}
use Rattle.std.proofs.lemmas.List.{length-map}
use Rattle.laws.specs.EntryLaws.{entry_front, entry_behind}
use Rattle.laws.specs.Booleans.{split_lt, split_eq}
use Rattle.polygons.specs.Flat.{Point, no_point, Each, point_total, ends_from, end_before}
use Rattle.polygons.proofs.FlatLaws.{before_later}
use Rattle.preview.specs.Calls.{Stroke, move, line, close, contour_strokes, strokes_of}

-- ---- how many

contour_count : (c : List Point) → length (contour_strokes c) ≡ suc (length c)
unfolding contour_strokes
contour_count [] = refl
contour_count (p ∷ c) = omega (arith, length-append (map line c) (close ∷ []), length-map c line)

-- a call for each point and one for each contour
pub strokes_count : (cs : List (List Point)) → length (strokes_of cs) ≡ point_total cs + length cs
unfolding strokes_of flatten
strokes_count [] = refl
strokes_count (c ∷ cs) = omega (arith, length-append (contour_strokes c) (strokes_of cs), contour_count c, strokes_count cs)

-- ---- the strokes of one contour, and what follows them

-- the stroke at point i, or at the end e, of a contour from s up to e
unfoldable pub stroke_at : List Point → ℕ → ℕ → ℕ → Stroke
stroke_at ps s e i = cond (eqb i e) close (cond (eqb i s) (move (get_or ps i no_point)) (line (get_or ps i no_point)))

module _ (ps : List Point) (s e i : ℕ) where
  pub stroke_close : i ≡ e → stroke_at ps s e i ≡ close
  unfolding stroke_at
  stroke_close h = rw (eq-eqb i e h)

  pub stroke_move : (i ≡ e → ⊥) → i ≡ s → stroke_at ps s e i ≡ move (get_or ps i no_point)
  unfolding stroke_at
  stroke_move h k = rw (ne_eqb i e h, eq-eqb i s k)

  pub stroke_line : (i ≡ e → ⊥) → (i ≡ s → ⊥) → stroke_at ps s e i ≡ line (get_or ps i no_point)
  unfolding stroke_at
  stroke_line h k = rw (ne_eqb i e h, ne_eqb i s k)

contour_at_lem : (c : List Point) (rest : List Stroke) (k : ℕ) → 0 < length c → k ≤ length c
    → slice_get (contour_strokes c ++ rest) k ≡ Some (stroke_at c 0 (length c) k)
unfolding contour_strokes
contour_at_lem [] rest k h l = absurd (not-suc-le-zero h)
contour_at_lem (p ∷ c) rest zero h l = ap Some (sym (stroke_move (p ∷ c) 0 (suc (length c)) 0 (λ e. omega arith) refl))
contour_at_lem (p ∷ c) rest (suc k) h l =
    ap (λ (r : List Stroke). slice_get r k) (append_assoc (map line c) (close ∷ []) rest) ∙ ⊎_elim inner last (split_lt k (length c))
  where
    inner : k < length c → slice_get (map line c ++ (close ∷ rest)) k ≡ Some (stroke_at (p ∷ c) 0 (suc (length c)) (suc k))
    inner q =
        entry_front (map line c) (close ∷ rest) close k (omega (arith, length-map c line))
        ∙ ap Some (lines_at c k q ∙ sym (stroke_line (p ∷ c) 0 (suc (length c)) (suc k) (λ e. omega arith) (λ e. omega arith)))
      where
        lines_at : (c : List Point) (k : ℕ) → k < length c → get_or (map line c) k close ≡ line (get_or c k no_point)
        lines_at [] k h = absurd (not-suc-le-zero h)
        lines_at (p ∷ c) zero h = refl
        lines_at (p ∷ c) (suc k) h = lines_at c k (omega arith)

    last : length c ≤ k → slice_get (map line c ++ (close ∷ rest)) k ≡ Some (stroke_at (p ∷ c) 0 (suc (length c)) (suc k))
    last q =
        let n : k ≡ length (map line c) + 0 = omega (arith, length-map c line) in
        ap (slice_get (map line c ++ (close ∷ rest))) n
        ∙ entry_behind (map line c) (close ∷ rest) 0
        ∙ ap Some (sym (stroke_close (p ∷ c) 0 (suc (length c)) (suc k) (omega arith)))

contour_past : (c : List Point) (rest : List Stroke) (k : ℕ) → slice_get (contour_strokes c ++ rest) (suc (length c) + k) ≡ slice_get rest k
contour_past c rest k =
    ap (λ (n : ℕ). slice_get (contour_strokes c ++ rest) (n + k)) (sym (contour_count c))
    ∙ entry_behind (contour_strokes c) rest k

-- ---- the strokes of a layer, by the points of all contours

module _ (front c rest : List Point) (k : ℕ) where
  abbrev ps : List Point
  ps = front ++ (c ++ rest)

  abbrev start : ℕ
  start = length front

  at_end : k ≡ length c → stroke_at c 0 (length c) k ≡ stroke_at ps start (start + length c) (start + k)
  at_end e = stroke_close c 0 (length c) k e ∙ sym (stroke_close ps start (start + length c) (start + k) (omega arith))

  module _ (n : k ≡ length c → ⊥) (h : k ≤ length c) where
    point_is : get_or c k no_point ≡ get_or ps (start + k) no_point
    point_is =
        sym (get_or-append-add front (c ++ rest) k no_point
        ∙ get_or-append c rest no_point k (⊎_elim (λ l. l) (λ l. absurd (n (omega arith))) (split_lt k (length c))))

    inside : start + k ≡ start + length c → ⊥
    inside e = n (omega arith)

    at_first : k ≡ 0 → stroke_at c 0 (length c) k ≡ stroke_at ps start (start + length c) (start + k)
    at_first z = stroke_move c 0 (length c) k n z ∙ ap move point_is ∙ sym (stroke_move ps start (start + length c) (start + k) inside (omega arith))

    at_later : (k ≡ 0 → ⊥) → stroke_at c 0 (length c) k ≡ stroke_at ps start (start + length c) (start + k)
    at_later z =
        stroke_line c 0 (length c) k n z ∙ ap line point_is ∙ sym (stroke_line ps start (start + length c) (start + k) inside (λ e. z (omega arith)))

  shifted : k ≤ length c → stroke_at c 0 (length c) k ≡ stroke_at ps start (start + length c) (start + k)
  shifted h = ⊎_elim at_end (λ n. ⊎_elim (at_first n h) (at_later n h) (split_eq k 0)) (split_eq k (length c))

-- no contour begins before the first
before_least : (a : ℕ) (cs : List (List Point)) (j : ℕ) → j ≤ length cs → a ≤ end_before a (ends_from a cs) j
unfolding ends_from end_before
before_least a cs zero h = omega arith
before_least a [] (suc j) h = absurd (not-suc-le-zero h)
before_least a (c ∷ cs) (suc j) h =
    let later = before_later a (a + length c) (ends_from (a + length c) cs) j in
    omega (arith, later, before_least (a + length c) cs j (omega arith))

-- a number k that lies from the start of contour j up to its end, counted with the j closes before it; the points of `front`, so many, came before
pub strokes_at : (front : List Point) (a : ℕ) (cs : List (List Point)) (j k : ℕ) → a ≡ length front → Each (λ (c : List Point). 0 < length c) cs → j < length cs
    → end_before a (ends_from a cs) j + j ≤ a + k → a + k ≤ get_or (ends_from a cs) j 0 + j
    → slice_get (strokes_of cs) k ≡ Some (stroke_at (front ++ flatten cs) (end_before a (ends_from a cs) j) (get_or (ends_from a cs) j 0) (a + k - j))
unfolding strokes_of flatten ends_from end_before
strokes_at front a [] j k is e h from to = absurd (not-suc-le-zero h)
strokes_at front a (c ∷ cs) zero k is e h from to =
    let n : length front + k ≡ a + k - 0 = omega arith in
    contour_at_lem c (strokes_of cs) k e.0 (omega arith)
    ∙ ap Some (shifted front c (flatten cs) k (omega arith))
    ∙ (λ i. Some (stroke_at (front ++ (c ++ flatten cs)) (sym is i) (sym is i + length c) (n i)))
strokes_at front a (c ∷ cs) (suc j) k is e h from to =
    let left = k - suc (length c) in
    let ends = ends_from (a + length c) cs in
    let later : end_before (a + length c) ends j ≡ get_or ((a + length c) ∷ ends) j 0 = before_later a (a + length c) ends j in
    let least = before_least (a + length c) cs j (omega arith) in
    let n : k ≡ suc (length c) + left = omega arith in
    let m : a + length c + left - j ≡ a + k - suc j = omega arith in
    let so_far : a + length c ≡ length (front ++ c) = omega (arith, length-append front c) in
    ap (slice_get (contour_strokes c ++ strokes_of cs)) n
    ∙ contour_past c (strokes_of cs) left
    ∙ strokes_at (front ++ c) (a + length c) cs j left so_far e.1 (omega arith) (omega arith) (omega arith)
    ∙ (λ i. Some (stroke_at (append_assoc front c (flatten cs) i) (later i) (get_or ends j 0) (m i)))
