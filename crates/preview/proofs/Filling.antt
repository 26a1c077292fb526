-- What `fill_rest` and `fill_contour` write.
use Prim.Native.Nat.{ℕ, suc, ◌+◌, ◌-◌, ◌*◌, ◌≤◌, ◌<◌, min}
use mathlib.Core.Path.{◌≡◌, sym, ap, ◌∙◌}
use mathlib.Core.List.{List, [], ◌∷◌}
use native.Mathlib.Omega.{arith}
use lib.ListN.{length, get_or, set, take, length-append}
use lib.Seq.{take_all}
use lib.IntN.{ℤ, pos}
use lib.Ieee.{Float}
use Rattle.polygons.specs.Flat.{point}
use Rattle.preview_floats.specs.declared.Origin.{Origin}
use Rattle.preview_floats.specs.declared.DrawnPoint.{DrawnPoint}
use Rattle.preview_floats.specs.DrawnPoints.{drawn_at}
use Rattle.preview.specs.declared.PathCall.{PathCall}
use Rattle.preview.specs.declared.PathCall.TheVariants.{Move, Close}
use Rattle.preview.specs.Calls.{move, drawn_call}
use Rattle.preview.specs.Preview.{CallTables, call_tables}
use Rattle.preview.specs.Places.{table_point, lines_from, rest_from, calls_left, put_call, put_calls, Room, Points}
use Rattle.preview.specs.RunLaws.{put_one, lines_count, lines_first, left_move, left_rest}

-- ---- fill_rest

module _ {points : List ℤ} {o : Origin} {e i n room : ℕ} {u₀ : CallTables} (r : Room u₀ n room) (p : Points points o e) (within : i ≤ e) where
  abbrev rest : List PathCall
  rest = rest_from o points i e

  module _ {last : ℕ} (last_is : last ≡ min (n + (e - i)) room) where
    module _ {u : CallTables} (u-is : u ≡ put_calls n (lines_from o points i (last - n)) u₀) where
      -- there is room for the close
      pub rest_closed : last < room → call_tables (set u.kinds last 2) u.floats ≡ put_calls n (take (room - n) rest) u₀
      rest_closed more =
          let lines = lines_from o points i (e - i) in
          let all : last - n ≡ e - i = omega (arith, r.order) in
          let so_many : last ≡ n + length lines = omega (arith, r.order, lines_count o points i (e - i)) in
          let long : length rest ≤ room - n = omega (arith, r.order, lines_count o points i (e - i), length-append lines (Close ∷ [])) in
          (λ t. put_call (so_many t) Close (u-is t))
          ∙ ap (λ (m : ℕ). put_call (n + length lines) Close (put_calls n (lines_from o points i m) u₀)) all
          ∙ put_one n lines Close u₀
          ∙ ap (λ (l : List PathCall). put_calls n l u₀) (sym (take_all (room - n) rest long))

      pub rest_full : room ≤ last → u ≡ put_calls n (take (room - n) rest) u₀
      rest_full full =
          let all : last - n ≡ room - n = omega (arith, r.order) in
          u-is ∙ ap (λ (m : ℕ). put_calls n (lines_from o points i m) u₀) all
          ∙ ap (λ (l : List PathCall). put_calls n l u₀) (sym (lines_first o points i (e - i) (room - n) (Close ∷ []) (omega (arith, r.order))))

    pub closed_at : last < room → last + 1 ≡ n + min (room - n) (suc (e - i))
    closed_at more = omega (arith, r.order)

    pub full_at : room ≤ last → last ≡ n + min (room - n) (suc (e - i))
    full_at full = omega (arith, r.order)

-- ---- fill_contour

module _ {points : List ℤ} {o : Origin} {s e i n room : ℕ} {u₀ : CallTables} (r : Room u₀ n room) (p : Points points o e) (full : s < e) (within : i ≤ e)
    (more : n < room) where
  -- at its start: the two numbers of the point
  module _ (first : i ≡ s) where
    pub start_there : 2 * i + 1 < length points
    start_there = omega (arith, p.there)

    -- the move
    module _ {x y : ℤ} {q : DrawnPoint} {floats : List Float} (x_is : x ≡ get_or points (2 * i) (pos 0)) (y_is : y ≡ get_or points (2 * i + 1) (pos 0))
        (q_is : q ≡ drawn_at o (point x y)) (floats-are : floats ≡ set (set u₀.floats (2 * n) q.x) (2 * n + 1) q.y) where
      abbrev moved : CallTables
      moved = call_tables (set u₀.kinds n 0) floats

      moved_is : moved ≡ put_call n (drawn_call o (move (table_point points i))) u₀
      moved_is =
          ap (call_tables (set u₀.kinds n 0)) floats-are
          ∙ ap (λ (d : DrawnPoint). put_call n (Move d.x d.y) u₀) (q_is ∙ (λ t. drawn_at o (point (x_is t) (y_is t))))

      pub moved_left : {u : CallTables} → u ≡ put_calls (n + 1) (take (room - (n + 1)) (rest_from o points (i + 1) e)) moved
          → u ≡ put_calls n (take (room - n) (calls_left o points s e i)) u₀
      unfolding put_calls
      moved_left is =
          let next : i + 1 ≡ suc i = omega arith in
          let one : n + 1 ≡ suc n = omega arith in
          let left : suc (room - suc n) ≡ room - n = omega arith in
          is
          ∙ (λ t. put_calls (one t) (take (room - one t) (rest_from o points (next t) e)) (moved_is t))
          ∙ (λ t. put_calls n (take (left t) (sym (left_move o points s e i first) t)) u₀)

    pub moved_at : {m : ℕ} → m ≡ n + 1 + min (room - (n + 1)) (suc (e - (i + 1))) → m ≡ n + min (room - n) (suc (e - i))
    moved_at is = omega arith

  -- past its start
  pub later_left : (i ≡ s → ⊥) → {u : CallTables} → u ≡ put_calls n (take (room - n) (rest_from o points i e)) u₀
      → u ≡ put_calls n (take (room - n) (calls_left o points s e i)) u₀
  later_left later is = is ∙ ap (λ (l : List PathCall). put_calls n (take (room - n) l) u₀) (sym (left_rest o points s e i later))
