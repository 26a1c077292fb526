-- The loop of `fill_lines`.
use Prim.Native.Nat.{ℕ, suc, ◌+◌, ◌-◌, ◌*◌, ◌≤◌, ◌<◌}
use mathlib.Core.Path.{◌≡◌, ap, ◌∙◌}
use mathlib.Core.List.{List}
use native.Mathlib.Omega.{arith}
use lib.ListN.{length, set}
use lib.IntN.{ℤ, nat_abs}
use lib.Ieee.{Float}
use Rattle.mesh.specs.Corners.{largest}
use Rattle.polygons.specs.Flat.{point}
use Rattle.preview_floats.specs.declared.Origin.{Origin}
use Rattle.preview_floats.specs.declared.DrawnPoint.{DrawnPoint}
use Rattle.preview_floats.specs.DrawnPoints.{drawn_at}
use Rattle.preview.specs.declared.PathCall.{PathCall}
use Rattle.preview.specs.declared.PathCall.TheVariants.{Line}
use Rattle.preview.specs.Calls.{line, drawn_call}
use Rattle.preview.specs.Preview.{CallTables, call_tables}
use Rattle.preview.specs.Places.{table_point, lines_from, put_call, put_calls, Room, Points}
use Rattle.preview.specs.RunLaws.{put_one, lines_count, lines_more}

-- calls n up to k are lines to the points from i on
pub record Lining (points : List ℤ) (o : Origin) (i n last : ℕ) (u₀ u : CallTables) (k : ℕ) : Type 0 where
  pub room : Room u₀ n last
  pub drawn : Points points o (i + (last - n))
  pub from : n ≤ k
  pub upto : k ≤ last
  pub tables : u ≡ put_calls n (lines_from o points i (k - n)) u₀

module _ {points : List ℤ} {o : Origin} {i n last : ℕ} {u₀ : CallTables} where
  pub lining_start : Room u₀ n last → Points points o (i + (last - n)) → Lining points o i n last u₀ u₀ n
  unfolding lines_from put_calls
  lining_start room drawn =
      let none : 0 ≡ n - n = omega arith in
      record {
        room = room;
        drawn = drawn;
        from = omega arith;
        upto = room.order;
        tables = ap (λ (m : ℕ). put_calls n (lines_from o points i m) u₀) none;
      }

  module _ {u : CallTables} {k : ℕ} (v : Lining points o i n last u₀ u k) where
    module _ (more : k < last) where
      -- the next point
      abbrev here : ℕ
      here = i + (k - n)

      -- its two numbers
      pub lining_there : 2 * here + 1 < length points
      lining_there = omega (arith, v.drawn.there, v.from)

      pub lining_small : (nat_abs (table_point points here).x ≤ largest) × (nat_abs (table_point points here).y ≤ largest)
      lining_small = (v.drawn.small (2 * here) (omega (arith, lining_there)), v.drawn.small (2 * here + 1) lining_there)

      -- and the next call
      module _ {x y : ℤ} {p : DrawnPoint} {floats' : List Float} (x_is : x ≡ (table_point points here).x) (y_is : y ≡ (table_point points here).y)
          (p_is : p ≡ drawn_at o (point x y)) (floats-are : floats' ≡ set (set u.floats (2 * k) p.x) (2 * k + 1) p.y) where
        drawn_here : p ≡ drawn_at o (table_point points here)
        drawn_here = p_is ∙ (λ t. drawn_at o (point (x_is t) (y_is t)))

        put_here : call_tables (set u.kinds k 1) floats' ≡ put_call k (drawn_call o (line (table_point points here))) u
        put_here =
            ap (call_tables (set u.kinds k 1)) floats-are
            ∙ ap (λ (q : DrawnPoint). put_call k (Line q.x q.y) u) drawn_here

        pub lining_step : Lining points o i n last u₀ (call_tables (set u.kinds k 1) floats') (k + 1)
        lining_step =
            let so_many : k ≡ n + length (lines_from o points i (k - n)) = omega (arith, lines_count o points i (k - n), v.from) in
            let one_more_lem : suc (k - n) ≡ k + 1 - n = omega (arith, v.from) in
            record {
              room = v.room;
              drawn = v.drawn;
              from = omega (arith, v.from);
              upto = omega arith;
              tables =
                  put_here
                  ∙ (λ t. put_call (so_many t) (drawn_call o (line (table_point points here))) (v.tables t))
                  ∙ put_one n (lines_from o points i (k - n)) (drawn_call o (line (table_point points here))) u₀
                  ∙ ap (λ (l : List PathCall). put_calls n l u₀) (lines_more o points i (k - n))
                  ∙ ap (λ (m : ℕ). put_calls n (lines_from o points i m) u₀) one_more_lem;
            }

    pub lining_end : last ≤ k → u ≡ put_calls n (lines_from o points i (last - n)) u₀
    lining_end h =
        let all : k - n ≡ last - n = omega (arith, v.upto) in
        v.tables ∙ ap (λ (m : ℕ). put_calls n (lines_from o points i m) u₀) all
