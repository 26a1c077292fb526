-- The loop of `fill_calls`, contour by contour.
use Prim.Native.Nat.{ℕ, suc, ◌+◌, ◌-◌, ◌/◌, ◌≤◌, ◌<◌, min}
use mathlib.Core.Path.{◌≡◌, refl, sym, ap, ◌∙◌, subst}
use mathlib.Core.List.{List}
use mathlib.Core.Logic.{⊎_elim}
use native.Mathlib.Omega.{arith}
use native.Mathlib.Numerals.{add-one}
use lib.ListN.{length, get_or, take, drop, length-take, length-drop}
use lib.Seq.{take_all, take-take, take-add, drop-drop}
use Rattle.std.specs.Prelude.{Some, slice_get}
use Rattle.laws.specs.Booleans.{split_lt}
use Rattle.laws.specs.EntryLaws.{part_entries}
use Rattle.polygons.specs.Flat.{FlatLayer, end_before}
use Rattle.polygons.proofs.FlatLaws.{before_all, end_rises}
use Rattle.preview_floats.specs.declared.Origin.{Origin}
use Rattle.preview.specs.declared.PathCall.{PathCall}
use Rattle.preview.specs.Calls.{calls_of}
use Rattle.preview.specs.Preview.{CallTables, filled_count, filled_with}
use Rattle.preview.specs.Places.{Belongs, calls_left, put_calls, Room, Points, call_here}
use Rattle.preview.specs.PlaceLaws.{calls_count, call_here_lem}
use Rattle.preview.specs.PreviewLaws.{DrawTested}
use Rattle.preview.specs.RunLaws.{put_append, puts_long, put_filled, left_here, left_count}

module _ (t : FlatLayer) (o : Origin) (number : ℕ) (u₀ : CallTables) where
  abbrev calls : List PathCall
  calls = calls_of o t

  abbrev due : List PathCall
  due = drop number calls

  -- n calls are filled, and contour j has the next
  pub record CallsFilled (room : ℕ) (u : CallTables) (n j : ℕ) : Type 0 where
    pub space : room ≡ min (length u₀.kinds) (length u₀.floats / 2)
    pub upto : n ≤ room
    pub left : n ≤ length due
    pub tables : u ≡ put_calls 0 (take n due) u₀
    pub belongs : n < room → Belongs t.ends (number + n) j

  pub running_start : {room j : ℕ} → room ≡ min (length u₀.kinds) (length u₀.floats / 2) → Belongs t.ends number j → CallsFilled room u₀ 0 j
  unfolding put_calls
  running_start {j = j} e b =
      let k : number ≡ number + 0 = omega arith in
      record { space = e; upto = omega arith; left = omega arith; tables = refl; belongs = λ h. subst (λ (i : ℕ). Belongs t.ends i j) k b }

  module _ {room : ℕ} {u : CallTables} {n j : ℕ} (v : CallsFilled room u n j) where
    so_many : length (take n due) ≡ n
    so_many = omega (arith, length-take n due, v.left)

    pub running_long : (length u.kinds ≡ length u₀.kinds) × (length u.floats ≡ length u₀.floats)
    running_long =
        let l = puts_long 0 (take n due) u₀ in
        (ap (λ (w : CallTables). length w.kinds) v.tables ∙ l.kinds_long, ap (λ (w : CallTables). length w.floats) v.tables ∙ l.floats_long)

    -- where it ends
    pub running_tables : u ≡ filled_with (take n due) u₀
    running_tables = v.tables ∙ put_filled (take n due) u₀ (omega (arith, so_many, v.space, v.upto)) (omega (arith, so_many, v.space, v.upto))

    pub running_full : room ≤ n → n ≡ filled_count calls number u₀
    unfolding filled_count
    running_full h = omega (arith, v.upto, v.left, v.space, length-drop number calls)

    module _ (d : DrawTested t o) (more : n < room) where
      abbrev own : Belongs t.ends (number + n) j
      own = v.belongs more

      pub running_past : length t.ends ≤ j → n ≡ filled_count calls number u₀
      unfolding filled_count
      running_past h =
          let last : j ≡ length t.ends = omega (arith, own.upto) in
          let from : end_before 0 t.ends (length t.ends) + length t.ends ≤ number + n =
          subst (λ (i : ℕ). end_before 0 t.ends i + i ≤ number + n) last own.from in
          omega (arith, v.left, v.space, length-drop number calls, from, before_all 0 t.ends, d.layer.tested.last, calls_count o t d.layer.tested)

      module _ (there : j < length t.ends) {s e i : ℕ} (s-is : s ≡ end_before 0 t.ends j) (e_is : e ≡ get_or t.ends j 0) (i-is : i ≡ number + n - j) where
        rises : (end_before 0 t.ends j + 2 ≤ get_or t.ends j 0) × (get_or t.ends j 0 ≤ length t.points / 2)
        rises = let r = end_rises 0 t.ends d.layer.tested.rising j there in (r.0, omega (arith, r.1, d.layer.tested.last))

        -- what `fill_contour` asks
        pub next_within : (s < e) × (i ≤ e) × (n < room)
        next_within = (omega (arith, rises.0), omega (arith, own.to there), more)

        pub next_room : Room u n room
        next_room =
            record {
              order = v.upto;
              kinds_room = omega (arith, v.space, running_long.0);
              floats_room = omega (arith, v.space, running_long.1);
            }

        pub next_points : Points t.points o e
        next_points = record { there = omega (arith, rises.1); small = d.layer.small; origin = d.origin }

        abbrev rest : List PathCall
        rest = calls_left o t.points s e i

        rest_count : length rest ≡ suc (e - i)
        rest_count = left_count o t.points s e i next_within.0 next_within.1

        -- the calls of the contour that are left are the next of all
        rest_is : take (length rest) (drop (number + n) calls) ≡ rest
        rest_is = part_entries calls rest (number + n) at
          where
            at : (m : ℕ) → m < length rest → slice_get calls (number + n + m) ≡ slice_get rest m
            at m l =
                let within : i + m ≤ e = omega (arith, rest_count, next_within.1) in
                let here : number + n + m - j ≡ i + m = omega (arith, own.from) in
                let belongs : Belongs t.ends (number + n + m) j =
                record { upto = own.upto; from = omega (arith, own.from); to = λ h. omega (arith, own.from) } in
                call_here_lem o t d.layer.tested (number + n + m) j belongs there
                ∙ (λ x. Some (call_here o t.points (sym s-is x) (sym e_is x) (here x)))
                ∙ sym (left_here o t.points s e i m next_within.0 (omega (arith, own.from)) within)

        -- so many of them are filled
        module _ {n' : ℕ} (n_is : n' ≡ n + min (room - n) (suc (e - i))) where
          abbrev filled : ℕ
          filled = min (room - n) (suc (e - i))

          rest_left : length rest ≤ length (drop (number + n) calls)
          rest_left = omega (arith, ap length rest_is, length-take (length rest) (drop (number + n) calls))

          taken : take (room - n) rest ≡ take filled (drop n due)
          taken = ⊎_elim short all (split_lt (room - n) (length rest)) ∙ ap (take filled) (sym (drop-drop n number calls))
            where
              short : room - n < length rest → take (room - n) rest ≡ take filled (drop (number + n) calls)
              short h =
                  let m : room - n ≡ filled = omega (arith, rest_count) in
                  ap (take (room - n)) (sym rest_is)
                  ∙ take-take (room - n) (length rest) (drop (number + n) calls) (omega arith)
                  ∙ ap (λ (k : ℕ). take k (drop (number + n) calls)) m

              all : length rest ≤ room - n → take (room - n) rest ≡ take filled (drop (number + n) calls)
              all h =
                  let m : length rest ≡ filled = omega (arith, rest_count) in
                  take_all (room - n) rest h ∙ sym rest_is ∙ ap (λ (k : ℕ). take k (drop (number + n) calls)) m

          next_belongs : n' < room → Belongs t.ends (number + n') (j + 1)
          unfolding end_before
          next_belongs h =
              let at : number + n' ≡ get_or t.ends j 0 + suc j = omega (arith, own.from, own.to there) in
              subst (λ (k : ℕ). Belongs t.ends (number + n') k) (sym (add-one j))
              (record {
                upto = there;
                from = omega (arith, at);
                to = λ q. omega (arith, at, (end_rises 0 t.ends d.layer.tested.rising (suc j) q).0);
              })

          pub running_next : {u' : CallTables} → u' ≡ put_calls n (take (room - n) rest) u → CallsFilled room u' n' (j + 1)
          running_next is =
              let here : n ≡ 0 + length (take n due) = omega (arith, so_many) in
              record {
                space = v.space;
                upto = omega (arith, v.upto);
                left = omega (arith, rest_left, rest_count, v.left, length-drop number calls, length-drop (number + n) calls);
                tables =
                    is
                    ∙ (λ x. put_calls n (taken x) (v.tables x))
                    ∙ ap (λ (k : ℕ). put_calls k (take filled (drop n due)) (put_calls 0 (take n due) u₀)) here
                    ∙ sym (put_append 0 (take n due) (take filled (drop n due)) u₀)
                    ∙ ap (λ (l : List PathCall). put_calls 0 l u₀) (sym (take-add n filled due) ∙ ap (λ (k : ℕ). take k due) (sym n_is));
                belongs = next_belongs;
              }
