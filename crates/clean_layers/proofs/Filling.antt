-- The loops of `copy_layer` and `move_layer`, which differ in where they read: contour after contour goes to the front of two tables.
use Prim.Native.Nat.{ℕ, suc, ◌+◌, ◌-◌, ◌*◌, ◌≤◌, ◌<◌}
use mathlib.Core.Path.{◌≡◌, refl, sym, ap, ◌∙◌, subst}
use mathlib.Core.Bool.{true, false}
use mathlib.Core.List.{List, [], ◌∷◌, ◌++◌, flatten}
use mathlib.Core.Logic.{⊎_elim}
use native.Mathlib.Omega.{arith}
use native.Mathlib.Numerals.{add-one}
use lib.ListN.{length, get_or, set, take, drop, length-set, drop_of_length-le}
use lib.Seq.{sets, drop-cons, drop-set-lt, length-sets, length-take-le, get_or-take}
use lib.IntN.{ℤ}
use Rattle.laws.specs.Tables.{overwrite}
use Rattle.laws.specs.TableLaws.{overwrite_none, overwrite_more}
use Rattle.polygons.specs.Flat.{Point, point_total, flat, numbers_of, ends_from, ends_of, contours_in}
use Rattle.polygons.proofs.FlatLaws.{length_numbers, numbers_append, length_ends, length_flatten}
use Rattle.file_formats.specs.EmitLaws.{Emit, emit_start, emit, emit_one, emit_end}
use Rattle.file_write.specs.LayerTables.{EndsWithin, LayerTables}
use Rattle.cleaning.specs.Cleaning.{neat, kept, cleaned}
use Rattle.cleaning.specs.PointLaws.{decide}
use Rattle.cleaning.proofs.CleaningLaws.{cleaned_kept, cleaned_dropped}
use Rattle.cleaning.proofs.SizeLaws.{length_neat, kept_length, cleaned_total, cleaned_count}
use Rattle.clean_contour.specs.Parts.{contour_part, remains, PointsStand, CleanRoom}
use Rattle.clean_contour.specs.PartLaws.{part_length, ahead_part, ahead_more, ahead_at, ahead_sets, remains_dropped, remains_kept}
use Rattle.clean_layers.specs.Layers.{Fills}

-- ---- the contours that are left

contours_next : (source : List ℤ) (from end : ℕ) (ends : List ℕ)
    → contours_in source from (end ∷ ends) ≡ contour_part source from end ∷ contours_in source end ends
unfolding contours_in contour_part
contours_next source from end ends = refl

-- no more of them than ends, with no more points than the table
contours_fit : (source : List ℤ) (from : ℕ) (ends : List ℕ) → 2 * from ≤ length source → EndsWithin (length source) from ends
    → (length (contours_in source from ends) ≡ length ends) × (2 * (from + point_total (contours_in source from ends)) ≤ length source)
unfolding contours_in
contours_fit source from [] w r = (refl, omega arith)
contours_fit source from (end ∷ ends) w r =
    let h = contours_fit source end ends r.1 r.2 in
    let e = contours_next source from end ends in
    let n : length (contour_part source from end) ≡ end - from = part_length source from end r.0 r.1 in
    (ap length e ∙ ap suc h.0, omega (arith, ap point_total e, n, h.1, r.0))

-- the clean contours of a layer, and what is left of them to go to the tables
abbrev clean_from : List ℤ → ℕ → List ℕ → List (List Point)
clean_from source from list = cleaned (contours_in source from list)

abbrev PointsGo : List ℤ → List (List Point) → List ℤ → ℕ → List (List Point) → Type 0
PointsGo points₀ all points at left = Emit points₀ 0 (numbers_of (flatten all)) points (2 * at) (numbers_of (flatten left))

abbrev EndsGo : List ℕ → List (List Point) → List ℕ → ℕ → ℕ → List (List Point) → Type 0
EndsGo ends₀ all ends count at left = Emit ends₀ 0 (ends_of all) ends count (ends_from at left)

-- ---- the loop: j of the ends were read, the last of them `from`, and `count` contours with `at` points stand

pub record Filling (source : List ℤ) (list : List ℕ) (points₀ : List ℤ) (ends₀ : List ℕ) (points : List ℤ) (ends : List ℕ) (from at count j : ℕ) : Type 0 where
  pub upto : j ≤ length list
  pub behind : at ≤ from
  pub few : count ≤ j
  pub points_room : length source ≤ length points
  pub ends_room : length list ≤ length ends
  pub rise : EndsWithin (length source) from (drop j list)
  pub points_emit : PointsGo points₀ (clean_from source 0 list) points at (clean_from source from (drop j list))
  pub ends_emit : EndsGo ends₀ (clean_from source 0 list) ends count at (clean_from source from (drop j list))
  pub points_ahead : drop (2 * from) points ≡ drop (2 * from) points₀
  pub ends_ahead : drop j ends ≡ drop j ends₀

pub fill_start : {source : List ℤ} {list : List ℕ} {points : List ℤ} {ends : List ℕ} → EndsWithin (length source) 0 list → length source ≤ length points
    → length list ≤ length ends
    → Filling source list points ends points ends 0 0 0 0
fill_start {source} {list} {points} {ends} r p e =
    let cs = contours_in source 0 list in
    let f = contours_fit source 0 list (omega arith) r in
    let n : length (numbers_of (flatten (cleaned cs))) ≡ 2 * point_total (cleaned cs) =
    omega (arith, length_numbers (flatten (cleaned cs)), length_flatten (cleaned cs)) in
    record {
      upto = omega arith;
      behind = omega arith;
      few = omega arith;
      points_room = p;
      ends_room = e;
      rise = r;
      points_emit = emit_start points 0 (numbers_of (flatten (cleaned cs))) (omega (arith, n, cleaned_total cs, f.1));
      ends_emit = emit_start ends 0 (ends_of (cleaned cs)) (omega (arith, length_ends 0 (cleaned cs), cleaned_count cs, f.0));
      points_ahead = refl;
      ends_ahead = refl;
    }

module _ {source : List ℤ} {list : List ℕ} {points₀ : List ℤ} {ends₀ : List ℕ} {points : List ℤ} {ends : List ℕ} {from at count j : ℕ}
    (s : Filling source list points₀ ends₀ points ends from at count j) where
  module _ (l : j < length list) {end : ℕ} (q : end ≡ get_or list j 0) where
    abbrev c : List Point
    c = contour_part source from end

    abbrev rest : List (List Point)
    rest = contours_in source end (drop (j + 1) list)

    split : drop j list ≡ end ∷ drop (j + 1) list
    split = drop-cons list j 0 l ∙ (λ i. sym q i ∷ drop (sym (add-one j) i) list)

    rises : (from ≤ end) × (2 * end ≤ length source) × EndsWithin (length source) end (drop (j + 1) list)
    rises = subst (EndsWithin (length source) from) split s.rise

    pub fill_up : from ≤ end
    fill_up = rises.0

    pub fill_room : CleanRoom source points from end at
    fill_room = record { there = rises.1; room = omega (arith, s.points_room, rises.1); behind = s.behind }

    left : contours_in source from (drop j list) ≡ c ∷ rest
    left = ap (contours_in source from) split ∙ contours_next source from end (drop (j + 1) list)

    further : drop (j + 1) ends ≡ drop (j + 1) ends₀
    further = ahead_more ends ends₀ j (j + 1) (omega arith) s.ends_ahead

    short : length (neat c) ≤ end - from
    short = omega (arith, length_neat c, part_length source from end rises.0 rises.1)

    module _ {next : ℕ} {points' : List ℤ} (t : PointsStand (remains c) points at next points') where
      -- the contour was dropped
      pub fill_dropped : next ≤ at → Filling source list points₀ ends₀ points' ends end at count (j + 1)
      unfolding numbers_of
      fill_dropped h = subst (λ (p : List ℤ). Filling source list points₀ ends₀ p ends end at count (j + 1)) (sym stay) here
        where
          dropped : kept c ≡ false
          dropped = ⊎_elim (λ k. absurd (omega (arith, t.end, ap length (remains_kept c k), kept_length c k))) (λ k. k) (decide (kept c))

          stay : points' ≡ points
          stay = t.holds ∙ ap (λ (d : List Point). sets points (2 * at) (numbers_of d)) (remains_dropped c dropped)

          same : clean_from source from (drop j list) ≡ cleaned rest
          same = ap cleaned left ∙ cleaned_dropped c rest dropped

          here : Filling source list points₀ ends₀ points ends end at count (j + 1)
          here =
              record {
                upto = omega arith;
                behind = omega (arith, s.behind, rises.0);
                few = omega (arith, s.few);
                points_room = s.points_room;
                ends_room = s.ends_room;
                rise = rises.2;
                points_emit =
                    subst (PointsGo points₀ (clean_from source 0 list) points at) same s.points_emit;
                ends_emit = subst (EndsGo ends₀ (clean_from source 0 list) ends count at) same s.ends_emit;
                points_ahead = ahead_more points points₀ (2 * from) (2 * end) (omega (arith, rises.0)) s.points_ahead;
                ends_ahead = further;
              }

      -- or stands, and its end after the others
      pub fill_kept : at < next → Filling source list points₀ ends₀ points' (set ends count next) end next (count + 1) (j + 1)
      unfolding flatten ends_from
      fill_kept h =
          record {
            upto = omega arith;
            behind = omega (arith, size, short, s.behind, rises.0);
            few = omega (arith, s.few);
            points_room = omega (arith, ap length with_point, length-sets points (2 * at) (numbers_of (neat c)), s.points_room);
            ends_room = omega (arith, length-set ends count next, s.ends_room);
            rise = rises.2;
            points_emit = points_next;
            ends_emit = ends_next;
            points_ahead =
                ap (drop (2 * end)) with_point
                ∙ ahead_sets (numbers_of (neat c)) points (2 * at) (2 * end) (omega (arith, length_numbers (neat c), short, s.behind, rises.0))
                ∙ ahead_more points points₀ (2 * from) (2 * end) (omega (arith, rises.0)) s.points_ahead;
            ends_ahead = drop-set-lt (j + 1) ends count next (omega (arith, s.few)) ∙ further;
          }
        where
          keeps : kept c ≡ true
          keeps = ⊎_elim (λ k. k) (λ k. absurd (omega (arith, t.end, ap length (remains_dropped c k)))) (decide (kept c))

          size : next ≡ at + length (neat c)
          size = t.end ∙ ap (λ (d : List Point). at + length d) (remains_kept c keeps)

          with_point : points' ≡ sets points (2 * at) (numbers_of (neat c))
          with_point = t.holds ∙ ap (λ (d : List Point). sets points (2 * at) (numbers_of d)) (remains_kept c keeps)

          same : clean_from source from (drop j list) ≡ neat c ∷ cleaned rest
          same = ap cleaned left ∙ cleaned_kept c rest keeps

          numbers : numbers_of (flatten (clean_from source from (drop j list))) ≡ numbers_of (neat c) ++ numbers_of (flatten (cleaned rest))
          numbers = ap (λ (d : List (List Point)). numbers_of (flatten d)) same ∙ numbers_append (neat c) (flatten (cleaned rest))

          points_next : PointsGo points₀ (clean_from source 0 list) points' next (cleaned rest)
          points_next =
              let k : 2 * at + length (numbers_of (neat c)) ≡ 2 * next = omega (arith, size, length_numbers (neat c)) in
              let all = numbers_of (flatten (clean_from source 0 list)) in
              let left = numbers_of (flatten (cleaned rest)) in
              let e = emit (numbers_of (neat c)) left (subst (Emit points₀ 0 all points (2 * at)) numbers s.points_emit) in
              subst (λ (p : List ℤ). Emit points₀ 0 all p (2 * next) left) (sym with_point)
              (subst (λ (n : ℕ). Emit points₀ 0 all (sets points (2 * at) (numbers_of (neat c))) n left) k e)

          ends_are : ends_from at (clean_from source from (drop j list)) ≡ next ∷ ends_from next (cleaned rest)
          ends_are = ap (ends_from at) same ∙ (λ i. sym size i ∷ ends_from (sym size i) (cleaned rest))

          ends_next : EndsGo ends₀ (clean_from source 0 list) (set ends count next) (count + 1) next (cleaned rest)
          ends_next =
              emit_one next (ends_from next (cleaned rest)) (subst (Emit ends₀ 0 (ends_of (clean_from source 0 list)) ends count) ends_are s.ends_emit)

      -- the end has room where it goes
      pub fill_next : next ≤ end
      fill_next = ⊎_elim (λ k. omega (arith, t.end, ap length (remains_kept c k), short, s.behind, rises.0))
          (λ k. omega (arith, t.end, ap length (remains_dropped c k), s.behind, rises.0)) (decide (kept c))

  -- all have gone
  pub fill_all : length list ≤ j → Fills (cleaned (contours_in source 0 list)) (flat points₀ ends₀) count at (flat points ends)
  unfolding contours_in cleaned flatten numbers_of ends_from
  fill_all h =
      let cs = cleaned (contours_in source 0 list) in
      let none : clean_from source from (drop j list) ≡ [] = ap (λ (d : List ℕ). cleaned (contours_in source from d)) (drop_of_length-le list h) in
      let p = emit_end (subst (PointsGo points₀ cs points at) none s.points_emit) in
      let e = emit_end (subst (EndsGo ends₀ cs ends count at) none s.ends_emit) in
      record {
        contours_are = omega (arith, e.0, length_ends 0 cs);
        points_are = omega (arith, p.0, length_numbers (flatten cs), length_flatten cs);
        holds =
            let q = p.1 ∙ front (numbers_of (flatten cs)) points₀ s.points_emit.room in
            let f = e.1 ∙ front (ends_of cs) ends₀ s.ends_emit.room in
            λ i. flat (q i) (f i);
      }
    where
      front : {A : Type 0} (vs t : List A) → 0 + length vs ≤ length t → sets t 0 vs ≡ overwrite vs t
      front vs t h = ap (λ (l : List _). sets l 0 vs) (sym (overwrite_none t)) ∙ overwrite_more vs [] t 0 refl (omega arith)

-- ---- within one table: what is read there is what stood there at first

pub here_start : {points : List ℤ} {ends : List ℕ} {n : ℕ} → LayerTables points ends n → Filling points (take n ends) points ends points ends 0 0 0 0
here_start {points} {ends} {n} t = fill_start t.rise (omega arith) (omega (arith, t.there, length-take-le n ends t.there))

pub here_all : {points₀ : List ℤ} {ends₀ : List ℕ} {n : ℕ} {points : List ℤ} {ends : List ℕ} {from at count j : ℕ}
    → Filling points₀ (take n ends₀) points₀ ends₀ points ends from at count j → n ≤ length ends₀ → n ≤ j
    → Fills (cleaned (contours_in points₀ 0 (take n ends₀))) (flat points₀ ends₀) count at (flat points ends)
here_all {points₀} {ends₀} {n} s m h = fill_all s (omega (arith, length-take-le n ends₀ m))

module _ {points₀ : List ℤ} {ends₀ : List ℕ} {n : ℕ} {points : List ℤ} {ends : List ℕ} {from at count j : ℕ}
    (s : Filling points₀ (take n ends₀) points₀ ends₀ points ends from at count j) (l : j < n) (m : n ≤ length ends₀) where
  here_more : j < length (take n ends₀)
  here_more = omega (arith, length-take-le n ends₀ m)

  here_end : {end : ℕ} → end ≡ get_or ends j 0 → end ≡ get_or (take n ends₀) j 0
  here_end q = q ∙ ahead_at ends ends₀ j j 0 (omega arith) s.ends_ahead ∙ sym (get_or-take n ends₀ j 0 l)

  module _ {end : ℕ} (q : end ≡ get_or ends j 0) where
    pub here_room : CleanRoom points points from end at
    here_room = let r = fill_room s here_more (here_end q) in record { there = r.room; room = r.room; behind = r.behind }

    pub here_up : from ≤ end
    here_up = fill_up s here_more (here_end q)

    here_stands : {next : ℕ} {points' : List ℤ} → PointsStand (remains (contour_part points from end)) points at next points'
        → PointsStand (remains (contour_part points₀ from end)) points at next points'
    here_stands {next} {points'} t =
        subst (λ (c : List Point). PointsStand (remains c) points at next points') (ahead_part points points₀ from end s.points_ahead) t

    module _ {next : ℕ} {points' : List ℤ} (t : PointsStand (remains (contour_part points from end)) points at next points') where
      pub here_next : next ≤ end
      here_next = fill_next s here_more (here_end q) (here_stands t)

      pub here_dropped : next ≤ at → Filling points₀ (take n ends₀) points₀ ends₀ points' ends end at count (j + 1)
      here_dropped = fill_dropped s here_more (here_end q) (here_stands t)

      pub here_kept : at < next → Filling points₀ (take n ends₀) points₀ ends₀ points' (set ends count next) end next (count + 1) (j + 1)
      here_kept = fill_kept s here_more (here_end q) (here_stands t)
