-- A table filled with the points of a contour, one by one: a lemma for each step of `fill_points`.
use mathlib.Core.Path.{◌≡◌, refl, sym, ap, ◌∙◌, subst}
use mathlib.Core.List.{List, [], ◌∷◌}
use Rattle.std.specs.Prelude.{Result, Ok, Err, IsOk}
use Prim.Native.Nat.{ℕ, ◌+◌, ◌-◌, ◌<◌, ◌≤◌}
use native.Mathlib.Omega.{arith}
use lib.ListN.{length, drop, set}
use lib.IntN.{ℤ, pos, nat_abs}
use Rattle.mesh.specs.Corners.{largest}
use Rattle.polygons.specs.Flat.{numbers_of}
use Rattle.polygons.proofs.FlatLaws.{length_numbers, numbers_none, numbers_first}
use Rattle.file_formats.specs.Formats.{parsed, parse_all, sequence}
use Rattle.file_formats.specs.FormatLaws.{not_refused}
use Rattle.file_formats.specs.LayerFile.{Point, coordinate_format, point_format, origin, latest}
use Rattle.file_formats.specs.LayerFileLaws.{coordinate_in, point_no_x, point_no_y, point_both}
use Rattle.file_formats.specs.Positions.{extent_at}
use Rattle.file_formats.specs.PositionLaws.{ParsedAt}
use Rattle.file_formats.specs.SequenceLaws.{SequenceCheck, sequence_check, check_next, check_end, FirstParsed, first_parsed, none, parsed_length}
use Rattle.file_formats.specs.EmitLaws.{Emit, emit_start, emit_one, emit_one_fits, emit_end}
use Rattle.file_formats.specs.declared.Broken.{Broken}
use Rattle.file_check.specs.Answers.{coordinate_at}
use Rattle.file_check.specs.AnswerLaws.{told_parsed, coordinate_read, coordinate_off}
use Rattle.read_layer.specs.Places.{points_from, FillPoints, FilledPoints}

-- the n points at a position go to the entry `from` of a table l, which is m now: c were written, and the others stand at i, after the point x y, and go to k
pub record PointFilling (file : List ℕ) (at n : ℕ) (l : List ℤ) (from : ℕ) (m : List ℤ) (x y : ℤ) (i c k : ℕ) : Type 0 where
  pub x_in : nat_abs x ≤ largest
  pub y_in : nat_abs y ≤ largest
  pub check : SequenceCheck point_format latest file (extent_at (sequence point_format latest n origin) file at) (record { x = x; y = y }) i (n - c)
  pub qs : List Point
  pub rest : List ℕ
  pub parses : parse_all point_format latest (n - c) (record { x = x; y = y }) (drop i file) ≡ parsed qs rest
  pub table : Emit l from (numbers_of (points_from n file at)) m k (numbers_of qs)

pub point_filling : {file : List ℕ} {at n : ℕ} {l : List ℤ} {from : ℕ} → FillPoints file at n l from
    → PointFilling file at n l from l (pos 0) (pos 0) at 0 from
point_filling {file} {at} {n} {l} {from} f =
    let e : f.ps ≡ points_from n file at = told_parsed (λ ps next. ps) (λ q. []) (sequence point_format latest n origin) file at f.ps f.next f.stands in
    let none_yet : n ≡ n - 0 = omega arith in
    let z : length f.ps ≡ n = parsed_length point_format latest n origin (drop at file) f.ps (drop f.next file) f.stands.parses in
    record {
      x_in = omega arith;
      y_in = omega arith;
      check =
          subst (λ (left : ℕ). SequenceCheck point_format latest file (extent_at (sequence point_format latest n origin) file at) origin at left) none_yet
          (sequence_check point_format latest file origin at n f.inside);
      qs = f.ps;
      rest = drop f.next file;
      parses = ap (λ (left : ℕ). parse_all point_format latest left origin (drop at file)) (sym none_yet) ∙ f.stands.parses;
      table = subst (λ (ps : List Point). Emit l from (numbers_of ps) l from (numbers_of f.ps)) e
          (emit_start l from (numbers_of f.ps) (omega (arith, f.room, length_numbers f.ps)));
    }

module _ {file : List ℕ} {at n : ℕ} {l : List ℤ} {from : ℕ} {m : List ℤ} {x y : ℤ} {i c k : ℕ}
    (w : PointFilling file at n l from m x y i c k) where
  pub filled : n ≤ c → FilledPoints file at n l from i m
  filled h =
      let q = none point_format latest (n - c) (record { x = x; y = y }) (drop i file) w.qs w.rest (omega arith) w.parses in
      record {
        next = check_end (n - c) w.check (omega arith);
        table = (emit_end (subst (Emit l from (numbers_of (points_from n file at)) m k) (ap numbers_of q.0 ∙ numbers_none) w.table)).1;
      }

  module _ (h : c < n) where
    head : FirstParsed point_format latest (n - c) (record { x = x; y = y }) (drop i file) w.qs w.rest
    head = first_parsed point_format latest (n - c) (record { x = x; y = y }) (drop i file) w.qs w.rest (omega arith) w.parses

    entries : Emit l from (numbers_of (points_from n file at)) m k (head.value.x ∷ head.value.y ∷ numbers_of head.others)
    entries = subst (Emit l from (numbers_of (points_from n file at)) m k) (ap numbers_of head.is ∙ numbers_first head.value head.others) w.table

    pub x_fits : k < length m
    x_fits = emit_one_fits head.value.x (head.value.y ∷ numbers_of head.others) entries

    pub y_fits : k + 1 < length m
    y_fits = omega (arith, entries.ends, entries.room, entries.size)

    pub x_there : (met : Result (ℤ × ℕ) Broken) → met ≡ coordinate_at x file i → IsOk met
    x_there (Ok q) e = refl
    x_there (Err b) e = not_refused (sym (point_no_x (record { x = x; y = y }) (drop i file) (coordinate_off x file i (sym e))) ∙ head.head)

    module _ {nx : ℤ} {j : ℕ} (e : coordinate_at x file i ≡ Ok (nx, j)) where
      one : ParsedAt (coordinate_format x) file i nx j
      one = coordinate_read x file i w.check.inside nx j e

      pub x_near : nat_abs nx ≤ largest
      x_near = coordinate_in x (drop i file) nx (drop j file) one.parses

      pub y_there : (met : Result (ℤ × ℕ) Broken) → met ≡ coordinate_at y file j → IsOk met
      y_there (Ok q) f = refl
      y_there (Err b) f =
          not_refused (sym (point_no_y (record { x = x; y = y }) (drop i file) nx (drop j file) one.parses (coordinate_off y file j (sym f))) ∙ head.head)

      module _ {ny : ℤ} {next : ℕ} (f : coordinate_at y file j ≡ Ok (ny, next)) where
        two : ParsedAt (coordinate_format y) file j ny next
        two = coordinate_read y file j one.inside ny next f

        pub y_near : nat_abs ny ≤ largest
        y_near = coordinate_in y (drop j file) ny (drop next file) two.parses

        both : (point_format (record { x = x; y = y })).parse (drop i file) ≡ parsed (record { x = nx; y = ny }) (drop next file)
        both = point_both (record { x = x; y = y }) (drop i file) nx (drop j file) one.parses ny (drop next file) two.parses

        pub next_filled : PointFilling file at n l from (set (set m k nx) (k + 1) ny) nx ny next (c + 1) (k + 2)
        next_filled =
            let p : parsed (record { x = nx; y = ny }) (drop next file) ≡ parsed head.value head.rest = sym both ∙ head.head in
            let v : head.value ≡ record { x = nx; y = ny } = cc in
            let r : head.rest ≡ drop next file = cc in
            let t = subst (λ (q : Point). Emit l from (numbers_of (points_from n file at)) m k (q.x ∷ q.y ∷ numbers_of head.others)) v entries in
            let s : k + 1 + 1 ≡ k + 2 = omega arith in
            let less : n - c - 1 ≡ n - (c + 1) = omega arith in
            record {
              x_in = x_near;
              y_in = y_near;
              check =
                  subst (λ (left : ℕ). SequenceCheck point_format latest file (extent_at (sequence point_format latest n origin) file at)
                  (record { x = nx; y = ny }) next left) less (check_next (n - c) w.check (omega arith) (record { x = nx; y = ny }) next both two.inside);
              qs = head.others;
              rest = w.rest;
              parses = (λ i. parse_all point_format latest (sym less i) (sym v i) (sym r i)) ∙ head.tail;
              table =
                  subst (λ (e : ℕ). Emit l from (numbers_of (points_from n file at)) (set (set m k nx) (k + 1) ny) e (numbers_of head.others)) s
                  (emit_one ny (numbers_of head.others) (emit_one nx (ny ∷ numbers_of head.others) t));
            }
