-- The points of a file are in coordinate range, so that areas are small.
use Rattle.std.specs.Prelude.{◌≡◌, refl, length, ℤ, nat_abs}
use Rattle.std.proofs.Common.{sym, ap, ◌∙◌, mul-le-mul_right, le_trans, arith}
use Rattle.std.proofs.Math.Path.{subst}
use mathlib.Core.List.{List, [], ◌∷◌}
use Prim.Native.Nat.{ℕ, zero, suc, ◌*◌, ◌≤◌}
use Rattle.std.proofs.Math.Dec.{leb}
use Rattle.polygons.specs.Flat.{PointNear}
use Rattle.polygons.specs.ContourAreas.{contour_area, layer_area, largest_cross}
use Rattle.polygons.specs.AreaBoundLaws.{contour_area_le, layer_area_le}
use Rattle.cleaning.specs.declared.Profile.{Profile}
use Rattle.file_formats.specs.Formats.{Each, Format, parsed, mapped, tested, through, pair, parse_all, sequence}
use Rattle.file_formats.specs.FormatLaws.{then_in, mapped_in}
use Rattle.file_formats.specs.Numbers.{largest_word, number}
use Rattle.file_formats.specs.LayerFile.{Point, Layer, most_points, fewest_points, coordinate_format, point_format, origin, latest, contour_format, contour_in}
use Rattle.file_formats.specs.LayerFile.{room_after, contour_list_in, height_above, layer_format_in}
use Rattle.file_formats.specs.LayerFileLaws.{coordinate_in, contour_in_lem, contour_within}
use Rattle.file_formats.specs.LayerRules.{point_total}
use Rattle.file_check.specs.AnswerLaws.{room_left_lem}

-- ---- what a value was parsed from

-- a value that stands for another one
through_in : {A B : Type 0} (f : A → B) (g : B → A) (F : Format A) → ((a : A) → g (f a) ≡ a) → (l : List ℕ) (b : B) (r : List ℕ)
    → (through f g F).parse l ≡ parsed b r → F.parse l ≡ parsed (g b) r
through_in f g F back l b r e =
    let i = mapped_in f (F.parse l) b r e in
    i.1 ∙ ap (λ a. parsed a r) (sym (back i.0) ∙ ap g i.2)

-- two values
pair_in : {A B : Type 0} (F : Format A) (G : A → Format B) (l : List ℕ) (a : A) (b : B) (r : List ℕ) → (pair F G).parse l ≡ parsed (a, b) r
    → (m : List ℕ) × (F.parse l ≡ parsed a m) × ((G a).parse m ≡ parsed b r)
pair_in {A} {B} F G l a b r e =
    let i = then_in (F.parse l) (λ a r. mapped {B = A × B} (λ b. (a, b)) ((G a).parse r)) (a, b) r e in
    let j = mapped_in {B = A × B} (λ b. (i.0, b)) ((G i.0).parse i.1) (a, b) r i.3 in
    let first : i.0 ≡ a = ap (λ q. q.0) j.2 in
    let second : j.0 ≡ b = ap (λ q. q.1) j.2 in
    (i.1, i.2 ∙ ap (λ a. parsed a i.1) first, ap (λ a. (G a).parse i.1) (sym first) ∙ j.1 ∙ ap (λ b. parsed b r) second)

-- what holds of every value that is parsed holds of each of a sequence
module _ {S A : Type 0} (F : S → Format A) (step : S → A → S) (P : A → Type 0)
    (each : (s : S) (l : List ℕ) (a : A) (r : List ℕ) → (F s).parse l ≡ parsed a r → P a) where
  parsed_each : (n : ℕ) (s : S) (l : List ℕ) (xs : List A) (r : List ℕ) → parse_all F step n s l ≡ parsed xs r → Each P xs
  unfolding parse_all
  parsed_each zero s l xs r e = let none : [] ≡ xs = cc in subst (Each P) none tt
  parsed_each (suc n) s l xs r e =
      let i = then_in ((F s).parse l) (λ a r. mapped (λ rest. a ∷ rest) (parse_all F step n (step s a) r)) xs r e in
      let j = mapped_in (λ rest. i.0 ∷ rest) (parse_all F step n (step s i.0) i.1) xs r i.3 in
      subst (Each P) j.2 (each s l i.0 i.1 i.2, parsed_each n (step s i.0) i.1 j.0 r j.1)

-- ---- points in range

point_near : (p : Point) (l : List ℕ) (q : Point) (r : List ℕ) → (point_format p).parse l ≡ parsed q r → PointNear q
unfolding point_format
point_near p l q r e =
    let F = pair (coordinate_format p.x) (λ x. coordinate_format p.y) in
    let i = through_in {B = Point} (λ q. record { x = q.0; y = q.1 }) (λ q. (q.x, q.y)) F (λ q. refl) l q r e in
    let j = pair_in (coordinate_format p.x) (λ x. coordinate_format p.y) l q.x q.y r i in
    (coordinate_in p.x l q.x j.0 j.1, coordinate_in p.y j.0 q.y r j.2)

module _ (p : Profile) (room : ℕ) (l : List ℕ) (c : List Point) (r : List ℕ) (e : (contour_in p room).parse l ≡ parsed c r) where
  contour_near : Each PointNear c
  unfolding contour_format
  contour_near =
      let i = then_in (tested (λ n. leb fewest_points n) l ((number room).parse l)) (λ n r. (sequence point_format latest n origin).parse r) c r
      (contour_within p room l c r e) in
      parsed_each point_format latest PointNear point_near i.0 origin i.1 c r i.3

  pub contour_in_room : length c ≤ room
  contour_in_room = (contour_in_lem room l c r (contour_within p room l c r e)).1

  -- the area of a contour
  pub contour_sum_le : nat_abs (contour_area c) ≤ length c * largest_cross
  contour_sum_le = contour_area_le c contour_near

-- ---- the sum of a layer's areas

contours_sum_le : (p : Profile) (n : ℕ) (l : List ℕ) (cs : List (List Point)) (r : List ℕ) → parse_all (contour_in p) room_after n most_points l ≡ parsed cs r
    → nat_abs (layer_area cs) ≤ most_points * largest_cross
contours_sum_le p n l cs r e =
    let few : point_total cs ≤ most_points = omega (arith, room_left_lem p n most_points l cs r e) in
    let near : Each (Each PointNear) cs = parsed_each (contour_in p) room_after (Each PointNear) (contour_near p) n most_points l cs r e in
    le_trans (layer_area_le cs near) (mul-le-mul_right largest_cross few)

pub layer_sum_le : (p : Profile) (low : ℤ) (l : List ℕ) (a : Layer) (r : List ℕ) → (layer_format_in p low).parse l ≡ parsed a r
    → nat_abs (layer_area a.contours) ≤ most_points * largest_cross
unfolding layer_format_in contour_list_in
layer_sum_le p low l a r e =
    let F = pair (height_above low) (λ h. contour_list_in p) in
    let i = through_in {B = Layer} (λ q. record { height = q.0; contours = q.1 }) (λ l. (l.height, l.contours)) F (λ q. refl) l a r e in
    let j = pair_in (height_above low) (λ h. contour_list_in p) l a.height a.contours r i in
    let k = then_in ((number largest_word).parse j.0) (λ n r. (sequence (contour_in p) room_after n most_points).parse r) a.contours r j.2 in
    contours_sum_le p k.0 k.1 a.contours r k.3
