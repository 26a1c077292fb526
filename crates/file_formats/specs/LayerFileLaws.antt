-- The layer file's formats are lawful, stay in the file, and go value by value.
use Rattle.std.specs.Prelude.{◌≡◌, true, false, ℕ, ◌≤◌, nat_abs, ◌+ℤ◌, ◌-ℤ◌}
use Rattle.std.proofs.Math.Path.{refl, ap}
use Rattle.std.proofs.Common.{sym, ◌∙◌, arith, le→leb}
use mathlib.Core.List.{List, ◌++◌}
use Rattle.std.proofs.Math.Dec.{leb}
use Rattle.std.proofs.Math.ListN.{length}
use Rattle.std.proofs.Math.IntN.{ℤ}
use Rattle.std.specs.Int.Signed.{lt_z}
use borrow.Author.Tests.{leb-true}
use Rattle.laws.specs.Integers.{ext, sum, diff, abs_sub}
use Rattle.mesh.specs.Corners.{largest}
use Rattle.cleaning.specs.Cleaning.{is_clean}
use Rattle.cleaning.specs.declared.Profile.{Profile}
use Rattle.cleaning.specs.declared.Profile.TheVariants.{Full, Clean}
use Rattle.file_formats.specs.Formats.{Parse, parsed, refused, mapped, tested, through, ruled, pair, sequence}
use Rattle.file_formats.specs.FormatLaws.{Lawful, through_laws, ruled_laws, obeying_laws, pair_laws, counted_laws, Single, ruled_single, tested_in}
use Rattle.file_formats.specs.FormatLaws.{then_in}
use Rattle.file_formats.specs.FormatLaws.{Within, obeying_within, through_within, pair_within, counted_within, encode_alike}
use Rattle.file_formats.specs.Numbers.{largest_word, encode_number, parse_number, number, zigzag, unzigzag, signed}
use Rattle.file_formats.specs.NumberLaws.{number_laws, signed_laws, zigzag_abs}
use Rattle.file_formats.specs.PositionLaws.{Tails, number_tails, signed_tails, through_tails, ruled_tails, obeying_tails, pair_tails, counted_tails}
use Rattle.file_formats.specs.SequenceLaws.{parsed_length}
use Rattle.file_formats.specs.LayerFile.{Point, Layer, most_layers, most_points, fewest_points, in_range, coordinate_format, point_format, origin, latest}
use Rattle.file_formats.specs.LayerFile.{contour_format, contour_in, room_after, contour_list, contour_list_in, height_above, layer_format, layer_format_in}
use Rattle.file_formats.specs.LayerFile.{lowest}
use Rattle.file_formats.specs.LayerFile.{height_of, layer_file, layer_file_in}

-- ---- each format is lawful, and what is left after a value is a part of the file

down_up : (p d : ℤ) → (p +ℤ d) -ℤ p ≡ d
down_up p d = omega (arith, ext, sum p d, diff (p +ℤ d) p)

up_down : (p z : ℤ) → p +ℤ (z -ℤ p) ≡ z
up_down p z = omega (arith, ext, sum p (z -ℤ p), diff z p)

module _ (p : ℤ) where
  pub coordinate_laws : Lawful (coordinate_format p)
  unfolding coordinate_format
  coordinate_laws =
      ruled_laws in_range (through (λ d. p +ℤ d) (λ z. z -ℤ p) (signed largest_word))
      (through_laws (λ d. p +ℤ d) (λ z. z -ℤ p) (signed largest_word) (down_up p) (up_down p) (signed_laws largest_word))

  pub coordinate_tails : Tails (coordinate_format p)
  unfolding coordinate_format
  coordinate_tails =
      ruled_tails in_range (through (λ d. p +ℤ d) (λ z. z -ℤ p) (signed largest_word))
      (through_tails (λ d. p +ℤ d) (λ z. z -ℤ p) (signed largest_word) (signed_tails largest_word))

module _ (p : Point) where
  pub point_laws : Lawful (point_format p)
  unfolding point_format
  point_laws =
      through_laws {B = Point} (λ q. record { x = q.0; y = q.1 }) (λ q. (q.x, q.y)) (pair (coordinate_format p.x) (λ x. coordinate_format p.y))
      (λ q. refl)
      (λ q. refl)
      (pair_laws (coordinate_format p.x) (λ x. coordinate_format p.y) (coordinate_laws p.x) (λ x. coordinate_laws p.y))

  pub point_tails : Tails (point_format p)
  unfolding point_format
  point_tails =
      through_tails {B = Point} (λ q. record { x = q.0; y = q.1 }) (λ q. (q.x, q.y)) (pair (coordinate_format p.x) (λ x. coordinate_format p.y))
      (pair_tails (coordinate_format p.x) (λ x. coordinate_format p.y) (coordinate_tails p.x) (λ x. coordinate_tails p.y))

module _ (room : ℕ) where
  pub contour_laws : Lawful (contour_format room)
  unfolding contour_format
  contour_laws =
      counted_laws point_format latest point_laws (ruled (λ n. leb fewest_points n) (number room))
      origin (ruled_laws (λ n. leb fewest_points n) (number room) (number_laws room))

  pub contour_tails : Tails (contour_format room)
  unfolding contour_format
  contour_tails =
      counted_tails point_format latest point_tails (ruled (λ n. leb fewest_points n) (number room))
      origin (ruled_tails (λ n. leb fewest_points n) (number room) (number_tails room))

-- ---- the same of what depends on the profile

module _ (p : Profile) where
  pub contour_in_laws : (room : ℕ) → Lawful (contour_in p room)
  contour_in_laws = by p
    where
      by : (p : Profile) (room : ℕ) → Lawful (contour_in p room)
      by Full room = contour_laws room
      by Clean room = obeying_laws is_clean (contour_format room) (contour_laws room)

  pub contour_in_tails : (room : ℕ) → Tails (contour_in p room)
  contour_in_tails = by p
    where
      by : (p : Profile) (room : ℕ) → Tails (contour_in p room)
      by Full room = contour_tails room
      by Clean room = obeying_tails is_clean (contour_format room) (contour_tails room)

  pub contour_list_laws : Lawful (contour_list_in p)
  unfolding contour_list_in
  contour_list_laws = counted_laws (contour_in p) room_after contour_in_laws (number largest_word) most_points (number_laws largest_word)

  pub contour_list_tails : Tails (contour_list_in p)
  unfolding contour_list_in
  contour_list_tails = counted_tails (contour_in p) room_after contour_in_tails (number largest_word) most_points (number_tails largest_word)

module _ (low : ℤ) where
  pub height_above_laws : Lawful (height_above low)
  unfolding height_above
  height_above_laws = ruled_laws (λ h. lt_z low h) (signed largest_word) (signed_laws largest_word)

  pub height_above_tails : Tails (height_above low)
  unfolding height_above
  height_above_tails = ruled_tails (λ h. lt_z low h) (signed largest_word) (signed_tails largest_word)

module _ (p : Profile) where
  pub layer_laws : (low : ℤ) → Lawful (layer_format_in p low)
  unfolding layer_format_in
  layer_laws low =
      through_laws {B = Layer} (λ q. record { height = q.0; contours = q.1 }) (λ l. (l.height, l.contours)) (pair (height_above low) (λ h. contour_list_in p))
      (λ q. refl) (λ l. refl)
      (pair_laws (height_above low) (λ h. contour_list_in p) (height_above_laws low) (λ h. contour_list_laws p))

  pub layer_tails : (low : ℤ) → Tails (layer_format_in p low)
  unfolding layer_format_in
  layer_tails low =
      through_tails {B = Layer} (λ q. record { height = q.0; contours = q.1 }) (λ l. (l.height, l.contours)) (pair (height_above low) (λ h. contour_list_in p))
      (pair_tails (height_above low) (λ h. contour_list_in p) (height_above_tails low) (λ h. contour_list_tails p))

  pub layer_file_laws : Lawful (layer_file_in p)
  unfolding layer_file_in
  layer_file_laws = counted_laws (layer_format_in p) height_of layer_laws (number most_layers) lowest (number_laws most_layers)

  pub layer_file_tails : Tails (layer_file_in p)
  unfolding layer_file_in
  layer_file_tails = counted_tails (layer_format_in p) height_of layer_tails (number most_layers) lowest (number_tails most_layers)

  -- what is parsed in a profile is parsed in the full one, as the same value
  pub contour_within : (room : ℕ) → Within (contour_in p room) (contour_format room)
  contour_within = by p
    where
      by : (p : Profile) (room : ℕ) → Within (contour_in p room) (contour_format room)
      by Full room l c r e = e
      by Clean room l c r e = obeying_within is_clean (contour_format room) l c r e

  pub contour_list_within : Within (contour_list_in p) contour_list
  unfolding contour_list_in
  contour_list_within = counted_within (contour_in p) contour_format room_after contour_within (number largest_word) most_points

  pub layer_within : (low : ℤ) → Within (layer_format_in p low) (layer_format low)
  unfolding layer_format_in
  layer_within low =
      through_within {B = Layer} (λ q. record { height = q.0; contours = q.1 }) (λ l. (l.height, l.contours))
      (pair (height_above low) (λ h. contour_list_in p)) (pair (height_above low) (λ h. contour_list))
      (pair_within (height_above low) (λ h. contour_list_in p) (λ h. contour_list) (λ h. contour_list_within))

  pub layer_file_within : Within (layer_file_in p) layer_file
  unfolding layer_file_in
  layer_file_within = counted_within (layer_format_in p) layer_format height_of layer_within (number most_layers) lowest

  -- and written alike
  pub contour_alike : (room : ℕ) (c : List Point) → (contour_in p room).encode c ≡ (contour_format room).encode c
  contour_alike = by p
    where
      by : (p : Profile) (room : ℕ) (c : List Point) → (contour_in p room).encode c ≡ (contour_format room).encode c
      by Full room c = refl
      by Clean room c = refl

  contours_alike : (cs : List (List Point)) → (contour_list_in p).encode cs ≡ contour_list.encode cs
  unfolding contour_list_in
  contours_alike cs = ap (λ (l : List ℕ). encode_number (length cs) ++ l) (encode_alike (contour_in p) contour_format room_after contour_alike most_points cs)

  pub layer_alike : (low : ℤ) (l : Layer) → (layer_format_in p low).encode l ≡ (layer_format low).encode l
  unfolding layer_format_in
  layer_alike low l = ap (λ (m : List ℕ). (height_above low).encode l.height ++ m) (contours_alike l.contours)

  pub encode_in : (ls : List Layer) → (layer_file_in p).encode ls ≡ layer_file.encode ls
  unfolding layer_file_in
  encode_in ls = ap (λ (l : List ℕ). encode_number (length ls) ++ l) (encode_alike (layer_format_in p) layer_format height_of layer_alike lowest ls)

-- ---- a coordinate, by its number

module _ (p : ℤ) (l : List ℕ) where
  pub coordinate_bad : (number largest_word).parse l ≡ refused l → (coordinate_format p).parse l ≡ refused l
  unfolding coordinate_format
  coordinate_bad e = simp e

  module _ (m : ℕ) (r : List ℕ) (e : (number largest_word).parse l ≡ parsed m r) where
    pub coordinate_far : in_range (p +ℤ unzigzag m) ≡ false → (coordinate_format p).parse l ≡ refused l
    unfolding coordinate_format
    coordinate_far t = simp (e, t)

    pub coordinate_near : in_range (p +ℤ unzigzag m) ≡ true → (coordinate_format p).parse l ≡ parsed (p +ℤ unzigzag m) r
    unfolding coordinate_format
    coordinate_near t = simp (e, t)

  pub coordinate_in : (z : ℤ) (r : List ℕ) → (coordinate_format p).parse l ≡ parsed z r → nat_abs z ≤ largest
  unfolding coordinate_format
  coordinate_in z r e = leb-true (nat_abs z) largest (tested_in in_range l (mapped (λ d. p +ℤ d) ((signed largest_word).parse l)) z r e).1

pub coordinate_single : (p : ℤ) → Single (coordinate_format p)
unfolding coordinate_format
coordinate_single p = ruled_single in_range (through (λ d. p +ℤ d) (λ z. z -ℤ p) (signed largest_word))

-- ---- a point, by its coordinates

module _ (p : Point) (l : List ℕ) where
  pub point_no_x : (coordinate_format p.x).parse l ≡ refused l → (point_format p).parse l ≡ refused l
  unfolding point_format
  point_no_x e = simp e

  module _ (x : ℤ) (m : List ℕ) (e : (coordinate_format p.x).parse l ≡ parsed x m) where
    pub point_no_y : (coordinate_format p.y).parse m ≡ refused m → (point_format p).parse l ≡ refused m
    unfolding point_format
    point_no_y f = simp (e, f)

    pub point_both : (y : ℤ) (r : List ℕ) → (coordinate_format p.y).parse m ≡ parsed y r → (point_format p).parse l ≡ parsed (record { x = x; y = y }) r
    unfolding point_format
    point_both y r f = simp (e, f)

-- ---- a contour, by its count and its points

module _ (room : ℕ) (l : List ℕ) where
  pub contour_bad : (number room).parse l ≡ refused l → (contour_format room).parse l ≡ refused l
  unfolding contour_format
  contour_bad e = simp e

  module _ (n : ℕ) (m : List ℕ) (e : (number room).parse l ≡ parsed n m) where
    pub contour_few : leb fewest_points n ≡ false → (contour_format room).parse l ≡ refused l
    unfolding contour_format
    contour_few t = simp (e, t)

    pub contour_points : leb fewest_points n ≡ true → (contour_format room).parse l ≡ (sequence point_format latest n origin).parse m
    unfolding contour_format
    contour_points t = simp (e, t)

    -- its count is its length
    pub contour_length : leb fewest_points n ≡ true → (c : List Point) (r : List ℕ) → (contour_format room).parse l ≡ parsed c r → length c ≡ n
    contour_length t c r f = parsed_length point_format latest n origin m c r (sym (contour_points t) ∙ f)

  pub contour_in_lem : (c : List Point) (r : List ℕ) → (contour_format room).parse l ≡ parsed c r → (fewest_points ≤ length c) × (length c ≤ room)
  unfolding contour_format
  contour_in_lem c r e =
      let i = then_in (tested (λ n. leb fewest_points n) l ((number room).parse l)) (λ n r. (sequence point_format latest n origin).parse r) c r e in
      let j = tested_in (λ n. leb fewest_points n) l ((number room).parse l) i.0 i.1 i.2 in
      let k = tested_in (λ n. leb n room) l (parse_number l) i.0 i.1 j.0 in
      let n : length c ≡ i.0 = parsed_length point_format latest i.0 origin i.1 c r i.3 in
      (omega (arith, leb-true fewest_points i.0 j.1), omega (arith, leb-true i.0 room k.1))

-- ---- a layer, by its height and its contours

module _ (low : ℤ) (l : List ℕ) where
  pub height_bad : (number largest_word).parse l ≡ refused l → (height_above low).parse l ≡ refused l
  unfolding height_above
  height_bad e = simp e

  module _ (m : ℕ) (r : List ℕ) (e : (number largest_word).parse l ≡ parsed m r) where
    pub height_low : lt_z low (unzigzag m) ≡ false → (height_above low).parse l ≡ refused l
    unfolding height_above
    height_low t = simp (e, t)

    pub height_above_lem : lt_z low (unzigzag m) ≡ true → (height_above low).parse l ≡ parsed (unzigzag m) r
    unfolding height_above
    height_above_lem t = simp (e, t)

  pub height_in : (h : ℤ) (r : List ℕ) → (height_above low).parse l ≡ parsed h r → lt_z low h ≡ true
  unfolding height_above
  height_in h r e = (tested_in (λ h. lt_z low h) l ((signed largest_word).parse l) h r e).1

  pub layer_bad : (p : Profile) → (height_above low).parse l ≡ refused l → (layer_format_in p low).parse l ≡ refused l
  unfolding layer_format_in
  layer_bad p e = simp e

  pub layer_contours : (p : Profile) (h : ℤ) (m : List ℕ) → (height_above low).parse l ≡ parsed h m
      → (layer_format_in p low).parse l ≡ mapped {B = Layer} (λ cs. record { height = h; contours = cs }) ((contour_list_in p).parse m)
  unfolding layer_format_in
  layer_contours p h m e = simp e (by ((contour_list_in p).parse m))
    where
      by : (d : Parse (List (List Point)))
          → mapped {B = Layer} (λ (q : ℤ × List (List Point)). record { height = q.0; contours = q.1 }) (mapped (λ b. (h, b)) d)
          ≡ mapped {B = Layer} (λ cs. record { height = h; contours = cs }) d
      by (parsed cs r) = refl
      by (refused r) = refl

pub height_single : (low : ℤ) → Single (height_above low)
unfolding height_above
height_single low = ruled_single (λ h. lt_z low h) (signed largest_word)

-- ---- what may be written

-- a difference of two numbers in coordinate range has 32 bits
pub coordinate_valid : (p z : ℤ) → nat_abs p ≤ largest → nat_abs z ≤ largest → (coordinate_format p).valid z
unfolding coordinate_format
coordinate_valid p z h k = (omega (arith, zigzag_abs (z -ℤ p), abs_sub z p), le→leb (nat_abs z) largest k)

-- ---- the bytes of a point

pub point_encode : (p q : Point) → (point_format p).encode q ≡ encode_number (zigzag (q.x -ℤ p.x)) ++ encode_number (zigzag (q.y -ℤ p.y))
unfolding point_format coordinate_format
point_encode p q = refl
