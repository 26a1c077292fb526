-- The bytes of the layer file part by part, how many they are, and what the tables of a layer hold.
use Rattle.std.specs.Prelude.{ℕ, ◌+◌, ◌*◌, ◌≤◌, ◌≡◌, take, drop, ℤ, nat_abs, ◌-ℤ◌}
use Rattle.std.proofs.Math.Path.{refl, sym, ap, subst}
use Rattle.std.proofs.Common.{◌∙◌}
use mathlib.Core.List.{List, [], ◌∷◌, ◌++◌, flat_map, flatten, append_assoc}
use native.Mathlib.Omega.{arith}
use Rattle.std.proofs.Math.ListN.{length, length-append}
use Rattle.std.proofs.lemmas.List.Edits.{sets}
use Rattle.laws.specs.Integers.{abs_sub}
use Rattle.laws.specs.Tables.{overwrite}
use Rattle.laws.specs.TableLaws.{overwrite_none, overwrite_more, overwrite_front}
use Rattle.mesh.specs.Corners.{largest}
use Rattle.polygons.proofs.FlatLaws.{length_numbers, contours_in_lem}
pub use Rattle.polygons.proofs.FlatLaws.{length_ends, length_flatten, flatten_map, ends_map}
use Rattle.file_formats.specs.Formats.{Format, encode_all, Each}
use Rattle.file_formats.specs.Numbers.{encode_number, zigzag}
use Rattle.file_formats.specs.NumberLaws.{encode_short, word_bytes, word_sent, zigzag_abs}
use Rattle.file_formats.specs.EmitLaws.{Emit, emit_start, emit_fits, emit, emit_end}
use Rattle.file_formats.specs.LayerFile.{Point, Layer, most_points, point_format, latest, origin, contour_format, room_after, contour_list_in, height_above}
use Rattle.file_formats.specs.LayerFile.{layer_format, layer_format_in}
use Rattle.file_formats.specs.LayerFile.{height_of, lowest, layer_file, layer_file_in}
use Rattle.file_formats.specs.LayerFileLaws.{point_encode}
use Rattle.file_formats.specs.LayerRules.{PointRules, ContourRules, point_total, LayerRules}
use Rattle.file_formats.specs.LayerRuleLaws.{few_contours}
use Rattle.file_write.specs.Written.{contours_in, layer_of, numbers_of, ends_from, ends_of, point_bytes, contour_bytes, layer_bytes, most_layer_bytes, HasRoom}
use Rattle.file_write.specs.Written.{Puts, total_of}
use Rattle.file_write.specs.LayerTables.{EndsWithin, LayerTables}

-- ---- lists

module _ {A B : Type 0} (f : A → List B) where
  pub flat_map_first : (a : A) (l : List A) → flat_map f (a ∷ l) ≡ f a ++ flat_map f l
  unfolding flat_map
  flat_map_first a l = refl

  pub flat_map_append : (l m : List A) → flat_map f (l ++ m) ≡ flat_map f l ++ flat_map f m
  unfolding flat_map
  flat_map_append [] m = refl
  flat_map_append (a ∷ l) m = ap (λ (r : List B). f a ++ r) (flat_map_append l m) ∙ sym (append_assoc (f a) (flat_map f l) (flat_map f m))

  pub length_flat_map : (l : List A) → length (flat_map f l) ≡ total_of (λ a. length (f a)) l
  unfolding flat_map total_of
  length_flat_map [] = refl
  length_flat_map (a ∷ l) = length-append (f a) (flat_map f l) ∙ ap (λ (n : ℕ). length (f a) + n) (length_flat_map l)

module _ {A : Type 0} (f : A → ℕ) where
  pub total_none : total_of f [] ≡ 0
  unfolding total_of
  total_none = refl

  pub total_first : (a : A) (l : List A) → total_of f (a ∷ l) ≡ f a + total_of f l
  unfolding total_of
  total_first a l = refl

  pub total_append : (l m : List A) → total_of f (l ++ m) ≡ total_of f l + total_of f m
  unfolding total_of
  total_append [] m = omega arith
  total_append (a ∷ l) m = omega (arith, total_append l m)

  pub total_snoc : (l : List A) (a : A) → total_of f (l ++ (a ∷ [])) ≡ total_of f l + f a
  unfolding total_of
  total_snoc l a = omega (arith, total_append l (a ∷ []))

-- ---- a loop that writes the values of a list one after the other

module _ {A : Type 0} (f : A → List ℕ) {l : List ℕ} {at : ℕ} {all m : List ℕ} {i : ℕ} (a : A) (rest : List A) (e : Emit l at all m i (flat_map f (a ∷ rest)))
  where
    next : Emit l at all m i (f a ++ flat_map f rest)
    next = subst (Emit l at all m i) (flat_map_first f a rest) e

    -- the next value has room
    pub each_room : HasRoom m i (f a)
    each_room = emit_fits (f a) (flat_map f rest) next

    -- and is written
    pub each_put : {p : ℕ} {n : List ℕ} → Puts m i (f a) p n → Emit l at all n p (flat_map f rest)
    each_put v = rw (v.0, v.1) (emit (f a) (flat_map f rest) next)

-- all are written
pub each_end : {A : Type 0} (f : A → List ℕ) {l : List ℕ} {at : ℕ} {all m : List ℕ} {i : ℕ} → Emit l at all m i (flat_map f []) → Puts l at all i m
unfolding flat_map
each_end f e = emit_end e

-- what is written at the front of an output
pub put_front : (output bytes : List ℕ) → HasRoom output 0 bytes → sets output 0 bytes ≡ overwrite bytes output
put_front output bytes h = ap (λ (l : List ℕ). sets l 0 bytes) (sym (overwrite_none output)) ∙ overwrite_more bytes [] output 0 refl (omega arith)

-- ---- the bytes, part by part

-- a sequence whose values are written alike in every state
encode_each : {S A : Type 0} (F : S → Format A) (step : S → A → S) (f : A → List ℕ) → ((s : S) (a : A) → (F s).encode a ≡ f a) → (s : S) (l : List A)
    → encode_all F step s l ≡ flat_map f l
unfolding encode_all flat_map
encode_each F step f e s [] = refl
encode_each F step f e s (a ∷ l) = λ i. e s a i ++ encode_each F step f e (step s a) l i

pub contour_encode : (room : ℕ) (c : List Point) → (contour_format room).encode c ≡ contour_bytes c
unfolding contour_format contour_bytes
contour_encode room c = refl

pub contour_bytes_lem : (c : List Point) → contour_bytes c ≡ encode_number (length c) ++ point_bytes c
unfolding contour_format contour_bytes point_bytes
contour_bytes_lem c = refl

pub layer_encode : (low : ℤ) (l : Layer) → (layer_format low).encode l ≡ layer_bytes l
unfolding layer_format_in height_above layer_bytes
layer_encode low l = refl

pub layer_bytes_lem : (l : Layer) → layer_bytes l ≡ encode_number (zigzag l.height) ++ (encode_number (length l.contours) ++ flat_map contour_bytes l.contours)
unfolding layer_bytes layer_format_in height_above contour_list_in
layer_bytes_lem l =
    ap (λ (r : List ℕ). encode_number (zigzag l.height) ++ (encode_number (length l.contours) ++ r))
    (encode_each contour_format room_after contour_bytes contour_encode most_points l.contours)

-- the file: the count, and then layer by layer
pub file_bytes : (ls : List Layer) → layer_file.encode ls ≡ encode_number (length ls) ++ flat_map layer_bytes ls
unfolding layer_file_in
file_bytes ls = ap (λ (r : List ℕ). encode_number (length ls) ++ r) (encode_each layer_format height_of layer_bytes layer_encode lowest ls)

pub file_length : (ls : List Layer) → length (layer_file.encode ls) ≡ length (encode_number (length ls)) + total_of (λ l. length (layer_bytes l)) ls
file_length ls =
    ap length (file_bytes ls)
    ∙ length-append (encode_number (length ls)) (flat_map layer_bytes ls)
    ∙ ap (λ (n : ℕ). length (encode_number (length ls)) + n) (length_flat_map layer_bytes ls)

-- the count has room and is written first, and then layer by layer as above
module _ (output : List ℕ) (at : ℕ) (ls : List Layer) (h : HasRoom output at (layer_file.encode ls)) where
  start : Emit output at (layer_file.encode ls) output at (encode_number (length ls) ++ flat_map layer_bytes ls)
  start = subst (Emit output at (layer_file.encode ls) output at) (file_bytes ls) (emit_start output at (layer_file.encode ls) h)

  pub count_room : HasRoom output at (encode_number (length ls))
  count_room = emit_fits (encode_number (length ls)) (flat_map layer_bytes ls) start

  pub count_put : {p : ℕ} {n : List ℕ} → Puts output at (encode_number (length ls)) p n → Emit output at (layer_file.encode ls) n p (flat_map layer_bytes ls)
  count_put v = rw (v.0, v.1) (emit (encode_number (length ls)) (flat_map layer_bytes ls) start)

-- ---- what the tables of a layer hold

ends_within : {A : Type 0} (n k : ℕ) (cs : List (List A)) → 2 * (k + length (flatten cs)) ≤ n → EndsWithin n k (ends_from k cs)
unfolding ends_from flatten
ends_within n k [] h = tt
ends_within n k (c ∷ cs) h =
    let l : length (c ++ flatten cs) ≡ length c + length (flatten cs) = length-append c (flatten cs) in
    (omega arith, omega arith, ends_within n (k + length c) cs (omega arith))

-- the numbers of all contours in front of a table of points, and their ends in front of a table of ends
module _ (cs : List (List Point)) (points : List ℤ) (ends : List ℕ) where
  front_ends : take (length cs) (overwrite (ends_of cs) ends) ≡ ends_of cs
  front_ends = overwrite_front (ends_of cs) ends (length_ends 0 cs)

  -- they hold these contours
  pub layer_held : (h : ℤ)
      → layer_of h (overwrite (numbers_of (flatten cs)) points) (overwrite (ends_of cs) ends) (length cs) ≡ record { height = h; contours = cs }
  unfolding layer_of overwrite numbers_of
  layer_held h =
      ap (λ (c : List (List Point)). record { height = h; contours = c })
      (ap (contours_in (overwrite (numbers_of (flatten cs)) points) 0) front_ends
      ∙ contours_in_lem [] cs (drop (length (numbers_of (flatten cs))) points))

  -- and are as the writer asks
  pub tables_held : LayerTables (overwrite (numbers_of (flatten cs)) points) (overwrite (ends_of cs) ends) (length cs)
  unfolding overwrite
  tables_held =
      record {
        there = omega (arith, length-append (ends_of cs) (drop (length (ends_of cs)) ends), length_ends 0 cs);
        rise =
            subst (EndsWithin (length (overwrite (numbers_of (flatten cs)) points)) 0) (sym front_ends)
            (ends_within (length (overwrite (numbers_of (flatten cs)) points)) 0 cs
            (omega (arith, length-append (numbers_of (flatten cs)) (drop (length (numbers_of (flatten cs))) points), length_numbers (flatten cs))));
      }

-- ---- how many bytes a layer takes, by the rules of the layer file

-- a difference of two numbers in coordinate range takes four bytes at most
difference_four : (p z : ℤ) → nat_abs p ≤ largest → nat_abs z ≤ largest → length (encode_number (zigzag (z -ℤ p))) ≤ 4
difference_four p z h k = encode_short 3 (zigzag (z -ℤ p)) (omega (arith, zigzag_abs (z -ℤ p), abs_sub z p))

points_short : (p : Point) → PointRules p → (c : List Point) → Each PointRules c → length (encode_all point_format latest p c) ≤ 8 * length c
unfolding encode_all
points_short p h [] e = omega arith
points_short p h (q ∷ c) e =
    let x = difference_four p.x q.x h.0 e.0.0 in
    let y = difference_four p.y q.y h.1 e.0.1 in
    let n = simp length-append at (ap length (point_encode p q)) in
    omega (arith, x, y, n, length-append ((point_format p).encode q) (encode_all point_format latest q c), points_short q e.0 c e.1)

contours_short : (cs : List (List Point)) → point_total cs ≤ most_points → Each ContourRules cs
    → length (flat_map contour_bytes cs) ≤ 3 * length cs + 8 * point_total cs
unfolding flat_map point_bytes
contours_short [] h e = omega arith
contours_short (c ∷ cs) h e =
    let n = encode_short 2 (length c) (omega arith) in
    let m = points_short origin (omega arith, omega arith) c e.0.1 in
    let l = simp length-append at (ap length (contour_bytes_lem c)) in
    omega (arith, n, m, l, length-append (contour_bytes c) (flat_map contour_bytes cs), contours_short cs (omega arith) e.1)

-- a layer whose points and contours keep the rules
pub layer_short : (l : Layer) → point_total l.contours ≤ most_points → Each ContourRules l.contours
    → length (layer_bytes l) ≤ length (encode_number (zigzag l.height)) + 3 + 10 * point_total l.contours
layer_short l h e =
    let few = few_contours l.contours e in
    let n = encode_short 2 (length l.contours) (omega arith) in
    omega (arith, few, n, contours_short l.contours h e, simp length-append at (ap length (layer_bytes_lem l)))

pub layer_most : (l : Layer) → LayerRules l → length (layer_bytes l) ≤ most_layer_bytes
layer_most l r =
    omega (arith, layer_short l r.few r.each, r.few, word_bytes (zigzag l.height) (omega (arith, word_sent l.height r.height_fits)))

pub layers_most : (ls : List Layer) → Each LayerRules ls → total_of (λ l. length (layer_bytes l)) ls ≤ length ls * most_layer_bytes
unfolding total_of
layers_most [] e = omega arith
layers_most (l ∷ ls) e = omega (arith, layer_most l e.0, layers_most ls e.1)
