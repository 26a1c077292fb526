-- The theorems about files of a profile: such a file is one of the full profile whose layers this profile leaves as they are (READCLEAN-1); layers in the
-- profile are read back; no two files hold the same layers; and any other file of the full profile breaks at its first contour that is not clean (READCLEAN-3).
use Rattle.std.specs.Prelude.{◌≡◌, refl, Bool, true, false, cond, ◌⊎◌, ◌↔◌, ℕ, zero, suc, ◌-◌, ℤ}
use Rattle.std.proofs.Common.{sym, ◌∙◌, inl, inr, arith, length-append}
use Rattle.std.proofs.Math.Path.{ap, subst}
use mathlib.Core.List.{List, [], ◌∷◌, ◌++◌, append-nil, map}
use Rattle.std.proofs.Math.ListN.{length}
use Rattle.laws.specs.Booleans.{from_T}
use Rattle.cleaning.specs.Cleaning.{is_clean}
use Rattle.cleaning.specs.Profiles.{profiled, fits_in}
use Rattle.cleaning.specs.PointLaws.{decide}
use Rattle.cleaning.proofs.CleaningLaws.{AllClean, clean_stays}
use Rattle.cleaning.specs.declared.Profile.{Profile}
use Rattle.cleaning.specs.declared.Profile.TheVariants.{Full, Clean}
use Rattle.file_formats.specs.Formats.{parsed, refused, Format, obeyed, pair, valid_all, encode_all, state_after, sequence, holds, broken}
use Rattle.file_formats.specs.Formats.{decode, Each}
use Rattle.file_formats.specs.FormatLaws.{Bytes, true_T, decode_there, decode_back, decode_one, decode_within, encode_alike}
use Rattle.file_formats.specs.Numbers.{largest_word, encode_number, number, zigzag}
use Rattle.file_formats.specs.NumberLaws.{number_laws}
use Rattle.file_formats.specs.StopLaws.{Stops, through_stops, pair_stops, headed_stops, valid_split, state_alike, sequence_stops}
use Rattle.file_formats.specs.LayerFile.{Point, Layer, layer_in, contour_format, contour_in, room_after, contour_list, contour_list_in, most_points}
use Rattle.file_formats.specs.LayerFile.{layer_format}
use Rattle.file_formats.specs.LayerFile.{most_layers, height_above, layer_format_in, lowest, height_of, layer_file, layer_file_in, layers_of, layers_of_in}
use Rattle.file_formats.specs.LayerFileLaws.{contour_laws, contour_in_laws, height_above_laws, layer_laws, layer_file_laws, layer_file_within}
use Rattle.file_formats.specs.LayerFileLaws.{contour_alike, layer_alike, encode_in}
use Rattle.file_formats.specs.LayerRules.{Rules}
use Rattle.file_formats.specs.LayerRuleLaws.{rules_valid, valid_rules}
use Rattle.file_formats.specs.ProfileLaws.{layers_in_rules, profiled_fits}

-- ---- what may be written in a profile

-- values that may be written in one format exactly if they may be in another, and P holds of them; so lists of these
module _ {S A : Type 0} (F G : S → Format A) (step : S → A → S) (P : A → Type 0) (h : (s : S) (a : A) → (F s).valid a ↔ ((G s).valid a × P a)) where
  all_valid : (n : ℕ) (s : S) (xs : List A) → valid_all F step n s xs ↔ (valid_all G step n s xs × Each P xs)
  all_valid zero s [] = ((λ v. (tt, tt)), (λ v. tt))
  all_valid zero s (x ∷ xs) = ((λ v. absurd v), (λ v. v.0))
  all_valid (suc n) s [] = ((λ v. absurd v), (λ v. v.0))
  all_valid (suc n) s (x ∷ xs) =
      let rest = all_valid n (step s x) xs in (
        (λ v. let a = (h s x).0 v.0 in let b = rest.0 v.1 in ((a.0, b.0), (a.1, b.1))),
        (λ v. ((h s x).1 (v.0.0, v.1.0), rest.1 (v.0.1, v.1.1))),
      )

-- all contours of a layer may stand in the profile
abbrev pub AllFit : Profile → List (List Point) → Type 0
AllFit p cs = Each (λ c. fits_in p c ≡ true) cs

module _ (p : Profile) where
  contour_valid : (room : ℕ) (c : List Point) → (contour_in p room).valid c ↔ ((contour_format room).valid c × (fits_in p c ≡ true))
  contour_valid = by p
    where
      by : (p : Profile) (room : ℕ) (c : List Point) → (contour_in p room).valid c ↔ ((contour_format room).valid c × (fits_in p c ≡ true))
      by Full room c = ((λ v. (v, refl)), (λ v. v.0))
      by Clean room c = ((λ v. (v.0, from_T (is_clean c) v.1)), (λ v. (v.0, true_T v.1)))

  layer_valid : (low : ℤ) (l : Layer) → (layer_format_in p low).valid l ↔ ((layer_format low).valid l × AllFit p l.contours)
  unfolding layer_format_in contour_list_in
  layer_valid low l =
      let q = all_valid (contour_in p) contour_format room_after (λ c. fits_in p c ≡ true) contour_valid (length l.contours) most_points l.contours in (
        (λ v. let w = q.0 v.1.1 in ((v.0, (v.1.0, w.0)), w.1)),
        (λ v. (v.0.0, (v.0.1.0, q.1 (v.0.1.1, v.1)))),
      )

  pub file_valid : (ls : List Layer) → (layer_file_in p).valid ls ↔ (layer_file.valid ls × Each (λ l. AllFit p l.contours) ls)
  unfolding layer_file_in
  file_valid ls =
      let q = all_valid (layer_format_in p) layer_format height_of (λ l. AllFit p l.contours) layer_valid (length ls) lowest ls in
      ((λ v. let w = q.0 v.1 in ((v.0, w.0), w.1)), (λ v. (v.0.0, q.1 (v.0.1, v.1))))

-- ---- layers that the profile leaves as they are

-- all contours of the layers may stand in the profile
abbrev pub LayersFit : Profile → List Layer → Type 0
LayersFit p ls = Each (λ l. AllFit p l.contours) ls

fits_profiled : (p : Profile) (cs : List (List Point)) → AllFit p cs → profiled p cs ≡ cs
fits_profiled Full cs e = refl
fits_profiled Clean cs e = clean_stays cs e

module _ (p : Profile) where
  layers_in_fit : (ls : List Layer) → LayersFit p (map (layer_in p) ls)
  layers_in_fit [] = tt
  layers_in_fit (l ∷ ls) = (profiled_fits p l.contours, layers_in_fit ls)

  layers_stay : (ls : List Layer) → LayersFit p ls → map (layer_in p) ls ≡ ls
  layers_stay [] e = refl
  layers_stay (l ∷ ls) e = λ i. record { height = l.height; contours = fits_profiled p l.contours e.0 i } ∷ layers_stay ls e.1 i

  -- the profile leaves layers as they are exactly if all contours of all of them may stand in it
  pub layers_fit : (ls : List Layer) → LayersFit p ls ↔ (map (layer_in p) ls ≡ ls)
  layers_fit ls = (layers_stay ls, (λ e. subst (LayersFit p) e (layers_in_fit ls)))

  -- layers in the profile it leaves as they are
  pub layers_in_twice : (ls : List Layer) → map (layer_in p) (map (layer_in p) ls) ≡ map (layer_in p) ls
  layers_in_twice ls = layers_stay (map (layer_in p) ls) (layers_in_fit ls)

  -- ---- the theorems

  -- a file of the profile is one of the full profile, with the same layers
  pub layers_full : (file : List ℕ) (ls : List Layer) → layers_of_in p file ≡ holds ls → layers_of file ≡ holds ls
  unfolding layers_of_in
  layers_full file ls e = decode_within (layer_file_in p) layer_file (layer_file_within p) file ls e

  -- the file of layers that obey the rules, and that the profile leaves as they are, is read as these layers
  pub read_back_in : (ls : List Layer) → Rules ls → map (layer_in p) ls ≡ ls → layers_of_in p (layer_file.encode ls) ≡ holds ls
  unfolding layers_of_in
  read_back_in ls r s =
      ap (layers_of_in p) (sym (encode_in p ls))
      ∙ decode_there (layer_file_in p) (layer_file_laws p) ls ((file_valid p ls).1 (rules_valid ls r, (layers_fit ls).1 s))

  -- so that of layers in the profile
  pub profiled_read_back : (ls : List Layer) → Rules ls → layers_of_in p (layer_file.encode (map (layer_in p) ls)) ≡ holds (map (layer_in p) ls)
  profiled_read_back ls r = read_back_in (map (layer_in p) ls) (layers_in_rules p ls r) (layers_in_twice ls)

  -- a file that is read as some layers is the file of these layers; they obey the rules, and the profile leaves them as they are
  pub written_in : (file : List ℕ) (ls : List Layer) → Bytes file → layers_of_in p file ≡ holds ls
      → Rules ls × (map (layer_in p) ls ≡ ls) × (file ≡ layer_file.encode ls)
  unfolding layers_of_in
  written_in file ls b e =
      let h = decode_back (layer_file_in p) (layer_file_laws p) file ls b e in
      let v = (file_valid p ls).0 h.0 in
      (valid_rules ls v.0, (layers_fit ls).0 v.1, h.1 ∙ encode_in p ls)

  -- a file is accepted exactly if it is in the full profile, and its layers are left as they are (READCLEAN-1)
  pub read_exactly_in : (file : List ℕ) (ls : List Layer) → Bytes file
      → (layers_of_in p file ≡ holds ls) ↔ ((layers_of file ≡ holds ls) × (map (layer_in p) ls ≡ ls))
  unfolding layers_of_in
  read_exactly_in file ls b = (
    (λ e. (layers_full file ls e, (written_in file ls b e).1)),
    (λ (e, s). let h = decode_back layer_file (layer_file_laws Full) file ls b e in
        ap (layers_of_in p) h.1 ∙ read_back_in ls (valid_rules ls h.0) s),
  )

  -- no two different accepted files hold the same layers
  pub once_in : (file file' : List ℕ) (ls : List Layer) → Bytes file → Bytes file'
      → layers_of_in p file ≡ holds ls → layers_of_in p file' ≡ holds ls → file ≡ file'
  unfolding layers_of_in
  once_in file file' ls b b' e e' = decode_one (layer_file_in p) (layer_file_laws p) file file' ls b b' e e'

-- ---- the clean profile

pub clean_read_exactly : (file : List ℕ) (ls : List Layer) → Bytes file
    → (layers_of_in Clean file ≡ holds ls) ↔ ((layers_of file ≡ holds ls) × (map (layer_in Clean) ls ≡ ls))
clean_read_exactly = read_exactly_in Clean

pub clean_read_back : (ls : List Layer) → Rules ls → layers_of_in Clean (layer_file.encode (map (layer_in Clean) ls)) ≡ holds (map (layer_in Clean) ls)
clean_read_back = profiled_read_back Clean

pub clean_once : (file file' : List ℕ) (ls : List Layer) → Bytes file → Bytes file'
    → layers_of_in Clean file ≡ holds ls → layers_of_in Clean file' ≡ holds ls → file ≡ file'
clean_once = once_in Clean

-- ---- the place of 18: the first contour that is not clean (READCLEAN-3)

-- the bytes before a contour: the layer count, the layers before its own, that one's height and contour count, and the contours before it
abbrev pub bytes_before : List Layer → List Layer → Layer → List (List Point) → List ℕ
bytes_before ls front l before =
    encode_number (length ls) ++ (encode_all layer_format height_of lowest front ++ (encode_number (zigzag l.height)
    ++ (encode_number (length l.contours) ++ encode_all contour_format room_after most_points before)))

-- the first contour of a file that is not clean: all before it are, and it begins at byte k
pub record FirstUnclean (file : List ℕ) (ls : List Layer) (k : ℕ) : Type 0 where
  pub front : List Layer
  pub layer : Layer
  pub back : List Layer
  pub before : List (List Point)
  pub contour : List Point
  pub after : List (List Point)
  pub layers_are : ls ≡ front ++ (layer ∷ back)
  pub contours_are : layer.contours ≡ before ++ (contour ∷ after)
  pub front_clean : LayersFit Clean front
  pub before_clean : AllClean before
  pub unclean : is_clean contour ≡ false
  pub rest : List ℕ
  pub file_is : file ≡ bytes_before ls front layer before ++ ((contour_format most_points).encode contour ++ rest)
  pub place : k ≡ length (bytes_before ls front layer before)

-- the first of some contours, and of the contours of some layers, that is not clean

record InContours (cs : List (List Point)) : Type 0 where
  before : List (List Point)
  contour : List Point
  after : List (List Point)
  is : cs ≡ before ++ (contour ∷ after)
  clean : AllClean before
  unclean : is_clean contour ≡ false

in_contours : (cs : List (List Point)) → AllClean cs ⊎ InContours cs
in_contours [] = inl tt
in_contours (c ∷ cs) = by (decide (is_clean c)) (in_contours cs)
  where
    by : (is_clean c ≡ true) ⊎ (is_clean c ≡ false) → AllClean cs ⊎ InContours cs → AllClean (c ∷ cs) ⊎ InContours (c ∷ cs)
    by (inr e) q = inr (record { before = []; contour = c; after = cs; is = refl; clean = tt; unclean = e })
    by (inl e) (inl q) = inl (e, q)
    by (inl e) (inr q) =
        inr (record {
          before = c ∷ q.before;
          contour = q.contour;
          after = q.after;
          is = ap (λ (ds : List (List Point)). c ∷ ds) q.is;
          clean = (e, q.clean);
          unclean = q.unclean;
        })

record InLayers (ls : List Layer) : Type 0 where
  front : List Layer
  layer : Layer
  back : List Layer
  is : ls ≡ front ++ (layer ∷ back)
  clean : LayersFit Clean front
  found : InContours layer.contours

in_layers : (ls : List Layer) → LayersFit Clean ls ⊎ InLayers ls
in_layers [] = inl tt
in_layers (l ∷ ls) = by (in_contours l.contours) (in_layers ls)
  where
    by : AllClean l.contours ⊎ InContours l.contours → LayersFit Clean ls ⊎ InLayers ls → LayersFit Clean (l ∷ ls) ⊎ InLayers (l ∷ ls)
    by (inr e) q = inr (record { front = []; layer = l; back = ls; is = refl; clean = tt; found = e })
    by (inl e) (inl q) = inl (e, q)
    by (inl e) (inr q) =
        inr (record {
          front = l ∷ q.front;
          layer = q.layer;
          back = q.back;
          is = ap (λ (ms : List Layer). l ∷ ms) q.is;
          clean = (e, q.clean);
          found = q.found;
        })

-- there the clean profile stops

contour_stops : (room : ℕ) (c : List Point) → (contour_format room).valid c → is_clean c ≡ false
    → Stops (contour_in Clean room) ((contour_in Clean room).encode c) [] ((contour_format most_points).encode c)
unfolding contour_format
contour_stops room c v u =
    let e = (contour_format room).encode c in
    record {
      tail = [];
      is = sym (append-nil e);
      stops = λ r. ap (obeyed is_clean (e ++ r)) ((contour_laws room).there c r v) ∙ ap (λ (b : Bool). cond b (parsed c r) (refused (e ++ r))) u;
    }

contours_stop : (before : List (List Point)) (c : List Point) (after : List (List Point)) → contour_list.valid (before ++ (c ∷ after))
    → AllClean before → is_clean c ≡ false
    → Stops (contour_list_in Clean) ((contour_list_in Clean).encode (before ++ (c ∷ after)))
    (encode_number (length (before ++ (c ∷ after))) ++ (encode_all (contour_in Clean) room_after most_points before ++ []))
    ((contour_format most_points).encode c)
unfolding contour_list_in
contours_stop before c after v clean u =
    let n = length (before ++ (c ∷ after)) in
    let w = valid_split contour_format room_after n most_points before c after v.1 in
    let here = subst (λ (room : ℕ). (contour_format room).valid c) (sym (state_alike (contour_in Clean) room_after contour_format most_points before)) w.1 in
    let all = (all_valid (contour_in Clean) contour_format room_after (λ c. is_clean c ≡ true) (contour_valid Clean) (length before) most_points before).1
    (w.0, clean) in
    headed_stops (number largest_word) (number_laws largest_word) n v.0 length (λ n. sequence (contour_in Clean) room_after n most_points)
    (sequence_stops (contour_in Clean) room_after (contour_in_laws Clean) most_points before c after all
    (contour_stops (state_after (contour_in Clean) room_after most_points before) c here u))

layer_stops : (low : ℤ) (l : Layer) → (layer_format low).valid l → (q : InContours l.contours)
    → Stops (layer_format_in Clean low) ((layer_format_in Clean low).encode l)
    (encode_number (zigzag l.height) ++ (encode_number (length l.contours) ++ (encode_all (contour_in Clean) room_after most_points q.before ++ [])))
    ((contour_format most_points).encode q.contour)
unfolding layer_format_in height_above
layer_stops low l v q =
    through_stops {B = Layer} (λ q. record { height = q.0; contours = q.1 }) (λ l. (l.height, l.contours))
    (pair (height_above low) (λ h. contour_list_in Clean))
    (pair_stops (height_above low) (height_above_laws low) l.height v.0 (λ h. contour_list_in Clean)
    (subst (λ (cs : List (List Point)). Stops (contour_list_in Clean) ((contour_list_in Clean).encode cs)
    (encode_number (length cs) ++ (encode_all (contour_in Clean) room_after most_points q.before ++ [])) ((contour_format most_points).encode q.contour))
    (sym q.is)
    (contours_stop q.before q.contour q.after (subst (λ (cs : List (List Point)). contour_list.valid cs) q.is v.1) q.clean q.unclean)))

module _ (ls : List Layer) (q : InLayers ls) where
  abbrev contour_bytes : List ℕ
  contour_bytes = (contour_format most_points).encode q.found.contour

  -- the bytes before it as the clean profile writes them, which are the same
  abbrev head_bytes : List ℕ
  head_bytes =
      encode_number (length ls) ++ (encode_all (layer_format_in Clean) height_of lowest q.front ++ (encode_number (zigzag q.layer.height)
      ++ (encode_number (length q.layer.contours) ++ (encode_all (contour_in Clean) room_after most_points q.found.before ++ []))))

  same_head : head_bytes ≡ bytes_before ls q.front q.layer q.found.before
  same_head =
      let cs = append-nil (encode_all (contour_in Clean) room_after most_points q.found.before)
      ∙ encode_alike (contour_in Clean) contour_format room_after (contour_alike Clean) most_points q.found.before in
      let ls' = encode_alike (layer_format_in Clean) layer_format height_of (layer_alike Clean) lowest q.front in
      λ i. encode_number (length ls) ++ (ls' i ++ (encode_number (zigzag q.layer.height) ++ (encode_number (length q.layer.contours) ++ cs i)))

  file_stops : layer_file.valid ls → Stops (layer_file_in Clean) ((layer_file_in Clean).encode ls) head_bytes contour_bytes
  unfolding layer_file_in
  file_stops v =
      let all = subst (λ (ms : List Layer). valid_all layer_format height_of (length ls) lowest ms) q.is v.1 in
      let w = valid_split layer_format height_of (length ls) lowest q.front q.layer q.back all in
      let here = subst (λ (low : ℤ). (layer_format low).valid q.layer) (sym (state_alike (layer_format_in Clean) height_of layer_format lowest q.front))
      w.1 in
      let front-valid = (all_valid (layer_format_in Clean) layer_format height_of (λ l. AllFit Clean l.contours) (layer_valid Clean) (length q.front) lowest
      q.front).1 (w.0, q.clean) in
      let inside = sequence_stops (layer_format_in Clean) height_of (layer_laws Clean) lowest q.front q.layer q.back front-valid
      (layer_stops (state_after (layer_format_in Clean) height_of lowest q.front) q.layer here q.found) in
      headed_stops (number most_layers) (number_laws most_layers) (length ls) v.0 length (λ n. sequence (layer_format_in Clean) height_of n lowest)
      (subst (λ (ms : List Layer). Stops (sequence (layer_format_in Clean) height_of (length ms) lowest)
      (encode_all (layer_format_in Clean) height_of lowest ms)
      (encode_all (layer_format_in Clean) height_of lowest q.front ++ (encode_number (zigzag q.layer.height)
      ++ (encode_number (length q.layer.contours) ++ (encode_all (contour_in Clean) room_after most_points q.found.before ++ [])))) contour_bytes)
      (sym q.is) inside)

stopped_place : (F : Format (List Layer)) (file bytes head value : List ℕ) → Stops F bytes head value → file ≡ bytes → (k : ℕ) → decode F file ≡ broken k
    → k ≡ length head
stopped_place F file bytes head value s w k f =
    let parse : F.parse file ≡ refused (value ++ (s.tail ++ [])) = ap F.parse (w ∙ sym (append-nil bytes)) ∙ s.stops [] in
    let place : broken k ≡ broken (length file - length (value ++ (s.tail ++ []))) = sym f ∙ simp parse in
    let same : k ≡ length file - length (value ++ (s.tail ++ [])) = cc in
    omega (arith, same, ap length (w ∙ s.is), length-append head (value ++ s.tail), ap (λ (l : List ℕ). length (value ++ l)) (append-nil s.tail))

-- a file that is one of the full profile and none of the clean one breaks there
pub clean_place : (file : List ℕ) (ls : List Layer) → Bytes file → layers_of file ≡ holds ls → (k : ℕ) → layers_of_in Clean file ≡ broken k
    → FirstUnclean file ls k
unfolding layers_of_in
clean_place file ls b e k f = by (in_layers ls)
  where
    by : LayersFit Clean ls ⊎ InLayers ls → FirstUnclean file ls k
    by (inl fit) =
        let h = (read_exactly_in Clean file ls b).1 (e, (layers_fit Clean ls).0 fit) in
        cc
    by (inr q) =
        let w = decode_back layer_file (layer_file_laws Full) file ls b e in
        let s = file_stops ls q w.0 in
        let is = w.1 ∙ sym (encode_in Clean ls) in
        record {
          front = q.front;
          layer = q.layer;
          back = q.back;
          before = q.found.before;
          contour = q.found.contour;
          after = q.found.after;
          layers_are = q.is;
          contours_are = q.found.is;
          front_clean = q.clean;
          before_clean = q.found.clean;
          unclean = q.found.unclean;
          rest = s.tail;
          file_is = is ∙ s.is ∙ ap (λ (l : List ℕ). l ++ (contour_bytes ls q ++ s.tail)) (same_head ls q);
          place =
              stopped_place (layer_file_in Clean) file ((layer_file_in Clean).encode ls) (head_bytes ls q) (contour_bytes ls q) s is k f
              ∙ ap length (same_head ls q);
        }
