-- Layers one by one, and the end of the file: a lemma for each return of `read_height`, `check_layer`, `check_layers` and `check_last`.
use mathlib.Core.Path.{◌≡◌, sym, ap, ◌∙◌, subst}
use mathlib.Core.Bool.{true, false}
use mathlib.Core.List.{List}
use Rattle.std.specs.Prelude.{Result, Ok, Err}
use Prim.Native.Nat.{ℕ, suc, ◌<◌, ◌≤◌}
use native.Mathlib.Omega.{arith}
use lib.ListN.{length, drop}
use lib.IntN.{ℤ}
use lib.Signed.{lt_z}
use Rattle.cleaning.specs.declared.Profile.{Profile}
use Rattle.file_formats.specs.Formats.{Format, refused, sequence}
use Rattle.file_formats.specs.Numbers.{largest_word, unzigzag}
use Rattle.file_formats.specs.LayerFile.{Layer, height_above, layer_format_in, height_of}
use Rattle.file_formats.specs.LayerFileLaws.{height_bad, height_low, height_above_lem}
use Rattle.file_formats.specs.Positions.{breaks_at, number_at, extent_at}
use Rattle.file_formats.specs.PositionLaws.{took, not_took, number_breaks}
use Rattle.file_formats.specs.declared.Broken.{Broken}
use Rattle.file_check.specs.declared.CountsEnd.{CountsEnd}
use Rattle.file_check.specs.declared.LayerEnd.{LayerEnd}
use Rattle.file_check.specs.declared.LevelsEnd.{LevelsEnd}
use Rattle.file_check.specs.Answers.{height_told_at, counts_at, layer_end, layer_told_at, levels_at, final}
use Rattle.file_check.specs.AnswerLaws.{told_parsed, told_refused, told_off, Off, counts_read, levels_read, levels_off, final_off, final_over}
use Rattle.file_check.specs.AnswerLaws.{final_whole, layer_told, layer_off, layer_no_height, height_inside, layer_no_contours, layer_read}
use Rattle.file_check.specs.RunLaws.{Running, running, run_off, run_next}

-- ---- a height

module _ (low : ℤ) (file : List ℕ) (at : ℕ) where
  none : (height_above low).parse (drop at file) ≡ refused (drop at file) → Err (breaks_at at) ≡ height_told_at low file at
  none e = told_refused (λ z next. Ok (z, next)) (λ q. Err (breaks_at at)) (height_above low) file at (drop at file) e

  pub no_height : {b : Broken} → number_at largest_word file at ≡ Err b → Err b ≡ height_told_at low file at
  no_height e = ap Err (number_breaks largest_word file at e) ∙ none (height_bad low (drop at file) (not_took largest_word file at e))

  module _ {m next : ℕ} (e : number_at largest_word file at ≡ Ok (m, next)) where
    pub not_above_lem : lt_z low (unzigzag m) ≡ false → Err (breaks_at at) ≡ height_told_at low file at
    not_above_lem t = none (height_low low (drop at file) m (drop next file) (took e).parses t)

    pub above : lt_z low (unzigzag m) ≡ true → Ok (unzigzag m, next) ≡ height_told_at low file at
    above t =
        let w = took e in
        told_parsed (λ z next. Ok (z, next)) (λ q. Err (breaks_at at)) (height_above low) file at (unzigzag m) next
        (record { inside = w.inside; parses = height_above_lem low (drop at file) m (drop next file) w.parses t })

-- ---- a layer, by its height and its contours

module _ (p : Profile) (low : ℤ) (file : List ℕ) (at : ℕ) (h : at ≤ length file) where
  layer_refused : {b : Broken} → Off (layer_format_in p low) file at b.at → Err b ≡ layer_told_at p low file at
  layer_refused o = told_off (λ l next. Ok (layer_end l next)) (λ q. Err (breaks_at q)) (layer_format_in p low) file at o

  pub height_stops : {b : Broken} → height_told_at low file at ≡ Err b → Err b ≡ layer_told_at p low file at
  height_stops e = layer_refused (layer_no_height p low file at h e)

  module _ {z : ℤ} {j : ℕ} (e : height_told_at low file at ≡ Ok (z, j)) where
    pub height_in : j ≤ length file
    height_in = height_inside p low file at h z j e

    pub contours_stop : {b : Broken} → counts_at p file j ≡ Err b → Err b ≡ layer_told_at p low file at
    contours_stop f = layer_refused (layer_no_contours p low file at h z j e f)

    pub contours_pass : {b : CountsEnd} → counts_at p file j ≡ Ok b → {y : ℤ} → y ≡ z → {s : ℤ} → s ≡ b.area
        → Ok (record { at = b.at; height = y; area = s }) ≡ layer_told_at p low file at
    contours_pass {b} f z-is sum_is_lem =
        let q = counts_read p file j height_in b f in
        (λ i. Ok (record { at = b.at; height = z-is i; area = (sum_is_lem ∙ sym q.1.area_is) i }))
        ∙ told_parsed (λ l next. Ok (layer_end l next)) (λ q. Err (breaks_at q)) (layer_format_in p low) file at
        (record { height = z; contours = q.0 }) b.at (layer_read p low file at h z j e q.0 b.at b.contours b.points b.area q.1)

-- ---- the loop over the layers

abbrev pub leveled : ℤ → ℕ → Result LevelsEnd Broken
leveled z next = Ok (record { at = next; height = z })

abbrev pub off : ℕ → Result LevelsEnd Broken
off q = Err (breaks_at q)

abbrev pub LayerRun : Profile → List ℕ → Result LevelsEnd Broken → ℤ → ℕ → ℕ → Type 0
LayerRun p file total low i left = Running (layer_format_in p) height_of leveled off file total low i left

pub layers_checked : (p : Profile) (file : List ℕ) (low : ℤ) (at count : ℕ) {left : ℕ} → left ≡ count → at ≤ length file
    → LayerRun p file (levels_at p count low file at) low at left
layers_checked p file low at count all h = rw all (running (layer_format_in p) height_of leveled off file low at count h)

module _ (p : Profile) {file : List ℕ} {total : Result LevelsEnd Broken} {low : ℤ} {i left : ℕ} (w : LayerRun p file total low i left) where
  pub layer_stops : 0 < left → {b : Broken} → layer_told_at p low file i ≡ Err b → Err b ≡ total
  layer_stops h {b} f = run_off (layer_format_in p) height_of leveled off file left w h b.at (layer_off p low file i f)

  pub layer_passes : {rest : ℕ} → suc rest ≡ left → {b : LayerEnd} → layer_told_at p low file i ≡ Ok b → {y : ℤ} → y ≡ b.height
      → LayerRun p file total y b.at rest
  layer_passes {rest} h {b} f same =
      let q = layer_told p low file i w.inside f in
      subst (λ (z : ℤ). LayerRun p file total z b.at rest) (q.1.height_is ∙ sym same)
      (run_next (layer_format_in p) height_of leveled off file left w rest h q.0 b.at q.1.stands)

-- ---- the end of the file

extent_off : {A : Type 0} (F : Format A) (file : List ℕ) (at : ℕ) {b : Broken} → Off F file at b.at → Err b ≡ extent_at F file at
unfolding extent_at
extent_off F file at o = let p = o.parses in simp p (ap (λ (k : ℕ). Err (breaks_at k)) o.place)

module _ (p : Profile) (n : ℕ) (low : ℤ) (file : List ℕ) (at : ℕ) where
  abbrev layers : Format (List Layer)
  layers = sequence (layer_format_in p) height_of n low

  pub layers_stop : {b : Broken} → levels_at p n low file at ≡ Err b → Err b ≡ extent_at (final layers) file at
  layers_stop {b} e = extent_off (final layers) file at (final_off layers file at b.at (levels_off p file at n low e))

  module _ (h : at ≤ length file) {b : LevelsEnd} (e : levels_at p n low file at ≡ Ok b) where
    pub left_over_lem : b.at < length file → Err (breaks_at b.at) ≡ extent_at (final layers) file at
    left_over_lem k =
        let q = levels_read p file at n low h b e in
        extent_off (final layers) file at (final_over layers file at q.0 b.at q.1 k)

    pub all_passed : length file ≤ b.at → Ok b.at ≡ extent_at (final layers) file at
    unfolding extent_at
    all_passed k =
        let q = levels_read p file at n low h b e in
        let f = final_whole layers file at q.0 b.at q.1 k in
        simp f (ap Ok (omega (arith, q.1.inside)))
