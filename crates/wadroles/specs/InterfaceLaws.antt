-- What a caller of the C interface knows of an operation's answer: for each function the number returned and `out`, of four numbers, say it whole. That the
-- outcome is the only one is `exports_only` (wadroles/ExportLaws).
use Prim.Native.Nat.{ℕ, zero, suc, ◌^◌, ◌<◌}
use Rattle.std.specs.Prelude.{◌≡◌, cond, List, [], ◌∷◌, ◌++◌, map, eqb, length, get_or, ℤ, Float, Option, None, Some}
use Rattle.std.proofs.Math.Path.{refl}
use Rattle.std.proofs.Common.{sym, ◌∙◌, subst, arith}
use Rattle.std.proofs.lemmas.List.Edits.{sets}
use Rattle.std.specs.Float.{nan}
use Rattle.std.specs.Int.Signed.{mag}
use Rattle.laws.specs.Integers.{mag_le}
use Rattle.mesh.specs.Meshes.{Mesh, PairedMesh, OrderedMesh}
use Rattle.mesh.specs.Operation.{Answer, gives, refuses, Finding, answer_of, verdict, fine, ◌then◌}
use Rattle.mesh.specs.OperationLaws.{Every, fine_none, refused_every}
use Rattle.mesh.specs.Refusals.{Told, refusal, number_in}
use Rattle.check_mesh.specs.Check.{CheckTables, checking}
use Rattle.cut.specs.Cut.{CutTables, cutting}
use Rattle.contours.specs.Areas.{area_of, measuring}
use Rattle.contours.specs.AreaLaws.{run_bound, run_of}
use Rattle.sweep.specs.Sweep.{Sweep}
use Rattle.sweep.specs.Operations.{starting, StepGives, passes, top, stepping, layering}
use Rattle.all_heights.specs.Heights.{heights_taken}
use Rattle.all_sweep.specs.AllLayers.{WorkTables, climbed, swept_file, used_at, short_output, filing}
use Rattle.polygons.specs.Flat.{FlatLayer}
use Rattle.cleaning.specs.declared.Profile.{Profile}
use Rattle.cleaning.specs.declared.Profile.TheVariants.{Full, Clean}
use Rattle.clean.specs.Clean.{cleaning}
use Rattle.file_formats.specs.Formats.{Each}
use Rattle.file_formats.specs.FormatLaws.{Bytes}
use Rattle.file_formats.specs.LayerFile.{Layer}
use Rattle.file_formats.specs.LayerRules.{LayerRules}
use Rattle.file_formats.specs.RoundTripLaws.{layers_written}
use Rattle.file_formats.specs.WholeFileLaws.{held_or_is}
use Rattle.file_formats.specs.CleanFileLaws.{layers_full}
use Rattle.file_formats.specs.PartFile.{Part}
use Rattle.read_layer.specs.Reading.{layers_in, layer_at, Entries, entries_of, reading_tests, layer_reading}
use Rattle.read_layer.specs.ReadingLaws.{fine_there}
use Rattle.read_part.specs.Parts.{part_reading}
use Rattle.ink.specs.Inking.{inking}
use Rattle.nesting.specs.Nesting.{NestTables, contour_nesting}
use Rattle.wadroles.specs.ExportLaws.{exports_only, four_words, said_by, exports_said, signed_from_word, signed_back}
use Rattle.preview_floats.specs.declared.Origin.{Origin}
use Rattle.preview.specs.declared.PathCall.{PathCall}
use Rattle.preview.specs.declared.PathCall.TheVariants.{Move, Line, Close}
use Rattle.preview.specs.Preview.{previewing, CallTables, preview_running}
use Rattle.out_words.specs.Words.{out_after, step_words, preview_words, xy_after}
use Rattle.wadroles.specs.Interface.{CheckC, CutC, CleanC, ContourC, AreaC, StartC, StepC, LayerC, AllLayersC, ReadLayerC, ReadPartC}
use Rattle.wadroles.specs.Interface.{PreviewC, PreviewRunC, InkC, NestingC}

-- a refusal has a number that is not 0
abbrev Nonzero : Told → Type 0
Nonzero r = 0 < r.number

has_one : {k : ℕ} → ℕ → 0 < suc k
has_one i = omega arith

three : {j k l : ℕ} {E : Type 0} → E → (ℕ → 0 < suc j) × ((ℕ → 0 < suc k) × ((ℕ → 0 < suc l) × E))
three e = (has_one, (has_one, (has_one, e)))

-- 16 at each height, then 14
used_nonzero : (xs : List (Sweep × ℤ)) (output : ℕ) (file : List ℕ) → Every Nonzero (map used_at xs ++ (short_output output file ∷ []))
used_nonzero [] output file = (has_one, tt)
used_nonzero (x ∷ xs) output file = (has_one, used_nonzero xs output file)

-- the words of a step
abbrev pub read_step : List ℕ → StepGives
read_step out = cond (eqb (get_or out 1 0) 0) (passes (get_or out 0 0)) top

step_back : (a b c d passed : ℕ) (g : StepGives) → read_step (sets (four_words a b c d) 0 (step_words passed g)) ≡ g
step_back a b c d passed (passes n) = refl
step_back a b c d passed top = refl

-- an area that is answered, and a height that is read
area_small : (points : List ℤ) → verdict (measuring points).refusals ≡ fine → mag (area_of points) < 2 ^ 63
area_small points e = omega (arith, mag_le (area_of points), run_bound points (run_of points (fine_none (measuring points).refusals e)))

ruled_small : (ls : List Layer) (i : ℕ) → i < length ls → Each LayerRules ls → mag (layer_at ls i).height < 2 ^ 63
ruled_small [] i h e = absurd (omega arith)
ruled_small (l ∷ ls) zero h e = omega (arith, e.0.height_fits)
ruled_small (l ∷ ls) (suc i) h e = ruled_small ls i (omega arith) e.1

height_small : (p : Profile) (file : List ℕ) (i : ℕ) (n : Entries) → Bytes file → verdict (reading_tests p file i n) ≡ fine
    → mag (layer_at (layers_in file) i).height < 2 ^ 63
height_small p file i n b v =
    let q = fine_there file i n p v in
    let held = layers_full p file q.0 q.1 in
    subst (λ (ls : List Layer). mag (layer_at ls i).height < 2 ^ 63) (sym (held_or_is [] held))
    (ruled_small q.0 i q.2 (layers_written file q.0 b held).0.each)

-- 13, in the clean profile 18, then 15 and 9
reading_nonzero : (p : Profile) (file : List ℕ) (i : ℕ) (n : Entries) → Every Nonzero (reading_tests p file i n)
reading_nonzero Full file i n = three tt
reading_nonzero Clean file i n = (has_one, three tt)

module _ {a b c d n : ℕ} {out' : List ℕ} where
  pub check_said : {m : Mesh} {t t' : CheckTables} → CheckC m t (four_words a b c d) n t' out' → said_by (λ _. tt) n out' ≡ answer_of (checking (m, t))
  check_said = exports_said (λ _. tt) (λ _. refl) (three (three tt))

  pub cut_said : {m : PairedMesh} {h : ℤ} {t t' : CutTables} → CutC m h t (four_words a b c d) n t' out'
      → said_by (λ out. (get_or out 0 0, get_or out 1 0)) n out' ≡ answer_of (cutting (m, h, t))
  cut_said = exports_said (λ out. (get_or out 0 0, get_or out 1 0)) (λ _. refl) (has_one, three (three tt))

  pub clean_said : {t u u' : FlatLayer} → CleanC t u (four_words a b c d) n u' out'
      → said_by (λ out. (get_or out 0 0, get_or out 1 0)) n out' ≡ answer_of (cleaning (t, u))
  clean_said = exports_said (λ out. (get_or out 0 0, get_or out 1 0)) (λ _. refl) (three tt)

  pub area_said : {points : List ℤ} → AreaC points (four_words a b c d) n out'
      → said_by (λ out. signed_from_word (get_or out 0 0)) n out' ≡ answer_of (measuring points)
  area_said {points} =
      exports_said (λ out. signed_from_word (get_or out 0 0)) (λ e. signed_back (area_of points) (area_small points e)) (has_one, (has_one, tt))

  pub start_said : {m : Mesh} {ring ring' : List ℕ} → StartC m ring (four_words a b c d) n ring' out'
      → said_by (λ out. get_or out 0 0) n out' ≡ answer_of (starting (m, ring))
  start_said = exports_said (λ out. get_or out 0 0) (λ _. refl) (has_one, (has_one, tt))

  pub step_said : {s : Sweep} {ring' : List ℕ} → StepC s (four_words a b c d) n ring' out' → said_by read_step n out' ≡ answer_of (stepping s)
  step_said {s} =
      exports_said read_step (λ _. step_back a b c d s.passed (stepping s).values) (has_one, (has_one, three (three tt)))

  pub layer_said : {s : Sweep} {h : ℤ} {t t' : CutTables} {ring' : List ℕ} → LayerC s h t (four_words a b c d) n ring' t' out'
      → said_by (λ out. (get_or out 0 0, (get_or out 1 0, get_or out 2 0))) n out' ≡ answer_of (layering (s, h, t))
  layer_said =
      exports_said (λ out. (get_or out 0 0, (get_or out 1 0, get_or out 2 0))) (λ _. refl)
      (has_one, (has_one, three (three (three tt))))

  pub layers_said : {p : Profile} {m : OrderedMesh} {heights : List ℤ} {w w' : WorkTables} {output output' : List ℕ}
      → AllLayersC p m heights w output (four_words a b c d) n w' output' out'
      → said_by (λ out. get_or out 0 0) n out' ≡ answer_of (filing (p, m, heights, w, output))
  layers_said {p} {m} {heights} {w} {output = output} =
      let hs = heights_taken m.paired.mesh.coords heights in
      exports_said (λ out. get_or out 0 0) (λ _. refl)
      (three (three (three (used_nonzero (climbed m w.ring hs) (length output) (swept_file p m w.ring hs)))))

  pub read_said : {p : Profile} {file : List ℕ} {i : ℕ} {t t' : FlatLayer} → Bytes file → ReadLayerC p file i t (four_words a b c d) n t' out'
      → said_by (λ out. (get_or out 0 0, signed_from_word (get_or out 1 0), get_or out 2 0, get_or out 3 0)) n out' ≡ answer_of (layer_reading (p, file, i, t))
  read_said {p} {file} {i} {t} bytes =
      let g = (layer_reading (p, file, i, t)).values in
      exports_said (λ out. (get_or out 0 0, signed_from_word (get_or out 1 0), get_or out 2 0, get_or out 3 0))
      (λ e j. (g.0, signed_back g.1 (height_small p file i (entries_of t) bytes e) j, g.2, g.3)) (reading_nonzero p file i (entries_of t))

  pub part_said : {file : List ℕ} {t t' : Part} → ReadPartC file t (four_words a b c d) n t' out'
      → said_by (λ out. (get_or out 0 0, get_or out 1 0, get_or out 2 0)) n out' ≡ answer_of (part_reading (file, t))
  part_said = exports_said (λ out. (get_or out 0 0, get_or out 1 0, get_or out 2 0)) (λ _. refl) (has_one, (has_one, tt))

  pub ink_said : {file : List ℕ} {t : ℕ} → InkC file t (four_words a b c d) n out' → said_by (λ out. get_or out 0 0) n out' ≡ answer_of (inking (file, t))
  ink_said = exports_said (λ out. get_or out 0 0) (λ _. refl) (has_one, (has_one, tt))

  pub nesting_said : {t : FlatLayer} {u u' : NestTables} → NestingC t u (four_words a b c d) n u' out'
      → said_by (λ _. tt) n out' ≡ answer_of (contour_nesting (t, u))
  nesting_said = exports_said (λ _. tt) (λ _. refl) (three tt)

-- Contour, which has no refusal, is one outcome only too
pub contour_only : {points : List ℤ} {ends : List ℕ} {j n m : ℕ} {out out' out'' : List ℕ} → ContourC points ends j out n out'
    → ContourC points ends j out m out'' → (n ≡ m) × (out' ≡ out'')
contour_only p q = (p.returns ∙ sym q.returns, p.writes ∙ sym q.writes)

-- ---- Preview: number, `out` and the two floats say the answer whole

-- the call of a kind, with these floats
abbrev pub call_read : ℕ → List Float → Option PathCall
call_read zero xy = Some (Move (get_or xy 0 nan) (get_or xy 1 nan))
call_read (suc zero) xy = Some (Line (get_or xy 0 nan) (get_or xy 1 nan))
call_read (suc (suc zero)) xy = Some Close
call_read (suc (suc (suc k))) xy = None

-- the answer by the number returned, `out` and the floats
abbrev pub preview_said : ℕ → List ℕ → List Float → Answer Told (Option PathCall)
preview_said zero out xy = gives (call_read (get_or out 0 0) xy)
preview_said (suc n) out xy = refuses (refusal (suc n) (get_or out 0 0))

module _ {t : FlatLayer} {o : Origin} {number : ℕ} {x y : Float} {a b c d n : ℕ} {xy' : List Float} {out' : List ℕ} where
  pub preview_said_lem : PreviewC t o number (x ∷ y ∷ []) (four_words a b c d) n xy' out' → preview_said n out' xy' ≡ answer_of (previewing (t, o, number))
  unfolding out_after ◌then◌
  preview_said_lem p =
      by (verdict (previewing (t, o, number)).refusals) refl (previewing (t, o, number)).values p.exports.says.returns p.exports.says.writes
      p.writes
    where
      told : (m k : ℕ) → 0 < m → preview_said m (four_words k b c d) (x ∷ y ∷ []) ≡ refuses (refusal m k)
      told zero k h = absurd (omega arith)
      told (suc m) k h = refl

      by : (f : Finding Told) → verdict (previewing (t, o, number)).refusals ≡ f → (g : Option PathCall) → n ≡ number_in (f then gives g)
          → out' ≡ out_after preview_words (f then gives g) (four_words a b c d) → xy' ≡ xy_after (f then gives g) (x ∷ y ∷ [])
          → preview_said n out' xy' ≡ (f then gives g)
      by (gives tt) e (Some (Move u v)) p w z = λ i. preview_said (p i) (w i) (z i)
      by (gives tt) e (Some (Line u v)) p w z = λ i. preview_said (p i) (w i) (z i)
      by (gives tt) e (Some Close) p w z = λ i. preview_said (p i) (w i) (z i)
      by (gives tt) e None p w z = λ i. preview_said (p i) (w i) (z i)
      by (refuses r) e g p w z =
          (λ i. preview_said (p i) (w i) (z i))
          ∙ told r.number r.place (refused_every Nonzero (previewing (t, o, number)).refusals r (has_one, (has_one, (has_one, tt))) e)

  pub preview_one : {m : ℕ} {xy'' : List Float} {out'' : List ℕ} → PreviewC t o number (x ∷ y ∷ []) (four_words a b c d) n xy' out'
      → PreviewC t o number (x ∷ y ∷ []) (four_words a b c d) m xy'' out'' → (n ≡ m) × (xy' ≡ xy'') × (out' ≡ out'')
  preview_one p q = let e = exports_only p.exports q.exports in (e.0, p.writes ∙ sym q.writes, e.2)

pub run_said : {t : FlatLayer} {o : Origin} {number : ℕ} {u u' : CallTables} {a b c d n : ℕ} {out' : List ℕ}
    → PreviewRunC t o number u (four_words a b c d) n u' out' → said_by (λ out. get_or out 0 0) n out' ≡ answer_of (preview_running (t, o, number, u))
run_said = exports_said (λ out. get_or out 0 0) (λ _. refl) (has_one, (has_one, (has_one, tt)))
