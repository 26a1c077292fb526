-- The C interface: for each function the operation that it exports, and how that operation's values are words of `out`.
use Rattle.std.specs.Prelude.{ℕ, ◌≡◌, List, [], ◌∷◌, length, ℤ, Float}
use Rattle.std.proofs.lemmas.List.Edits.{sets}
use Rattle.mesh.specs.Meshes.{Mesh, PairedMesh, OrderedMesh}
use Rattle.mesh.specs.Operation.{answer_of}
use Rattle.polygons.specs.Flat.{FlatLayer}
use Rattle.cleaning.specs.declared.Profile.{Profile}
use Rattle.check_mesh.specs.Check.{CheckTables, checking}
use Rattle.cut.specs.Cut.{CutTables, cutting}
use Rattle.clean.specs.Clean.{cleaning}
use Rattle.contours.specs.Contours.{first_of, span_of}
use Rattle.contours.specs.Areas.{measuring}
use Rattle.sweep.specs.Sweep.{Sweep}
use Rattle.sweep.specs.Operations.{starting, stepping, layering}
use Rattle.all_sweep.specs.AllLayers.{WorkTables, filing}
use Rattle.file_formats.specs.PartFile.{Part}
use Rattle.read_layer.specs.Reading.{layer_reading}
use Rattle.ink.specs.Inking.{inking}
use Rattle.nesting.specs.Nesting.{NestTables, contour_nesting}
use Rattle.read_part.specs.Parts.{part_reading}
use Rattle.preview_floats.specs.declared.Origin.{Origin}
use Rattle.preview.specs.Preview.{previewing, CallTables, preview_running}
use Rattle.out_words.specs.Words.{no_words, one_word, signed_word, cut_words, step_words, layer_words, read_layer_words, read_part_words, preview_words}
use Rattle.out_words.specs.Words.{xy_after}
use Rattle.wadroles.specs.Exports.{Exports}

-- What each function is handed, `out` before, the number returned, the tables and `out` after

-- wadroles_check: no values
abbrev pub CheckC : Mesh → CheckTables → List ℕ → ℕ → CheckTables → List ℕ → Type 0
CheckC m t = Exports checking no_words (m, t)

-- wadroles_cut
abbrev pub CutC : PairedMesh → ℤ → CutTables → List ℕ → ℕ → CutTables → List ℕ → Type 0
CutC m h t = Exports cutting cut_words (m, h, t)

-- wadroles_contour, which refuses nothing: the position of its first number, 0 where it has none, and how many it has
pub record ContourC (points : List ℤ) (ends : List ℕ) (j : ℕ) (out : List ℕ) (returned : ℕ) (out' : List ℕ) : Type 0 where
  pub returns : returned ≡ 0
  pub writes : out' ≡ sets out 0 (first_of (length points) ends j ∷ span_of (length points) ends j ∷ [])

-- wadroles_area: the doubled area
abbrev pub AreaC : List ℤ → List ℕ → ℕ → List ℕ → Type 0
AreaC points out returned = Exports measuring signed_word points out returned tt

-- wadroles_start: the count of passed vertices
abbrev pub StartC : Mesh → List ℕ → List ℕ → ℕ → List ℕ → List ℕ → Type 0
StartC m ring = Exports starting one_word (m, ring)

-- wadroles_step
abbrev pub StepC : Sweep → List ℕ → ℕ → List ℕ → List ℕ → Type 0
StepC s = Exports stepping (step_words s.passed) s

-- wadroles_layer
abbrev pub LayerC : Sweep → ℤ → CutTables → List ℕ → ℕ → List ℕ → CutTables → List ℕ → Type 0
LayerC s h t out returned ring' t' = Exports layering layer_words (s, h, t) out returned (ring', t')

-- wadroles_clean: the table given, and the two to be filled
abbrev pub CleanC : FlatLayer → FlatLayer → List ℕ → ℕ → FlatLayer → List ℕ → Type 0
CleanC t u = Exports cleaning cut_words (t, u)

-- wadroles_all_layers, wadroles_all_layers_clean: the length of the file
abbrev pub AllLayersC : Profile → OrderedMesh → List ℤ → WorkTables → List ℕ → List ℕ → ℕ → WorkTables → List ℕ → List ℕ → Type 0
AllLayersC p m heights w output out returned w' output' = Exports filing one_word (p, m, heights, w, output) out returned (w', output')

-- wadroles_read_layer, wadroles_read_layer_clean
abbrev pub ReadLayerC : Profile → List ℕ → ℕ → FlatLayer → List ℕ → ℕ → FlatLayer → List ℕ → Type 0
ReadLayerC p file i t = Exports layer_reading read_layer_words (p, file, i, t)

-- wadroles_read_part
abbrev pub ReadPartC : List ℕ → Part → List ℕ → ℕ → Part → List ℕ → Type 0
ReadPartC file t = Exports part_reading read_part_words (file, t)

-- wadroles_ink: the charge
abbrev pub InkC : List ℕ → ℕ → List ℕ → ℕ → List ℕ → Type 0
InkC file t out returned = Exports inking one_word (file, t) out returned tt

-- wadroles_nesting: no values
abbrev pub NestingC : FlatLayer → NestTables → List ℕ → ℕ → NestTables → List ℕ → Type 0
NestingC t u = Exports contour_nesting no_words (t, u)

-- wadroles_preview: the kind of the call, and its two floats
pub record PreviewC (t : FlatLayer) (o : Origin) (number : ℕ) (xy : List Float) (out : List ℕ)
    (returned : ℕ) (xy' : List Float) (out' : List ℕ) : Type 0 where
  pub exports : Exports previewing preview_words (t, o, number) out returned tt out'
  pub writes : xy' ≡ xy_after (answer_of (previewing (t, o, number))) xy

-- wadroles_preview_run: how many calls were filled
abbrev pub PreviewRunC : FlatLayer → Origin → ℕ → CallTables → List ℕ → ℕ → CallTables → List ℕ → Type 0
PreviewRunC t o number u = Exports preview_running one_word (t, o, number, u)
