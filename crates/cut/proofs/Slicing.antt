-- Cut put together: what the tests of the tables establish, and its answer and tables at each return.
use mathlib.Core.Path.{◌≡◌, refl, sym, ap, ◌∙◌}
use mathlib.Core.Bool.{false}
use mathlib.Core.List.{List, [], ◌∷◌}
use native.Mathlib.Omega.{arith}
use borrow.Author.Tests.{not-false}
use lib.ListN.{length}
use lib.IntN.{ℤ}
use mir.Syntax.{w32}
use mir.Val.{to_z, of_z}
use Rattle.mesh.specs.Meshes.{PairedMesh}
use Rattle.mesh.specs.Operation.{Condition, Finding, refuses, fine, verdict}
use Rattle.mesh.specs.OperationLaws.{None, more, done, fine_none, join_stop, join_next, refused_every, does_refuse, does_last}
use Rattle.mesh.specs.Refusals.{Told, numbered, told_of}
use Rattle.mesh.specs.declared.Refusal.{Refusal}
use Rattle.section.specs.Section.{Right}
use Rattle.section.specs.RightLaws.{right_of}
use Rattle.std.specs.Prelude.{Result, Err}
use Rattle.polygons.specs.declared.LayerCounts.{LayerCounts}
use Rattle.cut.specs.Cut.{CutTables, lengths_of, cut_tests, used, section, contours_of, tell_cut, Cuts}
use Rattle.cut.specs.Outlines.{Long, Traces}
use Rattle.cut.specs.OutlineLaws.{room_long, layer_kept}

-- a signed argument as the code holds it
abbrev pub held : ℤ → ℤ
held z = to_z w32 (of_z w32 z)

module _ (m : PairedMesh) (h : ℤ) (t : CutTables) {f : Finding Told} (e : f ≡ verdict (cut_tests m (lengths_of t))) where
  abbrev last : List (Condition Told)
  last = used (length m.mesh.corners) (section m h) ∷ []

  -- what passing the tests gives
  pub passed : f ≡ fine → Right m × Long (length m.mesh.corners) (lengths_of t)
  passed g = go (fine_none (cut_tests m (lengths_of t)) (sym e ∙ g))
    where
      go : None (cut_tests m (lengths_of t)) → Right m × Long (length m.mesh.corners) (lengths_of t)
      go (more s (more l (more r (more v (more k (more p done)))))) =
          (right_of m (not-false _ (s 0 (omega arith))) r v k p, room_long (length m.mesh.corners) (lengths_of t) (not-false _ (l 0 (omega arith))))

  -- a test refuses
  pub cuts_refused : {r : Refusal} {result : Result LayerCounts Refusal} → result ≡ Err r → f ≡ refuses (told_of r) → Cuts m h t result t
  cuts_refused {r} raised g =
      does_refuse (join_stop (cut_tests m (lengths_of t)) last e g) g (ap tell_cut raised)
      (layer_kept m.mesh h (contours_of (section m h)) t (told_of r) other)
    where
      other : numbered (16 ∷ []) (told_of r) ≡ false
      other =
          refused_every (λ q. numbered (16 ∷ []) q ≡ false) (cut_tests m (lengths_of t)) (told_of r)
          ((λ i. refl), ((λ i. refl), ((λ i. refl), ((λ i. refl), ((λ i. refl), ((λ i. refl), tt)))))) (sym e ∙ g)

  -- none does
  pub cuts_traced : {result : Result LayerCounts Refusal} {t' : CutTables} → f ≡ fine → Traces (section m h) m.mesh h t result t' → Cuts m h t result t'
  cuts_traced g d = does_last d (join_next (cut_tests m (lengths_of t)) last e g refl) refl refl
