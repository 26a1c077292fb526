-- What `call_at` reads and answers: contour j has call k, and point k - j is the one drawn.
use Prim.Native.Nat.{ℕ, ◌+◌, ◌-◌, ◌*◌, ◌≤◌, ◌<◌}
use mathlib.Core.Path.{◌≡◌, sym, ap, ◌∙◌, subst}
use mathlib.Core.Bool.{Bool, true, false, not}
use native.Mathlib.Omega.{arith}
use lib.ListN.{length, get_or}
use lib.IntN.{ℤ, nat_abs}
use mir.Syntax.{w32}
use mir.Val.{to_z, of_z}
use Rattle.std.specs.Prelude.{Some, None, slice_get}
use Rattle.laws.specs.Machine.{same_in}
use Rattle.mesh.specs.Corners.{largest}
use Rattle.mesh.specs.Operation.{Finding, gives, refuses, verdict}
use Rattle.mesh.specs.OperationLaws.{whole_refused, whole_fine, verdict_stop, verdict_next}
use Rattle.mesh.specs.Refusals.{Told, refusal}
use Rattle.polygons.specs.Flat.{point, FlatLayer, end_before, layer_tests}
use Rattle.polygons.proofs.FlatLaws.{before_all, end_rises}
use Rattle.preview_floats.specs.declared.Origin.{Origin}
use Rattle.preview_floats.specs.declared.DrawnPoint.{DrawnPoint}
use Rattle.preview_floats.specs.DrawnPoints.{whole_origin, drawn_at}
use Rattle.preview.specs.declared.PathCall.TheVariants.{Move, Line, Close}
use Rattle.preview.specs.Calls.{calls_of}
use Rattle.preview.specs.Preview.{bad_origin, preview_tests}
use Rattle.preview.specs.Places.{Belongs, table_point, call_here}
use Rattle.preview.specs.PlaceLaws.{past_exactly, call_here_lem}
use Rattle.preview.specs.PreviewLaws.{DrawTested}
use Rattle.preview.specs.RunLaws.{here_close, here_move, here_line}

-- ---- preview_test

module _ (t : FlatLayer) (o : Origin) {b : Bool} (b_is : b ≡ whole_origin o) where
  pub origin_refused : b ≡ false → refuses (refusal 17 0) ≡ verdict (preview_tests t o)
  origin_refused f =
      verdict_stop (bad_origin o) (layer_tests t) (whole_refused (refusal 17) (not (whole_origin o)) (ap not (sym b_is ∙ f))) (λ i. refuses (refusal 17 0))

  pub origin_passed : b ≡ true → {v : Finding Told} → v ≡ verdict (layer_tests t) → v ≡ verdict (preview_tests t o)
  origin_passed f e = verdict_next (bad_origin o) (layer_tests t) (whole_fine (refusal 17) (not (whole_origin o)) (ap not (sym b_is ∙ f))) (λ i. gives tt) e

-- ---- the contour of a call

module _ (t : FlatLayer) (o : Origin) (d : DrawTested t o) (k j : ℕ) (b : Belongs t.ends k j) where
  -- past the contours there is no call
  pub fetch_past : length t.ends ≤ j → None ≡ slice_get (calls_of o t) k
  fetch_past h =
      let last : j ≡ length t.ends = omega (arith, b.upto) in
      let from : end_before 0 t.ends (length t.ends) + length t.ends ≤ k = subst (λ (i : ℕ). end_before 0 t.ends i + i ≤ k) last b.from in
      sym ((past_exactly o t d.layer.tested k).1 (omega (arith, from, before_all 0 t.ends, d.layer.tested.last)))

  module _ (there : j < length t.ends) {e : ℕ} (e_is : e ≡ get_or t.ends j 0) where
    abbrev start : ℕ
    start = end_before 0 t.ends j

    abbrev end : ℕ
    end = get_or t.ends j 0

    here : slice_get (calls_of o t) k ≡ Some (call_here o t.points start end (k - j))
    here = call_here_lem o t d.layer.tested k j b there

    -- a point before the end is in the table
    pub point_there : (e ≡ k - j → ⊥) → 2 * (k - j) + 1 < length t.points
    point_there n =
        let rises = end_rises 0 t.ends d.layer.tested.rising j there in
        omega (arith, rises.1, b.from, b.to there, d.layer.tested.even, d.layer.tested.last)

    pub fetch_close : e ≡ k - j → Some Close ≡ slice_get (calls_of o t) k
    fetch_close n = sym (here ∙ ap Some (here_close o t.points start end (k - j) (sym n ∙ e_is)))

    module _ {s : ℕ} {x y : ℤ} {p : DrawnPoint} (n : e ≡ k - j → ⊥) (s-is : s ≡ end_before 0 t.ends j)
        (x_is : x ≡ (table_point t.points (k - j)).x) (y_is : y ≡ (table_point t.points (k - j)).y) (p_is : p ≡ drawn_at o (point x y)) where
      drawn : p ≡ drawn_at o (table_point t.points (k - j))
      drawn = p_is ∙ (λ i. drawn_at o (point (x_is i) (y_is i)))

      pub fetch_move : s ≡ k - j → Some (Move p.x p.y) ≡ slice_get (calls_of o t) k
      fetch_move m =
          ap (λ (q : DrawnPoint). Some (Move q.x q.y)) drawn
          ∙ sym (here ∙ ap Some (here_move o t.points start end (k - j) (λ a. n (e_is ∙ sym a)) (sym m ∙ s-is)))

      pub fetch_line : (s ≡ k - j → ⊥) → Some (Line p.x p.y) ≡ slice_get (calls_of o t) k
      fetch_line m =
          ap (λ (q : DrawnPoint). Some (Line q.x q.y)) drawn
          ∙ sym (here ∙ ap Some (here_line o t.points start end (k - j) (λ a. n (e_is ∙ sym a)) (λ a. m (s-is ∙ sym a))))

-- ---- the two numbers of a point, as the code reads them

pub read_is : (z : ℤ) → nat_abs z ≤ largest → to_z w32 (of_z w32 z) ≡ z
read_is z h = same_in w32 z largest h tt

pub read_small : (z : ℤ) → nat_abs z ≤ largest → nat_abs (to_z w32 (of_z w32 z)) ≤ largest
read_small z h = subst (λ (y : ℤ). nat_abs y ≤ largest) (sym (read_is z h)) h

pub point_small : {t : FlatLayer} {o : Origin} (i : ℕ) → DrawTested t o → 2 * i + 1 < length t.points
    → (nat_abs (table_point t.points i).x ≤ largest) × (nat_abs (table_point t.points i).y ≤ largest)
point_small i d h = (d.layer.small (2 * i) (omega arith), d.layer.small (2 * i + 1) h)
