-- A layer that was cut: its contours can be summed, and its line is that of the definition.
use Prim.Native.Nat.{ℕ, ◌+◌, ◌^◌, ◌≤◌, ◌<◌}
use mathlib.Core.Path.{◌≡◌, refl, sym, ap, ◌∙◌, subst}
use mathlib.Core.List.{List, [], ◌∷◌}
use Rattle.std.specs.Prelude.{Result, Ok, Err, IsOk}
use Rattle.std.specs.Result.{is_ok}
use native.Mathlib.Omega.{arith}
use lib.ListN.{length, get_or}
use lib.IntN.{ℤ, pos, nat_abs}
use lib.Signed.{mag}
use mir.Syntax.{w32, w64}
use mir.Val.{SFits, to_z, of_z}
use mir.ValLaws.{to_z-of_z}
use Rattle.laws.specs.Machine.{same}
use Rattle.laws.specs.Tables.{overwrite}
use Rattle.mesh.specs.Corners.{largest}
use Rattle.mesh.specs.Meshes.{PairedMesh}
use Rattle.mesh.specs.Operation.{fine, verdict, after}
use Rattle.mesh.specs.OperationLaws.{apart, given_verdict, refused_verdict}
use Rattle.mesh.specs.declared.Refusal.{Refusal}
use Rattle.section.specs.Section.{below, Right}
use Rattle.section.specs.Contours.{contours, names_of, ends_of}
use Rattle.section.specs.Layers as layers
use Rattle.section.specs.OrbitLaws.{at_member}
use Rattle.section.proofs.LayerLaws.{trace_layer}
use Rattle.cut_points.specs.Points.{points_of}
use Rattle.cut_points.proofs.RoundedLaws.{points_in_lem}
use Rattle.polygons.specs.declared.LayerCounts.{LayerCounts}
use Rattle.cut.specs.Cut.{CutTables, used, section, contours_of, counts_of, tables_after_cut, tell_cut}
use Rattle.cut.proofs.CutLaws.{one_each}
use Rattle.cut.specs.OutlineLaws.{used_fine}
use Rattle.cut.specs.Outlines.{Traces}
use Rattle.cut.specs.SolidLaws.{crossing_climbs}
use Rattle.list_decimals.specs.Texts.{TextRoom, PutsText}
use Rattle.list_lines.specs.Limits.{held_entries}
use Rattle.list_lines.specs.Lines.{layer_line, area_sum, line_of, line_at}
use Rattle.list_lines.specs.Steps.{areas_in, Summable, most_line, PutsLine}
use Rattle.list_lines.proofs.Lines.{layer_line_short}
use Rattle.list_lines.proofs.Places.{areas_here, summable}

same_sums : {p q : List ℤ} {d e : List ℕ} {j n : ℕ} → p ≡ q → d ≡ e → j ≡ n → Summable q e n → Summable p d j
same_sums a b c s = rw (a, b, c) s

module _ {m : PairedMesh} {h : ℤ} {t t' : CutTables} {result : Result LayerCounts Refusal} (right : Right m) (few : length m.mesh.corners ≤ held_entries)
    (d : Traces (section m h) m.mesh h t result t') where
  all : (rs : List (List ℕ)) × ((section m h ≡ contours rs) × layers.LayerContours (below m.mesh.coords h) m.mesh.corners m.pairing rs)
  all = trace_layer (below m.mesh.coords h) m.mesh.corners m.pairing right.linked

  abbrev rs : List (List ℕ)
  rs = all.0

  its : contours_of (section m h) ≡ rs
  its = ap contours_of all.1.0

  nothing : verdict (used (length m.mesh.corners) (section m h) ∷ []) ≡ fine
  nothing = used_fine (length m.mesh.corners) (section m h) rs all.1.0

  left : t' ≡ tables_after_cut m.mesh h rs t fine
  left = d.leaves ∙ (λ i. tables_after_cut m.mesh h (its i) t (nothing i))

  points_is : t'.points ≡ overwrite (points_of m.mesh h (names_of rs)) t.points
  unfolding after
  points_is = ap (λ (u : CutTables). u.points) left

  ends_is : t'.ends ≡ overwrite (ends_of rs) t.ends
  unfolding after
  ends_is = ap (λ (u : CutTables). u.ends) left

  inside : (i : ℕ) → i < length (points_of m.mesh h (names_of rs)) → nat_abs (get_or (points_of m.mesh h (names_of rs)) i (pos 0)) ≤ largest
  inside = points_in_lem m.mesh h (names_of rs) (λ i q. crossing_climbs m h right _ (all.1.1.only _ (at_member (names_of rs) i q)))

  never_met : {r : Refusal} → result ≡ Err r → ⊥
  never_met {r} e = apart (sym (refused_verdict d (ap tell_cut e)) ∙ nothing)

  -- 16 never arises
  pub is_cut : IsOk result
  is_cut = by result refl
    where
      by : (answer : Result LayerCounts Refusal) → result ≡ answer → IsOk result
      by (Ok v) e = ap is_ok e
      by (Err r) e = absurd (never_met e)

  module _ {v : LayerCounts} (e : result ≡ Ok v) where
    counts : (v.contours, v.points) ≡ counts_of (contours_of (section m h))
    counts = (given_verdict d (ap tell_cut e)).1

    count : v.contours ≡ length rs
    count = (λ i. (counts i).0) ∙ ap length its

    pub sums : Summable t'.points t'.ends v.contours
    sums =
        same_sums points_is ends_is count
        (summable m.mesh h rs t.points t.ends (λ i l. omega (arith, (all.1.1.each i l).two))
        (omega (arith, one_each (below m.mesh.coords h) m.mesh.corners m.pairing rs right.linked all.1.1)) inside)

    line_is : {a : ℤ} → a ≡ areas_in t'.points t'.ends v.contours → layer_line h v.contours v.points a ≡ line_at m h
    unfolding line_at line_of
    line_is {a} f =
        let sum : a ≡ area_sum m.mesh h (contours_of (section m h)) =
        f ∙ (λ i. areas_in (points_is i) (ends_is i) (count i)) ∙ areas_here m.mesh h rs t.points t.ends ∙ ap (area_sum m.mesh h) (sym its) in
        λ i. layer_line h (counts i).0 (counts i).1 (sum i)

    -- and this line is written
    pub line_put : {a : ℤ} {output : List ℕ} {at end : ℕ} {output' : List ℕ} → a ≡ areas_in t'.points t'.ends v.contours
        → length (layer_line h v.contours v.points a) ≤ most_line
        → PutsText output at (layer_line h v.contours v.points a) end output' → PutsLine output at (line_at m h) end output'
    line_put {a} {output} {at} {end} {output'} f s w =
        subst (λ (l : List ℕ). PutsLine output at l end output') (line_is f) (record { puts = w; short = s })

-- ---- the numbers of a line, as calls get them

pub line_at_height : (m : PairedMesh) {h : ℤ} {output : List ℕ} {at end : ℕ} {output' : List ℕ} → SFits w32 h
    → PutsLine output at (line_at m (to_z w32 (of_z w32 h))) end output' → PutsLine output at (line_at m h) end output'
line_at_height m {h} {output} {at} {end} {output'} fits = subst (λ (z : ℤ). PutsLine output at (line_at m z) end output') (to_z-of_z w32 h fits)

pub line_fits : (h : ℤ) (j k : ℕ) (a : ℤ) → SFits w32 h → j < 2 ^ 64 → k < 2 ^ 64 → mag a < 2 ^ 63
    → length (layer_line (to_z w32 (of_z w32 h)) j k (to_z w64 (of_z w64 a))) ≤ most_line
line_fits h j k a fits ej ek ea =
    let e : to_z w32 (of_z w32 h) ≡ h = to_z-of_z w32 h fits in
    let f : to_z w64 (of_z w64 a) ≡ a = same w64 a ea in
    layer_line_short (to_z w32 (of_z w32 h)) j k (to_z w64 (of_z w64 a)) (rw e (omega (arith, fits.sfits))) ej ek (rw f ea)

pub line_room : {output : List ℕ} {at : ℕ} (line : List ℕ) → length line ≤ most_line → at + most_line ≤ length output → TextRoom output at line
line_room line s h = record { within = omega arith }
