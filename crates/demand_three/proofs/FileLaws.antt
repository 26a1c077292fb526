-- The claim about All layers proved: what Cut leaves at a height is the layer of the file, so does Layer on the way up, and the file is that of Cut at each
-- height taken, in either profile. With the claim about the list of calls it is demand 3.
use Rattle.std.specs.Prelude.{ℕ, ◌≤◌, ◌≡◌, refl, true, false, not, length, take, drop, ℤ, Result}
use Rattle.std.proofs.Common.{sym, ap, ◌∙◌, subst, arith, leb-true}
use mathlib.Core.List.{List, [], ◌∷◌, ◌++◌, map, flatten}
use Rattle.std.proofs.lemmas.Bool.{not-false}
use Rattle.std.proofs.lemmas.List.{length-map}
use Rattle.laws.specs.Booleans.{clash, and_parts}
use Rattle.laws.specs.Tables.{overwrite}
use Rattle.laws.specs.TableLaws.{overwrite_front, overwrite_rest}
use Rattle.mesh.specs.Meshes.{PairedMesh, OrderedMesh}
use Rattle.mesh.specs.Operation.{Answer, gives, refuses, is_refusal, after}
use Rattle.mesh.specs.OperationLaws.{None, more, done as none_left, fine_nowhere, verdict_one, none_fine, fine_none, join_fine}
use Rattle.mesh.specs.OperationLaws.{given_verdict, given_exactly, left_given}
use Rattle.mesh.specs.Refusals.{Told}
use Rattle.polygons.specs.Flat.{numbers_of, ends_of}
use Rattle.section.specs.RightLaws.{right_of}
use Rattle.cleaning.specs.declared.Profile.{Profile}
use Rattle.file_formats.specs.LayerFile as files
use Rattle.file_write.specs.Written.{layer_of}
use Rattle.file_write.specs.WrittenLaws.{layer_held}
use Rattle.cut_points.specs.Points.{point_of}
use Rattle.cut.specs.Cut.{CutTables, Lengths, lengths_of, cut_room_for, used, section, contours_of, counts_of, cutting, tell_cut, Cuts}
use Rattle.cut.specs.OutlineLaws.{section_fine}
use Rattle.polygons.specs.declared.LayerCounts.{LayerCounts}
use Rattle.mesh.specs.declared.Refusal.{Refusal}
use Rattle.sweep.specs.declared.Risen.{Risen}
use Rattle.sweep.specs.Sweep.{Sweep, sweep}
use Rattle.sweep.specs.Operations.{linked_tests, tell_layer, Rises}
use Rattle.sweep.proofs.RiseLaws.{rise_is_cut}
use Rattle.all_heights.specs.Heights.{heights_taken}
use Rattle.all_sweep.specs.AllLayers.{drawn, cut_layer, cut_file, swept_file, climbed, WorkTables, work_room_for, layers_tests, used_at, short_output}
use Rattle.all_sweep.specs.AllLayers.{tell_all_layers, Files}
use Rattle.all_sweep.specs.CutLayerLaws.{drawn_points, drawn_ends}
use Rattle.all_sweep.specs.LayersLaws.{all_layers_tested, all_layers_length, all_layers_output}
use Rattle.demand_three.specs.Claim.{Call, step, rise, refused, given, move_of, passed_after, to, fed, Run, done, skipped, taken}
use Rattle.demand_three.specs.ClaimLaws.{sweep_claim}
use Rattle.demand_three.specs.FileClaim.{LayerOfCut, Leave, no_call, next_call, right_tests, ClimbClaim, FileClaim, DemandThree}
use Rattle.demand_three.specs.RunLaws.{unrefused, start_fine, layers_climb}

-- ---- what Cut leaves

-- the layer of Cut is in its tables
pub cut_leaves : {m : PairedMesh} {h : ℤ} {t t' : CutTables} {answer : Result LayerCounts Refusal} {j k : ℕ} → Cuts m h t answer t'
    → tell_cut answer ≡ gives (j, k)
    → layer_of h t'.points t'.ends j ≡ cut_layer m h
unfolding cut_layer after
cut_leaves {m} {h} {t} {t'} {answer} {j} {k} c e =
    let rs = contours_of (section m h) in
    let cs = (drawn m.mesh h rs).contours in
    let left = left_given c e in
    let points : t'.points ≡ overwrite (numbers_of (flatten cs)) t.points =
    ap (λ (u : CutTables). u.points) left ∙ ap (λ (l : List ℤ). overwrite l t.points) (drawn_points m.mesh h rs) in
    let ends : t'.ends ≡ overwrite (ends_of cs) t.ends =
    ap (λ (u : CutTables). u.ends) left ∙ ap (λ (l : List ℕ). overwrite l t.ends) (drawn_ends m.mesh h rs) in
    let count : j ≡ length cs = (λ i. ((given_verdict c e).1 i).0) ∙ sym (length-map rs (map (point_of m.mesh h))) in
    (λ i. layer_of h (points i) (ends i) (count i)) ∙ layer_held cs t.points t.ends h

-- and in those of Layer
pub rise_leaves : {s : Sweep} {h : ℤ} {t t' : CutTables} {answer : Result Risen Refusal} {n j k : ℕ} {ring' : List ℕ} → Rises s h t answer ring' t'
    → tell_layer answer ≡ gives (n, (j, k)) → layer_of h t'.points t'.ends j ≡ cut_layer s.ordered.paired h
rise_leaves ok e = let c = rise_is_cut ok e in cut_leaves c.2 c.1

-- ---- Cut and Layer on a right mesh

-- with room nothing refuses Cut
pub cut_given_room : (m : PairedMesh) → None (linked_tests m) → (h : ℤ) (t : CutTables) → cut_room_for (length m.mesh.corners) (lengths_of t) ≡ true
    → None (cutting (m, h, t)).refusals
cut_given_room m (more s (more r (more v (more x (more p none_left))))) h t room =
    let right = right_of m (not-false _ (s 0 (omega arith))) r v x p in
    let free = fine_nowhere _ (verdict_one (used (length m.mesh.corners) (section m h)) ∙ section_fine m h right) in
    more s (more (λ i l. ap not room) (more r (more v (more x (more p (more free none_left))))))

-- so the layer of the file is that of Cut
pub layer_of_cut : (m : PairedMesh) → None (linked_tests m) → (h : ℤ) → LayerOfCut m h (cut_layer m h)
layer_of_cut m right h = record {
  cuts = λ t t' answer room c.
      let counts = counts_of (contours_of (section m h)) in
      let told = (given_exactly c).1 (cut_given_room m right h t room) in
      (counts.0, counts.1, told, cut_leaves c told);
  rises = λ s same t t' answer n j k ring' ok e. rise_leaves ok e ∙ ap (λ (p : PairedMesh). cut_layer p h) same;
}

-- the first five tests of a right mesh
pub linked_none : (m : OrderedMesh) → None (right_tests m) → None (linked_tests m.paired)
linked_none m (more s (more r (more v (more x (more p rest))))) = more s (more r (more v (more x (more p none_left))))

-- ---- up the heights

parts_of : {A : Type 0} {a b : A} {l k : List A} → a ∷ l ≡ b ∷ k → (a ≡ b) × (l ≡ k)
parts_of e = (cc, cc)

-- an unrefused call that rises to h leaves the layer of Cut
leave_one : {m : OrderedMesh} {n : ℕ} {r : List ℕ} (c : Call) {h : ℤ} {cs : List Call} {ls : List files.Layer} → refused c ≡ false → given c ≡ sweep m r n
    → move_of c ≡ to h → Leave cs ls → Leave (c ∷ cs) (cut_layer m.paired h ∷ ls)
unfolding refused given move_of
leave_one (step s answer ring' ok) e q f rest = absurd (let z : ◌≡◌ {A = ℕ} 0 1 = cc in omega arith)
leave_one {m = m} (rise s g t answer ring' t' ok) {h} {cs} {ls} e q f rest = by (tell_layer answer) refl e
  where
    same : g ≡ h
    same = cc

    by : (a : Answer Told (ℕ × (ℕ × ℕ))) → tell_layer answer ≡ a → is_refusal a ≡ false → Leave (rise s g t answer ring' t' ok ∷ cs) (cut_layer m.paired h ∷ ls)
    by (refuses r) z x = absurd (clash refl x)
    by (gives v) z x =
        subst (λ (l : files.Layer). Leave (rise s g t answer ring' t' ok ∷ cs) (l ∷ ls))
        (rise_leaves ok z ∙ (λ i. cut_layer (q i).ordered.paired (same i))) (next_call ok z rest)

-- and those that rise to these heights
leave_up : {m : OrderedMesh} {n n' : ℕ} {r r' : List ℕ} {cs : List Call} (hs : List ℤ) → Run m n r cs n' r' → fed cs ≡ unrefused (map to hs)
    → Leave cs (map (cut_layer m.paired) hs)
unfolding fed unrefused
leave_up [] done e = no_call
leave_up [] (skipped x r) e = absurd (let z : ◌≡◌ {A = ℕ} 0 1 = cc in omega arith)
leave_up [] (taken x q r) e = absurd (let z : ◌≡◌ {A = ℕ} 0 1 = cc in omega arith)
leave_up (h ∷ hs) done e = absurd (let z : ◌≡◌ {A = ℕ} 0 1 = cc in omega arith)
leave_up (h ∷ hs) (skipped x r) e = absurd (clash x (λ i. ((parts_of e).0 i).1))
leave_up {n = n} (h ∷ hs) (taken {c = c} x q r) e =
    leave_one c x q (λ i. ((parts_of e).0 i).0) (leave_up {n = passed_after c} hs r (parts_of e).1)

pub climb_claim : ClimbClaim
climb_claim m right t room ring start n ring₀ ok e hs above =
    let made = layers_climb m (fine_none (right_tests m) right) t room ok e hs above in
    record { calls = made.calls; passed = made.passed; ring = made.ring; run = made.run; leave = leave_up hs made.run made.all_made }

-- ---- All layers

pub work_parts : (n : ℕ) (l : Lengths) (ring : ℕ) → work_room_for n l ring ≡ true → (cut_room_for n l ≡ true) × (n ≤ ring)
unfolding work_room_for
work_parts n l ring e = let p = and_parts _ _ e in (p.0, leb-true n ring p.1)

-- what an unrefused call has tested of the mesh, and of the tables of Cut
passed_parts : (m : OrderedMesh) (heights : List ℤ) (w : WorkTables) → None (layers_tests m heights (lengths_of w.cut) (length w.ring))
    → None (right_tests m) × (cut_room_for (length m.paired.mesh.corners) (lengths_of w.cut) ≡ true)
passed_parts m heights w (more s (more y (more u (more r (more v (more x (more p (more o rest)))))))) =
    let room = work_parts (length m.paired.mesh.corners) (lengths_of w.cut) (length w.ring) (not-false _ (u 0 (omega arith))) in
    (more s (more r (more v (more x (more p (more o none_left))))), room.0)

pub file_passed : {p : Profile} {m : OrderedMesh} {heights : List ℤ} {w w' : WorkTables} {output output' : List ℕ} {answer : Result ℕ Refusal} {n : ℕ}
    → Files p m heights w output answer w' output' → tell_all_layers answer ≡ gives n
    → None (right_tests m) × (cut_room_for (length m.paired.mesh.corners) (lengths_of w.cut) ≡ true)
file_passed {p} {m} {heights} {w} {output = output} f e =
    let hs = heights_taken m.paired.mesh.coords heights in
    let tests = layers_tests m heights (lengths_of w.cut) (length w.ring) in
    let later = map used_at (climbed m w.ring hs) ++ (short_output (length output) (swept_file p m w.ring hs) ∷ []) in
    passed_parts m heights w (fine_none tests (join_fine tests later (given_verdict f e).0))

pub file_claim : FileClaim
file_claim p m heights w w' output output' answer n f e =
    let hs = heights_taken m.paired.mesh.coords heights in
    let bytes = cut_file p m.paired hs in
    let passed = file_passed f e in
    let t = all_layers_tested f e in
    let size = all_layers_length f e in
    let written = all_layers_output f e in
    let start = start_fine m passed.0 w.ring t.ring_long in
    record {
      cut = layer_of_cut m.paired (linked_none m passed.0);
      size = size;
      bytes = (λ i. take (size i) (written i)) ∙ overwrite_front bytes output refl;
      past = (λ i. drop (size i) (written i)) ∙ overwrite_rest bytes output refl ∙ ap (λ (k : ℕ). drop k output) (sym size);
      start = start;
      ascent = climb_claim m (none_fine (right_tests m) passed.0) w.cut passed.1 w.ring start.0 0 _ start.2 start.1 hs t.rises;
    }

-- ---- demand 3

pub demand_three : DemandThree
demand_three = record { sweeps = sweep_claim; climbs = climb_claim; files = file_claim }
