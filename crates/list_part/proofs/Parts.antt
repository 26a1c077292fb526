-- The refusals of a part at each return of the code, and what a part without any gives.
use Prim.Native.Nat.{ℕ, ◌≤◌}
use mathlib.Core.Path.{◌≡◌, refl, sym, ap, ◌∙◌, subst}
use mathlib.Core.Bool.{Bool, true, false, ◌||◌}
use mathlib.Core.List.{List, [], ◌∷◌, ◌++◌}
use Rattle.std.specs.Prelude.{Result}
use native.Mathlib.Omega.{arith}
use lib.Dec.{ltb}
use lib.ListN.{length, take, length-take}
use borrow.Author.Tests.{ltb-false, not-false}
use Rattle.laws.specs.Booleans.{or_parts}
use Rattle.laws.specs.TableLaws.{length_tabulate, get_d_tabulate, overwrite_front}
use Rattle.mesh.specs.Corners.{vertex_count, triangle_count}
use Rattle.mesh.specs.Meshes.{paired}
use Rattle.mesh.specs.Operation.{gives, refuses, Finding, fine, test, verdict}
use Rattle.mesh.specs.OperationLaws.{None, more, done, apart, whole_refused, whole_fine, fine_none, fine_nowhere, then_refused, then_fine, verdict_one}
use Rattle.mesh.specs.OperationLaws.{verdict_stop, verdict_next, join_stop, join_next, given_verdict, refused_verdict, left_given, after_fine}
use Rattle.mesh.specs.Refusals.{Told, refusal, numbered}
use Rattle.mesh.specs.Tests.{pairs}
use Rattle.check_pairing.specs.Partners.{partner_of, pairing_of}
use Rattle.check_pairing.proofs.PartnerLaws.{pairing_right}
use Rattle.mesh.specs.declared.Refusal.{Refusal}
use Rattle.check_mesh.specs.Check.{CheckTables, check_tests, edge_tests, checking, tell_check, Checks}
use Rattle.section.specs.Section.{Right}
use Rattle.section.specs.RightLaws.{right_of}
use Rattle.cut.specs.Cut.{Lengths}
use Rattle.file_formats.specs.PartFile.{Part}
use Rattle.all_heights.specs.Heights.{heights_taken, falling_height}
use Rattle.list_decimals.specs.Texts.{PutsText}
use Rattle.list_lines.specs.Limits.{held_vertices, held_triangles, held_heights, held_entries}
use Rattle.list_lines.specs.Lines.{refused_line, listing}
use Rattle.list_lines.specs.Steps.{Workable, Listable}
use Rattle.list_part.specs.Listing.{part_mesh, paired_part, beyond, limits, part_check_tests, part_refusals, bytes_of}
use Rattle.list_part.specs.Steps.{ListingTables, PartTested, part_listed}

pub front_length : {A : Type 0} (n : ℕ) (t : List A) → n ≤ length t → n ≡ length (take n t)
front_length n t h = omega (arith, length-take n t)

module _ (p : Part) where
  -- ---- the limits

  abbrev counted : ℕ
  counted = length (heights_taken p.coords p.heights)

  abbrev more_triangles : Bool
  more_triangles = ltb held_triangles (triangle_count p.corners)

  abbrev more_vertices : Bool
  more_vertices = ltb held_vertices (vertex_count p.coords)

  pub within : beyond p ≡ false → (vertex_count p.coords ≤ held_vertices) × (triangle_count p.corners ≤ held_triangles)
      × (length (heights_taken p.coords p.heights) ≤ held_heights)
  unfolding beyond
  within e =
      let a = or_parts more_vertices (more_triangles || ltb held_heights counted) e in
      let b = or_parts more_triangles (ltb held_heights counted) a.1 in (
        ltb-false held_vertices (vertex_count p.coords) a.0,
        ltb-false held_triangles (triangle_count p.corners) b.0,
        ltb-false held_heights counted b.1,
      )

  -- ---- the tests of a part

  pub limit_stop : {pairing pairing' : List ℕ} → beyond p ≡ true → PartTested p pairing (refuses (refusal 1 0)) pairing'
  limit_stop e = record { is = verdict_stop (limits p) _ (whole_refused (refusal 1) (beyond p) e) refl; pairs = apart }

  module _ {t t' : CheckTables} {result : Result Unit Refusal} (e : beyond p ≡ false) (k : Checks (part_mesh p) t result t')
      (lp : length t.pairing ≡ held_entries) (lo : length t.order ≡ held_entries) where
    same : verdict (checking (part_mesh p, t)).refusals ≡ verdict (part_check_tests p)
    same = λ i. verdict (check_tests (part_mesh p) (lp i) (lo i) ++ edge_tests p.corners)

    pub check_stop : {r : Told} {f : Finding Told} → tell_check result ≡ refuses r → f ≡ refuses r → PartTested p t.pairing f t'.pairing
    check_stop g is =
        record {
          is =
              is ∙ verdict_next (limits p) _ (whole_fine (refusal 1) (beyond p) e) refl
              (join_stop (part_check_tests p) (falling_height p.heights ∷ []) (sym (refused_verdict k g) ∙ same) refl);
          pairs = λ q. apart (sym is ∙ q);
        }

    pub heights_next : {f : Finding Told} → tell_check result ≡ gives tt → f ≡ test (falling_height p.heights)
        → PartTested p t.pairing f t'.pairing
    heights_next g h =
        record {
          is =
              verdict_next (limits p) _ (whole_fine (refusal 1) (beyond p) e) refl
              (join_next (part_check_tests p) (falling_height p.heights ∷ []) same (given_verdict k g).0 (h ∙ verdict_one (falling_height p.heights)));
          pairs =
              λ q. ap (λ (u : CheckTables). u.pairing) (left_given k g)
              ∙ sym (after_fine (numbered (6 ∷ [])) (pairing_of p.corners) (length p.corners) 0 t.pairing);
        }

  -- ---- a part without refusals

  module _ {pairing : List ℕ} {f : Finding Told} {pairing' : List ℕ} (t : PartTested p pairing f pairing') (nothing : f ≡ fine) where
    length_pairing : length (pairing_of p.corners) ≡ length p.corners
    unfolding pairing_of
    length_pairing = length_tabulate (length p.corners) (partner_of p.corners)

    front : take (length p.corners) pairing' ≡ pairing_of p.corners
    front = ap (take (length p.corners)) (t.pairs nothing) ∙ overwrite_front (pairing_of p.corners) pairing length_pairing

    -- it can be listed
    pub record ListablePart : Type 0 where
      pub listable : Listable (paired p.coords p.corners (take (length p.corners) pairing')) p.heights
      pub few : length p.corners ≤ held_entries

    go : None (part_refusals p) → ListablePart
    unfolding pairing_of
    go (more l (more s (more m (more r (more x (more y (more o (more q done)))))))) =
        let w = within (l 0 (omega arith)) in
        let is = pairing_right p.corners o (pairing_of p.corners) (omega (arith, length_pairing))
        (λ c h. get_d_tabulate (length p.corners) (partner_of p.corners) c 0 h) in
        let right : Right (paired_part p) =
        right_of (paired_part p) (not-false _ (s 0 (omega arith))) r x y (fine_nowhere (pairs p.corners (pairing_of p.corners)) (sym is)) in
        record {
          listable = record { right = subst (λ (u : List ℕ). Right (paired p.coords p.corners u)) (sym front) right; few = w.2 };
          few = omega (arith, right.linked.whole.threes, w.1);
        }

    pub listable_part : ListablePart
    listable_part = go (fine_none (part_refusals p) (sym t.is ∙ nothing))

    pub pairing_room : length pairing' ≡ length pairing → length pairing ≡ held_entries → length p.corners ≤ length pairing'
    pairing_room e g = omega (arith, listable_part.few)

    -- the tables have room
    pub workable : {order n : ℕ} {l : Lengths} → ListingTables n order l → Workable (length p.corners) l
    workable s =
        let few = listable_part.few in
        let long = s.long in
        record {
          few = few;
          long = record {
            names_long = omega (arith, long.names_long);
            points_long = omega (arith, long.points_long);
            ends_long = omega (arith, long.ends_long);
            marks_long = omega (arith, long.marks_long);
          };
        }

    pub put_listing : {l : List ℕ} {e : ℕ} {m : List ℕ}
        → PutsText l 0 (listing (paired p.coords p.corners (take (length p.corners) pairing')) p.heights) e m → PutsText l 0 (part_listed p) e m
    unfolding part_listed
    put_listing {l} {e} {m} w =
        subst (λ (u : List ℕ). PutsText l 0 u e m)
        ((λ i. listing (paired p.coords p.corners (front i)) p.heights) ∙ ap bytes_of (then_fine (sym t.is ∙ nothing))) w

  pub put_refusal : {pairing : List ℕ} {f : Finding Told} {pairing' : List ℕ} {r : Told} {l : List ℕ} {e : ℕ} {m : List ℕ} → PartTested p pairing f pairing'
      → f ≡ refuses r → PutsText l 0 (refused_line r) e m → PutsText l 0 (part_listed p) e m
  unfolding part_listed
  put_refusal {l = l} {e = e} {m = m} t g w = subst (λ (u : List ℕ). PutsText l 0 u e m) (ap bytes_of (then_refused _ (sym t.is ∙ g))) w
