-- What Read part promises: it refuses exactly if a listed condition holds, at its place; its outcome is the only one; 13 exactly if the file is not the file of
-- some part; and the file of a part is read as that part.
use Rattle.std.specs.Prelude.{ℕ, ◌≤◌, ◌≡◌, refl, true, false, not, List, [], ◌∷◌, ◌↔◌, length, pos, Result, Ok, Err}
use Rattle.std.proofs.Common.{sym, ap, ◌∙◌, arith}
use borrow.Author.Tests.{leb-true, le-leb}
use Rattle.laws.specs.Booleans.{and_parts}
use Rattle.laws.specs.Tables.{overwrite}
use Rattle.mesh.specs.Operation.{gives, refuses, fine, Condition, test, verdict}
use Rattle.mesh.specs.OperationLaws.{First, None, whole_refused, whole_fine, then_refused, then_fine, verdict_one, Recovers, after_fine, after_kept}
use Rattle.mesh.specs.OperationLaws.{refused_verdict, given_verdict, refused_exactly, given_exactly, left_refused, only_outcome}
use Rattle.mesh.specs.Refusals.{Told, refusal, numbered}
use Rattle.mesh.specs.RefusalLaws.{refusal_of, refusal_once}
use Rattle.file_formats.specs.Formats.{Decoded, holds, broken}
use Rattle.file_formats.specs.FormatLaws.{Bytes}
use Rattle.file_formats.specs.PartFile.{Part, part_file, PartRules, part_of}
use Rattle.file_formats.specs.RoundTripLaws.{part_read_back, part_written_lem}
use Rattle.file_formats.specs.WholeFileLaws.{decode_inside, held_or_is, form_first, form_next, fine_holds, thirteen_exactly}
use Rattle.mesh.specs.declared.Refusal.{Refusal}
use Rattle.read_part.specs.declared.PartCounts.{PartCounts}
use Rattle.read_part.specs.Parts.{part, PartSizes, part_sizes_of, read_part_room_for, no_part_room, part_in, part_tests, part_counts, fills_part}
use Rattle.read_part.specs.Parts.{tell_read_part, ReadsPart}

-- ---- 9

module _ (n t : PartSizes) where
  pub room_of : n.coords ≤ t.coords → n.corners ≤ t.corners → n.heights ≤ t.heights → read_part_room_for n t ≡ true
  unfolding read_part_room_for
  room_of i j k = simp (le-leb n.coords t.coords i, le-leb n.corners t.corners j, le-leb n.heights t.heights k)

  pub room_parts : read_part_room_for n t ≡ true → (n.coords ≤ t.coords) × (n.corners ≤ t.corners) × (n.heights ≤ t.heights)
  unfolding read_part_room_for
  room_parts e =
      let p = and_parts _ _ e in
      let q = and_parts _ _ p.0 in
      (leb-true _ _ q.0, leb-true _ _ q.1, leb-true _ _ p.1)

-- ---- the verdict, by what the file holds

-- the place of a refusal lies in the file or at its end
pub part_broken_inside : (file : List ℕ) (place : ℕ) → part_of file ≡ broken place → place ≤ length file
unfolding part_of
part_broken_inside file place e = decode_inside part_file file place e

-- what a file that holds a part holds
pub held_part : (file : List ℕ) {p : Part} → part_of file ≡ holds p → part_in file ≡ p
held_part file e = held_or_is (part [] [] []) e

module _ (file : List ℕ) (t : PartSizes) where
  -- the refusals after 13
  abbrev others : List (Condition Told)
  others = no_part_room (part_in file) t ∷ []

  pub broken_verdict : {place : ℕ} → part_of file ≡ broken place → verdict (part_tests file t) ≡ refuses (refusal 13 place)
  broken_verdict e = form_first 13 file (part_of file) (part_broken_inside file) others e

  pub verdict_broken : (place : ℕ) → (verdict (part_tests file t) ≡ refuses (refusal 13 place)) ↔ (part_of file ≡ broken place)
  verdict_broken = thirteen_exactly file (part_of file) (part_broken_inside file) others ((λ j e. omega arith), tt)

  module _ {p : Part} (e : part_of file ≡ holds p) where
    left : verdict (part_tests file t) ≡ test (no_part_room p t)
    left =
        form_next 13 file (part_of file) (part_broken_inside file) others e ∙ sym (verdict_one (no_part_room (part_in file) t))
        ∙ ap (λ (q : Part). test (no_part_room q t)) (held_part file e)

    pub short_verdict : read_part_room_for (part_sizes_of p) t ≡ false → verdict (part_tests file t) ≡ refuses (refusal 9 0)
    short_verdict f = left ∙ sym (whole_refused (refusal 9) (not (read_part_room_for (part_sizes_of p) t)) (ap not f))

    pub fine_verdict : read_part_room_for (part_sizes_of p) t ≡ true → verdict (part_tests file t) ≡ fine
    fine_verdict f = left ∙ sym (whole_fine (refusal 9) (not (read_part_room_for (part_sizes_of p) t)) (ap not f))

  -- where nothing is refused, the file holds a part
  pub fine_part : verdict (part_tests file t) ≡ fine → (p : Part) × (part_of file ≡ holds p)
  fine_part v = fine_holds 13 file (part_of file) (part_broken_inside file) others v

-- ---- the three tables: filled, or as they were

module _ (p t : Part) where
  pub fills_fine : part (overwrite p.coords t.coords) (overwrite p.corners t.corners) (overwrite p.heights t.heights) ≡ fills_part p t fine
  fills_fine =
      λ i. part (after_fine (numbered []) p.coords 0 (pos 0) t.coords i) (after_fine (numbered []) p.corners 0 0 t.corners i)
      (after_fine (numbered []) p.heights 0 (pos 0) t.heights i)

  pub refused_keeps : (r : Told) → t ≡ fills_part p t (refuses r)
  refused_keeps r =
      λ i. part (after_kept (numbered []) p.coords 0 (pos 0) t.coords r refl i) (after_kept (numbered []) p.corners 0 0 t.corners r refl i)
      (after_kept (numbered []) p.heights 0 (pos 0) t.heights r refl i)

-- ---- Read part

pub read_part_recovers : Recovers tell_read_part
read_part_recovers = record {
  back = elim [ gives v ↦ Ok (record { vertices = v.0; triangles = v.1; heights = v.2 }) | refuses r ↦ Err (refusal_of r) ];
  once = elim [ Ok c ↦ refl | Err r ↦ ap Err (refusal_once r) ];
}

module _ {file : List ℕ} {t : Part} {result : Result PartCounts Refusal} {t' : Part} (k : ReadsPart file t result t') where
  -- refused exactly if a listed condition holds, the first that fits; answered with counts exactly if none does; and one outcome only
  pub read_part_refused : (r : Told) → (tell_read_part result ≡ refuses r) ↔ First (part_tests file (part_sizes_of t)) r
  read_part_refused = refused_exactly k

  pub read_part_given : (tell_read_part result ≡ gives (part_counts (part_in file))) ↔ None (part_tests file (part_sizes_of t))
  read_part_given = given_exactly k

  pub read_part_only : {other : Result PartCounts Refusal} {u' : Part} → ReadsPart file t other u' → (result ≡ other) × (t' ≡ u')
  read_part_only = only_outcome read_part_recovers k

  -- a refusal changes nothing
  pub refused_stays : {r : Told} → tell_read_part result ≡ refuses r → t' ≡ t
  refused_stays {r} e = left_refused k e ∙ sym (refused_keeps (part_in file) t r)

  -- a part was read: the three counts, and the tables filled with it
  pub record GivesPart (p : Part) : Type 0 where
    pub answered : tell_read_part result ≡ gives (part_counts p)
    pub filled : t' ≡ fills_part p t fine

  given : {p : Part} → part_of file ≡ holds p → verdict (part_tests file (part_sizes_of t)) ≡ fine → GivesPart p
  given {p} e v =
      let s : part_in file ≡ p = held_part file e in
      record {
        answered = k.answers ∙ sym (then_fine v) ∙ (λ i. gives (part_counts (s i)));
        filled = k.leaves ∙ (λ i. fills_part (s i) t (v i));
      }

  -- the file of a part is read as this part
  pub read_back_lem : (p : Part) → PartRules p → file ≡ part_file.encode p
      → length p.coords ≤ length t.coords → length p.corners ≤ length t.corners → length p.heights ≤ length t.heights → GivesPart p
  read_back_lem p rules e a b c =
      let h : part_of file ≡ holds p = ap part_of e ∙ part_read_back p rules in
      given h (fine_verdict file (part_sizes_of t) h (room_of (part_sizes_of p) (part_sizes_of t) a b c))

  -- what was read is a part, and its file was read
  pub read_written : Bytes file → {v : ℕ × ℕ × ℕ} → tell_read_part result ≡ gives v → (p : Part) × PartRules p × (file ≡ part_file.encode p) × GivesPart p
  read_written bytes e =
      let v = (given_verdict k e).0 in
      let q = fine_part file (part_sizes_of t) v in
      let w = part_written_lem file q.0 bytes q.1 in
      (q.0, w.0, w.1, given q.1 v)

  -- refusal 13 is that of the file's format
  pub broken_exactly : (place : ℕ) → (tell_read_part result ≡ refuses (refusal 13 place)) ↔ (part_of file ≡ broken place)
  broken_exactly place = (
    (λ e. (verdict_broken file (part_sizes_of t) place).0 (refused_verdict k e)),
    (λ e. k.answers ∙ sym (then_refused _ (broken_verdict file (part_sizes_of t) e))),
  )

  -- 13 exactly if the file is not the file of some part
  pub unwritten_exactly : Bytes file
      → ((place : ℕ) × (tell_read_part result ≡ refuses (refusal 13 place))) ↔ ((p : Part) → PartRules p → file ≡ part_file.encode p → ⊥)
  unwritten_exactly bytes = (to, (λ h. by h (part_of file) refl))
    where
      to : (place : ℕ) × (tell_read_part result ≡ refuses (refusal 13 place)) → (p : Part) → PartRules p → file ≡ part_file.encode p → ⊥
      to q p rules w =
          let e = (broken_exactly q.0).0 q.1 in
          let f = ap part_of w ∙ part_read_back p rules in
          let z : ◌≡◌ {A = ℕ} 0 1 = cc in omega arith

      by : ((p : Part) → PartRules p → file ≡ part_file.encode p → ⊥) → (d : Decoded Part) → part_of file ≡ d
          → (place : ℕ) × (tell_read_part result ≡ refuses (refusal 13 place))
      by n (broken place) h = (place, (broken_exactly place).1 h)
      by n (holds p) h = let w = part_written_lem file p bytes h in absurd (n p w.0 w.1)
