-- What reading a part answers at each return, and what is then written.
use Prim.Native.Nat.{ℕ, ◌*◌, ◌/◌, ◌≤◌, ◌<◌}
use mathlib.Core.Path.{◌≡◌, refl, sym, ap, ◌∙◌, subst}
use mathlib.Core.Bool.{Bool, true, false, cond}
use mathlib.Core.List.{List, [], ◌∷◌}
use Rattle.std.specs.Prelude.{Result, Ok, Err, MatchResult}
use Rattle.std.specs.Result.{IsErrAnd}
use Rattle.std.proofs.lemmas.Result.{err_from_is_err_and}
use mathlib.Core.Logic.{⊎_elim}
use native.Mathlib.Omega.{arith}
use lib.ListN.{length, take, drop, length-append}
use lib.IntN.{ℤ}
use borrow.Author.Tests.{lt-ltb, le-ltb, eq-eqb, ne_eqb}
use Rattle.laws.specs.Booleans.{clash, is_true, split_lt}
use Rattle.laws.specs.Tables.{overwrite}
use Rattle.laws.specs.TableLaws.{overwrite_front}
use Rattle.mesh.specs.Operation.{gives, refuses, fine, test, ◌then◌, verdict, after}
use Rattle.mesh.specs.OperationLaws.{apart, same_refusal, same_values, whole_refused, whole_fine, then_refused, verdict_one, verdict_stop, verdict_next}
use Rattle.mesh.specs.OperationLaws.{join_next, refused_verdict}
use Rattle.mesh.specs.Refusals.{Told, refusal, told_of}
use Rattle.mesh.specs.declared.Refusal.{Refusal}
use Rattle.mesh.specs.declared.Refusal.TheVariants.{Size}
use Rattle.file_formats.specs.Formats.{Decoded, holds, broken}
use Rattle.file_formats.specs.FormatLaws.{Bytes}
use Rattle.file_formats.specs.PartFile.{Part, PartRules, part_of}
use Rattle.file_formats.specs.RoundTripLaws.{part_read_back, part_written_lem}
use Rattle.file_formats.specs.WholeFiles.{form}
use Rattle.file_formats.specs.WholeFileLaws.{form_refused, form_fine}
use Rattle.read_part.specs.declared.PartCounts.{PartCounts}
use Rattle.read_part.specs.Parts.{part, PartSizes, part_sizes_of, read_part_room_for, part_in, part_counts, part_tests, tell_read_part, ReadsPart}
use Rattle.read_part.proofs.PartLaws.{room_of, part_broken_inside, broken_verdict, held_part, short_verdict, fine_verdict, read_written}
use Rattle.all_heights.specs.Heights.{heights_taken}
use Rattle.all_heights.specs.HeightLaws.{taken_given}
use Rattle.list_decimals.specs.Texts.{PutsText}
use Rattle.list_lines.specs.Limits.{most_input, held_entries}
use Rattle.list_lines.specs.Lines.{refused_line, listing}
use Rattle.list_part.specs.Listing.{paired_part, beyond, long_input, limits, part_refusals, refusals_of, bytes_of, listed}
use Rattle.list_part.specs.Steps.{held_sizes, front_of, PartRead, part_listed, limited, Takes}
use Rattle.list_part.proofs.Parts.{within}

-- ---- 1 for the input

pub long_stop : (input : List ℕ) (tables : Part) → most_input < length input → Takes input (Err (Size 0)) tables
unfolding Takes
long_stop input tables h = sym (verdict_stop (long_input input) _ (whole_refused (refusal 1) _ (lt-ltb most_input (length input) h)) refl)

opens : (input : List ℕ) → length input ≤ most_input → fine ≡ test (long_input input)
opens input h = whole_fine (refusal 1) _ (le-ltb most_input (length input) h)

-- ---- a part that has no room is beyond the limits

few_heights : (coords heights : List ℤ) → length (heights_taken coords heights) ≤ held_entries → length heights ≤ held_entries
few_heights coords heights h = ⊎_elim (λ l. omega (arith, ap length (taken_given coords heights l))) (λ l. omega arith) (split_lt 0 (length heights))

no_room : (p : Part) → PartRules p → read_part_room_for (part_sizes_of p) held_sizes ≡ false → beyond p ≡ true
no_room p rules f = is_true (beyond p) (λ e. clash (room e) f)
  where
    room : beyond p ≡ false → read_part_room_for (part_sizes_of p) held_sizes ≡ true
    room e =
        let w = within p e in
        room_of (part_sizes_of p) held_sizes (omega (arith, w.0, rules.whole_vertices)) (omega (arith, w.1, rules.whole_triangles))
        (few_heights p.coords p.heights (omega (arith, w.2)))

-- ---- Read part

-- the front of a filled table
front : {A : Type 0} (vs t : List A) {t' : List A} {n : ℕ} → t' ≡ overwrite vs t → n ≡ length vs → (n ≤ length t') × (take n t' ≡ vs)
unfolding overwrite
front vs t {t'} {n} e f =
    (omega (arith, ap length e, length-append vs (drop (length vs) t)), ap (take n) e ∙ overwrite_front vs t (sym f))

module _ {input : List ℕ} {t t' : Part} {result : Result PartCounts Refusal} (k : ReadsPart input t result t') (bytes : Bytes input)
    (short : length input ≤ most_input) where
  pub read_counts : (counts : PartCounts) → result ≡ Ok counts → Takes input (Ok counts) t'
  unfolding Takes after
  read_counts counts f =
      let v = counts.vertices in
      let n = counts.triangles in
      let h = counts.heights in
      let e = ap tell_read_part f in
      let w = read_written k bytes e in
      let p = w.0 in
      let is : part_of input ≡ holds p = ap part_of w.2 ∙ part_read_back p w.1 in
      let c : (v, n, h) ≡ part_counts p = same_values (sym e ∙ w.3.answered) in
      let cv : v ≡ length p.coords / 3 = λ i. (c i).0 in
      let cn : n ≡ length p.corners / 3 = λ i. (c i).1 in
      let ch : h ≡ length p.heights = λ i. (c i).2 in
      let x = front p.coords t.coords {n = 3 * v} (ap (λ (q : Part). q.coords) w.3.filled) (omega (arith, w.1.whole_vertices)) in
      let y = front p.corners t.corners {n = 3 * n} (ap (λ (q : Part). q.corners) w.3.filled) (omega (arith, w.1.whole_triangles)) in
      let z = front p.heights t.heights {n = h} (ap (λ (q : Part). q.heights) w.3.filled) ch in
      record {
        opens = sym (verdict_next (long_input input) _ (opens input short) refl (form_fine 13 input is ∙ verdict_one (form input (part_of input))));
        coords_there = x.0;
        corners_there = y.0;
        heights_there = z.0;
        is = (λ i. part (x.1 i) (y.1 i) (z.1 i)) ∙ sym (held_part input is);
      }

  -- a refusal of Read part, by what the file holds
  pub read_stop : (q : Refusal) {r : Told} → part_sizes_of t ≡ held_sizes → tell_read_part result ≡ refuses r → told_of q ≡ limited r
      → Takes input (Err q) t'
  unfolding Takes limited
  read_stop q {r} sizes e f = by (part_of input) refl ∙ ap refuses (sym f)
    where
      said : verdict (part_tests input held_sizes) ≡ refuses r
      said = ap (λ (s : PartSizes). verdict (part_tests input s)) (sym sizes) ∙ refused_verdict k e

      by : (d : Decoded Part) → part_of input ≡ d → verdict (refusals_of input) ≡ refuses (limited r)
      by (broken place) h =
          sym (verdict_next (long_input input) _ (opens input short) refl
          (verdict_stop (form input (part_of input)) _ (form_refused 13 input (part_broken_inside input place h) h) refl))
          ∙ ap (λ (s : Told). refuses (limited s)) (same_refusal (sym (broken_verdict input held_sizes h) ∙ said))
      by (holds p) h = room (read_part_room_for (part_sizes_of p) held_sizes) refl
        where
          room : (b : Bool) → read_part_room_for (part_sizes_of p) held_sizes ≡ b → verdict (refusals_of input) ≡ refuses (limited r)
          room true g = apart (sym said ∙ fine_verdict input held_sizes h g)
          room false g =
              let over : beyond (part_in input) ≡ true = ap beyond (held_part input h) ∙ no_room p (part_written_lem input p bytes h).0 g in
              sym (verdict_next (long_input input) _ (opens input short) refl
              (verdict_next (form input (part_of input)) _ (form_fine 13 input h) refl
              (verdict_stop (limits (part_in input)) _ (whole_refused (refusal 1) _ over) refl)))
              ∙ ap (λ (s : Told). refuses (limited s)) (same_refusal (sym (short_verdict input held_sizes h g) ∙ said))

  -- so what is told where a refusal is limited
  pub read_taken : part_sizes_of t ≡ held_sizes → (met : Result PartCounts Refusal)
      → MatchResult result (λ c. met ≡ Ok c) (λ r. IsErrAnd met (λ q. told_of q ≡ limited (told_of r))) → Takes input met t'
  read_taken sizes met = by result refl
    where
      by : (answer : Result PartCounts Refusal) → result ≡ answer
          → MatchResult answer (λ c. met ≡ Ok c) (λ r. IsErrAnd met (λ q. told_of q ≡ limited (told_of r))) → Takes input met t'
      by (Ok c) e is = subst (λ (a : Result PartCounts Refusal). Takes input a t') (sym is) (read_counts c e)
      by (Err r) e is =
          let p = err_from_is_err_and met is in
          subst (λ (a : Result PartCounts Refusal). Takes input a t') (sym p.1) (read_stop p.0 sizes (ap tell_read_part e) p.2)

-- ---- 9 of Read part

module _ (r : Refusal) {n : ℕ} (is : n ≡ (told_of r).number) where
  pub for_nine : n ≡ 9 → told_of (Size 0) ≡ limited (told_of r)
  unfolding limited
  for_nine e = ap (λ (b : Bool). cond b (refusal 1 0) (told_of r)) (sym (eq-eqb (told_of r).number 9 (sym is ∙ e)))

  pub for_others : (n ≡ 9 → ⊥) → told_of r ≡ limited (told_of r)
  unfolding limited
  for_others f = ap (λ (b : Bool). cond b (refusal 1 0) (told_of r)) (sym (ne_eqb (told_of r).number 9 (λ e. f (is ∙ e))))

-- ---- what is written

pub part_read_lem : (input : List ℕ) (counts : PartCounts) (tables : Part) → Takes input (Ok counts) tables
    → PartRead input counts.vertices counts.triangles counts.heights tables
unfolding Takes
part_read_lem input counts tables k = k

pub put_part : {input : List ℕ} {v t n : ℕ} {tables : Part} {l : List ℕ} {end : ℕ} {m : List ℕ} → PartRead input v t n tables
    → PutsText l 0 (part_listed (front_of v t n tables)) end m → PutsText l 0 (listed input) end m
unfolding listed part_listed
put_part {input} {l = l} {end = end} {m = m} r w =
    let p : Part = part_in input in
    let all = join_next (long_input input ∷ form input (part_of input) ∷ []) (part_refusals p) refl r.opens refl in
    subst (λ (a : List ℕ). PutsText l 0 a end m) (ap part_listed r.is ∙ (λ i. bytes_of (all i then gives (listing (paired_part p) p.heights)))) w

pub put_stop : (input : List ℕ) (r : Refusal) (tables : Part) → Takes input (Err r) tables → {l : List ℕ} {end : ℕ} {m : List ℕ}
    → PutsText l 0 (refused_line (told_of r)) end m → PutsText l 0 (listed input) end m
unfolding Takes listed
put_stop input r tables said {l} {end} {m} w = subst (λ (a : List ℕ). PutsText l 0 a end m) (ap bytes_of (then_refused _ said)) w
