-- What the program writes, and what the function promises: it refuses exactly if the output is too short, else what the program writes stands at its front;
-- its outcome is the only one.
use Rattle.std.specs.Prelude.{ℕ, ◌≤◌, ◌≡◌, refl, List, [], ◌∷◌, ◌↔◌, take, drop, Option, Some, None as TooShort}
use Rattle.std.proofs.Common.{sym, ◌∙◌, arith, le-ltb}
use Rattle.std.proofs.Math.Path.{ap}
use Rattle.std.proofs.Math.ListN.{length, length-append}
use Rattle.laws.specs.Tables.{overwrite}
use Rattle.laws.specs.TableLaws.{overwrite_front}
use Rattle.mesh.specs.Operation.{gives, refuses, after}
use Rattle.mesh.specs.OperationLaws.{First, None, more, done, first_refused, none_fine, then_refused, then_fine, Recovers, given_verdict, left_given}
use Rattle.mesh.specs.OperationLaws.{refused_exactly, given_exactly, only_outcome}
use Rattle.mesh.specs.Refusals.{Told}
use Rattle.read_part.specs.Parts.{part_in}
use Rattle.list_lines.specs.Lines.{refused_line, listing}
use Rattle.list_lines.specs.Limits.{most_output}
use Rattle.list_part.specs.Listing.{paired_part, refusals_of, bytes_of, listed, short_list, tell_list, Lists}

-- ---- what is written: on refusal only its line, for the first condition that fits at its least place; else the listing

module _ (input : List ℕ) where
  pub refused_line_lem : {r : Told} → First (refusals_of input) r → listed input ≡ refused_line r
  unfolding listed
  refused_line_lem {r} f = ap bytes_of (sym (then_refused _ (first_refused (refusals_of input) r f)))

  pub whole_listing : None (refusals_of input) → listed input ≡ listing (paired_part (part_in input)) (part_in input).heights
  unfolding listed
  whole_listing n = ap bytes_of (sym (then_fine (none_fine (refusals_of input) n)))

-- ---- the function

pub list_recovers : Recovers tell_list
list_recovers = record {
  back = elim [ gives n ↦ Some n | refuses r ↦ TooShort ];
  once = elim [ Some n ↦ refl | TooShort ↦ refl ];
}

module _ {input output : List ℕ} {result : Option ℕ} {output' : List ℕ} (k : Lists input output result output') where
  -- refused exactly if the output is too short, else the length of what is written; and one outcome only
  pub list_short : (tell_list result ≡ refuses tt) ↔ First (short_list output ∷ []) tt
  list_short = refused_exactly k tt

  pub list_given : (tell_list result ≡ gives (length (listed input))) ↔ None (short_list output ∷ [])
  list_given = given_exactly k

  pub list_only : {other : Option ℕ} {other' : List ℕ} → Lists input output other other' → (result ≡ other) × (output' ≡ other')
  list_only = only_outcome list_recovers k

  -- an output of so many bytes is always long enough
  pub long_enough : most_output ≤ length output → tell_list result ≡ gives (length (listed input))
  long_enough h = list_given.1 (more (λ i l. le-ltb (length output) most_output h) done)

  -- the first n bytes of the output are what the program writes
  pub record ListingWritten (n : ℕ) : Type 0 where
    pub within : n ≤ length output'
    pub text : take n output' ≡ listed input

  pub written : {n : ℕ} → tell_list result ≡ gives n → ListingWritten n
  unfolding overwrite after
  written {n} e =
      let size : n ≡ length (listed input) = (given_verdict k e).1 in
      let is : output' ≡ overwrite (listed input) output = left_given k e in
      record {
        within = omega (arith, ap length is, length-append (listed input) (drop (length (listed input)) output));
        text = ap (take n) is ∙ overwrite_front (listed input) output (sym size);
      }
