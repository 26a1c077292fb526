-- What `list` answers at its two returns.
use Prim.Native.Nat.{ℕ, ◌*◌, ◌≤◌, ◌<◌}
use mathlib.Core.Path.{◌≡◌, refl, sym, ap, ◌∙◌}
use mathlib.Core.Bool.{false}
use mathlib.Core.List.{List, []}
use Rattle.std.specs.Prelude.{Some, None}
use native.Mathlib.Omega.{arith}
use borrow.Author.Tests.{lt-ltb, le-ltb}
use lib.ListN.{length}
use lib.Seq.{sets}
use Rattle.laws.specs.Tables.{overwrite}
use Rattle.laws.specs.TableLaws.{overwrite_none, overwrite_more}
use Rattle.mesh.specs.Operation.{gives}
use Rattle.mesh.specs.OperationLaws.{whole_refused, whole_fine, verdict_one, after_fine, after_kept, does_refuse, does_give}
use Rattle.cut.specs.Cut.{Lengths}
use Rattle.list_decimals.specs.Texts.{PutsText}
use Rattle.list_lines.specs.Limits.{held_entries, most_output}
use Rattle.list_part.specs.Listing.{listed, short_list, Lists}
use Rattle.list_part.specs.Steps.{ListingTables}

-- tables of these lengths are long enough
pub zeros_held : {pairing order : ℕ} {l : Lengths} → pairing ≡ held_entries → order ≡ held_entries → l.names ≡ held_entries → l.points ≡ 2 * held_entries
    → l.ends ≡ held_entries → l.marks ≡ held_entries → ListingTables pairing order l
zeros_held a b c d e f =
    record {
      pairing_size = a;
      order_size = b;
      long = record { names_long = omega arith; points_long = omega arith; ends_long = omega arith; marks_long = omega arith };
    }

-- a text at the front of an output
front : {text output : List ℕ} {n : ℕ} {output' : List ℕ} → PutsText output 0 text n output' → output' ≡ overwrite text output
front {text} {output} v =
    v.is ∙ ap (λ (l : List ℕ). sets l 0 text) (sym (overwrite_none output))
    ∙ overwrite_more text [] output 0 refl (omega (arith, v.within, v.ends))

module _ {input output : List ℕ} where
  pub too_short : length output < most_output → Lists input output None output
  too_short h =
      does_refuse (whole_refused (λ i. tt) _ (lt-ltb (length output) most_output h) ∙ verdict_one (short_list output)) refl refl
      (after_kept (λ r. false) (listed input) 0 0 output tt refl)

  pub written : {n : ℕ} {output' : List ℕ} → most_output ≤ length output → PutsText output 0 (listed input) n output' → Lists input output (Some n) output'
  written {n} h v =
      let size : n ≡ length (listed input) = omega (arith, v.ends) in
      does_give (whole_fine (λ i. tt) _ (le-ltb (length output) most_output h) ∙ verdict_one (short_list output)) refl (ap gives size)
      (front v ∙ after_fine (λ r. false) (listed input) 0 0 output)
