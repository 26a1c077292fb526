-- A file by the count of its layers: a lemma for each return of `charge_file`.
use Prim.Native.Nat.{ℕ, ◌<◌, ◌≤◌}
use mathlib.Core.Path.{◌≡◌, refl, sym, ap, ◌∙◌}
use mathlib.Core.List.{List}
use Rattle.std.specs.Prelude.{Ok, Err}
use native.Mathlib.Omega.{arith}
use lib.ListN.{length, drop}
use Rattle.cleaning.specs.declared.Profile.TheVariants.{Full}
use Rattle.file_formats.specs.Formats.{Format, holds, broken, decoded_in, sequence}
use Rattle.file_formats.specs.LayerFile.{Layer, most_layers, layer_format, height_of, lowest, layer_file_in, layers_of, layers_of_in}
use Rattle.file_formats.specs.LayerFileLaws.{layer_tails}
use Rattle.file_formats.specs.Positions.{breaks_at, number_at}
use Rattle.file_formats.specs.PositionLaws.{took, not_took, number_breaks, sequence_tails, ParsedAt}
use Rattle.file_formats.specs.declared.Broken.{Broken}
use Rattle.file_check.specs.Answers.{final}
use Rattle.file_check.specs.AnswerLaws.{Off, from_ok, broken_off, final_off, final_over, final_whole}
use Rattle.ink.specs.Charges.{job_charge}
use Rattle.ink.specs.Steps.{charges_at, charge_of}

module _ (t : ℕ) (file : List ℕ) where
  pub no_count : {b : Broken} → number_at most_layers file 0 ≡ Err b → Err b ≡ charge_of t (layers_of file)
  unfolding layers_of_in layer_file_in
  no_count e =
      let p = not_took most_layers file 0 e in
      let b : layers_of file ≡ broken 0 = simp p (ap broken (omega arith)) in
      ap Err (number_breaks most_layers file 0 e) ∙ ap (charge_of t) (sym b)

  module _ {n start : ℕ} (e : number_at most_layers file 0 ≡ Ok (n, start)) where
    abbrev layers : Format (List Layer)
    layers = sequence layer_format height_of n lowest

    by_count : layers_of file ≡ decoded_in (length file) ((final layers).parse (drop start file))
    unfolding layers_of_in layer_file_in
    by_count = let p = (took e).parses in simp p

    off_broken : {i : ℕ} → Off (final layers) file start i → Err (breaks_at i) ≡ charge_of t (layers_of file)
    off_broken {i} o =
        let p = o.parses in
        let b : layers_of file ≡ broken i = by_count ∙ simp p (ap broken (sym o.place)) in
        ap (charge_of t) (sym b)

    pub layers_refused : {b : Broken} → charges_at t n file start ≡ Err b → Err b ≡ charge_of t (layers_of file)
    layers_refused {b} f = off_broken (final_off layers file start b.at (broken_off (λ ls next. (job_charge t ls, next)) layers file start f))

    module _ {c i : ℕ} (f : charges_at t n file start ≡ Ok (c, i)) where
      passed : (ls : List Layer) × ParsedAt layers file start ls i × (◌≡◌ {A = ℕ × ℕ} (job_charge t ls, i) (c, i))
      passed =
          from_ok (λ ls next. (job_charge t ls, next)) breaks_at layers file start (sequence_tails layer_format height_of (layer_tails Full) n lowest)
          (took e).inside (λ q. q.1) (λ ls n. refl) f

      pub left_over_lem : i < length file → Err (breaks_at i) ≡ charge_of t (layers_of file)
      left_over_lem h = off_broken (final_over layers file start passed.0 i passed.1 h)

      pub all_charged : length file ≤ i → Ok c ≡ charge_of t (layers_of file)
      all_charged h =
          let p = final_whole layers file start passed.0 i passed.1 h in
          let b : layers_of file ≡ holds passed.0 = by_count ∙ simp p in
          ap (λ (q : ℕ × ℕ). Ok q.0) (sym passed.2) ∙ ap (charge_of t) (sym b)
