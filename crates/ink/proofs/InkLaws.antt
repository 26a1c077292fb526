-- What Ink promises besides: refusal 13 is that of Read layer, and a charge is below 2 ^ 63.
use Rattle.std.specs.Prelude.{ℕ, ◌*◌, ◌<◌, ◌≤◌, ◌^◌, ◌≡◌, List, ◌↔◌, Result}
use Rattle.std.proofs.Common.{arith, mul-le-mul_right, le_trans}
use Rattle.mesh.specs.Operation.{gives, refuses}
use Rattle.mesh.specs.Refusals.{refusal}
use Rattle.mesh.specs.declared.Refusal.{Refusal}
use Rattle.polygons.specs.Flat.{FlatLayer}
use Rattle.cleaning.specs.declared.Profile.{Profile}
use Rattle.file_formats.specs.FormatLaws.{Bytes}
use Rattle.file_formats.specs.LayerFile.{Layer, most_layers}
use Rattle.file_formats.specs.LayerRules.{Rules}
use Rattle.file_formats.specs.RoundTripLaws.{layers_written}
use Rattle.read_layer.specs.Reading.{tell_read_layer, ReadsLayer}
use Rattle.read_layer.specs.declared.LayerRead.{LayerRead}
use Rattle.read_layer.proofs.ReadingLaws.{broken_exactly}
use Rattle.ink.specs.Charges.{job_charge}
use Rattle.ink.specs.ChargeLaws.{most_charge, job_charge_le}
use Rattle.ink.specs.Inking.{most_thickness, tell_ink, Inks}
use Rattle.ink.specs.InkLaws.{ink_broken, ink_charged}

-- layers that obey the rules
pub job_fits : (t : ℕ) (ls : List Layer) → t ≤ most_thickness → Rules ls → (job_charge t ls ≤ most_layers * most_charge) × (job_charge t ls < 2 ^ 63)
job_fits t ls h r =
    let p = le_trans (job_charge_le t ls h r.each) (mul-le-mul_right most_charge r.few) in
    (p, omega (arith, p))

module _ {file : List ℕ} {t : ℕ} {result : Result ℕ Refusal} (d : Inks file t result) where
  -- refusal 13 is that of Read layer, in both profiles, whatever layer it is asked for and whatever its tables are
  pub broken_alike : {p : Profile} {i : ℕ} {u : FlatLayer} {other : Result LayerRead Refusal} {u' : FlatLayer} → ReadsLayer p file i u other u'
      → (q : ℕ) → (tell_ink result ≡ refuses (refusal 13 q)) ↔ (tell_read_layer other ≡ refuses (refusal 13 q))
  broken_alike r q = ((λ e. (broken_exactly r q).1 ((ink_broken d q).0 e)), (λ e. (ink_broken d q).1 ((broken_exactly r q).0 e)))

  -- a charge is below 2 ^ 63
  pub ink_fits : Bytes file → {c : ℕ} → tell_ink result ≡ gives c → c < 2 ^ 63
  ink_fits bytes e =
      let g = ink_charged d e in
      let h = g.1 in
      omega (arith, h.is, (job_fits t g.0 h.most (layers_written file g.0 bytes h.held).0).1)
