-- A call through the C interface, by the outcome of the operation and what is told of it; that its outcome
-- is the only one; and that the number returned and `out` say what the operation answers.
use Prim.Native.Nat.{ℕ, zero, suc, ◌-◌, ◌^◌, ◌<◌}
use Rattle.std.specs.Prelude.{◌≡◌, Bool, cond, List, [], ◌∷◌, ltb, get_or, ℤ, pos, negsuc}
use Rattle.std.proofs.Math.Path.{refl}
use Rattle.std.proofs.Common.{sym, ap, ◌∙◌, arith, lt-ltb, le-ltb}
use Rattle.std.proofs.lemmas.List.Edits.{sets}
use Rattle.std.specs.Int.Signed.{mag}
use Rattle.mesh.specs.Operation.{Answer, gives, refuses, Finding, fine, verdict, ◌then◌, Operation, answer_of, Does}
use Rattle.mesh.specs.OperationLaws.{Every, refused_every}
use Rattle.mesh.specs.Refusals.{Told, refusal, number_in}
use Rattle.out_words.specs.Words.{out_after, Says, word_of}
use Rattle.out_words.specs.WordLaws.{says_as}
use Rattle.wadroles.specs.Exports.{Exports}

module _ {I G T : Type 0} {op : I → Operation Told G T} {words : G → List ℕ} {input : I} {out out' : List ℕ} {t : T} where
  -- a function hands its operation's outcome on, and the answer is told
  pub exports_told : {E : Type 0} {tell : E → Answer Told G} {result : E} {n : ℕ} → Does op tell input result t → Says words (tell result) out n out'
      → Exports op words input out n t out'
  exports_told d s = record { says = says_as d.answers s; leaves = d.leaves }

  -- the only outcome: two that the contract allows for one input are equal, the number returned, every table and `out`
  pub exports_only : {n m : ℕ} {u : T} {out'' : List ℕ} → Exports op words input out n t out' → Exports op words input out m u out''
      → (n ≡ m) × (t ≡ u) × (out' ≡ out'')
  exports_only p q = (p.says.returns ∙ sym q.says.returns, p.leaves ∙ sym q.leaves, p.says.writes ∙ sym q.says.writes)

-- ---- what the caller reads

-- `out` of four numbers
abbrev pub four_words : ℕ → ℕ → ℕ → ℕ → List ℕ
four_words a b c d = a ∷ b ∷ c ∷ d ∷ []

-- the answer by the number returned and `out`, whose values `back` reads
abbrev pub said_by : {G : Type 0} → (List ℕ → G) → ℕ → List ℕ → Answer Told G
said_by back zero out = gives (back out)
said_by back (suc n) out = refuses (refusal (suc n) (get_or out 0 0))

module _ {I G T : Type 0} {op : I → Operation Told G T} {words : G → List ℕ} {input : I} {a b c d n : ℕ} {t : T} {out' : List ℕ} where
  -- where no refusal has number 0, and `back` reads the values from their words
  pub exports_said : (back : List ℕ → G)
      → (verdict (op input).refusals ≡ fine → back (sets (four_words a b c d) 0 (words (op input).values)) ≡ (op input).values)
      → Every (λ r. 0 < r.number) (op input).refusals
      → Exports op words input (four_words a b c d) n t out' → said_by back n out' ≡ answer_of (op input)
  unfolding out_after ◌then◌
  exports_said back reads above x = by (verdict (op input).refusals) refl x.says.returns x.says.writes
    where
      told : (m p : ℕ) → 0 < m → said_by back m (four_words p b c d) ≡ refuses (refusal m p)
      told zero p h = absurd (omega arith)
      told (suc m) p h = refl

      by : (f : Finding Told) → verdict (op input).refusals ≡ f → n ≡ number_in (f then gives (op input).values)
          → out' ≡ out_after words (f then gives (op input).values) (four_words a b c d) → said_by back n out' ≡ (f then gives (op input).values)
      by (gives tt) e p w = (λ i. said_by back (p i) (w i)) ∙ ap gives (reads e)
      by (refuses r) e p w =
          (λ i. said_by back (p i) (w i))
          ∙ told r.number r.place (refused_every (λ (q : Told). 0 < q.number) (op input).refusals r above e)

-- a word of 64 bits as the signed value that it was sent for
abbrev pub signed_from_word : ℕ → ℤ
signed_from_word w = cond (ltb w (2 ^ 63)) (pos w) (negsuc (18446744073709551615 - w))

pub signed_back : (z : ℤ) → mag z < 2 ^ 63 → signed_from_word (word_of z) ≡ z
unfolding word_of
signed_back (pos n) h = ap (λ (b : Bool). cond b (pos n) (negsuc (18446744073709551615 - n))) (lt-ltb n (2 ^ 63) h)
signed_back (negsuc n) h =
    let w = 18446744073709551615 - n in
    ap (λ (b : Bool). cond b (pos w) (negsuc (18446744073709551615 - w))) (le-ltb w (2 ^ 63) (omega arith)) ∙ ap negsuc (omega arith)
