-- Runs of numbers: checked in a loop, and filled into a table in a loop.
use mathlib.Core.Path.{◌≡◌, refl, sym, ap, ◌∙◌, subst}
use mathlib.Core.List.{List, [], ◌∷◌}
use Rattle.std.specs.Prelude.{Result, Ok, Err, IsOk}
use Prim.Native.Nat.{ℕ, zero, suc, ◌+◌, ◌-◌, ◌<◌, ◌≤◌}
use native.Mathlib.Omega.{arith}
use lib.ListN.{length, drop, set}
use lib.Seq.{sets}
use lib.IntN.{ℤ}
use Rattle.laws.specs.Tables.{overwrite}
use Rattle.laws.specs.TableLaws.{overwrite_none, overwrite_more}
use Rattle.file_formats.specs.Formats.{Parse, parsed, refused, Format, alike, stay, parse_all}
use Rattle.file_formats.specs.FormatLaws.{not_refused}
use Rattle.file_formats.specs.Numbers.{largest_word, number, unzigzag, signed}
use Rattle.file_formats.specs.NumberLaws.{signed_parsed, signed_refused}
use Rattle.file_formats.specs.PartFile.{signed_run, plain_run}
use Rattle.file_formats.specs.Positions.{number_at, extent, extent_at}
use Rattle.file_formats.specs.PositionLaws.{took, not_took, number_breaks}
use Rattle.file_formats.specs.SequenceLaws.{extent_mapped, SequenceCheck, sequence_check, check_bad, check_next, check_end, FirstParsed, first_parsed, none}
use Rattle.file_formats.specs.SequenceLaws.{parsed_length}
use Rattle.file_formats.specs.EmitLaws.{Emit, emit_start, emit_one, emit_end}
use Rattle.file_formats.specs.declared.Broken.{Broken}
use Rattle.read_part.specs.declared.unchecked.FileRun.{FileRun}
use Rattle.read_part.specs.Layouts.{values_of, FitsTable}

-- ---- the loop that checks

-- signed numbers go as far as plain ones
same_extent : (len n : ℕ) (l : List ℕ) → extent len (parse_all (alike (signed largest_word)) stay n tt l)
    ≡ extent len (parse_all (alike (number largest_word)) stay n tt l)
unfolding parse_all
same_extent len zero l = refl
same_extent len (suc n) l = by ((number largest_word).parse l) refl (λ r. same_extent len n r)
  where
    by : (d : Parse ℕ) → (number largest_word).parse l ≡ d
        → ((r : List ℕ) → extent len (parse_all (alike (signed largest_word)) stay n tt r) ≡ extent len (parse_all (alike (number largest_word)) stay n tt r))
        → extent len (parse_all (alike (signed largest_word)) stay (suc n) tt l) ≡ extent len (parse_all (alike (number largest_word)) stay (suc n) tt l)
    by (refused r) e f = simp e
    by (parsed m r) e f = simp (e, extent_mapped) (f r)

pub signed_extent : (n : ℕ) (file : List ℕ) (at : ℕ) → extent_at (signed_run n) file at ≡ extent_at (plain_run n) file at
unfolding signed_run plain_run extent_at
signed_extent n file at = same_extent (length file) n (drop at file)

-- of so many numbers k were passed, and what is left at i goes as far as the whole run does
abbrev pub RunCheck : List ℕ → Result ℕ Broken → ℕ → ℕ → ℕ → Type 0
RunCheck file total count i k = SequenceCheck (alike (number largest_word)) stay file total tt i (count - k)

pub run_check_start : (file : List ℕ) (at count : ℕ) → at ≤ length file → RunCheck file (extent_at (plain_run count) file at) count at 0
unfolding plain_run
run_check_start file at count h =
    let n : count ≡ count - 0 = omega arith in
    subst (λ (left : ℕ). SequenceCheck (alike (number largest_word)) stay file (extent_at (plain_run count) file at) tt at left) n
    (sequence_check (alike (number largest_word)) stay file tt at count h)

module _ {file : List ℕ} {total : Result ℕ Broken} {count i k : ℕ} (w : RunCheck file total count i k) where
  pub run_check_end : count ≤ k → Ok i ≡ total
  run_check_end h = check_end (count - k) w (omega arith)

  module _ (h : k < count) where
    pub run_check_refused : {b : Broken} → number_at largest_word file i ≡ Err b → Err b ≡ total
    run_check_refused e = ap Err (number_breaks largest_word file i e) ∙ check_bad (count - k) w (omega arith) (not_took largest_word file i e)

    pub run_check_passed : {v next : ℕ} → number_at largest_word file i ≡ Ok (v, next) → RunCheck file total count next (k + 1)
    run_check_passed {v} {next} e =
        let t = took e in
        let n : count - k - 1 ≡ count - (k + 1) = omega arith in
        subst (λ (left : ℕ). SequenceCheck (alike (number largest_word)) stay file total tt next left) n
        (check_next (count - k) w (omega arith) v next t.parses t.inside)

-- ---- the loop that fills

-- the values zs, so many, go to the front of a table l, which is m now: those from the k-th on are left, and stand at i
pub record RunFilling {A : Type 0} (F : Format A) (file : List ℕ) (zs l : List A) (count : ℕ) (m : List A) (i k : ℕ) : Type 0 where
  pub qs : List A
  pub rest : List ℕ
  pub parses : parse_all (alike F) stay (count - k) tt (drop i file) ≡ parsed qs rest
  pub table : Emit l 0 zs m k qs

module _ {A : Type 0} (F : Format A) (file : List ℕ) (zs l : List A) where
  pub fill_start : (at count : ℕ) (rest : List ℕ) → parse_all (alike F) stay count tt (drop at file) ≡ parsed zs rest → count ≤ length l
      → RunFilling F file zs l count l at 0
  fill_start at count rest e h =
      let n : length zs ≡ count = parsed_length (alike F) stay count tt (drop at file) zs rest e in
      let m : count - 0 ≡ count = omega arith in
      record {
        qs = zs;
        rest = rest;
        parses = ap (λ (left : ℕ). parse_all (alike F) stay left tt (drop at file)) m ∙ e;
        table = emit_start l 0 zs (omega arith);
      }

module _ {A : Type 0} {F : Format A} {file : List ℕ} {zs l : List A} {count : ℕ} {m : List A} {i k : ℕ} (w : RunFilling F file zs l count m i k) where
  pub fill_end : count ≤ k → m ≡ overwrite zs l
  fill_end h =
      let q = none (alike F) stay (count - k) tt (drop i file) w.qs w.rest (omega arith) w.parses in
      let e : Emit l 0 zs m k [] = subst (Emit l 0 zs m k) q.0 w.table in
      (emit_end e).1 ∙ ap (λ (t : List A). sets t 0 zs) (sym (overwrite_none l)) ∙ overwrite_more zs [] l 0 refl e.room

  module _ (h : k < count) where
    first : FirstParsed (alike F) stay (count - k) tt (drop i file) w.qs w.rest
    first = first_parsed (alike F) stay (count - k) tt (drop i file) w.qs w.rest (omega arith) w.parses

    pub fill_there : {r : List ℕ} → F.parse (drop i file) ≡ refused r → ⊥
    fill_there e = not_refused (sym e ∙ first.head)

    pub fill_next : (v : A) (next : ℕ) → F.parse (drop i file) ≡ parsed v (drop next file) → RunFilling F file zs l count (set m k v) next (k + 1)
    fill_next v next p =
        let f = first in
        let e : parsed f.value f.rest ≡ parsed v (drop next file) = sym f.head ∙ p in
        let x : f.value ≡ v = cc in
        let y : f.rest ≡ drop next file = cc in
        let n : count - (k + 1) ≡ count - k - 1 = omega arith in
        let t : Emit l 0 zs m k (v ∷ f.others) = subst (Emit l 0 zs m k) (f.is ∙ ap (λ (z : A). z ∷ f.others) x) w.table in
        record {
          qs = f.others;
          rest = w.rest;
          parses = (λ j. parse_all (alike F) stay (n j) tt (sym y j)) ∙ f.tail;
          table = emit_one v f.others t;
        }

-- a run of signed numbers
pub signed_start : {file : List ℕ} {run : FileRun} {table : List ℤ} → FitsTable signed_run file run table
    → RunFilling (signed largest_word) file (values_of signed_run file run) table run.count table run.at 0
unfolding signed_run
signed_start {file} {run} {table} f =
    fill_start (signed largest_word) file (values_of signed_run file run) table run.at run.count f.stands.rest f.stands.parses f.room

module _ {file : List ℕ} {zs l : List ℤ} {count : ℕ} {m : List ℤ} {i k : ℕ} (w : RunFilling (signed largest_word) file zs l count m i k) (h : k < count) where
  pub signed_there : (met : Result (ℕ × ℕ) Broken) → met ≡ number_at largest_word file i → IsOk met
  signed_there (Ok n) e = refl
  signed_there (Err b) e = absurd (fill_there w h (signed_refused largest_word (drop i file) (not_took largest_word file i (sym e))))

  pub signed_next : {v next : ℕ} → number_at largest_word file i ≡ Ok (v, next) → {z : ℤ} → z ≡ unzigzag v
      → RunFilling (signed largest_word) file zs l count (set m k z) next (k + 1)
  signed_next {v} {next} e {z} is =
      rw is (fill_next w h (unzigzag v) next (signed_parsed largest_word (drop i file) v (drop next file) (took e).parses))

-- a run of plain ones
pub plain_start : {file : List ℕ} {run : FileRun} {table : List ℕ} → FitsTable plain_run file run table
    → RunFilling (number largest_word) file (values_of plain_run file run) table run.count table run.at 0
unfolding plain_run
plain_start {file} {run} {table} f =
    fill_start (number largest_word) file (values_of plain_run file run) table run.at run.count f.stands.rest f.stands.parses f.room

module _ {file zs l : List ℕ} {count : ℕ} {m : List ℕ} {i k : ℕ} (w : RunFilling (number largest_word) file zs l count m i k) (h : k < count) where
  pub plain_there : (met : Result (ℕ × ℕ) Broken) → met ≡ number_at largest_word file i → IsOk met
  plain_there (Ok n) e = refl
  plain_there (Err b) e = absurd (fill_there w h (not_took largest_word file i (sym e)))

  pub plain_next : {v next : ℕ} → number_at largest_word file i ≡ Ok (v, next) → RunFilling (number largest_word) file zs l count (set m k v) next (k + 1)
  plain_next {v} {next} e = fill_next w h v next (took e).parses
