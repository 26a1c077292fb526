-- The theorems about the two files and the numbers in them: what is written is read back
-- (RESULT-5); what is read was written so, byte by byte; so nothing has two encodings (RESULT-6).
use Rattle.std.specs.Prelude.{◌≡◌, List, ℕ, ◌≤◌, ℤ}
use Rattle.cleaning.specs.declared.Profile.TheVariants.{Full}
use Rattle.file_formats.specs.Formats.{holds, decode}
use Rattle.file_formats.specs.FormatLaws.{Bytes, decode_there, decode_back, decode_one}
use Rattle.file_formats.specs.Numbers.{encode_number, number, zigzag, signed}
use Rattle.file_formats.specs.NumberLaws.{number_laws, signed_laws}
use Rattle.file_formats.specs.LayerFile.{Layer, layer_file, layers_of, layers_of_in}
use Rattle.file_formats.specs.LayerFileLaws.{layer_file_laws}
use Rattle.file_formats.specs.LayerRules.{Rules}
use Rattle.file_formats.specs.LayerRuleLaws.{rules_valid, valid_rules}
use Rattle.file_formats.specs.PartFile.{Part, part_file, PartRules, part_of}
use Rattle.file_formats.specs.PartFileLaws.{part_file_laws, part_rules_valid, part_valid_rules}

-- ---- layer files

-- the file of layers that obey the rules is read as these layers
pub layers_read_back : (ls : List Layer) → Rules ls → layers_of (layer_file.encode ls) ≡ holds ls
unfolding layers_of_in
layers_read_back ls h = decode_there layer_file (layer_file_laws Full) ls (rules_valid ls h)

-- a file that is read as some layers is the file of these layers, and they obey the rules
pub layers_written : (file : List ℕ) (ls : List Layer) → Bytes file → layers_of file ≡ holds ls → Rules ls × (file ≡ layer_file.encode ls)
unfolding layers_of_in
layers_written file ls b e = let h = decode_back layer_file (layer_file_laws Full) file ls b e in (valid_rules ls h.0, h.1)

-- no two different accepted files hold the same layers
pub layers_once : (file file' : List ℕ) (ls : List Layer) → Bytes file → Bytes file' → layers_of file ≡ holds ls → layers_of file' ≡ holds ls → file ≡ file'
unfolding layers_of_in
layers_once file file' ls b b' e e' = decode_one layer_file (layer_file_laws Full) file file' ls b b' e e'

-- ---- part files

-- the file of a part that obeys the rules is read as this part
pub part_read_back : (p : Part) → PartRules p → part_of (part_file.encode p) ≡ holds p
unfolding part_of
part_read_back p h = decode_there part_file part_file_laws p (part_rules_valid p h)

-- a file that is read as a part is the file of this part, and it obeys the rules
pub part_written_lem : (file : List ℕ) (p : Part) → Bytes file → part_of file ≡ holds p → PartRules p × (file ≡ part_file.encode p)
unfolding part_of
part_written_lem file p b e = let h = decode_back part_file part_file_laws file p b e in (part_valid_rules p h.0, h.1)

-- no two different accepted files hold the same part
pub part_once : (file file' : List ℕ) (p : Part) → Bytes file → Bytes file' → part_of file ≡ holds p → part_of file' ≡ holds p → file ≡ file'
unfolding part_of
part_once file file' p b b' e e' = decode_one part_file part_file_laws file file' p b b' e e'

-- ---- numbers of at most top, plain and signed

module _ (top : ℕ) where
  -- the bytes of a number are read as this number
  pub number_read_back : (n : ℕ) → n ≤ top → decode (number top) (encode_number n) ≡ holds n
  number_read_back n h = decode_there (number top) (number_laws top) n h

  -- bytes that are read as a number are its bytes
  pub number_written : (l : List ℕ) (n : ℕ) → Bytes l → decode (number top) l ≡ holds n → (n ≤ top) × (l ≡ encode_number n)
  number_written l n b e = decode_back (number top) (number_laws top) l n b e

  -- no number has two encodings
  pub number_once : (l l' : List ℕ) (n : ℕ) → Bytes l → Bytes l' → decode (number top) l ≡ holds n → decode (number top) l' ≡ holds n → l ≡ l'
  number_once l l' n b b' e e' = decode_one (number top) (number_laws top) l l' n b b' e e'

  -- the same for signed numbers
  pub signed_read_back : (z : ℤ) → zigzag z ≤ top → decode (signed top) (encode_number (zigzag z)) ≡ holds z
  signed_read_back z h = decode_there (signed top) (signed_laws top) z h

  pub signed_written : (l : List ℕ) (z : ℤ) → Bytes l → decode (signed top) l ≡ holds z → (zigzag z ≤ top) × (l ≡ encode_number (zigzag z))
  signed_written l z b e = decode_back (signed top) (signed_laws top) l z b e

  pub signed_once : (l l' : List ℕ) (z : ℤ) → Bytes l → Bytes l' → decode (signed top) l ≡ holds z → decode (signed top) l' ≡ holds z → l ≡ l'
  signed_once l l' z b b' e e' = decode_one (signed top) (signed_laws top) l l' z b b' e e'
