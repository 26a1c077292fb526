-- Part P and some refusals of Read part, by computation from the definitions.
use Rattle.std.specs.Prelude.{◌≡◌, refl, List, [], ◌∷◌, ◌++◌, ℕ, ℤ, pos, negsuc}
use Rattle.laws.specs.Least.{least, some}
use Rattle.laws.specs.Tables.{overwrite}
use Rattle.mesh.specs.Operation.{Answer, gives, refuses, test, ◌then◌, verdict, after, answer_of, left_by}
use Rattle.mesh.specs.Refusals.{Told, refusal}
use Rattle.file_formats.specs.Formats.{holds, encode_all, parse_all}
use Rattle.file_formats.specs.Numbers.{groups, encode_number, parse_number}
use Rattle.file_formats.specs.PartFile.{Part, signed_run, plain_run, signed_list, counts_format, tables_for, part_file, part_of}
use Rattle.file_formats.specs.WholeFiles.{broken_at, held_or}
use Rattle.read_part.specs.Parts.{part, read_part_room_for, part_reading}

-- ---- part P with the heights 0, 5, 10 and 11

part_p : Part
part_p =
    record {
      coords = pos 0 ∷ pos 0 ∷ pos 0 ∷ pos 10 ∷ pos 0 ∷ pos 0 ∷ pos 0 ∷ pos 10 ∷ pos 0 ∷ pos 0 ∷ pos 0 ∷ pos 10 ∷ [];
      corners = 0 ∷ 2 ∷ 1 ∷ 0 ∷ 1 ∷ 3 ∷ 0 ∷ 3 ∷ 2 ∷ 1 ∷ 2 ∷ 3 ∷ [];
      heights = pos 0 ∷ pos 5 ∷ pos 10 ∷ pos 11 ∷ [];
    }

file : List ℕ
file =
    0x04 ∷ 0x04
    ∷ 0x00 ∷ 0x00 ∷ 0x00 ∷ 0x14 ∷ 0x00 ∷ 0x00 ∷ 0x00 ∷ 0x14 ∷ 0x00 ∷ 0x00 ∷ 0x00 ∷ 0x14
    ∷ 0x00 ∷ 0x02 ∷ 0x01 ∷ 0x00 ∷ 0x01 ∷ 0x03 ∷ 0x00 ∷ 0x03 ∷ 0x02 ∷ 0x01 ∷ 0x02 ∷ 0x03
    ∷ 0x04 ∷ 0x00 ∷ 0x0A ∷ 0x14 ∷ 0x16
    ∷ []

-- tables with one entry more than P needs
coords : List ℤ
coords = pos 0 ∷ pos 0 ∷ pos 0 ∷ pos 0 ∷ pos 0 ∷ pos 0 ∷ pos 0 ∷ pos 0 ∷ pos 0 ∷ pos 0 ∷ pos 0 ∷ pos 0 ∷ negsuc 6 ∷ []

corners : List ℕ
corners = 0 ∷ 0 ∷ 0 ∷ 0 ∷ 0 ∷ 0 ∷ 0 ∷ 0 ∷ 0 ∷ 0 ∷ 0 ∷ 0 ∷ 7 ∷ []

heights : List ℤ
heights = pos 0 ∷ pos 0 ∷ pos 0 ∷ pos 0 ∷ negsuc 6 ∷ []

written : part_file.encode part_p ≡ file
unfolding part_p file part_file tables_for counts_format signed_list plain_run signed_run encode_number groups encode_all
written = refl

read : part_of file ≡ holds part_p
unfolding part_p file part_of part_file tables_for counts_format signed_list plain_run signed_run parse_number parse_all
read = refl

-- Read part's answer to a call
abbrev on : List ℕ → Part → Answer Told (ℕ × ℕ × ℕ)
on bytes t = answer_of (part_reading (bytes, t))

answered : on file (part coords corners heights) ≡ gives (4, 4, 4)
unfolding coords corners heights file held_or verdict ◌then◌ test some least broken_at read_part_room_for
    part_of part_file tables_for counts_format signed_list plain_run signed_run parse_number parse_all
answered = refl

filled : left_by (part_reading (file, part coords corners heights))
    ≡ part (part_p.coords ++ (negsuc 6 ∷ [])) (part_p.corners ++ (7 ∷ [])) (part_p.heights ++ (negsuc 6 ∷ []))
unfolding part_p coords corners heights file after overwrite held_or verdict ◌then◌ test some least broken_at read_part_room_for
    part_of part_file tables_for counts_format signed_list plain_run signed_run parse_number parse_all
filled = refl

-- ---- refusals

abbrev none : Part
none = part [] [] []

-- bytes 80 00: refusal 13, place 0
needless : on (0x80 ∷ 0x00 ∷ []) (part coords corners heights) ≡ refuses (refusal 13 0)
unfolding verdict ◌then◌ test some least broken_at part_of part_file tables_for counts_format signed_list plain_run signed_run parse_number parse_all
needless = refl

-- a count of heights that is missing has the file's length as its place, and 13 comes before 9
missing : on (0x01 ∷ 0x00 ∷ 0x02 ∷ 0x01 ∷ 0x00 ∷ []) none ≡ refuses (refusal 13 5)
unfolding verdict ◌then◌ test some least broken_at part_of part_file tables_for counts_format signed_list plain_run signed_run parse_number parse_all
missing = refl

-- the first byte left over
left_over : on (0x00 ∷ 0x00 ∷ 0x00 ∷ 0x05 ∷ 0x06 ∷ []) none ≡ refuses (refusal 13 3)
unfolding verdict ◌then◌ test some least broken_at part_of part_file tables_for counts_format signed_list plain_run signed_run parse_number parse_all
left_over = refl

-- as many vertices as 32 bits can tell, of which the first coordinate is missing
most_told : on (0xFF ∷ 0xFF ∷ 0xFF ∷ 0xFF ∷ 0x0F ∷ 0x00 ∷ []) none ≡ refuses (refusal 13 6)
unfolding verdict ◌then◌ test some least broken_at part_of part_file tables_for counts_format signed_list plain_run signed_run parse_number parse_all
most_told = refl

-- P without a fourth height's entry
short : on file (part coords corners (pos 0 ∷ pos 0 ∷ pos 0 ∷ [])) ≡ refuses (refusal 9 0)
unfolding coords corners file held_or verdict ◌then◌ test some least broken_at read_part_room_for
    part_of part_file tables_for counts_format signed_list plain_run signed_run parse_number parse_all
short = refl
