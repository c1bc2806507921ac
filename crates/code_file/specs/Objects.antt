-- The code of an object file: ELF, as clang writes it for BPF.
use Rattle.std.specs.Prelude.{◌≡◌, ℕ, ◌+◌, ◌*◌, ◌<◌, ◌==◌, Bool, true, false, ◌&&◌, ◌||◌, nat_le, nat_lt, List, [], ◌∷◌, ◌++◌, length, take, drop, codes}
use Rattle.std.specs.Str.{bytes_eq}
use Rattle.byteorder.specs.Endian.{little_number}

-- the number in this many bytes at an offset, the lowest byte first
abbrev pub little_number_at : ℕ → ℕ → List ℕ → ℕ
little_number_at offset size bytes = little_number size (drop offset bytes)

-- ---- the header of the file, in its first 64 bytes

-- the first bytes of every ELF file
abbrev pub elf_magic : List ℕ
elf_magic = 0x7F ∷ codes "ELF"

-- those of 64 bits, with the lowest byte of a number first, in the one version
abbrev pub start : List ℕ
start = elf_magic ++ 2 ∷ 1 ∷ 1 ∷ []

-- the machine, BPF; the offset, the size of each and the number of section headers; which section has the names of all
abbrev pub machine : List ℕ → ℕ
machine file = little_number_at 18 2 file

abbrev pub headers_at : List ℕ → ℕ
headers_at file = little_number_at 40 8 file

abbrev pub header_size : List ℕ → ℕ
header_size file = little_number_at 58 2 file

abbrev pub section_count : List ℕ → ℕ
section_count file = little_number_at 60 2 file

abbrev pub names_section : List ℕ → ℕ
names_section file = little_number_at 62 2 file

-- the section headers lie in the file, and one of them has the names
abbrev pub has_headers : List ℕ → Bool
has_headers file =
    header_size file == 64 && (nat_le (headers_at file + 64 * section_count file) (length file)
    && nat_lt (names_section file) (section_count file))

-- an object file for BPF
abbrev pub is_object : List ℕ → Bool
is_object file =
    nat_le 64 (length file) && (bytes_eq (take 7 file) start && (machine file == 247 && has_headers file))

-- ---- the header of a section, 64 bytes

abbrev pub header : List ℕ → ℕ → List ℕ
header file section = take 64 (drop (headers_at file + 64 * section) file)

-- where its name begins among the names; its type; its offset and size in the file; what else it is about
abbrev pub name_offset : List ℕ → ℕ
name_offset header = little_number_at 0 4 header

abbrev pub type_of : List ℕ → ℕ
type_of header = little_number_at 4 4 header

abbrev pub offset_of : List ℕ → ℕ
offset_of header = little_number_at 24 8 header

abbrev pub size_of : List ℕ → ℕ
size_of header = little_number_at 32 8 header

abbrev pub info_of : List ℕ → ℕ
info_of header = little_number_at 44 4 header

-- the bytes of a section, as far as they lie in the file
abbrev pub content : List ℕ → ℕ → List ℕ
content file section = take (size_of (header file section)) (drop (offset_of (header file section)) file)

-- the section is named `.text`: these letters and a zero
abbrev pub is_text : List ℕ → ℕ → Bool
is_text file section =
    bytes_eq (take 6 (drop (name_offset (header file section)) (content file (names_section file))))
    (codes ".text" ++ 0 ∷ [])

-- a section of relocations (of type 4, SHT_RELA, or 9, SHT_REL) of this other one
abbrev pub relocates : List ℕ → ℕ → ℕ → Bool
relocates file other section =
    (type_of (header file section) == 4 || type_of (header file section) == 9)
    && info_of (header file section) == other

-- the section has bytes in the file (it is of type 1, SHT_PROGBITS), some of them, and all lie in the file
abbrev pub has_bytes : List ℕ → ℕ → Bool
has_bytes file section =
    type_of (header file section) == 1 && (nat_lt 0 (size_of (header file section))
    && nat_le (offset_of (header file section) + size_of (header file section)) (length file))

-- ---- the code

-- the first section of the name `.text`
pub record IsTextSection (file : List ℕ) (section : ℕ) : Type 0 where
  pub within : section < section_count file
  pub named : is_text file section ≡ true
  pub first : (other : ℕ) → other < section → is_text file other ≡ false

-- the code of an object file for BPF: the bytes of its section `.text`, which no section relocates
pub record IsObjectCode (file code : List ℕ) : Type 0 where
  pub object : is_object file ≡ true
  pub section : ℕ
  pub text : IsTextSection file section
  pub bytes : has_bytes file section ≡ true
  pub still : (other : ℕ) → other < section_count file → relocates file section other ≡ false
  pub code_is : code ≡ content file section
