-- The section of names of an object file is one of its sections.
use Rattle.std.proofs.Common.{◌≡◌, ℕ, ◌+◌, ◌*◌, ◌<◌, Bool, true, false, ◌&&◌, ◌==◌, List, length, take, nat_le, nat_lt, arith}
use Rattle.std.specs.Str.{bytes_eq}
use Rattle.std.proofs.lemmas.Bool.Decides.{nat_tests}
use Rattle.code_file.specs.Objects.{has_headers, header_size, headers_at, is_object, machine, names_section, section_count, start}

right : (a b : Bool) → (a && b) ≡ true → b ≡ true
right true b h = h
right false b h = absurd (cc)

less : (m n : ℕ) → nat_lt m n ≡ true → m < n
less m n h = grind (arith, nat_tests)

pub names_inside : (file : List ℕ) → is_object file ≡ true → names_section file < section_count file
names_inside file h =
    let one = right (nat_le 64 (length file)) (bytes_eq (take 7 file) start && (machine file == 247 && has_headers file)) h in
    let two = right (bytes_eq (take 7 file) start) (machine file == 247 && has_headers file) one in
    let three = right (machine file == 247) (has_headers file) two in
    let four = right (header_size file == 64) (nat_le (headers_at file + 64 * section_count file) (length file)
    && nat_lt (names_section file) (section_count file)) three in
    less (names_section file) (section_count file)
    (right (nat_le (headers_at file + 64 * section_count file) (length file))
    (nat_lt (names_section file) (section_count file)) four)
