-- Parts of a record, written one after another.
use Rattle.std.proofs.Common.{◌≡◌, ℕ, ◌-◌, ◌≤◌, List, ◌++◌, length, take, drop, replicate, arith, ap, ◌∙◌, sym, append_assoc}
use Rattle.std.proofs.lemmas.List.{take_at, drop_at, drop-drop, append-nil, length-append, length-replicate}
use Rattle.std.proofs.Math.ListN.{drop_of_length-le}
use borrow.Rule.Slice.PartMut.{put_mid}
use Rattle.clash_record.specs.Name.{name_limit}
use Rattle.clash_record.specs.Record.{name_field}

-- a part written after what stands already
after : (front rest part : List ℕ) (a k : ℕ) → length front ≡ a
    → put_mid a k (front ++ rest) part ≡ (front ++ part) ++ drop k rest
after front rest part a k at =
    rw (take_at front rest a at, drop_at front rest a at) (sym (append_assoc front part (drop k rest)))

-- four parts that fill bytes lie in them one after another
pub four_parts : (old n w a b : List ℕ) → length n ≡ 40 → length w ≡ 8 → length a ≡ 40
    → put_mid 88 (length (put_mid 48 40 (put_mid 40 8 (n ++ drop 40 old) w) a) - 88)
    (put_mid 48 40 (put_mid 40 8 (n ++ drop 40 old) w) a) b
    ≡ n ++ (w ++ (a ++ b))
four_parts old n w a b ln lw la =
    let rest : List ℕ = drop 40 (drop 8 (drop 40 old)) in
    let front : List ℕ = (n ++ w) ++ a in
    let two : length (n ++ w) ≡ 48 = omega (arith, length-append n w) in
    let up_to_first : put_mid 48 40 (put_mid 40 8 (n ++ drop 40 old) w) a ≡ front ++ rest =
    ap (λ (x : List ℕ). put_mid 48 40 x a) (after n (drop 40 old) w 40 8 ln)
    ∙ after (n ++ w) (drop 8 (drop 40 old)) a 48 40 two in
    let three : length front ≡ 88 = omega (arith, length-append (n ++ w) a) in
    let short : length rest ≤ length (front ++ rest) - 88 = omega (arith, length-append front rest) in
    ap (λ (x : List ℕ). put_mid 88 (length x - 88) x b) up_to_first
    ∙ after front rest b 88 (length (front ++ rest) - 88) three
    ∙ ap (λ (x : List ℕ). (front ++ b) ++ x) (drop_of_length-le rest short)
    ∙ simp (append-nil, append_assoc)

-- a part and two of 16 bytes after it do so too
pub three_parts : (old front a b : List ℕ) → length front ≡ 128 → length a ≡ 16
    → put_mid 144 (length (put_mid 128 16 (front ++ drop 128 old) a) - 144) (put_mid 128 16 (front ++ drop 128 old) a) b
    ≡ front ++ (a ++ b)
three_parts old front a b lf la =
    let rest : List ℕ = drop 16 (drop 128 old) in
    let up_to_first : put_mid 128 16 (front ++ drop 128 old) a ≡ (front ++ a) ++ rest =
    after front (drop 128 old) a 128 16 lf in
    let two : length (front ++ a) ≡ 144 = omega (arith, length-append front a) in
    let short : length rest ≤ length ((front ++ a) ++ rest) - 144 = omega (arith, length-append (front ++ a) rest) in
    ap (λ (x : List ℕ). put_mid 144 (length x - 144) x b) up_to_first
    ∙ after (front ++ a) rest b 144 (length ((front ++ a) ++ rest) - 144) two
    ∙ ap (λ (x : List ℕ). ((front ++ a) ++ b) ++ x) (drop_of_length-le rest short)
    ∙ simp (append-nil, append_assoc)

-- the word put into a record
pub word_put : (old word : List ℕ) → put_mid 40 8 old word ≡ take 40 old ++ (word ++ drop 48 old)
word_put old word = ap (λ (rest : List ℕ). take 40 old ++ (word ++ rest)) (drop-drop 8 40 old)

-- the word in the place of another between two parts, before what follows them
pub another_word : (front earlier word behind rest : List ℕ) → length front ≡ 40 → length earlier ≡ 8
    → take 40 ((front ++ (earlier ++ behind)) ++ rest) ++ (word ++ drop 48 ((front ++ (earlier ++ behind)) ++ rest))
    ≡ (front ++ (word ++ behind)) ++ rest
another_word front earlier word behind rest lf le =
    let nested : (front ++ (earlier ++ behind)) ++ rest ≡ front ++ (earlier ++ (behind ++ rest)) = simp append_assoc in
    let split : (front ++ (earlier ++ behind)) ++ rest ≡ (front ++ earlier) ++ (behind ++ rest) = simp append_assoc in
    let two : length (front ++ earlier) ≡ 48 = omega (arith, length-append front earlier) in
    let start : take 40 ((front ++ (earlier ++ behind)) ++ rest) ≡ front =
    ap (take 40) nested ∙ take_at front (earlier ++ (behind ++ rest)) 40 lf in
    let end : drop 48 ((front ++ (earlier ++ behind)) ++ rest) ≡ behind ++ rest =
    ap (drop 48) split ∙ drop_at (front ++ earlier) (behind ++ rest) 48 two in
    rw (start, end) (simp append_assoc)

-- the field of a name within the limit
pub length-name_field : (name : List ℕ) → length name ≤ name_limit → length (name_field name) ≡ 40
length-name_field name short =
    let zeros : List ℕ = replicate (name_limit - length name) 0 in
    omega (arith, length-append name zeros, length-replicate {A = ℕ} (name_limit - length name) 0)
