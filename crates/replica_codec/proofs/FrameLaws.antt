-- A frame that is read is spelled so, and what is spelled so is read.
use Rattle.std.proofs.Common.{◌≡◌, ℕ, zero, suc, ◌-◌, ◌^◌, ◌<◌, ◌≤◌, Bool, true, false, cond, eqb, List, [], ◌∷◌, ◌++◌, length, take, drop, Result, Ok, Err, refl, sym, ap, subst, ◌∙◌, append_assoc, arith, lit<}
use Rattle.std.specs.Prelude.{slice_index_or}
use Rattle.std.specs.Int.{w64, to_le_bytes}
use Rattle.std.proofs.lemmas.Bool.{eqb-true}
use Rattle.std.proofs.lemmas.List.{take_at, drop_at, length-append, length-drop, append-nil}
use Rattle.exchange_codec.specs.declared.fault.Fault.{Fault}
use Rattle.refusals.specs.Answers.{◌>>=◌}
use Rattle.exchange_codec.specs.Reading.{number_at, bytes_at, header_at, ended}
use Rattle.exchange_codec.specs.laws.Fields.{IsBytes, IsBytes-rest, bind_ok, ok_is, Takes, Takes-then, wide64, number_takes, number_again, header_takes, header_again, eqb_same, ended_ok}
use Rattle.exchange_codec.specs.laws.Rows.{bytes_take, bytes_again}
use Rattle.replica_codec.specs.declared.fault.ReplicaMessageFault.{ReplicaMessageFault}
use Rattle.replica_codec.specs.declared.fault.ReplicaMessageFault.TheVariants.{Checksum}
use Rattle.replica_codec.specs.Frames.{checksum, frame_head_bytes, front_bytes, frame_bytes, frame_head_at, head_due, frame_head_of, tail_at, tail_of, tail_due, in_message, checked, body_due, body_of, no_head}
use Rattle.replica_codec.proofs.SumLaws.{sum_fits}

-- ---- checksums

abbrev found : {Y : Type 0} → Bool → Y → Result Y ReplicaMessageFault
found right y = cond right (Ok y) (Err Checksum)

found_inj : {Y : Type 0} (x y : Y) (b : Bool) → found b x ≡ Ok y → (b ≡ true) × (x ≡ y)
found_inj x y true e = (refl, cc)
found_inj x y false e = absurd cc

pub checked_is : {Y : Type 0} (sum : ℕ) (before : List ℕ) (x y : Y) → checked sum before x ≡ Ok y
    → (sum ≡ checksum before) × (x ≡ y)
checked_is sum before x y e =
    let g = found_inj x y (eqb sum (checksum before)) e in (eqb-true _ _ g.0, g.1)

pub checked_met : {Y : Type 0} (sum : ℕ) (before : List ℕ) (y : Y) → sum ≡ checksum before → checked sum before y ≡ Ok y
checked_met sum before y right =
    ap (λ (b : Bool). found b y) (ap (λ (n : ℕ). eqb n (checksum before)) right ∙ eqb_same (checksum before))

differs : (m n : ℕ) (b : Bool) → eqb m n ≡ b → (m ≡ n → ⊥) → eqb m n ≡ false
differs m n true e other = absurd (other (eqb-true m n e))
differs m n false e other = e

pub checked_unmet : {Y : Type 0} (sum : ℕ) (before : List ℕ) (y : Y) → (sum ≡ checksum before → ⊥)
    → checked sum before y ≡ Err Checksum
checked_unmet sum before y other =
    ap (λ (b : Bool). found b y) (differs sum (checksum before) (eqb sum (checksum before)) refl other)

-- what was read of a message
pub in_ok : {Y : Type 0} (len : ℕ) (r : Result Y Fault) (y : Y) → in_message len r ≡ Ok y → r ≡ Ok y
in_ok len (Ok x) y e = let same : x ≡ y = cc in ap Ok same
in_ok len (Err f) y e = absurd cc

-- ---- heads

-- a head before its checksum
abbrev pub sized : ℕ → ℕ → List ℕ
sized header len = to_le_bytes w64 header ++ to_le_bytes w64 len

abbrev Headed : ℕ → List ℕ → (ℕ × ℕ) × List ℕ → Type 0
Headed header bytes y = Takes bytes (sized header y.0.0 ++ to_le_bytes w64 y.0.1) y.1 × (y.0.0 < 2 ^ 64)

head_takes : (header : ℕ) (bytes : List ℕ) (x : (ℕ × ℕ) × List ℕ) → IsBytes bytes → frame_head_at header bytes ≡ Ok x
    → Headed header bytes x
unfolding frame_head_at
head_takes header bytes x fits e =
    let h = bind_ok (header_at header bytes) (λ rest. number_at w64 rest >>= λ len. number_at w64 len.1 >>= λ sum. Ok ((len.0, sum.0), sum.1)) x e in
    let n = bind_ok (number_at w64 h.0) (λ len. number_at w64 len.1 >>= λ sum. Ok ((len.0, sum.0), sum.1)) x h.2 in
    let s = bind_ok (number_at w64 n.0.1) (λ sum. Ok ((n.0.0, sum.0), sum.1)) x n.2 in
    let th = header_takes header bytes h.0 fits h.1 in
    let tn = number_takes w64 (2 ^ 64) wide64 h.0 n.0.0 n.0.1 th.rest_fits n.1 in
    let ts = number_takes w64 (2 ^ 64) wide64 n.0.1 s.0.0 s.0.1 tn.0.rest_fits s.1 in
    let e1 = Takes-then bytes (to_le_bytes w64 header) h.0 (to_le_bytes w64 n.0.0) n.0.1 th tn.0 in
    let e0 = Takes-then bytes (sized header n.0.0) n.0.1 (to_le_bytes w64 s.0.0) s.0.1 e1 ts.0 in
    let made : (ℕ × ℕ) × List ℕ = ((n.0.0, s.0.0), s.0.1) in
    subst (Headed header bytes) {x = made} (ok_is made x s.2) (e0, tn.1)

pub head_long : (header : ℕ) (bytes : List ℕ) (x : (ℕ × ℕ) × List ℕ) → IsBytes bytes → frame_head_at header bytes ≡ Ok x
    → 16 ≤ length bytes
head_long header bytes x fits e =
    let t = head_takes header bytes x fits e in
    let long : 16 ≤ length ((sized header x.0.0 ++ to_le_bytes w64 x.0.1) ++ x.1) = omega arith in
    subst (λ (b : List ℕ). 16 ≤ length b) (sym t.0.parts) long

-- a head with any checksum, part by part
abbrev pub head_parts : ℕ → ℕ → ℕ → List ℕ → List ℕ
head_parts header len sum rest = to_le_bytes w64 header ++ (to_le_bytes w64 len ++ (to_le_bytes w64 sum ++ rest))

pub head_again : (header len sum : ℕ) (rest : List ℕ) → header < 2 ^ 64 → len < 2 ^ 64 → sum < 2 ^ 64
    → frame_head_at header (head_parts header len sum rest) ≡ Ok ((len, sum), rest)
unfolding frame_head_at
head_again header len sum rest headed short fits =
    rw (
      header_again header (to_le_bytes w64 len ++ (to_le_bytes w64 sum ++ rest)) headed,
      number_again w64 (2 ^ 64) wide64 len (to_le_bytes w64 sum ++ rest) short,
      number_again w64 (2 ^ 64) wide64 sum rest fits,
    ) refl

-- the checksum is of the first sixteen bytes
sixteen : (header len : ℕ) (bytes rest : List ℕ) → bytes ≡ sized header len ++ rest → take 16 bytes ≡ sized header len
sixteen header len bytes rest e = ap (take 16) e ∙ take_at (sized header len) rest 16 refl

pub head_parted : (header len sum : ℕ) (rest : List ℕ)
    → head_parts header len sum rest ≡ sized header len ++ (to_le_bytes w64 sum ++ rest)
head_parted header len sum rest =
    sym (append_assoc (to_le_bytes w64 header) (to_le_bytes w64 len) (to_le_bytes w64 sum ++ rest))

-- the length and the rest, unless the checksum is another
pub head_found : (header len sum : ℕ) (bytes rest : List ℕ) → header < 2 ^ 64 → len < 2 ^ 64 → sum < 2 ^ 64
    → bytes ≡ head_parts header len sum rest
    → frame_head_of header bytes ≡ checked sum (to_le_bytes w64 header ++ to_le_bytes w64 len) (len, rest)
head_found header len sum bytes rest headed short fits e =
    ap (λ (r : Result ((ℕ × ℕ) × List ℕ) Fault). head_due bytes (in_message (length bytes) r))
    (ap (frame_head_at header) e ∙ head_again header len sum rest headed short fits)
    ∙ ap (λ (before : List ℕ). checked sum before (len, rest))
    (sixteen header len bytes (to_le_bytes w64 sum ++ rest) (e ∙ head_parted header len sum rest))

pub head_in : (header len : ℕ) (rest : List ℕ) → frame_head_bytes header len ++ rest ≡ head_parts header len (checksum (sized header len)) rest
head_in header len rest =
    append_assoc (sized header len) (to_le_bytes w64 (checksum (sized header len))) rest
    ∙ append_assoc (to_le_bytes w64 header) (to_le_bytes w64 len) (to_le_bytes w64 (checksum (sized header len)) ++ rest)

pub head_read : (header len : ℕ) (bytes rest : List ℕ) → header < 2 ^ 64 → len < 2 ^ 64 → bytes ≡ frame_head_bytes header len ++ rest
    → frame_head_of header bytes ≡ Ok (len, rest)
head_read header len bytes rest headed short e =
    head_found header len (checksum (sized header len)) bytes rest headed short (sum_fits (sized header len)) (e ∙ head_in header len rest)
    ∙ checked_met (checksum (sized header len)) (sized header len) (len, rest) refl

abbrev IsHeaded : ℕ → List ℕ → ℕ × List ℕ → Type 0
IsHeaded header bytes head = Takes bytes (frame_head_bytes header head.0) head.1 × (head.0 < 2 ^ 64)

head_due_is : (header : ℕ) (bytes : List ℕ) (r : Result ((ℕ × ℕ) × List ℕ) Fault) (head : ℕ × List ℕ) → IsBytes bytes
    → frame_head_at header bytes ≡ r → head_due bytes (in_message (length bytes) r) ≡ Ok head → IsHeaded header bytes head
head_due_is header bytes (Ok x) head fits was e =
    let t = head_takes header bytes x fits was in
    let last = to_le_bytes w64 x.0.1 in
    let apart : bytes ≡ sized header x.0.0 ++ (last ++ x.1) = t.0.parts ∙ append_assoc (sized header x.0.0) last x.1 in
    let g = checked_is x.0.1 (take 16 bytes) (x.0.0, x.1) head e in
    let right : x.0.1 ≡ checksum (sized header x.0.0) = g.0 ∙ ap checksum (sixteen header x.0.0 bytes (last ++ x.1) apart) in
    subst (IsHeaded header bytes) g.1 (
      record {
        parts = t.0.parts ∙ ap (λ (n : ℕ). (sized header x.0.0 ++ to_le_bytes w64 n) ++ x.1) right;
        rest_fits = t.0.rest_fits;
      },
      t.1,
    )
head_due_is header bytes (Err f) head fits was e = absurd cc

pub head_spelled : (header : ℕ) (bytes : List ℕ) (head : ℕ × List ℕ) → IsBytes bytes → frame_head_of header bytes ≡ Ok head
    → IsHeaded header bytes head
head_spelled header bytes head fits e = head_due_is header bytes (frame_head_at header bytes) head fits refl e

-- ---- bodies with their checksums

abbrev Tailed : ℕ → List ℕ → (List ℕ × ℕ) × List ℕ → Type 0
Tailed len bytes y = (bytes ≡ (y.0.0 ++ to_le_bytes w64 y.0.1) ++ y.1) × (length y.0.0 ≡ len)

tail_takes : (len : ℕ) (bytes : List ℕ) (x : (List ℕ × ℕ) × List ℕ) → IsBytes bytes → tail_at len bytes ≡ Ok x → Tailed len bytes x
unfolding tail_at
tail_takes len bytes x fits e =
    let b = bind_ok (bytes_at len bytes) (λ body. number_at w64 body.1 >>= λ sum. Ok ((body.0, sum.0), sum.1)) x e in
    let s = bind_ok (number_at w64 b.0.1) (λ sum. Ok ((b.0.0, sum.0), sum.1)) x b.2 in
    let tb = bytes_take len bytes b.0 fits b.1 in
    let ts = number_takes w64 (2 ^ 64) wide64 b.0.1 s.0.0 s.0.1 tb.0.rest_fits s.1 in
    let e0 = Takes-then bytes b.0.0 b.0.1 (to_le_bytes w64 s.0.0) s.0.1 tb.0 ts.0 in
    let made : (List ℕ × ℕ) × List ℕ = ((b.0.0, s.0.0), s.0.1) in
    subst (Tailed len bytes) {x = made} (ok_is made x s.2) (e0.parts, tb.1)

pub tail_again : (body rest : List ℕ) (sum : ℕ) → sum < 2 ^ 64
    → tail_at (length body) (body ++ (to_le_bytes w64 sum ++ rest)) ≡ Ok ((body, sum), rest)
unfolding tail_at
tail_again body rest sum fits =
    rw (
      bytes_again (length body) body (to_le_bytes w64 sum ++ rest) refl,
      number_again w64 (2 ^ 64) wide64 sum rest fits,
    ) refl

tail_spelled : (len : ℕ) (bytes : List ℕ) (tail : List ℕ × ℕ) → IsBytes bytes → tail_of len bytes ≡ Ok tail
    → (bytes ≡ tail.0 ++ to_le_bytes w64 tail.1) × (length tail.0 ≡ len)
unfolding tail_of
tail_spelled len bytes tail fits e =
    let a = bind_ok (tail_at len bytes) ended tail e in
    let g = ended_ok a.0 tail a.2 in
    let k = tail_takes len bytes a.0 fits a.1 in
    let text = a.0.0.0 ++ to_le_bytes w64 a.0.0.1 in
    let whole : bytes ≡ text = k.0 ∙ ap (λ (r : List ℕ). text ++ r) g.1 ∙ append-nil text in
    subst (λ (t : List ℕ × ℕ). (bytes ≡ t.0 ++ to_le_bytes w64 t.1) × (length t.0 ≡ len)) g.0 (whole, k.1)

tail_read : (body : List ℕ) (sum : ℕ) → sum < 2 ^ 64 → tail_of (length body) (body ++ to_le_bytes w64 sum) ≡ Ok (body, sum)
unfolding tail_of
tail_read body sum fits =
    let all : tail_at (length body) (body ++ to_le_bytes w64 sum) ≡ Ok ((body, sum), []) =
    ap (λ (last : List ℕ). tail_at (length body) (body ++ last)) (sym (append-nil (to_le_bytes w64 sum))) ∙ tail_again body [] sum fits in
    rw all refl

-- ---- bodies

abbrev IsFramed : ℕ → List ℕ → List ℕ → Type 0
IsFramed header bytes body = (bytes ≡ frame_bytes header body) × (length body < 2 ^ 64)

-- all but the last eight bytes
all_but : (front last bytes : List ℕ) → length last ≡ 8 → bytes ≡ front ++ last → take (length bytes - 8) bytes ≡ front
all_but front last bytes eight e =
    let size : length bytes ≡ length (front ++ last) = ap length e in
    let long : length front ≡ length bytes - 8 = omega (arith, size, eight, length-append front last) in
    ap (take (length bytes - 8)) e ∙ take_at front last (length bytes - 8) long

tail_due_is : (header : ℕ) (bytes : List ℕ) (head : ℕ × List ℕ) (r : Result (List ℕ × ℕ) Fault) (body : List ℕ)
    → IsHeaded header bytes head → tail_of head.0 head.1 ≡ r → tail_due bytes (in_message (length bytes) r) ≡ Ok body
    → IsFramed header bytes body
tail_due_is header bytes head (Ok t) body h was e =
    let k = tail_spelled head.0 head.1 t h.0.rest_fits was in
    let last = to_le_bytes w64 t.1 in
    let front = front_bytes header t.0 in
    let apart : bytes ≡ front ++ last =
    h.0.parts ∙ ap (λ (r : List ℕ). frame_head_bytes header head.0 ++ r) k.0
    ∙ ap (λ (n : ℕ). frame_head_bytes header n ++ (t.0 ++ last)) (sym k.1)
    ∙ sym (append_assoc (frame_head_bytes header (length t.0)) t.0 last) in
    let g = checked_is t.1 (take (length bytes - 8) bytes) t.0 body e in
    let right : t.1 ≡ checksum front = g.0 ∙ ap checksum (all_but front last bytes (wide64.len t.1) apart) in
    subst (IsFramed header bytes) g.1
    (apart ∙ ap (λ (n : ℕ). front ++ to_le_bytes w64 n) right, subst (λ (n : ℕ). n < 2 ^ 64) (sym k.1) h.1)
tail_due_is header bytes head (Err f) body h was e = absurd cc

body_due_is : (header : ℕ) (bytes : List ℕ) (r : Result (ℕ × List ℕ) ReplicaMessageFault) (body : List ℕ) → IsBytes bytes
    → frame_head_of header bytes ≡ r → body_due bytes r ≡ Ok body → IsFramed header bytes body
body_due_is header bytes (Ok head) body fits was e =
    tail_due_is header bytes head (tail_of head.0 head.1) body (head_spelled header bytes head fits was) refl e
body_due_is header bytes (Err f) body fits was e = absurd cc

pub body_spelled : (header : ℕ) (bytes body : List ℕ) → IsBytes bytes → body_of header bytes ≡ Ok body
    → (bytes ≡ frame_bytes header body) × (length body < 2 ^ 64)
body_spelled header bytes body fits e = body_due_is header bytes (frame_head_of header bytes) body fits refl e

pub body_read : (header : ℕ) (body : List ℕ) → header < 2 ^ 64 → length body < 2 ^ 64
    → body_of header (frame_bytes header body) ≡ Ok body
body_read header body headed short =
    let bytes = frame_bytes header body in
    let front = front_bytes header body in
    let sum = checksum front in
    let last = to_le_bytes w64 sum in
    ap (body_due bytes) (head_read header (length body) bytes (body ++ last) headed short
    (append_assoc (frame_head_bytes header (length body)) body last))
    ∙ ap (λ (r : Result (List ℕ × ℕ) Fault). tail_due bytes (in_message (length bytes) r)) (tail_read body sum (sum_fits front))
    ∙ checked_met sum (take (length bytes - 8) bytes) body (ap checksum (sym (all_but front last bytes (wide64.len sum) refl)))

-- ---- the bytes of a body

front_fits : (xs ys : List ℕ) → IsBytes (xs ++ ys) → IsBytes xs
front_fits [] ys h i = lit< tt
front_fits (x ∷ xs) ys h zero = h 0
front_fits (x ∷ xs) ys h (suc i) = front_fits xs ys (IsBytes-rest x (xs ++ ys) h) i

back_fits : (xs ys : List ℕ) → IsBytes (xs ++ ys) → IsBytes ys
back_fits [] ys h = h
back_fits (x ∷ xs) ys h = back_fits xs ys (IsBytes-rest x (xs ++ ys) h)

pub body_fits : (header : ℕ) (bytes body : List ℕ) → IsBytes bytes → bytes ≡ frame_bytes header body → IsBytes body
body_fits header bytes body fits e =
    back_fits (frame_head_bytes header (length body)) body
    (front_fits (front_bytes header body) (to_le_bytes w64 (checksum (front_bytes header body))) (subst IsBytes e fits))

-- ---- a frame that is written

-- what was written behind the place of a head
pub body_written : (out body : List ℕ) → out ≡ no_head ++ body → drop 24 out ≡ body
body_written out body e = ap (drop 24) e ∙ drop_at no_head body 24 refl

pub behind_head : (out body : List ℕ) → out ≡ no_head ++ body → length out < 2 ^ 64 → length body < 2 ^ 64
behind_head out body e short = omega (arith, ap length e, length-append no_head body, short)

-- what fills a vector is all of it
filled : (items w : List ℕ) (n : ℕ) → length w ≡ n → take n (w ++ drop (length w) items) ≡ w
filled items w n size = take_at w (drop (length w) items) n size

-- the head and the checksum are written
pub framed_written : (header : ℕ) (items w front whole : List ℕ) (len n sum : ℕ) → len ≡ length items → n ≡ length items
    → 24 ≤ length items → w ≡ frame_head_bytes header (len - 24) ++ drop 24 items
    → front ≡ take n (w ++ drop (length w) items) → sum ≡ checksum front
    → whole ≡ take n (w ++ drop (length w) items) ++ to_le_bytes w64 sum → whole ≡ frame_bytes header (drop 24 items)
framed_written header items w front whole len n sum counted sized long wrote read sums last =
    let body = drop 24 items in
    let behind : len - 24 ≡ length body = omega (arith, counted, length-drop 24 items) in
    let is : w ≡ front_bytes header body = wrote ∙ ap (λ (k : ℕ). frame_head_bytes header k ++ body) behind in
    let size : length w ≡ n =
    omega (arith, sized, long, ap length is, length-append (frame_head_bytes header (length body)) body, length-drop 24 items) in
    let all : take n (w ++ drop (length w) items) ≡ front_bytes header body = filled items w n size ∙ is in
    last ∙ ap (λ (x : List ℕ). x ++ to_le_bytes w64 sum) all
    ∙ ap (λ (k : ℕ). front_bytes header body ++ to_le_bytes w64 k) (sums ∙ ap checksum (read ∙ all))

-- eight bytes that are read one by one
abbrev pub eight : List ℕ → List ℕ → List ℕ
eight xs rest =
    slice_index_or xs 0 0 ∷ slice_index_or xs 1 0 ∷ slice_index_or xs 2 0 ∷ slice_index_or xs 3 0
    ∷ slice_index_or xs 4 0 ∷ slice_index_or xs 5 0 ∷ slice_index_or xs 6 0 ∷ slice_index_or xs 7 0 ∷ rest

-- the head is written byte by byte
pub head_written : (header len sum : ℕ) (h l s : List ℕ) → h ≡ to_le_bytes w64 header → l ≡ to_le_bytes w64 len
    → sum ≡ checksum (eight h (eight l [])) → s ≡ to_le_bytes w64 sum → eight h (eight l (eight s [])) ≡ frame_head_bytes header len
head_written header len sum h l s is_header is_len is_sum is_last =
    let front : eight h (eight l []) ≡ sized header len =
    ap (λ (xs : List ℕ). eight xs (eight l [])) is_header ∙ ap (λ (xs : List ℕ). to_le_bytes w64 header ++ eight xs []) is_len in
    ap (λ (xs : List ℕ). eight xs (eight l (eight s []))) is_header
    ∙ ap (λ (xs : List ℕ). to_le_bytes w64 header ++ eight xs (eight s [])) is_len
    ∙ ap (λ (xs : List ℕ). sized header len ++ eight xs []) (is_last ∙ ap (to_le_bytes w64) (is_sum ∙ ap checksum front))
