-- The front of a log that begins with a message, whole, cut or damaged.
use Rattle.std.proofs.Common.{◌≡◌, ℕ, ◌-◌, ◌^◌, ◌<◌, Bool, false, true≢false, List, [], ◌∷◌, ◌++◌, length, eqb, Result, Ok, Err, refl, sym, ap, subst, ◌∙◌, append_assoc, arith, lit<, inl, inr}
use Rattle.std.specs.Prelude.{◌⊎◌}
use Rattle.std.specs.Int.{w64, to_le_bytes}
use Rattle.std.proofs.lemmas.Bool.{lt-ltb}
use Rattle.std.proofs.lemmas.List.{length-append}
use Rattle.refusals.specs.Answers.{◌>>=◌}
use Rattle.exchange_codec.specs.declared.fault.Fault.{Fault}
use Rattle.exchange_codec.specs.declared.fault.FieldFault.TheVariants as wrongs
use Rattle.exchange_codec.specs.Reading.{number_at, bytes_at, header_at}
use Rattle.exchange_codec.specs.laws.Fields.{wide64, number_again, header_again}
use Rattle.exchange_codec.specs.laws.Rows.{bytes_again}
use Rattle.replica_codec.specs.declared.fault.ReplicaMessageFault.{ReplicaMessageFault}
use Rattle.replica_codec.specs.declared.fault.ReplicaMessageFault.TheVariants.{Checksum}
use Rattle.replica_codec.specs.declared.log.LogFront.{LogFront}
use Rattle.replica_codec.specs.declared.log.LogFront.TheVariants as front
use Rattle.replica_codec.specs.Frames.{entry_header, snapshot_header, checksum, frame_head_bytes, front_bytes, frame_bytes, frame_head_at, head_due, frame_head_of, tail_at, in_message}
use Rattle.replica_codec.specs.Logs.{IsDamaged, after_at, after_due, front_at, front_of, kind_at, kind_due, kind_or_wrong, or_cut, whole_message, whole_due}
use Rattle.replica_codec.proofs.SumLaws.{sum_fits}
use Rattle.replica_codec.proofs.FrameLaws.{sized, head_parts, head_in, head_found, head_read, tail_again, checked_unmet}

-- ---- the kind of a message

-- a header that a log's messages begin with
abbrev pub IsKind : ℕ → Type 0
IsKind header = ((tail : List ℕ) → kind_at (to_le_bytes w64 header ++ tail) ≡ Ok header) × (header < 2 ^ 64)

pub entry_kind : IsKind entry_header
unfolding kind_at
entry_kind = (
  λ tail. ap (λ (r : Result (ℕ × List ℕ) Fault). r >>= λ found. kind_or_wrong (to_le_bytes w64 entry_header ++ tail) found.0)
      (number_again w64 (2 ^ 64) wide64 entry_header tail (lit< tt)),
  lit< tt,
)

pub snapshot_kind : IsKind snapshot_header
unfolding kind_at
snapshot_kind = (
  λ tail. ap (λ (r : Result (ℕ × List ℕ) Fault). r >>= λ found. kind_or_wrong (to_le_bytes w64 snapshot_header ++ tail) found.0)
      (number_again w64 (2 ^ 64) wide64 snapshot_header tail (lit< tt)),
  lit< tt,
)

-- the rest of a message of a kind
by_kind : (header : ℕ) (bytes tail : List ℕ) → IsKind header → bytes ≡ to_le_bytes w64 header ++ tail
    → front_at bytes ≡ after_due header bytes (frame_head_of header bytes)
by_kind header bytes tail kind e =
    ap (λ (r : Result ℕ Fault). kind_due bytes (in_message (length bytes) r)) (ap kind_at e ∙ kind.0 tail)

front_by : (bytes : List ℕ) (r : Result LogFront ReplicaMessageFault) → 0 < length bytes → front_at bytes ≡ r
    → front_of bytes ≡ or_cut r
front_by [] r some e = absurd (omega (arith, some))
front_by (b ∷ bytes) r some e = ap or_cut e

-- ---- a whole message

after_again : (body rest : List ℕ) (sum : ℕ) → sum < 2 ^ 64
    → after_at (length body) (body ++ (to_le_bytes w64 sum ++ rest)) ≡ Ok rest
unfolding after_at
after_again body rest sum fits = rw (tail_again body rest sum fits) refl

pub some_bytes : (header : ℕ) (bytes message body rest : List ℕ) → message ≡ frame_bytes header body → bytes ≡ message ++ rest
    → 0 < length bytes
some_bytes header bytes message body rest spelling e =
    let there = e ∙ ap (λ (m : List ℕ). m ++ rest) spelling in
    let long : 0 < length (frame_bytes header body ++ rest) = omega arith in
    subst (λ (b : List ℕ). 0 < length b) (sym there) long

-- a message and what follows it
parted : (header : ℕ) (body rest : List ℕ) → frame_bytes header body ++ rest
    ≡ frame_head_bytes header (length body) ++ (body ++ (to_le_bytes w64 (checksum (front_bytes header body)) ++ rest))
parted header body rest =
    let last = to_le_bytes w64 (checksum (front_bytes header body)) in
    append_assoc (front_bytes header body) last rest ∙ append_assoc (frame_head_bytes header (length body)) body (last ++ rest)

pub first : (header : ℕ) (bytes message body rest : List ℕ) → IsKind header → length body < 2 ^ 64 → message ≡ frame_bytes header body
    → bytes ≡ message ++ rest → front_of bytes ≡ Ok (whole_message header (length message))
first header bytes message body rest kind short spelling e =
    let sum = checksum (front_bytes header body) in
    let tail = body ++ (to_le_bytes w64 sum ++ rest) in
    let there : bytes ≡ frame_head_bytes header (length body) ++ tail =
    e ∙ ap (λ (m : List ℕ). m ++ rest) spelling ∙ parted header body rest in
    let size : length bytes - length rest ≡ length message = omega (arith, ap length e, length-append message rest) in
    let reads : front_at bytes ≡ Ok (whole_message header (length message)) =
    by_kind header bytes (to_le_bytes w64 (length body) ++ (to_le_bytes w64 (checksum (sized header (length body))) ++ tail)) kind
    (there ∙ head_in header (length body) tail)
    ∙ ap (after_due header bytes) (head_read header (length body) bytes tail kind.1 short there)
    ∙ ap (λ (r : Result (List ℕ) Fault). whole_due header bytes (in_message (length bytes) r))
    (after_again body rest sum (sum_fits (front_bytes header body)))
    ∙ ap (λ (n : ℕ). Ok (whole_message header n)) size in
    front_by bytes (Ok (whole_message header (length message))) (some_bytes header bytes message body rest spelling e) reads

-- ---- a message that is cut

heads : (x y : ℕ) (xs ys : List ℕ) → x ∷ xs ≡ y ∷ ys → (x ≡ y) × (xs ≡ ys)
heads x y xs ys e = (cc, cc)

-- bytes that are cut end within this part, or have it
abbrev CutBehind : List ℕ → List ℕ → List ℕ → List ℕ → Type 0
CutBehind xs more part tail = (ys : List ℕ) × (xs ≡ part ++ ys) × (ys ++ more ≡ tail)

cut_at : (part xs more tail : List ℕ) → xs ++ more ≡ part ++ tail
    → (length xs < length part) ⊎ CutBehind xs more part tail
cut_at [] xs more tail e = inr (xs, refl, e)
cut_at (p ∷ part) [] more tail e = inl (omega arith)
cut_at (p ∷ part) (x ∷ xs) more tail e =
    let parts = heads x p (xs ++ more) (part ++ tail) e in
    elim (cut_at part xs more tail parts.1) [
      | inl short ↦ inl (omega (arith, short))
      | inr (ys, is, behind) ↦ inr (ys, ap (λ (r : List ℕ). x ∷ r) is ∙ ap (λ (a : ℕ). a ∷ (part ++ ys)) parts.0, behind)
    ]

-- reading that ends too early
abbrev IsCut : {A : Type 0} → Result A Fault → Type 0
IsCut r = (left : ℕ) × (r ≡ Err (record { what = wrongs.Cut; left = left }))

short_number : (xs : List ℕ) → length xs < 8 → IsCut (number_at w64 xs)
short_number xs short = (length xs, rw (lt-ltb (length xs) 8 short) refl)

short_bytes : (n : ℕ) (xs : List ℕ) → length xs < n → IsCut (bytes_at n xs)
short_bytes n xs short = (length xs, rw (lt-ltb (length xs) n short) refl)

bound : {A B : Type 0} (r : Result A Fault) (f : A → Result B Fault) → IsCut r → IsCut (r >>= f)
bound r f h = (h.0, ap (λ (x : Result _ Fault). x >>= f) h.1)

-- a number that is cut
number_cut : (xs more : List ℕ) (n : ℕ) → 0 < length more → xs ++ more ≡ to_le_bytes w64 n → length xs < 8
number_cut xs more n some e =
    let size : length (xs ++ more) ≡ length (to_le_bytes w64 n) = ap length e in
    let eight : length (to_le_bytes w64 n) ≡ 8 = wide64.len n in
    omega (arith, some, size, eight, length-append xs more)

-- a body or its checksum is cut
abbrev sum_then : List ℕ × List ℕ → Result ((List ℕ × ℕ) × List ℕ) Fault
sum_then body = number_at w64 body.1 >>= λ sum. Ok ((body.0, sum.0), sum.1)

tail_cut : (body xs more : List ℕ) (sum : ℕ) → 0 < length more → xs ++ more ≡ body ++ to_le_bytes w64 sum
    → IsCut (tail_at (length body) xs)
unfolding tail_at
tail_cut body xs more sum some e =
    elim (cut_at body xs more (to_le_bytes w64 sum) e) [
      | inl short ↦ bound (bytes_at (length body) xs) sum_then (short_bytes (length body) xs short)
      | inr (ys, is, behind) ↦
          let last = bound (number_at w64 ys) (λ sum. Ok ((body, sum.0), sum.1)) (short_number ys (number_cut ys more sum some behind)) in (
            last.0,
            ap (λ (r : Result (List ℕ × List ℕ) Fault). r >>= sum_then)
                (ap (bytes_at (length body)) is ∙ bytes_again (length body) body ys refl) ∙ last.1,
          )
    ]

after_cut : (len : ℕ) (xs : List ℕ) → IsCut (tail_at len xs) → IsCut (after_at len xs)
unfolding after_at
after_cut len xs h = bound (tail_at len xs) (λ tail. Ok tail.1) h

-- a length or the checksum after it is cut
abbrev sum_behind : ℕ × List ℕ → Result ((ℕ × ℕ) × List ℕ) Fault
sum_behind len = number_at w64 len.1 >>= λ sum. Ok ((len.0, sum.0), sum.1)

head_by : (header : ℕ) (bytes tail : List ℕ) → header < 2 ^ 64 → bytes ≡ to_le_bytes w64 header ++ tail
    → frame_head_at header bytes ≡ (number_at w64 tail >>= sum_behind)
unfolding frame_head_at
head_by header bytes tail headed e =
    ap (λ (r : Result (List ℕ) Fault). r >>= λ rest. number_at w64 rest >>= sum_behind)
    (ap (header_at header) e ∙ header_again header tail headed)

len_cut : (header : ℕ) (bytes tail : List ℕ) → header < 2 ^ 64 → bytes ≡ to_le_bytes w64 header ++ tail → length tail < 8
    → IsCut (frame_head_at header bytes)
len_cut header bytes tail headed e short =
    let h = bound (number_at w64 tail) sum_behind (short_number tail short) in (h.0, head_by header bytes tail headed e ∙ h.1)

head_sum_cut : (header len : ℕ) (bytes tail : List ℕ) → header < 2 ^ 64 → len < 2 ^ 64
    → bytes ≡ to_le_bytes w64 header ++ (to_le_bytes w64 len ++ tail) → length tail < 8 → IsCut (frame_head_at header bytes)
head_sum_cut header len bytes tail headed fits e short =
    let h = bound (number_at w64 tail) (λ sum. Ok ((len, sum.0), sum.1)) (short_number tail short) in (
      h.0,
      head_by header bytes (to_le_bytes w64 len ++ tail) headed e
          ∙ ap (λ (r : Result (ℕ × List ℕ) Fault). r >>= sum_behind) (number_again w64 (2 ^ 64) wide64 len tail fits) ∙ h.1,
    )

-- where a log is cut: in a header, in the rest of a head, or behind a head
in_kind : (bytes : List ℕ) → IsCut (kind_at bytes) → or_cut (front_at bytes) ≡ Ok front.Cut
in_kind bytes h = ap (λ (r : Result ℕ Fault). or_cut (kind_due bytes (in_message (length bytes) r))) h.1

in_head : (header : ℕ) (bytes tail : List ℕ) → IsKind header → bytes ≡ to_le_bytes w64 header ++ tail
    → IsCut (frame_head_at header bytes) → or_cut (front_at bytes) ≡ Ok front.Cut
in_head header bytes tail kind e h =
    ap or_cut (by_kind header bytes tail kind e)
    ∙ ap (λ (r : Result ((ℕ × ℕ) × List ℕ) Fault). or_cut (after_due header bytes (head_due bytes (in_message (length bytes) r)))) h.1

behind_head : (header len : ℕ) (bytes tail rest : List ℕ) → IsKind header → bytes ≡ to_le_bytes w64 header ++ tail
    → frame_head_of header bytes ≡ Ok (len, rest) → IsCut (after_at len rest) → or_cut (front_at bytes) ≡ Ok front.Cut
behind_head header len bytes tail rest kind e head h =
    ap or_cut (by_kind header bytes tail kind e) ∙ ap (λ (r : Result (ℕ × List ℕ) ReplicaMessageFault). or_cut (after_due header bytes r)) head
    ∙ ap (λ (r : Result (List ℕ) Fault). or_cut (whole_due header bytes (in_message (length bytes) r))) h.1

short_kind : (bytes : List ℕ) → length bytes < 8 → IsCut (kind_at bytes)
unfolding kind_at
short_kind bytes short = bound (number_at w64 bytes) (λ found. kind_or_wrong bytes found.0) (short_number bytes short)

-- the parts of a message: a header, a length and their checksum, a body and a checksum
front_cut : (header sum : ℕ) (body bytes more : List ℕ) → IsKind header → length body < 2 ^ 64 → 0 < length more
    → bytes ++ more ≡ head_parts header (length body) (checksum (sized header (length body))) (body ++ to_le_bytes w64 sum)
    → or_cut (front_at bytes) ≡ Ok front.Cut
front_cut header sum body bytes more kind short some e =
    let len = length body in
    let right = checksum (sized header len) in
    let tail = body ++ to_le_bytes w64 sum in
    elim (cut_at (to_le_bytes w64 header) bytes more (to_le_bytes w64 len ++ (to_le_bytes w64 right ++ tail)) e) [
      | inl cut ↦ in_kind bytes (short_kind bytes (omega (arith, cut, wide64.len header)))
      | inr (ys, is, behind) ↦
          elim (cut_at (to_le_bytes w64 len) ys more (to_le_bytes w64 right ++ tail) behind) [
            | inl cut ↦ in_head header bytes ys kind is (len_cut header bytes ys kind.1 is (omega (arith, cut, wide64.len len)))
            | inr (zs, be, after) ↦
                let there = is ∙ ap (λ (y : List ℕ). to_le_bytes w64 header ++ y) be in
                elim (cut_at (to_le_bytes w64 right) zs more tail after) [
                  | inl cut ↦
                      in_head header bytes (to_le_bytes w64 len ++ zs) kind there
                      (head_sum_cut header len bytes zs kind.1 short there (omega (arith, cut, wide64.len right)))
                  | inr (ws, has, last) ↦
                      let all = there ∙ ap (λ (z : List ℕ). to_le_bytes w64 header ++ (to_le_bytes w64 len ++ z)) has in
                      behind_head header len bytes (to_le_bytes w64 len ++ zs) ws kind there
                      (head_read header len bytes ws kind.1 short (all ∙ sym (head_in header len ws)))
                      (after_cut len ws (tail_cut body ws more sum some last))
                ]
          ]
    ]

pub cut : (header : ℕ) (bytes more body : List ℕ) → IsKind header → 0 < length bytes → 0 < length more → length body < 2 ^ 64
    → bytes ++ more ≡ frame_bytes header body → front_of bytes ≡ Ok front.Cut
cut header bytes more body kind some rest short spelling =
    let sum = checksum (front_bytes header body) in
    let there = spelling ∙ append_assoc (frame_head_bytes header (length body)) body (to_le_bytes w64 sum)
    ∙ head_in header (length body) (body ++ to_le_bytes w64 sum) in
    front_by bytes (front_at bytes) some refl ∙ front_cut header sum body bytes more kind short rest there

-- ---- a head that was changed

damaged_as : (header : ℕ) (bytes : List ℕ) (d : IsDamaged bytes) → header ≡ d.header → IsKind header → front_at bytes ≡ Err Checksum
damaged_as header bytes d same kind =
    let there : bytes ≡ head_parts header d.len d.sum d.rest =
    d.parts ∙ ap (λ (h : ℕ). head_parts h d.len d.sum d.rest) (sym same) in
    let other : d.sum ≡ checksum (sized header d.len) → ⊥ =
    λ e. d.other (e ∙ ap (λ (h : ℕ). checksum (sized h d.len)) same) in
    by_kind header bytes (to_le_bytes w64 d.len ++ (to_le_bytes w64 d.sum ++ d.rest)) kind there
    ∙ ap (after_due header bytes) (head_found header d.len d.sum bytes d.rest kind.1 d.short d.summed there
    ∙ checked_unmet d.sum (sized header d.len) (d.len, d.rest) other)

damaged_front : (bytes : List ℕ) → IsDamaged bytes → front_at bytes ≡ Err Checksum
damaged_front bytes d =
    elim d.kind [
      | inl entry ↦ damaged_as entry_header bytes d (sym entry) entry_kind
      | inr snapshot ↦ damaged_as snapshot_header bytes d (sym snapshot) snapshot_kind
    ]

pub damaged : (bytes : List ℕ) → IsDamaged bytes → front_of bytes ≡ Err Checksum
damaged bytes d =
    let long : 0 < length (head_parts d.header d.len d.sum d.rest) = omega arith in
    front_by bytes (Err Checksum) (subst (λ (b : List ℕ). 0 < length b) (sym d.parts) long) (damaged_front bytes d)

-- ---- answers

abbrev Fronts : Type 0
Fronts = Result LogFront ReplicaMessageFault

some : (bytes : List ℕ) (b : Bool) → b ≡ eqb (length bytes) 0 → b ≡ false → 0 < length bytes
some [] b is none = absurd (true≢false (sym is ∙ none))
some (x ∷ bytes) b is none = omega arith

-- what is read of bytes, of which there are some
pub front_taken : (bytes : List ℕ) (b : Bool) (made r : Fronts) → b ≡ eqb (length bytes) 0 → b ≡ false
    → made ≡ front_at bytes → r ≡ or_cut made → r ≡ front_of bytes
front_taken bytes b made r is none h e =
    e ∙ ap or_cut h ∙ sym (front_by bytes (front_at bytes) (some bytes b is none) refl)
