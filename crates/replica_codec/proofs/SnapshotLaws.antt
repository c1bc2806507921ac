-- The fields of a snapshot that are read are spelled so, and what is spelled so is read.
use Rattle.std.proofs.Common.{◌≡◌, ℕ, zero, suc, ◌-◌, ◌^◌, ◌<◌, ◌≤◌, List, [], ◌∷◌, ◌++◌, length, Option, Some, None, Result, Ok, Err, refl, sym, ap, subst, ◌∙◌, append_assoc, arith, lit<}
use Rattle.std.specs.Prelude.{IfSome}
use Rattle.std.specs.Int.{w32, w64, to_le_bytes}
use Rattle.std.specs.List.{flat_map, AllByRecursion}
use Rattle.upload_store.specs.Programs.{max_programs}
use Rattle.refusals.specs.Answers.{◌>>=◌}
use Rattle.exchange_codec.specs.Reading.{number_at, bytes_at, count_at, many_at}
use Rattle.exchange_codec.specs.Rows.{max_code}
use Rattle.exchange_codec.specs.laws.Fields.{IsBytes, IsBytes-rest, bind_ok, ok_is, Takes, Takes-then, wide64, number_takes, number_again, count_takes, count_again}
use Rattle.exchange_codec.specs.laws.Many.{many_take, many_again}
use Rattle.exchange_codec.specs.laws.Rows.{sized_takes, bytes_again, behind}
use Rattle.replica_codec.specs.declared.fault.ReplicaMessageFault.{ReplicaMessageFault}
use Rattle.replica_codec.specs.Entries.{position_bytes, sized_code, position_at, limit_at}
use Rattle.replica_codec.specs.Frames.{snapshot_header, frame_bytes, in_message, body_of}
use Rattle.replica_codec.specs.Snapshots.{SnapshotText, latest_bytes, codes_bytes, text_bytes, IsSnapshotText, latest_at, code_at, codes_at, text_at, text_due, snapshot_from}
use Rattle.replica_codec.proofs.FrameLaws.{in_ok, body_spelled, body_read, body_fits}
use Rattle.replica_codec.proofs.EntryLaws.{position_takes, position_again, limit_takes, limit_again}

-- ---- the greatest number

abbrev Latest : List ℕ → Option ℕ × List ℕ → Type 0
Latest bytes y = Takes bytes (latest_bytes y.0) y.1 × IfSome y.0 (λ number. number < 2 ^ 64)

latest_takes : (bytes : List ℕ) (x : Option ℕ × List ℕ) → IsBytes bytes → latest_at bytes ≡ Ok x → Latest bytes x
unfolding latest_at
latest_takes [] x fits e = absurd cc
latest_takes (zero ∷ rest) x fits e =
    subst (Latest (0 ∷ rest)) {x = (None, rest)} (ok_is (None, rest) x e) (record { parts = refl; rest_fits = IsBytes-rest 0 rest fits }, tt)
latest_takes (suc zero ∷ rest) x fits e =
    let a = bind_ok (number_at w64 rest) (λ number. Ok (Some number.0, number.1)) x e in
    let t = number_takes w64 (2 ^ 64) wide64 rest a.0.0 a.0.1 (IsBytes-rest 1 rest fits) a.1 in
    subst (Latest (1 ∷ rest)) {x = (Some a.0.0, a.0.1)} (ok_is (Some a.0.0, a.0.1) x a.2)
    (behind 1 rest (to_le_bytes w64 a.0.0) a.0.1 t.0, t.1)
latest_takes (suc (suc n) ∷ rest) x fits e = absurd cc

latest_again : (latest : Option ℕ) (rest : List ℕ) → IfSome latest (λ number. number < 2 ^ 64)
    → latest_at (latest_bytes latest ++ rest) ≡ Ok (latest, rest)
unfolding latest_at
latest_again None rest h = refl
latest_again (Some n) rest h = rw (number_again w64 (2 ^ 64) wide64 n rest h) refl

-- ---- codes

code_takes : (bytes : List ℕ) (x : List ℕ × List ℕ) → IsBytes bytes → code_at bytes ≡ Ok x
    → Takes bytes (sized_code x.0) x.1 × (length x.0 ≤ max_code)
unfolding code_at
code_takes bytes x fits e =
    let a = bind_ok (count_at max_code bytes) (λ len. bytes_at len.0 len.1) x e in
    sized_takes bytes a.0 x fits a.1 a.2

code_again : (code rest : List ℕ) → length code ≤ max_code → code_at (sized_code code ++ rest) ≡ Ok (code, rest)
unfolding code_at
code_again code rest few =
    ap code_at (append_assoc (to_le_bytes w32 (length code)) code rest)
    ∙ rw (count_again max_code (length code) (code ++ rest) few (lit< tt), bytes_again (length code) code rest refl) refl

abbrev AreCodes : List (List ℕ) → Type 0
AreCodes codes = (length codes ≤ max_programs) × AllByRecursion (λ (code : List ℕ). length code ≤ max_code) codes

codes_take : (bytes : List ℕ) (x : List (List ℕ) × List ℕ) → IsBytes bytes → codes_at bytes ≡ Ok x
    → Takes bytes (codes_bytes x.0) x.1 × AreCodes x.0
unfolding codes_at
codes_take bytes x fits e =
    let c = bind_ok (count_at max_programs bytes) (λ count. many_at code_at count.0 count.1) x e in
    let tc = count_takes max_programs bytes c.0.0 c.0.1 fits c.1 in
    let tm = many_take code_at sized_code (λ (code : List ℕ). length code ≤ max_code) code_takes c.0.0 c.0.1 x tc.0.rest_fits c.2 in
    let counted : Takes bytes (to_le_bytes w32 (length x.0)) c.0.1 = subst (λ (k : ℕ). Takes bytes (to_le_bytes w32 k) c.0.1) (sym tm.1) tc.0 in
    let few : length x.0 ≤ max_programs = omega (arith, tm.1, tc.1) in
    (Takes-then bytes (to_le_bytes w32 (length x.0)) c.0.1 (flat_map sized_code x.0) x.1 counted tm.0, (few, tm.2))

codes_again : (codes : List (List ℕ)) (rest : List ℕ) → AreCodes codes → codes_at (codes_bytes codes ++ rest) ≡ Ok (codes, rest)
unfolding codes_at
codes_again codes rest fits =
    ap codes_at (append_assoc (to_le_bytes w32 (length codes)) (flat_map sized_code codes) rest)
    ∙ rw (
      count_again max_programs (length codes) (flat_map sized_code codes ++ rest) fits.0 (lit< tt),
      many_again code_at sized_code (λ (code : List ℕ). length code ≤ max_code) code_again codes rest fits.1,
    ) refl

-- ---- texts

abbrev Texts : List ℕ → SnapshotText × List ℕ → Type 0
Texts bytes y = Takes bytes (text_bytes y.0) y.1 × IsSnapshotText y.0

pub text_takes : (bytes : List ℕ) (x : SnapshotText × List ℕ) → IsBytes bytes → text_at bytes ≡ Ok x → Texts bytes x
unfolding text_at
text_takes bytes x fits e =
    let p = bind_ok (position_at bytes) (λ at. limit_at at.1 >>= λ limit. latest_at limit.1 >>= λ latest. codes_at latest.1 >>= λ codes. Ok (record { at = at.0; limit = limit.0; latest = latest.0; codes = codes.0 }, codes.1)) x e in
    let n = bind_ok (limit_at p.0.1) (λ limit. latest_at limit.1 >>= λ latest. codes_at latest.1 >>= λ codes. Ok (record { at = p.0.0; limit = limit.0; latest = latest.0; codes = codes.0 }, codes.1)) x p.2 in
    let l = bind_ok (latest_at n.0.1) (λ latest. codes_at latest.1 >>= λ codes. Ok (record { at = p.0.0; limit = n.0.0; latest = latest.0; codes = codes.0 }, codes.1)) x n.2 in
    let c = bind_ok (codes_at l.0.1) (λ codes. Ok (record { at = p.0.0; limit = n.0.0; latest = l.0.0; codes = codes.0 }, codes.1)) x l.2 in
    let tp = position_takes bytes p.0 fits p.1 in
    let tn = limit_takes p.0.1 n.0 tp.0.rest_fits n.1 in
    let tl = latest_takes n.0.1 l.0 tn.0.rest_fits l.1 in
    let tc = codes_take l.0.1 c.0 tl.0.rest_fits c.1 in
    let e2 = Takes-then n.0.1 (latest_bytes l.0.0) l.0.1 (codes_bytes c.0.0) c.0.1 tl.0 tc.0 in
    let e1 = Takes-then p.0.1 (to_le_bytes w32 n.0.0) n.0.1 (latest_bytes l.0.0 ++ codes_bytes c.0.0) c.0.1 tn.0 e2 in
    let e0 = Takes-then bytes (position_bytes p.0.0) p.0.1 (to_le_bytes w32 n.0.0 ++ (latest_bytes l.0.0 ++ codes_bytes c.0.0)) c.0.1 tp.0 e1 in
    let made : SnapshotText × List ℕ = (record { at = p.0.0; limit = n.0.0; latest = l.0.0; codes = c.0.0 }, c.0.1) in
    subst (Texts bytes) {x = made} (ok_is made x c.2)
    (e0, record { at = tp.1; limit = tn.1; latest = tl.1; few = tc.1.0; each = tc.1.1 })

pub text_again : (t : SnapshotText) (rest : List ℕ) → IsSnapshotText t → text_at (text_bytes t ++ rest) ≡ Ok (t, rest)
unfolding text_at
text_again t rest fits =
    let n = to_le_bytes w32 t.limit in
    let l = latest_bytes t.latest in
    let c = codes_bytes t.codes in
    let regrouped : text_bytes t ++ rest
    ≡ position_bytes t.at ++ (to_le_bytes w32 t.limit ++ (latest_bytes t.latest ++ (codes_bytes t.codes ++ rest))) =
    append_assoc (position_bytes t.at) (n ++ (l ++ c)) rest
    ∙ ap (λ (x : List ℕ). position_bytes t.at ++ x) (append_assoc n (l ++ c) rest
    ∙ ap (λ (x : List ℕ). n ++ x) (append_assoc l c rest)) in
    ap text_at regrouped
    ∙ rw (
      position_again t.at (to_le_bytes w32 t.limit ++ (latest_bytes t.latest ++ (codes_bytes t.codes ++ rest))) fits.at,
      limit_again t.limit (latest_bytes t.latest ++ (codes_bytes t.codes ++ rest)) fits.limit,
      latest_again t.latest (codes_bytes t.codes ++ rest) fits.latest,
      codes_again t.codes rest (fits.few, fits.each),
    ) refl

-- ---- messages

-- the body that was read
record HasBody (r : Result (List ℕ) ReplicaMessageFault) (x : SnapshotText × List ℕ) : Type 0 where
  body : List ℕ
  was : r ≡ Ok body
  text : text_at body ≡ Ok x

body_there : (len : ℕ) (r : Result (List ℕ) ReplicaMessageFault) (x : SnapshotText × List ℕ) → text_due len r ≡ Ok x → HasBody r x
body_there len (Ok body) x e = record { body = body; was = refl; text = in_ok (len - 8) (text_at body) x e }
body_there len (Err f) x e = absurd cc

-- what is read of a snapshot
pub record IsReadText (bytes : List ℕ) (x : SnapshotText × List ℕ) : Type 0 where
  pub fits : IsSnapshotText x.0
  pub short : length (text_bytes x.0 ++ x.1) < 2 ^ 64
  pub spelling : bytes ≡ frame_bytes snapshot_header (text_bytes x.0 ++ x.1)
  pub table_fits : IsBytes x.1

pub text_spelled : (bytes : List ℕ) (x : SnapshotText × List ℕ) → IsBytes bytes → snapshot_from bytes ≡ Ok x → IsReadText bytes x
text_spelled bytes x fits e =
    let b = body_there (length bytes) (body_of snapshot_header bytes) x e in
    let k = body_spelled snapshot_header bytes b.body fits b.was in
    let s = text_takes b.body x (body_fits snapshot_header bytes b.body fits k.0) b.text in
    record {
      fits = s.1;
      short = subst (λ (y : List ℕ). length y < 2 ^ 64) s.0.parts k.1;
      spelling = k.0 ∙ ap (frame_bytes snapshot_header) s.0.parts;
      table_fits = s.0.rest_fits;
    }

pub text_read : (t : SnapshotText) (rest : List ℕ) → IsSnapshotText t → length (text_bytes t ++ rest) < 2 ^ 64
    → snapshot_from (frame_bytes snapshot_header (text_bytes t ++ rest)) ≡ Ok (t, rest)
text_read t rest fits short =
    let n = length (frame_bytes snapshot_header (text_bytes t ++ rest)) in
    ap (text_due n) (body_read snapshot_header (text_bytes t ++ rest) (lit< tt) short)
    ∙ ap (in_message (n - 8)) (text_again t rest fits)
