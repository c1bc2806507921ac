-- The text of an offer that is read is spelled so, and what is spelled so is read.
use Rattle.std.proofs.Common.{◌≡◌, ℕ, ◌^◌, ◌<◌, Bool, true, false, cond, List, [], ◌∷◌, ◌++◌, length, Result, Ok, Err, refl, sym, ap, subst, ◌∙◌, append_assoc, lit<}
use Rattle.std.specs.Prelude.{◌==◌}
use Rattle.std.specs.Int.{w64, to_le_bytes}
use Rattle.std.proofs.lemmas.List.{append-nil}
use Rattle.exchange_codec.specs.declared.fault.Fault.{Fault}
use Rattle.exchange_codec.specs.declared.fault.FieldFault.TheVariants.{Trailing}
use Rattle.exchange_codec.specs.declared.fault.ReadError.{ReadError}
use Rattle.exchange_codec.specs.declared.fault.ReadError.TheVariants as errors
use Rattle.exchange_codec.specs.declared.offers.OfferHead.{OfferHead}
use Rattle.refusals.specs.Answers.{◌>>=◌}
use Rattle.exchange_codec.specs.Reading.{Fails, wrong, number_at, header_at, ended}
use Rattle.exchange_codec.specs.Names.{side_byte, side_id_at}
use Rattle.exchange_codec.specs.Rows.{RowText}
use Rattle.exchange_codec.specs.Tables.{table_bytes, rows_at, whole_rows}
use Rattle.exchange_codec.specs.laws.Tables.{rows_take, rows_again}
use Rattle.exchange_codec.specs.Offers.{offers_header, OfferText, head_bytes, offer_bytes, IsText, head_at, offer_at, whole_offer}
use Rattle.exchange_codec.specs.laws.Fields.{IsBytes, bind_ok, ok_is, Takes, Takes-then, wide64, number_takes, number_again, header_takes, header_again, ended_ok}
use Rattle.exchange_codec.specs.laws.Names.{side_takes, side_again}

head_takes : (bytes : List ℕ) (x : OfferHead × List ℕ) → IsBytes bytes → head_at bytes ≡ Ok x
    → Takes bytes (head_bytes x.0) x.1 × (x.0.number < 2 ^ 64) × (x.0.seed < 2 ^ 64) × (x.0.uptime < 2 ^ 64)
unfolding head_at
head_takes bytes x fits e =
    let s = bind_ok (side_id_at bytes) (λ side. number_at w64 side.1 >>= λ number. number_at w64 number.1 >>= λ seed. number_at w64 seed.1 >>= λ uptime. Ok (record { side = side.0; number = number.0; seed = seed.0; uptime = uptime.0 }, uptime.1)) x e in
    let n = bind_ok (number_at w64 s.0.1) (λ number. number_at w64 number.1 >>= λ seed. number_at w64 seed.1 >>= λ uptime. Ok (record { side = s.0.0; number = number.0; seed = seed.0; uptime = uptime.0 }, uptime.1)) x s.2 in
    let d = bind_ok (number_at w64 n.0.1) (λ seed. number_at w64 seed.1 >>= λ uptime. Ok (record { side = s.0.0; number = n.0.0; seed = seed.0; uptime = uptime.0 }, uptime.1)) x n.2 in
    let u = bind_ok (number_at w64 d.0.1) (λ uptime. Ok (record { side = s.0.0; number = n.0.0; seed = d.0.0; uptime = uptime.0 }, uptime.1)) x d.2 in
    let ts = side_takes bytes s.0 fits s.1 in
    let tn = number_takes w64 (2 ^ 64) wide64 s.0.1 n.0.0 n.0.1 ts.rest_fits n.1 in
    let td = number_takes w64 (2 ^ 64) wide64 n.0.1 d.0.0 d.0.1 tn.0.rest_fits d.1 in
    let tu = number_takes w64 (2 ^ 64) wide64 d.0.1 u.0.0 u.0.1 td.0.rest_fits u.1 in
    let e2 = Takes-then n.0.1 (to_le_bytes w64 d.0.0) d.0.1 (to_le_bytes w64 u.0.0) u.0.1 td.0 tu.0 in
    let e1 = Takes-then s.0.1 (to_le_bytes w64 n.0.0) n.0.1 (to_le_bytes w64 d.0.0 ++ to_le_bytes w64 u.0.0) u.0.1 tn.0 e2 in
    let e0 = Takes-then bytes (side_byte s.0.0 ∷ []) s.0.1 (to_le_bytes w64 n.0.0 ++ (to_le_bytes w64 d.0.0 ++ to_le_bytes w64 u.0.0)) u.0.1 ts e1 in
    let made : OfferHead × List ℕ = (record { side = s.0.0; number = n.0.0; seed = d.0.0; uptime = u.0.0 }, u.0.1) in
    subst (λ (y : OfferHead × List ℕ). Takes bytes (head_bytes y.0) y.1 × (y.0.number < 2 ^ 64) × (y.0.seed < 2 ^ 64) × (y.0.uptime < 2 ^ 64)) {x = made} (ok_is made x u.2)
    (e0, tn.1, td.1, tu.1)

head_again : (h : OfferHead) (rest : List ℕ) → h.number < 2 ^ 64 → h.seed < 2 ^ 64 → h.uptime < 2 ^ 64
    → head_at (head_bytes h ++ rest) ≡ Ok (h, rest)
unfolding head_at
head_again h rest number seed uptime =
    let regrouped : head_bytes h ++ rest
    ≡ side_byte h.side ∷ (to_le_bytes w64 h.number ++ (to_le_bytes w64 h.seed ++ (to_le_bytes w64 h.uptime ++ rest))) =
    ap (λ (x : List ℕ). side_byte h.side ∷ x) (append_assoc (to_le_bytes w64 h.number) (to_le_bytes w64 h.seed ++ to_le_bytes w64 h.uptime) rest
    ∙ ap (λ (x : List ℕ). to_le_bytes w64 h.number ++ x) (append_assoc (to_le_bytes w64 h.seed) (to_le_bytes w64 h.uptime) rest)) in
    ap head_at regrouped
    ∙ rw (
      side_again h.side (to_le_bytes w64 h.number ++ (to_le_bytes w64 h.seed ++ (to_le_bytes w64 h.uptime ++ rest))),
      number_again w64 (2 ^ 64) wide64 h.number (to_le_bytes w64 h.seed ++ (to_le_bytes w64 h.uptime ++ rest)) number,
      number_again w64 (2 ^ 64) wide64 h.seed (to_le_bytes w64 h.uptime ++ rest) seed,
      number_again w64 (2 ^ 64) wide64 h.uptime rest uptime,
    ) refl

offer_takes : (bytes : List ℕ) (x : OfferText × List ℕ) → IsBytes bytes → offer_at bytes ≡ Ok x
    → Takes bytes (offer_bytes x.0) x.1 × IsText x.0
unfolding offer_at
offer_takes bytes x fits e =
    let h = bind_ok (header_at offers_header bytes) (λ rest. head_at rest >>= λ head. rows_at head.1 >>= λ rows. Ok (record { head = head.0; rows = rows.0 }, rows.1)) x e in
    let d = bind_ok (head_at h.0) (λ head. rows_at head.1 >>= λ rows. Ok (record { head = head.0; rows = rows.0 }, rows.1)) x h.2 in
    let m = bind_ok (rows_at d.0.1) (λ rows. Ok (record { head = d.0.0; rows = rows.0 }, rows.1)) x d.2 in
    let th = header_takes offers_header bytes h.0 fits h.1 in
    let td = head_takes h.0 d.0 th.rest_fits d.1 in
    let tm = rows_take d.0.1 m.0 td.0.rest_fits m.1 in
    let e1 = Takes-then h.0 (head_bytes d.0.0) d.0.1 (table_bytes m.0.0) m.0.1 td.0 tm.0 in
    let e0 = Takes-then bytes (to_le_bytes w64 offers_header) h.0 (head_bytes d.0.0 ++ table_bytes m.0.0) m.0.1 th e1 in
    let made : OfferText × List ℕ = (record { head = d.0.0; rows = m.0.0 }, m.0.1) in
    subst (λ (y : OfferText × List ℕ). Takes bytes (offer_bytes y.0) y.1 × IsText y.0) {x = made} (ok_is made x m.2)
    (e0, record { head = record { number = td.1; seed = td.2; uptime = td.3 }; rows = tm.1 })

offer_again : (o : OfferText) (rest : List ℕ) → IsText o → offer_at (offer_bytes o ++ rest) ≡ Ok (o, rest)
unfolding offer_at
offer_again o rest fits =
    let regrouped : offer_bytes o ++ rest ≡ to_le_bytes w64 offers_header ++ (head_bytes o.head ++ (table_bytes o.rows ++ rest)) =
    append_assoc (to_le_bytes w64 offers_header) (head_bytes o.head ++ table_bytes o.rows) rest
    ∙ ap (λ (x : List ℕ). to_le_bytes w64 offers_header ++ x) (append_assoc (head_bytes o.head) (table_bytes o.rows) rest) in
    ap offer_at regrouped
    ∙ rw (
      header_again offers_header (head_bytes o.head ++ (table_bytes o.rows ++ rest)) (lit< tt),
      head_again o.head (table_bytes o.rows ++ rest) fits.head.number fits.head.seed fits.head.uptime,
      rows_again o.rows rest fits.rows,
    ) refl

pub text_spelled : (bytes : List ℕ) (o : OfferText) → IsBytes bytes → whole_offer bytes ≡ Ok o → IsText o × (bytes ≡ offer_bytes o)
unfolding whole_offer
text_spelled bytes o fits e =
    let a = bind_ok (offer_at bytes) ended o e in
    let g = ended_ok a.0 o a.2 in
    let k = offer_takes bytes a.0 fits a.1 in
    let whole : bytes ≡ offer_bytes a.0.0 = k.0.parts ∙ ap (λ (r : List ℕ). offer_bytes a.0.0 ++ r) g.1
    ∙ append-nil (offer_bytes a.0.0) in
    subst (λ (t : OfferText). IsText t × (bytes ≡ offer_bytes t)) g.0 (k.1, whole)

pub text_read : (o : OfferText) → IsText o → whole_offer (offer_bytes o) ≡ Ok o
unfolding whole_offer
text_read o fits =
    let all : offer_at (offer_bytes o) ≡ Ok (o, []) =
    ap offer_at (sym (append-nil (offer_bytes o))) ∙ offer_again o [] fits in
    rw all refl

-- ---- an offer whose rows are all that follows its head

-- nothing follows a part of a text if nothing follows the text
ended_within : {A B : Type 0} (f : A → B) (read : Result (A × List ℕ) Fault)
    → ((read >>= λ x. Ok (f x.0, x.1)) >>= ended) ≡ ((read >>= ended) >>= λ y. Ok (f y))
ended_within f (Err e) = refl
ended_within f (Ok x) = by (length x.1 == 0)
  where
    by : (b : Bool) → cond b (Ok (f x.0)) (wrong Trailing x.1) ≡ (cond b (Ok x.0) (wrong Trailing x.1) >>= λ y. Ok (f y))
    by true = refl
    by false = refl

module _ (bytes rest after : List ℕ) (head : OfferHead) (is_header : header_at offers_header bytes ≡ Ok rest)
    (is_head : head_at rest ≡ Ok (head, after)) where
  by_rows : whole_offer bytes ≡ (whole_rows after >>= λ rows. Ok (record { head = head; rows = rows }))
  unfolding whole_offer offer_at whole_rows
  by_rows = rw (is_header, is_head) (ended_within (λ (rows : List RowText). record { head = head; rows = rows }) (rows_at after))

  pub head_and_rows : (rows : List RowText) → whole_rows after ≡ Ok rows
      → whole_offer bytes ≡ Ok (record { head = head; rows = rows })
  head_and_rows rows h = by_rows ∙ rw h refl

  pub head_and_fault : (e : ReadError) → Fails e (whole_rows after) → Fails e (whole_offer bytes)
  head_and_fault errors.Memory h = tt
  head_and_fault (errors.Fault f) h = by_rows ∙ rw h refl
