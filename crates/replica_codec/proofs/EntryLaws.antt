-- An entry that is read is spelled so, and what is spelled so is read.
use Rattle.std.proofs.Common.{Vec, Global, ◌≡◌, ℕ, zero, suc, ◌-◌, ◌^◌, ◌<◌, ◌≤◌, Bool, cond, List, [], ◌∷◌, ◌++◌, length, drop, Result, Ok, Err, refl, sym, ap, subst, ◌∙◌, append_assoc, arith, lit<}
use Rattle.std.specs.Prelude.{◌&&◌, IfOk, IsTrue, nat_lt, nat_le}
use Rattle.std.specs.Int.{w32, w64, to_le_bytes}
use Rattle.std.proofs.lemmas.Bool.{and_parts, leb-true}
use Rattle.std.proofs.lemmas.List.{append-nil}
use Rattle.clash_record.specs.declared.registrations.Registration.{Registration}
use Rattle.clash_record.specs.declared.registrations.ResolverId.{ResolverId}
use Rattle.clash_record.specs.declared.registrations.ResolverId.TheVariants.{Builtin, Program}
use Rattle.clash_record.specs.Name.{Name}
use Rattle.clash_record.specs.Registrations.{registration_on}
use Rattle.partition_table.specs.Tables.{most_names}
use Rattle.replica_law.specs.declared.position.Position.{Position}
use Rattle.exchange_codec.specs.declared.fault.Fault.{Fault}
use Rattle.exchange_codec.specs.declared.fault.FieldFault.TheVariants as wrongs
use Rattle.refusals.specs.Answers.{◌>>=◌}
use Rattle.exchange_codec.specs.Reading.{number_at, bytes_at, count_at, ended}
use Rattle.exchange_codec.specs.Names.{name_bytes, name_at}
use Rattle.exchange_codec.specs.Rows.{max_code, ResolverText, ByBuiltin, Named, Code, RowText, row_bytes, row_at, IsRow}
use Rattle.exchange_codec.specs.laws.Fields.{IsBytes, IsBytes-rest, bind_ok, guard_met, ok_is, Takes, Takes-then, wide32, wide64, number_takes, number_again, count_again, ended_ok}
use Rattle.exchange_codec.specs.laws.Names.{name_takes, name_again}
use Rattle.exchange_codec.specs.laws.Rows.{sized_takes, bytes_again, behind, row_takes, row_again}
use Rattle.replica.specs.declared.messages.Entry.{Entry}
use Rattle.replica_codec.specs.declared.fault.ReplicaMessageFault.{ReplicaMessageFault}
use Rattle.replica_codec.specs.Frames.{entry_header, frame_bytes, no_head, in_message, body_of}
use Rattle.replica_codec.specs.Entries.{sized_code, EditText, EntryText, edit_text, entry_text, IsKeptEdit, SpellsEntry, Registers, Unregisters, Uploads, Limits, Begins, position_bytes, plain, plain_row, registers, edit_bytes, entry_bytes, IsPosition, IsEditText, IsEntryText, position_at, register_at, limit_at, edit_at, entry_at, entry_in, entry_due, entry_from}
use Rattle.replica_codec.proofs.FrameLaws.{in_ok, body_spelled, body_read, body_fits, body_written, behind_head}

-- ---- positions

abbrev Placed : List ℕ → Position × List ℕ → Type 0
Placed bytes y = Takes bytes (position_bytes y.0) y.1 × IsPosition y.0

pub position_takes : (bytes : List ℕ) (x : Position × List ℕ) → IsBytes bytes → position_at bytes ≡ Ok x → Placed bytes x
unfolding position_at
position_takes bytes x fits e =
    let n = bind_ok (number_at w32 bytes) (λ node. number_at w64 node.1 >>= λ incarnation. number_at w64 incarnation.1 >>= λ number. number_at w64 number.1 >>= λ op. Ok (record { view = record { primary = record { node = node.0; incarnation = incarnation.0 }; number = number.0 }; op = op.0 }, op.1)) x e in
    let i = bind_ok (number_at w64 n.0.1) (λ incarnation. number_at w64 incarnation.1 >>= λ number. number_at w64 number.1 >>= λ op. Ok (record { view = record { primary = record { node = n.0.0; incarnation = incarnation.0 }; number = number.0 }; op = op.0 }, op.1)) x n.2 in
    let v = bind_ok (number_at w64 i.0.1) (λ number. number_at w64 number.1 >>= λ op. Ok (record { view = record { primary = record { node = n.0.0; incarnation = i.0.0 }; number = number.0 }; op = op.0 }, op.1)) x i.2 in
    let o = bind_ok (number_at w64 v.0.1) (λ op. Ok (record { view = record { primary = record { node = n.0.0; incarnation = i.0.0 }; number = v.0.0 }; op = op.0 }, op.1)) x v.2 in
    let tn = number_takes w32 (2 ^ 32) wide32 bytes n.0.0 n.0.1 fits n.1 in
    let ti = number_takes w64 (2 ^ 64) wide64 n.0.1 i.0.0 i.0.1 tn.0.rest_fits i.1 in
    let tv = number_takes w64 (2 ^ 64) wide64 i.0.1 v.0.0 v.0.1 ti.0.rest_fits v.1 in
    let to = number_takes w64 (2 ^ 64) wide64 v.0.1 o.0.0 o.0.1 tv.0.rest_fits o.1 in
    let e2 = Takes-then i.0.1 (to_le_bytes w64 v.0.0) v.0.1 (to_le_bytes w64 o.0.0) o.0.1 tv.0 to.0 in
    let e1 = Takes-then n.0.1 (to_le_bytes w64 i.0.0) i.0.1 (to_le_bytes w64 v.0.0 ++ to_le_bytes w64 o.0.0) o.0.1 ti.0 e2 in
    let e0 = Takes-then bytes (to_le_bytes w32 n.0.0) n.0.1 (to_le_bytes w64 i.0.0 ++ (to_le_bytes w64 v.0.0 ++ to_le_bytes w64 o.0.0)) o.0.1 tn.0 e1 in
    let made : Position × List ℕ =
    (record { view = record { primary = record { node = n.0.0; incarnation = i.0.0 }; number = v.0.0 }; op = o.0.0 }, o.0.1) in
    subst (Placed bytes) {x = made} (ok_is made x o.2)
    (e0, record { node = tn.1; incarnation = ti.1; number = tv.1; op = to.1 })

pub position_again : (p : Position) (rest : List ℕ) → IsPosition p → position_at (position_bytes p ++ rest) ≡ Ok (p, rest)
unfolding position_at
position_again p rest fits =
    let i = to_le_bytes w64 p.view.primary.incarnation in
    let v = to_le_bytes w64 p.view.number in
    let o = to_le_bytes w64 p.op in
    let regrouped : position_bytes p ++ rest
    ≡ to_le_bytes w32 p.view.primary.node ++ (to_le_bytes w64 p.view.primary.incarnation ++ (to_le_bytes w64 p.view.number ++ (to_le_bytes w64 p.op ++ rest))) =
    append_assoc (to_le_bytes w32 p.view.primary.node) (i ++ (v ++ o)) rest
    ∙ ap (λ (x : List ℕ). to_le_bytes w32 p.view.primary.node ++ x) (append_assoc i (v ++ o) rest
    ∙ ap (λ (x : List ℕ). i ++ x) (append_assoc v o rest)) in
    ap position_at regrouped
    ∙ rw (
      number_again w32 (2 ^ 32) wide32 p.view.primary.node (to_le_bytes w64 p.view.primary.incarnation ++ (to_le_bytes w64 p.view.number ++ (to_le_bytes w64 p.op ++ rest))) fits.node,
      number_again w64 (2 ^ 64) wide64 p.view.primary.incarnation (to_le_bytes w64 p.view.number ++ (to_le_bytes w64 p.op ++ rest)) fits.incarnation,
      number_again w64 (2 ^ 64) wide64 p.view.number (to_le_bytes w64 p.op ++ rest) fits.number,
      number_again w64 (2 ^ 64) wide64 p.op rest fits.op,
    ) refl

-- ---- edits

abbrev Read : List ℕ → EditText × List ℕ → Type 0
Read bytes y = Takes bytes (edit_bytes y.0) y.1 × IsEditText y.0

-- a row without code is that of its registration
by_resolver : (row : RowText) (resolver : ResolverId) → row.resolver ≡ plain resolver
    → row ≡ plain_row row.name (registration_on row.terms resolver)
by_resolver row resolver is =
    ap (λ (r : ResolverText). record { name = row.name; terms = row.terms; resolver = r }) is

abbrev gives : EditText × List ℕ → Result (EditText × List ℕ) Fault
gives x = Ok x

registered_as : (bytes rest : List ℕ) (row : RowText) (resolver : ResolverId) (x : EditText × List ℕ)
    → row.resolver ≡ plain resolver → gives (Registers row.name (registration_on row.terms resolver), rest) ≡ gives x
    → Takes bytes (row_bytes row) rest → IsRow row → Read (0 ∷ bytes) x
registered_as bytes rest row resolver x is e t fits =
    let same = by_resolver row resolver is in
    let made : EditText × List ℕ = (Registers row.name (registration_on row.terms resolver), rest) in
    let text : Takes bytes (row_bytes (plain_row row.name (registration_on row.terms resolver))) rest =
    subst (λ (r : RowText). Takes bytes (row_bytes r) rest) same t in
    subst (Read (0 ∷ bytes)) {x = made} (ok_is made x e)
    (behind 0 bytes (row_bytes (plain_row row.name (registration_on row.terms resolver))) rest text, subst IsRow same fits)

registered : (bytes rest : List ℕ) (row : RowText) (by : ResolverText) (x : EditText × List ℕ) → row.resolver ≡ by
    → registers bytes (row, rest) by ≡ Ok x → Takes bytes (row_bytes row) rest → IsRow row → Read (0 ∷ bytes) x
registered bytes rest row (ByBuiltin b) x is e t fits = registered_as bytes rest row (Builtin b) x is e t fits
registered bytes rest row (Named id) x is e t fits = registered_as bytes rest row (Program id) x is e t fits
registered bytes rest row (Code code) x is e t fits = absurd cc

register_takes : (bytes : List ℕ) (x : EditText × List ℕ) → IsBytes bytes → register_at bytes ≡ Ok x → Read (0 ∷ bytes) x
unfolding register_at
register_takes bytes x fits e =
    let a = bind_ok (row_at bytes) (λ row. registers bytes row row.0.resolver) x e in
    let t = row_takes bytes a.0 fits a.1 in
    registered bytes a.0.1 a.0.0 a.0.0.resolver x refl a.2 t.0 t.1

registers_plain : (bytes rest : List ℕ) (row : RowText) (resolver : ResolverId)
    → registers bytes (row, rest) (plain resolver) ≡ Ok (Registers row.name (registration_on row.terms resolver), rest)
registers_plain bytes rest row (Builtin b) = refl
registers_plain bytes rest row (Program id) = refl

register_again : (name : Name) (r : Registration) (rest : List ℕ) → IsRow (plain_row name r)
    → register_at (row_bytes (plain_row name r) ++ rest) ≡ Ok (Registers name r, rest)
unfolding register_at
register_again name r rest fits =
    let bytes = row_bytes (plain_row name r) ++ rest in
    ap (λ (read : Result (RowText × List ℕ) Fault). read >>= λ row. registers bytes row row.0.resolver)
    (row_again (plain_row name r) rest fits)
    ∙ registers_plain bytes rest (plain_row name r) r.resolver

pub limit_takes : (bytes : List ℕ) (x : ℕ × List ℕ) → IsBytes bytes → limit_at bytes ≡ Ok x
    → Takes bytes (to_le_bytes w32 x.0) x.1 × IsTrue (nat_lt 0 x.0 && nat_le x.0 most_names)
unfolding limit_at
limit_takes bytes x fits e =
    let a = bind_ok (number_at w32 bytes) (λ n. cond (nat_lt 0 n.0 && nat_le n.0 most_names) (Ok n) (Err (record { what = wrongs.Count; left = length bytes }))) x e in
    let g = guard_met (nat_lt 0 a.0.0 && nat_le a.0.0 most_names) (record { what = wrongs.Count; left = length bytes }) a.0 x a.2 in
    let t = number_takes w32 (2 ^ 32) wide32 bytes a.0.0 a.0.1 fits a.1 in
    subst (λ (y : ℕ × List ℕ). Takes bytes (to_le_bytes w32 y.0) y.1 × IsTrue (nat_lt 0 y.0 && nat_le y.0 most_names)) g.1 (t.0, g.0)

pub limit_again : (n : ℕ) (rest : List ℕ) → IsTrue (nat_lt 0 n && nat_le n most_names) → limit_at (to_le_bytes w32 n ++ rest) ≡ Ok (n, rest)
unfolding limit_at
limit_again n rest h =
    let few : n ≤ most_names = leb-true n most_names (and_parts (nat_lt 0 n) (nat_le n most_names) h).1 in
    let short : n < 2 ^ 32 = omega (arith, few) in
    ap (λ (read : Result (ℕ × List ℕ) Fault). read >>= λ m. cond (nat_lt 0 m.0 && nat_le m.0 most_names) (Ok m) (Err (record { what = wrongs.Count; left = length (to_le_bytes w32 n ++ rest) })))
    (number_again w32 (2 ^ 32) wide32 n rest short)
    ∙ ap (λ (b : Bool). cond b (Ok (n, rest)) (Err (record { what = wrongs.Count; left = length (to_le_bytes w32 n ++ rest) }))) h

pub edit_takes : (bytes : List ℕ) (x : EditText × List ℕ) → IsBytes bytes → edit_at bytes ≡ Ok x → Read bytes x
unfolding edit_at
edit_takes [] x fits e = absurd cc
edit_takes (zero ∷ rest) x fits e = register_takes rest x (IsBytes-rest 0 rest fits) e
edit_takes (suc zero ∷ rest) x fits e =
    let a = bind_ok (name_at rest) (λ name. Ok (Unregisters name.0, name.1)) x e in
    let t = name_takes rest a.0 (IsBytes-rest 1 rest fits) a.1 in
    subst (Read (1 ∷ rest)) (ok_is (Unregisters a.0.0, a.0.1) x a.2) (behind 1 rest (name_bytes a.0.0) a.0.1 t.0, t.1)
edit_takes (suc (suc zero) ∷ rest) x fits e =
    let a = bind_ok (count_at max_code rest) (λ len. bytes_at len.0 len.1 >>= λ code. Ok (Uploads code.0, code.1)) x e in
    let b = bind_ok (bytes_at a.0.0 a.0.1) (λ code. Ok (Uploads code.0, code.1)) x a.2 in
    let t = sized_takes rest a.0 b.0 (IsBytes-rest 2 rest fits) a.1 b.1 in
    subst (Read (2 ∷ rest)) (ok_is (Uploads b.0.0, b.0.1) x b.2) (behind 2 rest (sized_code b.0.0) b.0.1 t.0, t.1)
edit_takes (suc (suc (suc zero)) ∷ rest) x fits e =
    let a = bind_ok (limit_at rest) (λ n. Ok (Limits n.0, n.1)) x e in
    let t = limit_takes rest a.0 (IsBytes-rest 3 rest fits) a.1 in
    subst (Read (3 ∷ rest)) (ok_is (Limits a.0.0, a.0.1) x a.2) (behind 3 rest (to_le_bytes w32 a.0.0) a.0.1 t.0, t.1)
edit_takes (suc (suc (suc (suc zero))) ∷ rest) x fits e =
    let a = bind_ok (number_at w64 rest) (λ n. Ok (Begins n.0, n.1)) x e in
    let t = number_takes w64 (2 ^ 64) wide64 rest a.0.0 a.0.1 (IsBytes-rest 4 rest fits) a.1 in
    subst (Read (4 ∷ rest)) (ok_is (Begins a.0.0, a.0.1) x a.2) (behind 4 rest (to_le_bytes w64 a.0.0) a.0.1 t.0, t.1)
edit_takes (suc (suc (suc (suc (suc n)))) ∷ rest) x fits e = absurd cc

pub edit_again : (t : EditText) (rest : List ℕ) → IsEditText t → edit_at (edit_bytes t ++ rest) ≡ Ok (t, rest)
unfolding edit_at
edit_again (Registers name r) rest h = register_again name r rest h
edit_again (Unregisters name) rest h = rw (name_again name rest h) refl
edit_again (Uploads code) rest h =
    ap (λ (r : List ℕ). edit_at (2 ∷ r)) (append_assoc (to_le_bytes w32 (length code)) code rest)
    ∙ rw (count_again max_code (length code) (code ++ rest) h (lit< tt), bytes_again (length code) code rest refl) refl
edit_again (Limits n) rest h = rw (limit_again n rest h) refl
edit_again (Begins n) rest h = rw (number_again w64 (2 ^ 64) wide64 n rest h) refl

-- ---- entries

-- a position and an edit
record Fits (t : EntryText) : Type 0 where
  at : IsPosition t.at
  edit : IsEditText t.edit

entry_takes : (bytes : List ℕ) (x : EntryText × List ℕ) → IsBytes bytes → entry_at bytes ≡ Ok x
    → Takes bytes (entry_bytes x.0) x.1 × Fits x.0
unfolding entry_at
entry_takes bytes x fits e =
    let p = bind_ok (position_at bytes) (λ at. edit_at at.1 >>= λ edit. Ok (record { at = at.0; edit = edit.0 }, edit.1)) x e in
    let d = bind_ok (edit_at p.0.1) (λ edit. Ok (record { at = p.0.0; edit = edit.0 }, edit.1)) x p.2 in
    let tp = position_takes bytes p.0 fits p.1 in
    let td = edit_takes p.0.1 d.0 tp.0.rest_fits d.1 in
    let made : EntryText × List ℕ = (record { at = p.0.0; edit = d.0.0 }, d.0.1) in
    subst (λ (y : EntryText × List ℕ). Takes bytes (entry_bytes y.0) y.1 × Fits y.0) {x = made} (ok_is made x d.2)
    (Takes-then bytes (position_bytes p.0.0) p.0.1 (edit_bytes d.0.0) d.0.1 tp.0 td.0, record { at = tp.1; edit = td.1 })

entry_again : (t : EntryText) (rest : List ℕ) → IsPosition t.at → IsEditText t.edit
    → entry_at (entry_bytes t ++ rest) ≡ Ok (t, rest)
unfolding entry_at
entry_again t rest at edit =
    ap entry_at (append_assoc (position_bytes t.at) (edit_bytes t.edit) rest)
    ∙ rw (position_again t.at (edit_bytes t.edit ++ rest) at, edit_again t.edit rest edit) refl

in_spelled : (body : List ℕ) (t : EntryText) → IsBytes body → entry_in body ≡ Ok t → Fits t × (body ≡ entry_bytes t)
unfolding entry_in
in_spelled body t fits e =
    let a = bind_ok (entry_at body) ended t e in
    let g = ended_ok a.0 t a.2 in
    let k = entry_takes body a.0 fits a.1 in
    let whole : body ≡ entry_bytes a.0.0 =
    k.0.parts ∙ ap (λ (r : List ℕ). entry_bytes a.0.0 ++ r) g.1 ∙ append-nil (entry_bytes a.0.0) in
    subst (λ (x : EntryText). Fits x × (body ≡ entry_bytes x)) g.0 (k.1, whole)

in_read : (t : EntryText) → IsPosition t.at → IsEditText t.edit → entry_in (entry_bytes t) ≡ Ok t
unfolding entry_in
in_read t at edit =
    let all : entry_at (entry_bytes t) ≡ Ok (t, []) =
    ap entry_at (sym (append-nil (entry_bytes t))) ∙ entry_again t [] at edit in
    rw all refl

-- ---- messages

-- the body that was read
record HasBody (len : ℕ) (r : Result (List ℕ) ReplicaMessageFault) (t : EntryText) : Type 0 where
  body : List ℕ
  was : r ≡ Ok body
  text : entry_in body ≡ Ok t

body_there : (len : ℕ) (r : Result (List ℕ) ReplicaMessageFault) (t : EntryText) → entry_due len r ≡ Ok t → HasBody len r t
body_there len (Ok body) t e = record { body = body; was = refl; text = in_ok (len - 8) (entry_in body) t e }
body_there len (Err f) t e = absurd cc

pub entry_spelled : (bytes : List ℕ) (t : EntryText) → IsBytes bytes → entry_from bytes ≡ Ok t
    → IsEntryText t × (bytes ≡ frame_bytes entry_header (entry_bytes t))
entry_spelled bytes t fits e =
    let b = body_there (length bytes) (body_of entry_header bytes) t e in
    let k = body_spelled entry_header bytes b.body fits b.was in
    let s = in_spelled b.body t (body_fits entry_header bytes b.body fits k.0) b.text in (
      record { at = s.0.at; edit = s.0.edit; short = subst (λ (x : List ℕ). length x < 2 ^ 64) s.1 k.1 },
      k.0 ∙ ap (frame_bytes entry_header) s.1,
    )

pub entry_read : (t : EntryText) → IsEntryText t → entry_from (frame_bytes entry_header (entry_bytes t)) ≡ Ok t
entry_read t fits =
    let n = length (frame_bytes entry_header (entry_bytes t)) in
    ap (entry_due n) (body_read entry_header (entry_bytes t) (lit< tt) fits.short)
    ∙ ap (in_message (n - 8)) (in_read t fits.at fits.edit)

-- ---- entries that are written

pub encoded : {E : Type 0} (entry : Entry) (a b c : List ℕ) (r : Result (Vec ℕ Global) E) → a ≡ no_head
    → b ≡ a ++ position_bytes entry.at → c ≡ b ++ edit_bytes (edit_text entry.edit) → IsPosition entry.at
    → IsEditText (edit_text entry.edit) → IsKeptEdit entry.edit → length c < 2 ^ 64
    → IfOk r (λ (v : Vec ℕ Global). v.items ≡ frame_bytes entry_header (drop 24 c))
    → IfOk r (λ (v : Vec ℕ Global). SpellsEntry v.items entry)
encoded entry a b c (Ok v) none wrote_b wrote_c at edit kept short h =
    let placed : c ≡ no_head ++ entry_bytes (entry_text entry) =
    wrote_c ∙ ap (λ (x : List ℕ). x ++ edit_bytes (edit_text entry.edit)) (wrote_b ∙ ap (λ (x : List ℕ). x ++ position_bytes entry.at) none)
    ∙ append_assoc no_head (position_bytes entry.at) (edit_bytes (edit_text entry.edit)) in
    record {
      is_text = record { at = at; edit = edit; short = behind_head c (entry_bytes (entry_text entry)) placed short };
      kept = kept;
      spelling = h ∙ ap (frame_bytes entry_header) (body_written c (entry_bytes (entry_text entry)) placed);
    }
encoded entry a b c (Err e) none wrote_b wrote_c at edit kept short h = tt
