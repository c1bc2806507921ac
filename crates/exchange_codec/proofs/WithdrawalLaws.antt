-- A list that is read is spelled so, and what is spelled so is read.
use Rattle.std.proofs.Common.{◌≡◌, ℕ, zero, suc, ◌+◌, ◌^◌, ◌<◌, ◌≤◌, Bool, true, false, cond, List, [], ◌∷◌, ◌++◌, length, take, drop, Option, Some, None, Result, Ok, Err, refl, sym, ap, subst, ◌∙◌, append_assoc, arith, lit<, inl, inr}
use Rattle.std.specs.Prelude.{IsTrue, IfOk, ◌||◌, min}
use Rattle.std.specs.List.{flat_map, AllByRecursion, IsDistinct}
use Rattle.std.specs.Int.{w32, w64, to_le_bytes}
use Rattle.std.proofs.Math.Nat.{min-eq_left, min-eq_right}
use Rattle.std.proofs.lemmas.Bool.{cases_lt}
use Rattle.std.proofs.lemmas.Grind.{flat_map-append}
use Rattle.std.proofs.lemmas.List.{append-nil, length-take, length-drop, length-append, take-append-drop}
use Rattle.std.proofs.lemmas.List.Concat.{flat_map-cons}
use Rattle.clash_record.specs.Name.{Name, is_name}
use Rattle.partition_table.specs.Tables.{most_names, is_in}
use Rattle.partition_table.specs.Tables.{is_same_name as same_name}
use Rattle.partition_table.specs.laws.Sameness.{equivalent_by, name_decides}
use Rattle.exchange_law.specs.Lists.{IsNameList}
use Rattle.exchange_law.specs.Sides.{Withdrawals}
use Rattle.exchange_codec.specs.declared.fault.Fault.{Fault}
use Rattle.exchange_codec.specs.declared.fault.MessageFault.{MessageFault}
use Rattle.exchange_codec.specs.declared.fault.ReadError.{ReadError}
use Rattle.exchange_codec.specs.declared.fault.ReadError.TheVariants as errors
use Rattle.refusals.specs.Answers.{◌>>=◌, ReturnsOrRunsOut}
use Rattle.exchange_codec.specs.Faults.{message_fault_number}
use Rattle.exchange_codec.specs.Placing.{told_of}
use Rattle.exchange_codec.specs.Reading.{Fails, number_at, header_at, count_at, many_at, ended}
use Rattle.exchange_codec.specs.Names.{side_byte, name_bytes, side_id_at, name_at}
use Rattle.exchange_codec.specs.Withdrawals.{withdrawals_header, counted_bytes, withdrawals_bytes, names_bytes, first_again, SpellsWithdrawals, list_at, whole_list, list_due, unless_name_again}
use Rattle.exchange_codec.specs.laws.Fields.{IsBytes, bind_ok, ok_is, Takes, Takes-then, wide64, number_takes, number_again, header_takes, header_again, count_takes, count_again, ended_ok}
use Rattle.exchange_codec.specs.laws.Names.{side_takes, side_again, name_takes, name_again}
use Rattle.exchange_codec.specs.laws.Many.{many_take, many_again}

abbrev Named : Name → Type 0
Named name = IsTrue (is_name name)

-- all of a list but that no name stands twice
pub record IsListText (w : Withdrawals) : Type 0 where
  pub number : w.number < 2 ^ 64
  pub few : length w.names ≤ most_names
  pub named : AllByRecursion (λ name. IsTrue (is_name name)) w.names

list_takes : (bytes : List ℕ) (x : Withdrawals × List ℕ) → IsBytes bytes → list_at bytes ≡ Ok x
    → Takes bytes (withdrawals_bytes x.0) x.1 × IsListText x.0
unfolding list_at
list_takes bytes x fits e =
    let h = bind_ok (header_at withdrawals_header bytes) (λ rest. side_id_at rest >>= λ side. number_at w64 side.1 >>= λ number. count_at most_names number.1 >>= λ count. many_at name_at count.0 count.1 >>= λ names. Ok (record { side = side.0; number = number.0; names = names.0 }, names.1)) x e in
    let s = bind_ok (side_id_at h.0) (λ side. number_at w64 side.1 >>= λ number. count_at most_names number.1 >>= λ count. many_at name_at count.0 count.1 >>= λ names. Ok (record { side = side.0; number = number.0; names = names.0 }, names.1)) x h.2 in
    let n = bind_ok (number_at w64 s.0.1) (λ number. count_at most_names number.1 >>= λ count. many_at name_at count.0 count.1 >>= λ names. Ok (record { side = s.0.0; number = number.0; names = names.0 }, names.1)) x s.2 in
    let c = bind_ok (count_at most_names n.0.1) (λ count. many_at name_at count.0 count.1 >>= λ names. Ok (record { side = s.0.0; number = n.0.0; names = names.0 }, names.1)) x n.2 in
    let m = bind_ok (many_at name_at c.0.0 c.0.1) (λ names. Ok (record { side = s.0.0; number = n.0.0; names = names.0 }, names.1)) x c.2 in
    let th = header_takes withdrawals_header bytes h.0 fits h.1 in
    let ts = side_takes h.0 s.0 th.rest_fits s.1 in
    let tn = number_takes w64 (2 ^ 64) wide64 s.0.1 n.0.0 n.0.1 ts.rest_fits n.1 in
    let tc = count_takes most_names n.0.1 c.0.0 c.0.1 tn.0.rest_fits c.1 in
    let tm = many_take name_at name_bytes Named name_takes c.0.0 c.0.1 m.0 tc.0.rest_fits m.1 in
    let counted : Takes n.0.1 (to_le_bytes w32 (length m.0.0)) c.0.1 = subst (λ (k : ℕ). Takes n.0.1 (to_le_bytes w32 k) c.0.1) (sym tm.1) tc.0 in
    let e3 = Takes-then n.0.1 (to_le_bytes w32 (length m.0.0)) c.0.1 (flat_map name_bytes m.0.0) m.0.1 counted tm.0 in
    let e2 = Takes-then s.0.1 (to_le_bytes w64 n.0.0) n.0.1 (to_le_bytes w32 (length m.0.0) ++ flat_map name_bytes m.0.0) m.0.1 tn.0 e3 in
    let e1 = Takes-then h.0 (side_byte s.0.0 ∷ []) s.0.1 (to_le_bytes w64 n.0.0 ++ (to_le_bytes w32 (length m.0.0) ++ flat_map name_bytes m.0.0)) m.0.1 ts e2 in
    let e0 = Takes-then bytes (to_le_bytes w64 withdrawals_header) h.0 (side_byte s.0.0 ∷ (to_le_bytes w64 n.0.0 ++ (to_le_bytes w32 (length m.0.0) ++ flat_map name_bytes m.0.0))) m.0.1 th e1 in
    let made : Withdrawals × List ℕ = (record { side = s.0.0; number = n.0.0; names = m.0.0 }, m.0.1) in
    let few : length m.0.0 ≤ most_names = omega (arith, tm.1, tc.1) in
    subst (λ (y : Withdrawals × List ℕ). Takes bytes (withdrawals_bytes y.0) y.1 × IsListText y.0) (ok_is made x m.2)
    (e0, record { number = tn.1; few = few; named = tm.2 })

regrouped : (w : Withdrawals) (rest : List ℕ) → withdrawals_bytes w ++ rest
    ≡ to_le_bytes w64 withdrawals_header ++ (side_byte w.side ∷ (to_le_bytes w64 w.number ++ (to_le_bytes w32 (length w.names) ++ (flat_map name_bytes w.names ++ rest))))
regrouped w rest =
    let names = flat_map name_bytes w.names in
    let count = to_le_bytes w32 (length w.names) in
    append_assoc (to_le_bytes w64 withdrawals_header) (side_byte w.side ∷ (to_le_bytes w64 w.number ++ (count ++ names))) rest
    ∙ ap (λ (x : List ℕ). to_le_bytes w64 withdrawals_header ++ (side_byte w.side ∷ x)) (append_assoc (to_le_bytes w64 w.number) (count ++ names) rest
    ∙ ap (λ (x : List ℕ). to_le_bytes w64 w.number ++ x) (append_assoc count names rest))

list_again : (w : Withdrawals) (rest : List ℕ) → IsListText w → list_at (withdrawals_bytes w ++ rest) ≡ Ok (w, rest)
unfolding list_at
list_again w rest fits =
    ap list_at (regrouped w rest)
    ∙ rw (
      header_again withdrawals_header (side_byte w.side ∷ (to_le_bytes w64 w.number ++ (to_le_bytes w32 (length w.names) ++ (flat_map name_bytes w.names ++ rest)))) (lit< tt),
      side_again w.side (to_le_bytes w64 w.number ++ (to_le_bytes w32 (length w.names) ++ (flat_map name_bytes w.names ++ rest))),
      number_again w64 (2 ^ 64) wide64 w.number (to_le_bytes w32 (length w.names) ++ (flat_map name_bytes w.names ++ rest)) fits.number,
      count_again most_names (length w.names) (flat_map name_bytes w.names ++ rest) fits.few (lit< tt),
      many_again name_at name_bytes Named name_again w.names rest fits.named,
    ) refl

pub list_spelled : (bytes : List ℕ) (w : Withdrawals) → IsBytes bytes → whole_list bytes ≡ Ok w
    → first_again [] 0 w.names ≡ None → SpellsWithdrawals bytes w
unfolding whole_list
list_spelled bytes w fits e apart =
    let a = bind_ok (list_at bytes) ended w e in
    let g = ended_ok a.0 w a.2 in
    let k = list_takes bytes a.0 fits a.1 in
    let whole : bytes ≡ withdrawals_bytes a.0.0 = k.0.parts ∙ ap (λ (r : List ℕ). withdrawals_bytes a.0.0 ++ r) g.1
    ∙ append-nil (withdrawals_bytes a.0.0) in
    let text : IsListText w = subst IsListText g.0 k.1 in
    record {
      is_list = record { number = text.number; few = text.few; named = text.named; apart = apart };
      spelling = whole ∙ ap withdrawals_bytes g.0;
    }

pub list_read : (bytes : List ℕ) (w : Withdrawals) → SpellsWithdrawals bytes w → whole_list bytes ≡ Ok w
unfolding whole_list
list_read bytes w s =
    let text : IsListText w = record { number = s.is_list.number; few = s.is_list.few; named = s.is_list.named } in
    let all : list_at (withdrawals_bytes w) ≡ Ok (w, []) =
    ap list_at (sym (append-nil (withdrawals_bytes w))) ∙ list_again w [] text in
    ap (λ (b : List ℕ). list_at b >>= ended) s.spelling ∙ rw all refl

abbrev ok_list : Withdrawals → Result Withdrawals MessageFault
ok_list w = Ok w

same_ok : (w v : Withdrawals) → ok_list w ≡ ok_list v → w ≡ v
same_ok w v e = cc

-- a list that is answered has no name twice
pub answered_apart : (o : Option ℕ) (w v : Withdrawals) → unless_name_again o w ≡ Ok v → (o ≡ None) × (w ≡ v)
answered_apart None w v e = (refl, same_ok w v e)
answered_apart (Some k) w v e = absurd cc

-- what is due for bytes is the list that they spell, if they spell one
pub list_is_due : (bytes : List ℕ) (w : Withdrawals) → SpellsWithdrawals bytes w → list_due (length bytes) (whole_list bytes) ≡ Ok w
list_is_due bytes w s =
    ap (list_due (length bytes)) (list_read bytes w s) ∙ ap (λ (o : Option ℕ). unless_name_again o w) s.is_list.apart

pub due_is_spelled : (bytes : List ℕ) (w : Withdrawals) → IsBytes bytes → list_due (length bytes) (whole_list bytes) ≡ Ok w
    → SpellsWithdrawals bytes w
due_is_spelled bytes w fits due = by_reading (whole_list bytes) refl due
  where
    by_reading : (read : Result Withdrawals Fault) → whole_list bytes ≡ read → list_due (length bytes) read ≡ Ok w
        → SpellsWithdrawals bytes w
    by_reading (Ok text) e h =
        let a = answered_apart (first_again [] 0 text.names) text w h in
        subst (SpellsWithdrawals bytes) a.1 (list_spelled bytes text fits e a.0)
    by_reading (Err f) e h = absurd cc

-- ---- what is answered, where the text is read and a mirror then answers

pub is_spelled : (bytes : List ℕ) (text : Withdrawals) (r : Result Withdrawals MessageFault) → IsBytes bytes
    → whole_list bytes ≡ Ok text → ReturnsOrRunsOut message_fault_number r (unless_name_again (first_again [] 0 text.names) text)
    → IfOk r (SpellsWithdrawals bytes)
is_spelled bytes text (Ok w) fits e (inl h) =
    let a = answered_apart (first_again [] 0 text.names) text w (sym h) in
    subst (SpellsWithdrawals bytes) a.1 (list_spelled bytes text fits e a.0)
is_spelled bytes text (Ok w) fits e (inr h) = absurd h
is_spelled bytes text (Err f) fits e h = tt

pub is_read : (bytes : List ℕ) (text : Withdrawals) (r : Result Withdrawals MessageFault) (w : Withdrawals)
    → whole_list bytes ≡ Ok text → ReturnsOrRunsOut message_fault_number r (unless_name_again (first_again [] 0 text.names) text)
    → SpellsWithdrawals bytes w → ReturnsOrRunsOut message_fault_number r (Ok w)
is_read bytes text r w e h s =
    let same : text ≡ w = ok_is text w (sym e ∙ list_read bytes w s) in
    let due : unless_name_again (first_again [] 0 text.names) text ≡ Ok w =
    ap (λ (v : Withdrawals). unless_name_again (first_again [] 0 v.names) v) same ∙ ap (λ (o : Option ℕ). unless_name_again o w) s.is_list.apart in
    subst (λ (d : Result Withdrawals MessageFault). ReturnsOrRunsOut message_fault_number r d) due h

pub is_exact : (bytes : List ℕ) (text : Withdrawals) (r : Result Withdrawals MessageFault) → whole_list bytes ≡ Ok text
    → ReturnsOrRunsOut message_fault_number r (unless_name_again (first_again [] 0 text.names) text)
    → ReturnsOrRunsOut message_fault_number r (list_due (length bytes) (whole_list bytes))
is_exact bytes text r e h =
    subst (λ (d : Result Withdrawals MessageFault). ReturnsOrRunsOut message_fault_number r d)
    (sym (ap (list_due (length bytes)) e)) h

abbrev refuses : MessageFault → Result Withdrawals MessageFault
refuses f = Err f

pub bad_read : (len : ℕ) (e : ReadError) (read : Result Withdrawals Fault) (w : Withdrawals) → Fails e read → read ≡ Ok w
    → ReturnsOrRunsOut message_fault_number (refuses (told_of len e)) (Ok w)
bad_read len errors.Memory read w h is = inr refl
bad_read len (errors.Fault f) read w h is = absurd cc

pub bad_exact : (len : ℕ) (e : ReadError) (read : Result Withdrawals Fault) → Fails e read
    → ReturnsOrRunsOut message_fault_number (refuses (told_of len e)) (list_due len read)
bad_exact len errors.Memory read h = inr refl
bad_exact len (errors.Fault f) read h = inl (sym (ap (list_due len) h))

-- a list that is read has at most 1,048,576 names
pub few_names : (bytes : List ℕ) (w : Withdrawals) → IsBytes bytes → whole_list bytes ≡ Ok w → length w.names ≤ most_names
unfolding whole_list
few_names bytes w fits e =
    let a = bind_ok (list_at bytes) ended w e in
    let g = ended_ok a.0 w a.2 in
    (subst IsListText g.0 (list_takes bytes a.0 fits a.1).1).few

-- ---- a list that is encoded

or_false : (a b : Bool) → (a || b) ≡ false → (a ≡ false) × (b ≡ false)
or_false true b e = absurd cc
or_false false b e = (refl, e)

in_longer : (y : Name) (before : List Name) (x : Name) → is_in y before ≡ false → same_name y x ≡ false
    → is_in y (before ++ x ∷ []) ≡ false
in_longer y [] x h e = rw e refl
in_longer y (b ∷ bs) x h e =
    let parts = or_false (same_name y b) (is_in y bs) h in
    rw (parts.0, in_longer y bs x parts.1 e) refl

not_in_front : (before : List Name) (x : Name) (ys : List Name) → AllByRecursion (λ y. is_in y before ≡ false) (x ∷ ys)
    → AllByRecursion (λ y. same_name x y ≡ false) ys → AllByRecursion (λ y. is_in y (before ++ x ∷ []) ≡ false) ys
not_in_front before x [] h apart = tt
not_in_front before x (y ∷ ys) h apart =
    (in_longer y before x h.1.0 ((equivalent_by name_decides).symm y x ∙ apart.0), not_in_front before x ys (h.0, h.1.1) apart.1)

-- distinct names are each there once
pub once : (before : List Name) (k : ℕ) (names : List Name) → AllByRecursion (λ y. is_in y before ≡ false) names
    → IsDistinct same_name names → first_again before k names ≡ None
unfolding IsDistinct
once before k [] h d = refl
once before k (x ∷ names) h d =
    rw h.0 (once (before ++ x ∷ []) (k + 1) names (not_in_front before x names h d.0) d.1)

none_before : (names : List Name) → AllByRecursion (λ y. is_in y [] ≡ false) names
none_before [] = tt
none_before (x ∷ names) = (refl, none_before names)

-- the parts of a list, written one after the other
pub list_written : (w : Withdrawals) (names : List Name) (n : ℕ) (a b c d e : List ℕ) → names ≡ w.names
    → n ≡ min (length names) most_names
    → a ≡ to_le_bytes w64 withdrawals_header → b ≡ a ++ side_byte w.side ∷ [] → c ≡ b ++ to_le_bytes w64 w.number
    → d ≡ c ++ to_le_bytes w32 n → e ≡ d ++ flat_map name_bytes names → e ≡ names_bytes w
list_written w names n a b c d e is count wrote_a wrote_b wrote_c wrote_d wrote_e =
    wrote_e ∙ rw (wrote_d, wrote_c, wrote_b, wrote_a, count, is) refl

few_bytes : (w : Withdrawals) → length w.names ≤ most_names → names_bytes w ≡ withdrawals_bytes w
few_bytes w few = ap (λ (n : ℕ). counted_bytes n w) (min-eq_left few)

-- distinct names, at most 1,048,576, are spelled
pub names_spelled : (w : Withdrawals) (e : List ℕ) → e ≡ names_bytes w → w.number < 2 ^ 64
    → AllByRecursion (λ name. IsTrue (is_name name)) w.names → IsNameList w.names → SpellsWithdrawals e w
names_spelled w e wrote number named listed = record {
  is_list = record {
    number = number;
    few = listed.few;
    named = named;
    apart = once [] 0 w.names (none_before w.names) listed.distinct;
  };
  spelling = wrote ∙ few_bytes w listed.few;
}

in_front : (y : Name) (before : List Name) (x : Name) → is_in y (before ++ x ∷ []) ≡ false
    → (is_in y before ≡ false) × (same_name y x ≡ false)
in_front y [] x h = (refl, (or_false (same_name y x) false h).0)
in_front y (b ∷ bs) x h =
    let parts = or_false (same_name y b) (is_in y (bs ++ x ∷ [])) h in
    let rest = in_front y bs x parts.1 in
    (rw (parts.0, rest.0) refl, rest.1)

-- names of which none stands twice, apart from those before them
record AreApart (before names : List Name) : Type 0 where
  new : AllByRecursion (λ (y : Name). is_in y before ≡ false) names
  distinct : IsDistinct same_name names

all_new : (before : List Name) (x : Name) (ys : List Name)
    → AllByRecursion (λ (y : Name). is_in y (before ++ x ∷ []) ≡ false) ys
    → AllByRecursion (λ (y : Name). is_in y before ≡ false) ys × AllByRecursion (λ (y : Name). same_name x y ≡ false) ys
all_new before x [] h = (tt, tt)
all_new before x (y ∷ ys) h =
    let parts = in_front y before x h.0 in
    let rest = all_new before x ys h.1 in
    ((parts.0, rest.0), ((equivalent_by name_decides).symm x y ∙ parts.1, rest.1))

none_again : (b : Bool) (before : List Name) (k : ℕ) (name : Name) (names : List Name) → is_in name before ≡ b
    → cond b (Some k) (first_again (before ++ name ∷ []) (k + 1) names) ≡ None
    → (is_in name before ≡ false) × (first_again (before ++ name ∷ []) (k + 1) names ≡ None)
none_again true before k name names e h = absurd cc
none_again false before k name names e h = (e, h)

apart_names : (before : List Name) (k : ℕ) (names : List Name) → first_again before k names ≡ None → AreApart before names
unfolding IsDistinct
apart_names before k [] h = record { new = tt; distinct = tt }
apart_names before k (x ∷ names) h =
    let first = none_again (is_in x before) before k x names refl h in
    let rest = apart_names (before ++ x ∷ []) (k + 1) names first.1 in
    let all = all_new before x names rest.new in
    record { new = (first.0, all.0); distinct = (all.1, rest.distinct) }

-- the first 1,048,576 of more names
front_of : Withdrawals → Withdrawals
front_of w = record { side = w.side; number = w.number; names = take most_names w.names }

name_somewhere : (names : List Name) → 0 < length names → length (flat_map name_bytes names) ≡ 0 → ⊥
name_somewhere [] some none = omega (arith, some)
name_somewhere (name ∷ names) some none =
    omega (
      arith,
      none,
      ap length (flat_map-cons name_bytes name names),
      length-append (name_bytes name) (flat_map name_bytes names),
    )

all_front : {A : Type 0} (P : A → Type 0) (n : ℕ) (xs : List A) → AllByRecursion P xs → AllByRecursion P (take n xs)
all_front P zero xs h = tt
all_front P (suc n) [] h = tt
all_front P (suc n) (x ∷ xs) h = (h.0, all_front P n xs h.1)

too_many : (w v : Withdrawals) → most_names < length w.names → w.number < 2 ^ 64
    → AllByRecursion (λ name. IsTrue (is_name name)) w.names → whole_list (names_bytes w) ≡ Ok v → ⊥
unfolding whole_list front_of
too_many w v many number named read =
    let rest = flat_map name_bytes (drop most_names w.names) in
    let count : length (take most_names w.names) ≡ most_names = omega (arith, many, length-take most_names w.names) in
    let names : flat_map name_bytes w.names ≡ flat_map name_bytes (take most_names w.names) ++ rest =
    ap (flat_map name_bytes) (sym (take-append-drop most_names w.names))
    ∙ flat_map-append name_bytes (take most_names w.names) (drop most_names w.names) in
    let parts : names_bytes w ≡ withdrawals_bytes (front_of w) ++ rest =
    ap (λ (n : ℕ). counted_bytes n w) (min-eq_right (omega (arith, many)) ∙ sym count)
    ∙ ap (λ (xs : List ℕ). to_le_bytes w64 withdrawals_header ++ (side_byte w.side ∷ (to_le_bytes w64 w.number
    ++ (to_le_bytes w32 (length (take most_names w.names)) ++ xs)))) names ∙ sym (regrouped (front_of w) rest) in
    let text : IsListText (front_of w) = record {
      number = number;
      few = omega (arith, count);
      named = all_front (λ name. IsTrue (is_name name)) most_names w.names named;
    } in
    let there : list_at (names_bytes w) ≡ Ok (front_of w, rest) = ap list_at parts ∙ list_again (front_of w) rest text in
    let whole : ended (front_of w, rest) ≡ Ok v = sym (ap (λ r. r >>= ended) there) ∙ read in
    let none = ended_ok (front_of w, rest) v whole in
    name_somewhere (drop most_names w.names) (omega (arith, many, length-drop most_names w.names)) (ap length none.1)

-- other names are not
pub spelled_names : (w : Withdrawals) (e : List ℕ) → e ≡ names_bytes w → w.number < 2 ^ 64
    → AllByRecursion (λ name. IsTrue (is_name name)) w.names → (v : Withdrawals) → SpellsWithdrawals e v → IsNameList w.names
unfolding whole_list
spelled_names w e wrote number named v spells =
    let read : whole_list (names_bytes w) ≡ Ok v = ap whole_list (sym wrote) ∙ list_read e v spells in
    elim (cases_lt most_names (length w.names)) [
      | inl many ↦ absurd (too_many w v many number named read)
      | inr few ↦
          let text : IsListText w = record { number = number; few = few; named = named } in
          let again : list_at (withdrawals_bytes w) ≡ Ok (w, []) =
          ap list_at (sym (append-nil (withdrawals_bytes w))) ∙ list_again w [] text in
          let mine : whole_list (names_bytes w) ≡ Ok w = ap whole_list (few_bytes w few) ∙ ap (λ r. r >>= ended) again in
          let same : v ≡ w = ok_is v w (sym read ∙ mine) in
          let apart : first_again [] 0 w.names ≡ None =
          subst (λ (u : Withdrawals). first_again [] 0 u.names ≡ None) same spells.is_list.apart in
          record { few = few; distinct = (apart_names [] 0 w.names apart).distinct }
    ]
