-- The calls of two processes are acts of their halves.
use Rattle.std.proofs.Common.{◌≡◌, ◌⊎◌, Bool, true, false, ℕ, zero, suc, List, [], ◌∷◌, Option, Some, None, Result, Ok, Err, slice_get, length, refl, sym, ap, ◌∙◌, subst, ⊎_elim, inl, inr, option_map}
use Rattle.clash_record.specs.declared.side_id.SideId.{SideId}
use Rattle.clash_record.specs.declared.side_id.SideId.TheVariants.{A, B}
use Rattle.partition_table.specs.declared.fault.TableFault.{TableFault}
use Rattle.partition_table.specs.declared.fault.TableFault.TheVariants as table
use Rattle.partition_table.specs.Faults.{table_fault_number}
use Rattle.exchange_core.specs.declared.fault.SideFault.{SideFault}
use Rattle.exchange_core.specs.declared.fault.SideFault.TheVariants as fault
use Rattle.exchange_core.specs.Faults.{side_fault_number}
use Rattle.exchange_law.specs.Sides.{Offer, Withdrawals, Exchange, Side, rested, abandon}
use Rattle.exchange_law.specs.Calls.{Call, Register, Unregister, Begin, Hear, Withdraw, Close_list, Hear_list, Finish, Abandon, carried_out}
use Rattle.exchange_law.specs.Worlds.{Past, World, Does, Hears, Hears_list, side_of, with_side, called_if, past_after, offer_of, list_of}
use Rattle.exchange_core.specs.Finished.{Finished, finished_from}
use Rattle.exchange_core.specs.Settling.{settled, the_round}
use Rattle.exchange_core.specs.Refusals.{message_fault}
use Rattle.exchange_core.specs.Shown.{shown, is_full}
use Rattle.exchange_core.specs.Halves.{Act, Happens, Settles, after_act, halves_after, FinishesWith}
use Rattle.exchange_law.specs.laws.Carried.{when}
use Rattle.exchange_codec.specs.declared.fault.FieldFault.{FieldFault}
use Rattle.exchange_codec.specs.declared.fault.FieldFault.TheVariants as field
use Rattle.exchange_codec.specs.declared.fault.ItemFault.{ItemFault}
use Rattle.exchange_codec.specs.declared.fault.ItemFault.TheVariants as item
use Rattle.exchange_codec.specs.declared.fault.MessageFault.{MessageFault}
use Rattle.exchange_codec.specs.declared.fault.MessageFault.TheVariants as message
use Rattle.exchange_codec.specs.declared.head.MessageHead.{MessageHead}
use Rattle.exchange_codec.specs.Faults.{field_fault_number, item_fault_number, message_fault_number}
use Rattle.exchange_codec.specs.Offers.{SpellsOffer}
use Rattle.exchange_codec.specs.Peeking.{peeked}
use Rattle.exchange_codec.specs.Reading as reading
use Rattle.exchange_codec.specs.Withdrawals.{SpellsWithdrawals}
use Rattle.c_calls.specs.Halves.{SideAndStore}
use Rattle.c_calls.specs.Answers.{allowed, unless, GivesDueOrRunsOut, GivesDue}
use Rattle.c_calls.specs.laws.Firsts.{or_runs_out}
use Rattle.c_calls.specs.Exchanges.{HearsWhole, HearsWholeList, UnlessOther, UnlessRefused, refusal_of, withdrawing}
use Rattle.c_calls.specs.Sides.{CarriesOut, IsRenewedHalf, Stays, registering, unregistering}
use Rattle.heal_c.specs.Processes.{Processes, process_half, with_half, IsCall, IsHistory}
use Rattle.heal_c.specs.Processes as call
use Rattle.c_calls.specs.Kept.{HasForgotten, forgetting, id_from}
use Rattle.clash_record.specs.declared.registrations.ProgramId.{ProgramId}

-- ---- answers of calls that returned 0

table_positive : (f : TableFault) → 0 ≡ table_fault_number f → ⊥
table_positive table.NameTaken e = cc
table_positive table.NoSuchName e = cc
table_positive table.Full e = cc
table_positive table.TooManyNames e = cc
table_positive table.UnknownProgram e = cc
table_positive table.OtherCode e = cc
table_positive table.OutOfMemory e = cc

positive : (f : SideFault) → 0 ≡ side_fault_number f → ⊥
positive (fault.Table f) e = table_positive f e
positive fault.Healing e = cc
positive fault.NotHealing e = cc
positive fault.StaleNumber e = cc
positive fault.SeedDiffers e = cc
positive fault.StrangeRuling e = cc
positive (fault.Missing part) e = cc
positive fault.JournalFull e = cc
positive fault.OtherNumber e = cc
positive fault.OwnOffer e = cc
positive fault.Withdrawn e = cc
positive fault.ListClosed e = cc
positive fault.OutOfMemory e = cc

field_positive : (f : FieldFault) → 0 ≡ field_fault_number f → ⊥
field_positive field.Cut e = cc
field_positive field.Header e = cc
field_positive field.Trailing e = cc
field_positive field.Count e = cc
field_positive field.Side e = cc
field_positive field.Name e = cc
field_positive field.Resolver e = cc
field_positive field.Version e = cc

item_positive : (f : ItemFault) → 0 ≡ item_fault_number f → ⊥
item_positive item.NameAgain e = cc
item_positive item.NameOrder e = cc
item_positive item.NoProgram e = cc
item_positive item.ProgramAgain e = cc
item_positive (item.Program f) e = cc

message_positive : (f : MessageFault) → 0 ≡ message_fault_number f → ⊥
message_positive (message.Field f at) e = field_positive f e
message_positive (message.Item f at) e = item_positive f e
message_positive message.OutOfMemory e = cc

-- a message that was taken isn't refused
unrefused : (m : ℕ) (old new : SideAndStore) (X : Type 0) → (0 ≡ m → ⊥) → UnlessRefused (Some m) old new 0 X → X
unrefused m old new X positive h = absurd (positive h.0)

-- by its head
was_read : (half : SideAndStore) (head : Result MessageHead MessageFault) (old new : SideAndStore) (X : Type 0)
    → UnlessRefused (refusal_of half head) old new 0 X → X
was_read half (Err fault) old new X h = unrefused (message_fault_number fault) old new X (message_positive fault) h
was_read half (Ok head) old new X h =
    by (message_fault (is_full half.side) (shown half.side) head.side head.number) h
  where
    by : (d : Option SideFault) → UnlessRefused (option_map side_fault_number d) old new 0 X → X
    by None x = x
    by (Some fault) x = unrefused (side_fault_number fault) old new X (positive fault) x

-- it is the first, or the same again
was_first : (b : Bool) (old new : SideAndStore) (X : Type 0) → UnlessOther b old new 0 X → X
was_first true old new X h = absurd (⊎_elim (λ e. cc) (λ e. cc) h.0)
was_first false old new X h = h

-- nothing refused it, so it is done
done : (o : Option SideFault) (D : Unit {0} → Type 0) (S : Type 0) → GivesDueOrRunsOut (allowed side_fault_number o) D S 0 → D tt
done None D S h = ⊎_elim (λ h. h.1) (λ h. let e = h.0 in absurd (cc)) h
done (Some f) D S h = ⊎_elim (λ e. absurd (positive f e)) (λ e. absurd (cc)) h.0

settled_so : (o : Option SideFault) (D : Unit {0} → Type 0) (S : Type 0) → GivesDue (allowed side_fault_number o) D S 0 → D tt
settled_so None D S h = h.1
settled_so (Some f) D S h = absurd (positive f h.0)

-- a program is forgotten, or everything stays
forgot : (r : Result (Unit {0}) ℕ) (id : ProgramId) (old new : SideAndStore) → GivesDue r (λ _. HasForgotten id old new) (new ≡ old) 0
    → shown new.side ≡ shown old.side
forgot (Ok x) id old new h = ap (λ s. shown s) h.1.side
forgot (Err m) id old new h = ap (λ (x : SideAndStore). shown x.side) h.1

-- it is done, or everything stays
either : {X : Type 0} (r : Result X ℕ) {D : X → Type 0} {S : Type 0} → GivesDueOrRunsOut r D S 0 → ((x : X) × D x) ⊎ S
either (Ok x) h = ⊎_elim (λ h. inl (x, h.1)) (λ h. let e = h.0 in absurd (cc)) h
either (Err m) h = inr h.1

either_due : {X : Type 0} (r : Result X ℕ) {D : X → Type 0} {S : Type 0} → GivesDue r D S 0 → ((x : X) × D x) ⊎ S
either_due (Ok x) h = inl (x, h.1)
either_due (Err m) h = inr h.1

-- ---- the processes as halves of acts

pub record Like (p : Processes) : Type 0 where
  pub acts : List Act
  pub a : shown p.a.side ≡ (halves_after acts).a
  pub b : shown p.b.side ≡ (halves_after acts).b
  pub offers : (which : ℕ) (bytes : List ℕ) → slice_get p.offers which ≡ Some bytes →
      (o : Offer) × ((slice_get (halves_after acts).past.offers which ≡ Some o) × SpellsOffer bytes o)
  pub lists : (which : ℕ) (bytes : List ℕ) → slice_get p.lists which ≡ Some bytes →
      (l : Withdrawals) × ((slice_get (halves_after acts).past.lists which ≡ Some l) × SpellsWithdrawals bytes l)
  pub outcomes : (which : ℕ) (f : Finished) → slice_get p.outcomes which ≡ Some f →
      (id : SideId) × ((new : Side) × FinishesWith acts id f new)

-- what is true of an element of a list that grew by one
grown : {X : Type 0} (P : ℕ → X → Type 0) (x : X) (xs : List X) → P zero x →
    ((which : ℕ) (y : X) → slice_get xs which ≡ Some y → P (suc which) y) → (which : ℕ) (y : X) →
    slice_get (x ∷ xs) which ≡ Some y → P which y
grown P x xs first others zero y e = subst (P zero) (some_is e) first
  where
    some_is : Some x ≡ Some y → x ≡ y
    some_is e = cc
grown P x xs first others (suc which) y e = others which y e

one_later : {acts : List Act} {id : SideId} {f : Finished} {new : Side} (act : Act) → FinishesWith acts id f new →
    FinishesWith (act ∷ acts) id f new
one_later act h = record {
  earlier = h.earlier;
  later = act ∷ h.later;
  place = ap (λ (l : List Act). act ∷ l) h.place;
  carried = h.carried;
  gives = h.gives;
}

module _ {p : Processes} (l : Like p) (id : SideId) (new : SideAndStore) where
  abbrev now : World
  now = halves_after l.acts

  side_is : shown (process_half p id).side ≡ side_of (halves_after l.acts) id
  side_is = by_side id
    where
      by_side : (id : SideId) → shown (process_half p id).side ≡ side_of (halves_after l.acts) id
      by_side A = l.a
      by_side B = l.b

  -- its half is as before
  like_same : shown new.side ≡ shown (process_half p id).side → Like (with_half p id new)
  like_same e = by_side id e
    where
      by_side : (id : SideId) → shown new.side ≡ shown (process_half p id).side → Like (with_half p id new)
      by_side A e =
          record { acts = l.acts; a = e ∙ l.a; b = l.b; offers = l.offers; lists = l.lists; outcomes = l.outcomes }
      by_side B e =
          record { acts = l.acts; a = l.a; b = e ∙ l.b; offers = l.offers; lists = l.lists; outcomes = l.outcomes }

  -- an act takes its half on
  like_after : (act : Act) (past : Past) → after_act (halves_after l.acts) act
      ≡ with_side (halves_after l.acts) id past (Some (shown new.side)) → (offers lists : List (List ℕ))
      (outcomes : List Finished) →
      ((which : ℕ) (bytes : List ℕ) → slice_get offers which ≡ Some bytes →
      (o : Offer) × ((slice_get past.offers which ≡ Some o) × SpellsOffer bytes o)) →
      ((which : ℕ) (bytes : List ℕ) → slice_get lists which ≡ Some bytes →
      (l : Withdrawals) × ((slice_get past.lists which ≡ Some l) × SpellsWithdrawals bytes l)) →
      ((which : ℕ) (f : Finished) → slice_get outcomes which ≡ Some f →
      (id : SideId) × ((new : Side) × FinishesWith (act ∷ l.acts) id f new)) →
      Like (record (with_half p id new) { offers = offers; lists = lists; outcomes = outcomes })
  like_after act past is offers lists outcomes spelled listed finished = by_side id is
    where
      by_side : (id : SideId) → after_act (halves_after l.acts) act
          ≡ with_side (halves_after l.acts) id past (Some (shown new.side)) →
          Like (record (with_half p id new) { offers = offers; lists = lists; outcomes = outcomes })
      by_side A is = record {
        acts = act ∷ l.acts;
        a = sym (ap (λ (w : World). w.a) is);
        b = l.b ∙ sym (ap (λ (w : World). w.b) is);
        offers = λ which bytes e.
            let h = spelled which bytes e in
            (h.0, (ap (λ (w : World). slice_get w.past.offers which) is ∙ h.1.0, h.1.1));
        lists = λ which bytes e.
            let h = listed which bytes e in
            (h.0, (ap (λ (w : World). slice_get w.past.lists which) is ∙ h.1.0, h.1.1));
        outcomes = finished;
      }
      by_side B is = record {
        acts = act ∷ l.acts;
        a = l.a ∙ sym (ap (λ (w : World). w.a) is);
        b = sym (ap (λ (w : World). w.b) is);
        offers = λ which bytes e.
            let h = spelled which bytes e in
            (h.0, (ap (λ (w : World). slice_get w.past.offers which) is ∙ h.1.0, h.1.1));
        lists = λ which bytes e.
            let h = listed which bytes e in
            (h.0, (ap (λ (w : World). slice_get w.past.lists which) is ∙ h.1.0, h.1.1));
        outcomes = finished;
      }

  still : (act : Act) (which : ℕ) (f : Finished) → slice_get p.outcomes which ≡ Some f →
      (id : SideId) × ((new : Side) × FinishesWith (act ∷ l.acts) id f new)
  still act which f e = let h = l.outcomes which f e in (h.0, (h.1.0, one_later act h.1.1))

  -- an act that sends nothing
  like_quiet : (act : Act) → after_act (halves_after l.acts) act
      ≡ with_side (halves_after l.acts) id (halves_after l.acts).past (Some (shown new.side)) →
      Like (with_half p id new)
  like_quiet act is = by_side id (like_after act (halves_after l.acts).past is p.offers p.lists p.outcomes l.offers
      l.lists (still act))
    where
      by_side : (id : SideId) →
          Like (record (with_half p id new) { offers = p.offers; lists = p.lists; outcomes = p.outcomes }) →
          Like (with_half p id new)
      by_side A h = h
      by_side B h = h

  -- the side of the acts carries out what the half's side carries out
  carries : (call : Call) → carried_out (shown (process_half p id).side) call ≡ Some (shown new.side) →
      carried_out (side_of (halves_after l.acts) id) call ≡ Some (shown new.side)
  carries call e = ap (λ (s : Side). carried_out s call) (sym side_is) ∙ e

  does : (call : Call) → CarriesOut call (process_half p id) new →
      with_side (halves_after l.acts) id
      (past_after (halves_after l.acts).past (side_of (halves_after l.acts) id) call)
      (carried_out (side_of (halves_after l.acts) id) call)
      ≡ with_side (halves_after l.acts) id
      (past_after (halves_after l.acts).past (side_of (halves_after l.acts) id) call) (Some (shown new.side))
  does call c =
      ap (λ (o : Option Side). with_side (halves_after l.acts) id
      (past_after (halves_after l.acts).past (side_of (halves_after l.acts) id) call) o) (carries call c.done.carried)

  stays : Stays (process_half p id) new → Like (with_half p id new)
  stays s = like_same s.side.state

-- ---- each call

-- giving up is abandoning, or nothing
rested_is : (side s : Side) → abandon side ≡ Some s → s ≡ rested side
rested_is side s e = sym (when _ _ _ e).1

idle_rested : (side : Side) → abandon side ≡ None → rested side ≡ side
idle_rested side e = by_open side.exchange e
  where
    by_open : (o : Option Exchange) → let now : Side = record side { exchange = o } in abandon now ≡ None →
        rested now ≡ now
    by_open None e = refl
    by_open (Some x) e = cc

-- a half that is renewed is as before
renewed : (o : Option SideFault) (old new : SideAndStore) → GivesDue (unless side_fault_number o (tt {0})) (λ _. IsRenewedHalf old new) (Stays old new) 0 →
    shown new.side ≡ shown old.side
renewed None old new h = h.1.same
renewed (Some f) old new h = h.1.side.state

module _ {p : Processes} (l : Like p) (id : SideId) (new : SideAndStore) where
  heard : (offer : Offer) (which : ℕ) → slice_get (halves_after l.acts).past.offers which ≡ Some offer →
      CarriesOut (Hear offer) (process_half p id) new → Like (with_half p id new)
  heard offer which there c =
      like_quiet l id new (Happens (Hears id which))
      (ap (λ (o : Option Offer). called_if (halves_after l.acts) id (option_map Hear o)) there ∙ does l id new (Hear offer) c)

  heard_list : (list : Withdrawals) (which : ℕ) → slice_get (halves_after l.acts).past.lists which ≡ Some list →
      CarriesOut (Hear_list list) (process_half p id) new → Like (with_half p id new)
  heard_list list which there c =
      like_quiet l id new (Happens (Hears_list id which))
      (ap (λ (o : Option Withdrawals). called_if (halves_after l.acts) id (option_map Hear_list o)) there
      ∙ does l id new (Hear_list list) c)

  began : (number seed uptime : ℕ) (bytes : List ℕ) → CarriesOut (Begin number seed uptime) (process_half p id) new →
      SpellsOffer bytes (offer_of (shown (process_half p id).side) number seed uptime) →
      Like (record (with_half p id new) { offers = bytes ∷ p.offers })
  began number seed uptime bytes c spelled = by_side id (like_after l id new (Happens (Does id (Begin number seed uptime))) _
      (does l id new (Begin number seed uptime) c) (bytes ∷ p.offers) p.lists p.outcomes
      (grown (λ which bytes. (o : Offer) × ((slice_get (offer_of (side_of (halves_after l.acts) id) number seed uptime
      ∷ (halves_after l.acts).past.offers) which ≡ Some o) × SpellsOffer bytes o)) bytes p.offers
      (_, (refl, subst (λ (s : Side). SpellsOffer bytes (offer_of s number seed uptime)) (side_is l id new) spelled))
      l.offers)
      l.lists (still l id new (Happens (Does id (Begin number seed uptime)))))
    where
      by_side : (id : SideId) → Like (record (with_half p id new) {
        offers = bytes ∷ p.offers;
        lists = p.lists;
        outcomes = p.outcomes;
      }) → Like (record (with_half p id new) { offers = bytes ∷ p.offers })
      by_side A h = h
      by_side B h = h

  closed : (bytes : List ℕ) → CarriesOut Close_list (process_half p id) new →
      SpellsWithdrawals bytes (list_of (shown (process_half p id).side)) →
      Like (record (with_half p id new) { lists = bytes ∷ p.lists })
  closed bytes c spelled = by_side id (like_after l id new (Happens (Does id Close_list)) _
      (does l id new Close_list c) p.offers (bytes ∷ p.lists) p.outcomes l.offers
      (grown (λ which bytes. (w : Withdrawals) × ((slice_get (list_of (side_of (halves_after l.acts) id)
      ∷ (halves_after l.acts).past.lists) which ≡ Some w) × SpellsWithdrawals bytes w)) bytes p.lists
      (_, (refl, subst (λ (s : Side). SpellsWithdrawals bytes (list_of s)) (side_is l id new) spelled))
      l.lists)
      (still l id new (Happens (Does id Close_list))))
    where
      by_side : (id : SideId) → Like (record (with_half p id new) {
        offers = p.offers;
        lists = bytes ∷ p.lists;
        outcomes = p.outcomes;
      }) → Like (record (with_half p id new) { lists = bytes ∷ p.lists })
      by_side A h = h
      by_side B h = h

  finished : (f : Finished) → CarriesOut Finish (process_half p id) new →
      finished_from (shown (process_half p id).side) ≡ Some f →
      Like (record (with_half p id new) { outcomes = f ∷ p.outcomes })
  finished f c given = by_side id (like_after l id new (Happens (Does id Finish)) (halves_after l.acts).past
      (does l id new Finish c) p.offers p.lists (f ∷ p.outcomes) l.offers l.lists
      (grown (λ which f. (j : SideId) × ((new : Side) × FinishesWith (Happens (Does id Finish) ∷ l.acts) j f new)) f
      p.outcomes (
        id,
        (
          shown new.side,
          record {
            earlier = l.acts;
            later = [];
            place = refl;
            carried = carries l id new Finish c.done.carried;
            gives = ap finished_from (sym (side_is l id new)) ∙ given;
          },
        ),
      )
      (λ which f e. still l id new (Happens (Does id Finish)) which f e)))
    where
      by_side : (id : SideId) → Like (record (with_half p id new) {
        offers = p.offers;
        lists = p.lists;
        outcomes = f ∷ p.outcomes;
      }) → Like (record (with_half p id new) { outcomes = f ∷ p.outcomes })
      by_side A h = h
      by_side B h = h

  -- a half that calls `give_up` is as one that abandons, if an exchange is open
  gave_up : shown new.side ≡ rested (shown (process_half p id).side) → Like (with_half p id new)
  gave_up e = by_open (abandon (shown (process_half p id).side)) refl
    where
      by_open : (o : Option Side) → abandon (shown (process_half p id).side) ≡ o → Like (with_half p id new)
      by_open None is = like_same l id new (e ∙ idle_rested (shown (process_half p id).side) is)
      by_open (Some s) is =
          like_quiet l id new (Happens (Does id Abandon))
          (ap (λ (o : Option Side). with_side (halves_after l.acts) id (halves_after l.acts).past o)
          (ap abandon (sym (side_is l id new)) ∙ is ∙ ap Some (rested_is (shown (process_half p id).side) s is ∙ sym e)))

step : (p after : Processes) (id : SideId) → Like p → IsCall p id after → Like after
step p after id l (call.uploads new code id' id'' slot up e) = subst Like (sym e)
    (like_same l id new (⊎_elim (λ k. ap (λ s. shown s) k.side) (λ h. ap (λ (x : SideAndStore). shown x.side) h.1.0) up.answer))
step p after id l (call.forgets new program r e) = subst Like (sym e)
    (like_same l id new (forgot (forgetting (id_from program) (process_half p id)) (id_from program) (process_half p id) new r))
step p after id l (call.registers new name registration r e) = subst Like (sym e)
    (⊎_elim (λ d. like_quiet l id new (Happens (Does id (Register _ _))) (does l id new (Register _ _) d.1)) (stays l id new)
    (either (registering name registration (process_half p id)) (or_runs_out _ _ _ _ r)))
step p after id l (call.unregisters new name r e) = subst Like (sym e)
    (⊎_elim (λ d. like_quiet l id new (Happens (Does id (Unregister d.0))) (does l id new (Unregister d.0) d.1))
    (stays l id new) (either_due (unregistering name (process_half p id)) r))
step p after id l (call.begins new number seed uptime before bytes r e) = subst Like (sym e)
    (let d = done _ _ _ (or_runs_out _ _ _ _ r) in began l id new number seed uptime bytes d.0 d.1)
step p after id l (call.hears new bytes sent r e) = subst Like (sym e)
    (let h = l.offers sent.0 bytes sent.1 in
    let whole : HearsWhole bytes (process_half p id) new 0 =
    was_read (process_half p id) (reading.due (length bytes) (peeked bytes)) _ _ _ r in
    heard l id new h.0 sent.0 h.1.0 (done _ _ _ (was_first _ _ _ _ (whole.taken h.0 h.1.1))))
step p after id l (call.settles new r e) = subst Like (sym e)
    (let d = settled_so _ _ _ r in
    like_quiet l id new (Settles id)
    (ap (λ (s : Side). with_side (halves_after l.acts) id (halves_after l.acts).past (Some s))
    (ap (settled the_round) (sym (side_is l id new)) ∙ sym d.0.state)))
step p after id l (call.withdraws new name r e) = subst Like (sym e)
    (⊎_elim (λ d. like_quiet l id new (Happens (Does id (Withdraw d.0))) (does l id new (Withdraw d.0) d.1))
    (stays l id new) (either (withdrawing name (process_half p id)) (or_runs_out _ _ _ _ r)))
step p after id l (call.closes new before bytes r e) = subst Like (sym e)
    (let d = done _ _ _ (or_runs_out _ _ _ _ r) in closed l id new bytes d.0 d.1)
step p after id l (call.hears_list new bytes sent r e) = subst Like (sym e)
    (let h = l.lists sent.0 bytes sent.1 in
    let whole : HearsWholeList bytes (process_half p id) new 0 =
    was_read (process_half p id) (reading.due (length bytes) (peeked bytes)) _ _ _ r in
    heard_list l id new h.0 sent.0 h.1.0 (done _ _ _ (was_first _ _ _ _ (whole.taken h.0 h.1.1))))
step p after id l (call.finishes new before outcome f r given e) = subst Like (sym e)
    (let d = done _ _ _ (or_runs_out _ _ _ _ r) in finished l id new f d.0 given)
step p after id l (call.abandons new r e) = subst Like (sym e)
    (like_quiet l id new (Happens (Does id Abandon)) (does l id new Abandon (settled_so _ _ _ r)))
step p after id l (call.renews new r e) = subst Like (sym e)
    (like_same l id new (renewed _ _ _ r))
step p after id l (call.gives_up new r e) = subst Like (sym e)
    (gave_up l id new r.1.state)
step p after id l (call.refused new s e) = subst Like (sym e) (stays l id new s)

-- no element
none : {X : Type 0} (xs : List X) (which : ℕ) (x : X) → xs ≡ [] → slice_get xs which ≡ Some x → ⊥
none {X} xs which x is e = let e' = sym (ap (λ (l : List X). slice_get l which) is) ∙ e in cc

pub like : (p : Processes) (earlier : List Processes) → IsHistory (p ∷ earlier) → Like p
like p [] new = record {
  acts = [];
  a = new.a.state;
  b = new.b.state;
  offers = λ which bytes e. absurd (none _ which bytes new.offers e);
  lists = λ which bytes e. absurd (none _ which bytes new.lists e);
  outcomes = λ which f e. absurd (none _ which f new.outcomes e);
}
like p (q ∷ earlier) run = step q p run.0.0 (like q earlier run.1) run.0.1
