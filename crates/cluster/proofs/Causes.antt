-- The cause of each refusal.
use Rattle.std.proofs.Common.{◌≡◌, ◌⊎◌, inl, inr, ℕ, Bool, true, false, not, ◌&&◌, ◌==◌, nat_le, if◌then◌else◌, List, [], ◌∷◌, ◌++◌, Option, Some, None, is_some, is_none, true≢false, eq-eqb, refl, sym, ap, ◌∙◌, subst, append_assoc, arith}
use Rattle.std.specs.Option.{option_map_or}
use Rattle.std.specs.List.{list_all}
use Rattle.std.specs.FinMap.{contains_key}
use Rattle.std.specs.Prelude.{IfErr, OnOk, OnErr}
use Rattle.std.specs.Result.{IsErr, IsErrAnd}
use Rattle.std.proofs.lemmas.List.Elements.{filter_map-append}
use Rattle.exchange_law.specs.Worlds.{list_of}
use Rattle.std.specs.declared.result.Result.{Result}
use Rattle.std.specs.declared.result.Result.TheVariants.{Ok, Err}
use Rattle.refusals.specs.Answers.{IsAnswered}
use Rattle.clash_record.specs.Name.{Name}
use Rattle.clash_record.specs.declared.side_id.SideId.{SideId}
use Rattle.clash_record.specs.declared.side_id.SideId.TheVariants.{A, B}
use Rattle.clash_record.specs.declared.halves.Withdrawal.{Withdrawal}
use Rattle.partition_table.specs.Tables.{Table, is_in, union_len, tables_agree}
use Rattle.partition_table.specs.declared.judged.Judged.{Judged}
use Rattle.partition_table.specs.declared.fault.TableFault.{TableFault}
use Rattle.partition_table.specs.declared.fault.TableFault.TheVariants as at_table
use Rattle.exchange_core.specs.declared.fault.SideFault.{SideFault}
use Rattle.exchange_core.specs.declared.fault.SideFault.TheVariants as of
use Rattle.exchange_core.specs.declared.fault.MissingPart.{MissingPart}
use Rattle.exchange_core.specs.declared.fault.MissingPart.TheVariants.{TheirOffer}
use Rattle.partition_table.specs.Faults.{table_fault_number}
use Rattle.exchange_core.specs.Faults.{side_fault_number}
use Rattle.exchange_core.specs.declared.side.Side as code
use Rattle.exchange_law.specs.Sides.{Side, Exchange, Offer, Withdrawals, is_above, is_side, shown_table, in_exchange, begin, hear, hear_in, hear_first, withdraw, withdraw_in}
use Rattle.exchange_law.specs.Calls.{Begin, Hear, Withdraw}
use Rattle.exchange_core.specs.Shown.{shown, IsDone, IsUntouched}
use Rattle.exchange_law.specs.laws.Carried.{when, when_some, goes}
use Rattle.exchange_core.specs.Refusals as due
use Rattle.cluster.specs.Clusters.{Cluster, at}
use Rattle.cluster.specs.Healing.{Plan, IsNew, FitsIn, gone_of_side, other_half}
use Rattle.cluster.specs.declared.fault.HealFault.{HealFault}
use Rattle.cluster.specs.Causes.{BothNew, HasNames, BothHave, are_new_after, NamesOnce, BothOnce, BothHaveRoom, Agree, IsSideCause, IsCause}
use Rattle.cluster.specs.model.Stages.{IsRested, offer_in, no_ruling, IsTrying, IsUnlisted, IsUnheard, IsRefusalOf}
use Rattle.cluster.proofs.Held.{left_holds, right_holds}
use Rattle.cluster.proofs.Answered.{was_ok, by_answer}

some_is : {X : Type 0} {x y : X} → Some x ≡ Some y → x ≡ y
some_is {X} {x} {y} e = cc

eq_self : (n : ℕ) → (n == n) ≡ true
eq_self n = eq-eqb n n refl

-- the next name passes the test that all pass
next_passes : (test : Name → Bool) (names : List Name) (name : Name) (rest : List Name) →
    list_all test (names ++ name ∷ rest) ≡ true → test name ≡ true
next_passes test [] name rest all = left_holds (test name) _ all
next_passes test (first ∷ names) name rest all = next_passes test names name rest (right_holds (test first) _ all)

-- the next name isn't among those before it
next_is_new : (before names : List Name) (name : Name) (rest : List Name) →
    are_new_after before (names ++ name ∷ rest) ≡ true → not (is_in name (before ++ names)) ≡ true
next_is_new before [] name rest once =
    ap (λ l. not (is_in name l)) (append_none before) ∙ left_holds (not (is_in name before)) _ once
  where
    append_none : (xs : List Name) → xs ++ [] ≡ xs
    append_none [] = refl
    append_none (x ∷ xs) = ap (λ (l : List Name). x ∷ l) (append_none xs)
next_is_new before (first ∷ names) name rest once =
    ap (λ l. not (is_in name l)) (sym (append_assoc before (first ∷ []) names))
    ∙ next_is_new (before ++ first ∷ []) names name rest (right_holds (not (is_in first before)) _ once)

module _ (plan : Plan) (was : Cluster) where
  -- out of memory
  table_for_memory : (fault : TableFault) → table_fault_number fault ≡ 90 → IsSideCause plan was (of.Table fault)
  table_for_memory at_table.NameTaken e = e
  table_for_memory at_table.NoSuchName e = absurd (omega (arith, e))
  table_for_memory at_table.Full e = e
  table_for_memory at_table.TooManyNames e = absurd (omega (arith, e))
  table_for_memory at_table.UnknownProgram e = e
  table_for_memory at_table.OtherCode e = absurd (omega (arith, e))
  table_for_memory at_table.OutOfMemory e = e

  for_memory : (fault : SideFault) → side_fault_number fault ≡ 90 → IsSideCause plan was fault
  for_memory (of.Table fault) e = table_for_memory fault e
  for_memory of.Healing e = e
  for_memory of.NotHealing e = e
  for_memory of.StaleNumber e = absurd (omega (arith, e))
  for_memory of.SeedDiffers e = e
  for_memory of.StrangeRuling e = e
  for_memory (of.Missing part) e = tt
  for_memory of.JournalFull e = tt
  for_memory of.OtherNumber e = e
  for_memory of.OwnOffer e = e
  for_memory of.Withdrawn e = absurd (omega (arith, e))
  for_memory of.ListClosed e = e
  for_memory of.OutOfMemory e = e

  -- a refusal is due, or memory ran out
  pub answered_cause : {X : Type 0} (r : Result X SideFault) (need : Option SideFault) →
      IsAnswered side_fault_number need r →
      ((fault : SideFault) → need ≡ Some fault → IsSideCause plan was fault) →
      IfErr r (IsSideCause plan was)
  answered_cause (Ok x) need answer by_due = tt
  answered_cause (Err fault) need (inl e) by_due = by_due fault e
  answered_cause (Err fault) need (inr e) by_due = for_memory fault e

  new_at : (id : SideId) → BothNew plan was → IsNew plan was id
  new_at A new = new.0
  new_at B new = new.1

  has_by : (id : SideId) → BothHave plan was → HasNames plan was id
  has_by A have = have.0
  has_by B have = have.1

  once_by : (id : SideId) → BothOnce plan → NamesOnce plan id
  once_by A once = once.0
  once_by B once = once.1

  -- ---- of begin

  pub begin_cause : (id : SideId) (full : Bool) (side : Side) → IsRested (at was id).side side →
      (fault : SideFault) → due.begin_fault full side plan.number ≡ Some fault → IsSideCause plan was fault
  begin_cause id full side rest fault e =
      by (is_some side.exchange) (is_above plan.number side.latest) full
      (ap (λ (o : Option Exchange). is_some o) rest.idle)
      (ap (λ (l : Option ℕ). is_above plan.number l) (sym rest.latest)) e
    where
      by : (opened above full : Bool) → opened ≡ false → is_above plan.number (at was id).side.latest ≡ above →
          (if opened then Some of.Healing
          else (if not above then Some of.StaleNumber else (if full then Some of.JournalFull else None)))
          ≡ Some fault → IsSideCause plan was fault
      by true above full o a e = absurd (cc)
      by false false full o a e =
          subst (IsSideCause plan was) (some_is e) (λ new. true≢false (sym (new_at id new) ∙ a))
      by false true true o a e = subst (IsSideCause plan was) (some_is e) tt
      by false true false o a e = absurd (cc)

  -- ---- of hear

  -- a message of the other half with the open number isn't refused
  sent_cause : (full : Bool) (id : SideId) (x : Exchange) (sender : SideId) (number : ℕ) → (x.number == number) ≡ true →
      is_side id sender ≡ false → (fault : SideFault) → due.sent_fault full id x sender number ≡ Some fault →
      IsSideCause plan was fault
  sent_cause full id x sender number same theirs fault e =
      by full (x.number == number) (is_side id sender) same theirs e
    where
      by : (full same own : Bool) → same ≡ true → own ≡ false →
          (if full then Some of.JournalFull
          else (if not same then Some of.OtherNumber else (if own then Some of.OwnOffer else None))) ≡ Some fault →
          IsSideCause plan was fault
      by true same own s o e = subst (IsSideCause plan was) (some_is e) tt
      by false false own s o e = absurd (cc)
      by false true true s o e = absurd (cc)
      by false true false s o e = absurd (cc)

  -- ---- of abandon and finish, and of clashes

  pub finish_cause : (full : Bool) (side : Side) (x : Exchange) → side.exchange ≡ Some x → (fault : SideFault) →
      due.finish_fault full side ≡ Some fault → IsSideCause plan was fault
  finish_cause full side x opened fault e =
      by (due.missing_of x) full
      (sym (ap (λ (o : Option Exchange).
      option_map_or (λ y. due.missing_or_full full (due.missing_of y)) o (Some of.NotHealing)) opened)
      ∙ e)
    where
      by : (part : Option MissingPart) (full : Bool) → due.missing_or_full full part ≡ Some fault →
          IsSideCause plan was fault
      by (Some part) full e = subst (IsSideCause plan was) (some_is e) tt
      by None true e = subst (IsSideCause plan was) (some_is e) tt
      by None false e = absurd (cc)

  pub abandon_cause : (full : Bool) (side : Side) (fault : SideFault) →
      due.abandon_fault full side ≡ Some fault → (fault ≡ of.NotHealing → ⊥) → IsSideCause plan was fault
  abandon_cause full side fault e other = by (is_none side.exchange) full e
    where
      by : (idle full : Bool) →
          (if idle then Some of.NotHealing else (if full then Some of.JournalFull else None)) ≡ Some fault →
          IsSideCause plan was fault
      by true full e = absurd (other (sym (some_is e)))
      by false true e = subst (IsSideCause plan was) (some_is e) tt
      by false false e = absurd (cc)

  pub clashes_cause : (side : Side) (x : Exchange) → side.exchange ≡ Some x → (fault : SideFault) →
      due.clashes_fault side ≡ Some fault → IsSideCause plan was fault
  clashes_cause side x opened fault e =
      by (is_some x.heard)
      (sym (ap (λ (o : Option Exchange). option_map_or due.clashes_fault_in o (Some of.NotHealing)) opened) ∙ e)
    where
      by : (heard : Bool) → (if heard then None else Some (of.Missing TheirOffer)) ≡ Some fault →
          IsSideCause plan was fault
      by true e = absurd (cc)
      by false e = subst (IsSideCause plan was) (some_is e) tt

  -- ---- with the exchange open

  abbrev table_a : Table
  table_a = shown_table was.a.side

  abbrev table_b : Table
  table_b = shown_table was.b.side

  union_of : (id : SideId) →
      due.union_for id (shown_table (at was id).side) (shown_table (at was (other_half id)).side) ≡ union_len table_a table_b
  union_of A = refl
  union_of B = refl

  agree_of : (id : SideId) →
      due.agree_for id (shown_table (at was id).side) (shown_table (at was (other_half id)).side) ≡ tables_agree table_a table_b
  agree_of A = refl
  agree_of B = refl

  no_room : (id : SideId) → nat_le (union_len table_a table_b) (at was id).limit ≡ false → ¬ BothHaveRoom was
  no_room A e room = true≢false (sym room.0 ∙ e)
  no_room B e room = true≢false (sym room.1 ∙ e)

  no_code : tables_agree table_a table_b ≡ false → ¬ Agree was
  no_code e agree = true≢false (sym agree ∙ e)

  not_own : (id : SideId) → is_side id (other_half id) ≡ false
  not_own A = refl
  not_own B = refl

  module _ (holds : ℕ → Judged → Type 0) (id : SideId) (names : List Name) (full : Bool) (side : Side)
      (t : IsTrying plan was holds id names side) where
    first_cause : (offer : Offer) → offer ≡ offer_in plan was (other_half id) → (fault : SideFault) →
        due.first_offer_fault (at was id).limit full side t.exchange offer ≡ Some fault → IsSideCause plan was fault
    first_cause offer same fault e =
        let seeds = ap (λ (o : Offer). o.seed) same in
        let theirs = sym (ap (λ (o : Offer). o.table) same) in
        by (t.exchange.seed == offer.seed) (nat_le (due.union_for side.id side.table offer.table) (at was id).limit) full
        (due.agree_for side.id side.table offer.table)
        ((λ i. t.under_way.seed i == seeds i) ∙ eq_self plan.seed)
        (ap (λ n. nat_le n (at was id).limit) (sym (union_of id)
        ∙ (λ i. due.union_for (sym t.same_id i) (sym t.table i) (theirs i))))
        (sym (agree_of id) ∙ (λ i. due.agree_for (sym t.same_id i) (sym t.table i) (theirs i))) e
      where
        by : (seed few full code : Bool) → seed ≡ true → nat_le (union_len table_a table_b) (at was id).limit ≡ few →
            tables_agree table_a table_b ≡ code →
            (if not seed then Some of.SeedDiffers
            else (if not few then Some (of.Table at_table.TooManyNames)
            else (if full then Some of.JournalFull
            else (if not code then Some (of.Table at_table.OtherCode) else None)))) ≡ Some fault →
            IsSideCause plan was fault
        by false few full code s f c e = absurd (cc)
        by true false full code s f c e = subst (IsSideCause plan was) (some_is e) (no_room id f)
        by true true true code s f c e = subst (IsSideCause plan was) (some_is e) tt
        by true true false false s f c e = subst (IsSideCause plan was) (some_is e) (no_code c)
        by true true false true s f c e = absurd (cc)

    from_other : (sender : SideId) (number : ℕ) → sender ≡ other_half id → number ≡ plan.number → (fault : SideFault) →
        due.sent_fault full side.id t.exchange sender number ≡ Some fault → IsSideCause plan was fault
    from_other sender number theirs same fault e =
        sent_cause full side.id t.exchange sender number
        ((λ i. t.under_way.number i == same i) ∙ eq_self plan.number)
        ((λ i. is_side (t.same_id i) (theirs i)) ∙ not_own id) fault e

    pub hear_cause : (limit : ℕ) → limit ≡ (at was id).limit → (offer : Offer) → offer ≡ offer_in plan was (other_half id) →
        (fault : SideFault) → due.hear_fault limit full side offer ≡ Some fault → IsSideCause plan was fault
    hear_cause limit is offer same fault e =
        by (due.is_first_offer side.id t.exchange offer)
        (sym (ap (λ (o : Option Exchange). option_map_or (due.hear_fault_in (at was id).limit full side offer) o (Some of.NotHealing))
        t.opened) ∙ ap (λ n. due.hear_fault n full side offer) (sym is) ∙ e)
      where
        by : (first : Bool) →
            (if first then due.first_offer_fault (at was id).limit full side t.exchange offer
            else due.sent_fault full side.id t.exchange offer.side offer.number) ≡ Some fault →
            IsSideCause plan was fault
        by true e = first_cause offer same fault e
        by false e =
            from_other offer.side offer.number (ap (λ (o : Offer). o.side) same) (ap (λ (o : Offer). o.number) same)
            fault e

    -- an offer that is taken fits

    first_fits : (offer : Offer) → offer ≡ offer_in plan was (other_half id) →
        due.first_offer_fault (at was id).limit full side t.exchange offer ≡ None → FitsIn was id
    first_fits offer same e =
        let theirs = sym (ap (λ (o : Offer). o.table) same) in
        by (t.exchange.seed == offer.seed) (nat_le (due.union_for side.id side.table offer.table) (at was id).limit) full
        (due.agree_for side.id side.table offer.table)
        (ap (λ n. nat_le n (at was id).limit) (sym (union_of id)
        ∙ (λ i. due.union_for (sym t.same_id i) (sym t.table i) (theirs i))))
        (sym (agree_of id) ∙ (λ i. due.agree_for (sym t.same_id i) (sym t.table i) (theirs i))) e
      where
        by : (seed few full code : Bool) → nat_le (union_len table_a table_b) (at was id).limit ≡ few →
            tables_agree table_a table_b ≡ code →
            (if not seed then Some of.SeedDiffers
            else (if not few then Some (of.Table at_table.TooManyNames)
            else (if full then Some of.JournalFull
            else (if not code then Some (of.Table at_table.OtherCode) else None)))) ≡ None →
            FitsIn was id
        by true true false true f c e = λ i. f i && c i
        by false few full code f c e = absurd (cc)
        by true false full code f c e = absurd (cc)
        by true true true code f c e = absurd (cc)
        by true true false false f c e = absurd (cc)

    pub hear_fits : (limit : ℕ) → limit ≡ (at was id).limit → t.exchange.heard ≡ None → (offer : Offer) →
        offer ≡ offer_in plan was (other_half id) → due.hear_fault limit full side offer ≡ None → FitsIn was id
    hear_fits limit is unheard offer same e =
        by (due.is_first_offer side.id t.exchange offer) first
        (sym (ap (λ (o : Option Exchange). option_map_or (due.hear_fault_in (at was id).limit full side offer) o (Some of.NotHealing))
        t.opened) ∙ ap (λ n. due.hear_fault n full side offer) (sym is) ∙ e)
      where
        numbers : offer.number ≡ plan.number
        numbers = ap (λ (o : Offer). o.number) same

        senders : offer.side ≡ other_half id
        senders = ap (λ (o : Offer). o.side) same

        first : due.is_first_offer side.id t.exchange offer ≡ true
        first =
            (λ i. is_none (unheard i) && (t.under_way.number i == numbers i && not (is_side (t.same_id i) (senders i))))
            ∙ (λ i. eq_self plan.number i && not (not_own id i))

        by : (first : Bool) → first ≡ true →
            (if first then due.first_offer_fault (at was id).limit full side t.exchange offer
            else due.sent_fault full side.id t.exchange offer.side offer.number) ≡ None →
            FitsIn was id
        by true f e = first_fits offer same e
        by false f e = absurd (true≢false (sym f))

    pub hear_list_cause : (sent : Withdrawals) → sent.side ≡ other_half id → sent.number ≡ plan.number →
        (fault : SideFault) → due.hear_list_fault full side sent ≡ Some fault → IsSideCause plan was fault
    hear_list_cause sent theirs same fault e =
        from_other sent.side sent.number theirs same fault
        (sym (ap (λ (o : Option Exchange).
        option_map_or (λ x. due.sent_fault full side.id x sent.side sent.number) o (Some of.NotHealing)) t.opened) ∙ e)

    -- while the list isn't closed

    pub close_cause : t.exchange.closed ≡ false → (fault : SideFault) → due.close_list_fault full side ≡ Some fault →
        IsSideCause plan was fault
    close_cause unlisted fault e =
        by full t.exchange.closed unlisted
        (sym (ap (λ (o : Option Exchange). option_map_or (due.close_list_fault_in full) o (Some of.NotHealing)) t.opened)
        ∙ e)
      where
        by : (full closed : Bool) → closed ≡ false →
            (if full then Some of.JournalFull else (if closed then Some of.ListClosed else None)) ≡ Some fault →
            IsSideCause plan was fault
        by true closed c e = subst (IsSideCause plan was) (some_is e) tt
        by false true c e = absurd (cc)
        by false false c e = absurd (cc)

    pub withdraw_cause : (name : Name) (rest : List Name) → gone_of_side id plan.gone ≡ names ++ name ∷ rest →
        t.exchange.closed ≡ false → (fault : SideFault) → due.withdraw_fault full side name ≡ Some fault →
        IsSideCause plan was fault
    withdraw_cause name rest next unlisted fault e =
        by_table (contains_key side.table name) refl e
      where
        is_there : BothHave plan was → contains_key side.table name ≡ true
        is_there have =
            (λ i. contains_key (t.table i) name)
            ∙ next_passes (contains_key (shown_table (at was id).side)) names name rest
            (subst (λ l. list_all (contains_key (shown_table (at was id).side)) l ≡ true) next (has_by id have))

        is_new : BothOnce plan → not (is_in name t.exchange.withdrawn) ≡ true
        is_new once =
            (λ i. not (is_in name (t.under_way.withdrawn i)))
            ∙ next_is_new [] names name rest (subst (λ l. are_new_after [] l ≡ true) next (once_by id once))

        by_list : (full again closed : Bool) → is_in name t.exchange.withdrawn ≡ again → closed ≡ false →
            (if full then Some of.JournalFull
            else (if again then Some of.Withdrawn else (if closed then Some of.ListClosed else None))) ≡ Some fault →
            IsSideCause plan was fault
        by_list true again closed a c e = subst (IsSideCause plan was) (some_is e) tt
        by_list false true closed a c e = subst (IsSideCause plan was) (some_is e)
            (λ once. true≢false (sym (is_new once) ∙ ap not a))
        by_list false false true a c e = absurd (cc)
        by_list false false false a c e = absurd (cc)

        by_table : (has : Bool) → contains_key side.table name ≡ has →
            (if not has then Some (of.Table at_table.NoSuchName)
            else option_map_or (due.withdraw_fault_in full name) side.exchange (Some of.NotHealing)) ≡ Some fault →
            IsSideCause plan was fault
        by_table false h e = subst (IsSideCause plan was) (some_is e)
            (λ have. true≢false (sym (is_there have) ∙ h))
        by_table true h e = by_list full (is_in name t.exchange.withdrawn) t.exchange.closed refl unlisted
            (sym (ap (λ (o : Option Exchange). option_map_or (due.withdraw_fault_in full name) o (Some of.NotHealing))
            t.opened) ∙ e)

-- ---- of two calls

-- the cause of a half's refusal is one of the failure
pub as_heal : (plan : Plan) (was : Cluster) {X Y : Type 0} (first : Result X SideFault) (second : Result Y SideFault)
    (fault : HealFault) → IsRefusalOf first fault ⊎ IsRefusalOf second fault → IfErr first (IsSideCause plan was) →
    IfErr second (IsSideCause plan was) → IsCause plan was fault
as_heal plan was (Ok x) second fault (inl never) a b = absurd never
as_heal plan was (Err f) second fault (inl e) a b = subst (IsCause plan was) (sym e) a
as_heal plan was first (Ok y) fault (inr never) a b = absurd never
as_heal plan was first (Err f) fault (inr e) a b = subst (IsCause plan was) (sym e) b

pub if_err : {X E : Type 0} {P Q : E → Type 0} (r : Result X E) → ((e : E) → P e → Q e) → IfErr r P → IfErr r Q
if_err (Ok x) f h = tt
if_err (Err e) f h = f e h

-- ---- while the list of withdrawn names isn't closed

closed_of : {before after : Exchange} → before ≡ after → after.closed ≡ before.closed
closed_of e = ap (λ (x : Exchange). x.closed) (sym e)

unlisted_on : (side new : Side) (call : Exchange → Option Exchange) → in_exchange side call ≡ Some new →
    ((before after : Exchange) → call before ≡ Some after → after.closed ≡ before.closed) → IsUnlisted side →
    IsUnlisted new
unlisted_on side new call e keeps unlisted =
    let g = goes side new call e in
    subst IsUnlisted g.new_is
    (λ x is. closed_of (some_is is) ∙ keeps g.before g.after g.does ∙ unlisted g.before g.opened)

unlisted_begun : (side new : Side) (number seed uptime : ℕ) → begin side number seed uptime ≡ Some new → IsUnlisted new
unlisted_begun side new number seed uptime e =
    subst IsUnlisted (when _ _ _ e).1 (λ x is. closed_of (some_is is))

unheard_begun : (side new : Side) (number seed uptime : ℕ) → begin side number seed uptime ≡ Some new → IsUnheard new
unheard_begun side new number seed uptime e =
    subst IsUnheard (when _ _ _ e).1 (λ x is. ap (λ (x : Exchange). x.heard) (sym (some_is is)))

unlisted_hears : (offer : Offer) (side new : Side) → hear side offer ≡ Some new → IsUnlisted side → IsUnlisted new
unlisted_hears offer side new e =
    unlisted_on side new (hear_in side.id side.table offer) e
    (λ before after does. by_heard before after (is_some before.heard) (when_some _ _ _ does).1)
  where
    by_heard : (before after : Exchange) (b : Bool) →
        (if b then Some before else hear_first side.id side.table offer before) ≡ Some after →
        after.closed ≡ before.closed
    by_heard before after true e = closed_of (some_is e)
    by_heard before after false e = closed_of (when _ _ _ e).1

unlisted_withdraws : (name : Name) (side new : Side) → withdraw side name ≡ Some new → IsUnlisted side → IsUnlisted new
unlisted_withdraws name side new e =
    unlisted_on side new (withdraw_in side.table name) e (λ before after does. closed_of (when _ _ _ does).1)

-- one half, and both
pub heard_unlisted : {X : Type 0} (r : Result X SideFault) (old new : code.Side) (offer : Offer) →
    OnOk r (IsDone old (Hear offer) new) → OnErr r (IsUntouched old new) → IsUnlisted (shown old) →
    IsUnlisted (shown new)
heard_unlisted r old new offer done same unlisted =
    by_answer r old new (Hear offer) IsUnlisted done same unlisted
    (λ next e. unlisted_hears offer (shown old) next e unlisted)

pub withdrawn_unlisted : {X : Type 0} (r : Result X SideFault) (old new : code.Side) (name : Name) →
    OnOk r (IsDone old (Withdraw name) new) → OnErr r (IsUntouched old new) → IsUnlisted (shown old) →
    IsUnlisted (shown new)
withdrawn_unlisted r old new name done same unlisted =
    by_answer r old new (Withdraw name) IsUnlisted done same unlisted
    (λ next e. unlisted_withdraws name (shown old) next e unlisted)

pub begun_unlisted : {X : Type 0} (r : Result X SideFault) (x : X) (old new : code.Side) (number seed uptime : ℕ) →
    r ≡ Ok x → OnOk r (IsDone old (Begin number seed uptime) new) → IsUnlisted (shown new)
begun_unlisted r x old new number seed uptime is done =
    unlisted_begun (shown old) (shown new) number seed uptime (was_ok r x is done).carried

pub begun_unheard : {X : Type 0} (r : Result X SideFault) (x : X) (old new : code.Side) (number seed uptime : ℕ) →
    r ≡ Ok x → OnOk r (IsDone old (Begin number seed uptime) new) → IsUnheard (shown new)
begun_unheard r x old new number seed uptime is done =
    unheard_begun (shown old) (shown new) number seed uptime (was_ok r x is done).carried

-- ---- the causes of calls

pub if_converted : {A F : Type 0} (P : F → Type 0) (r : Result A F) (x : F) → IsErr r × IsErrAnd r (λ y. y ≡ x) →
    P x → IfErr r P
if_converted P (Ok a) x h p = tt
if_converted P (Err y) x h p = subst P (sym h.1) p

pub if_apart : {X E P : Type 0} {Q : E → Type 0} (r : Result X E) → ((e : E) → P → Q e) → OnErr r P → IfErr r Q
if_apart (Ok x) f h = tt
if_apart (Err e) f h = f e h

pub one_of : {X : Type 0} (P : X → Type 0) (x y z : X) → (x ≡ y) ⊎ (x ≡ z) → P y → P z → P x
one_of P x y z (inl e) a b = subst P (sym e) a
one_of P x y z (inr e) a b = subst P (sym e) b

pub withdrawn_cause : {X : Type 0} (r : Result X SideFault) (full : Bool) (side : Side) (name : Name) →
    IsAnswered side_fault_number (due.withdraw_fault full side name) r →
    IfErr r (λ fault. (plan : Plan) (was : Cluster) (id : SideId) (names rest : List Name)
    → IsTrying plan was no_ruling id names side → IsUnlisted side → gone_of_side id plan.gone ≡ names ++ name ∷ rest →
    IsSideCause plan was fault)
withdrawn_cause (Ok x) full side name answer = tt
withdrawn_cause (Err f) full side name (inl e) = λ plan was id names rest t unlisted next.
    withdraw_cause plan was no_ruling id names full side t name rest next (unlisted t.exchange t.opened) f e
withdrawn_cause (Err f) full side name (inr e) = λ plan was id names rest t unlisted next.
    for_memory plan was f e

pub next_of_a : (gone rest all : List Withdrawal) (one : Withdrawal) → one.side ≡ A → all ≡ gone ++ one ∷ rest →
    gone_of_side A all ≡ gone_of_side A gone ++ one.name ∷ gone_of_side A rest
next_of_a gone rest all one is e =
    ap (gone_of_side A) e ∙ filter_map-append _ gone (one ∷ rest)
    ∙ ap (λ (l : List Name). gone_of_side A gone ++ l)
    (ap (λ (s : SideId). gone_of_side A (record { side = s; name = one.name } ∷ rest)) is)

pub next_of_b : (gone rest all : List Withdrawal) (one : Withdrawal) → one.side ≡ B → all ≡ gone ++ one ∷ rest →
    gone_of_side B all ≡ gone_of_side B gone ++ one.name ∷ gone_of_side B rest
next_of_b gone rest all one is e =
    ap (gone_of_side B) e ∙ filter_map-append _ gone (one ∷ rest)
    ∙ ap (λ (l : List Name). gone_of_side B gone ++ l)
    (ap (λ (s : SideId). gone_of_side B (record { side = s; name = one.name } ∷ rest)) is)

-- the list that a half sends
pub list_of_half : (plan : Plan) (was : Cluster) (holds : ℕ → Judged → Type 0) (id : SideId) (names : List Name)
    (side : Side) (l : Withdrawals) → IsTrying plan was holds id names side → l ≡ list_of side →
    (l.side ≡ id) × (l.number ≡ plan.number)
list_of_half plan was holds id names side l t e = (
  ap (λ (x : Withdrawals). x.side) e ∙ t.same_id,
  ap (λ (x : Withdrawals). x.number) e
      ∙ ap (λ (o : Option Exchange). option_map_or (λ x. x.number) o 0) t.opened
      ∙ t.under_way.number,
)
