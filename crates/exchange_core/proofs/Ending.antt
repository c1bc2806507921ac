-- What a finish merges, and what it gives.
use Rattle.std.proofs.Common.{◌≡◌, ℕ, zero, suc, true, if◌then◌else◌, List, [], ◌∷◌, length, map, Option, Some, None, is_some, slice_get, refl, sym, ap, ◌∙◌, subst, option_and_then}
use Rattle.std.proofs.lemmas.Bool.{and_from}
use Rattle.std.specs.List.{list_all}
use Rattle.builtin_resolvers.specs.declared.verdicts.Verdict3.{Verdict3}
use Rattle.clash_record.specs.Name.{Name}
use Rattle.partition_table.specs.Tables.{Table, has_first}
use Rattle.clash_record.specs.declared.side_id.SideId.{SideId}
use Rattle.clash_record.specs.declared.side_id.SideId.TheVariants.{A, B}
use Rattle.exchange_law.specs.Sides.{Judged, Heard, Exchange, Side, clashes_for, fit_for, merge_for, is_lawful, answer_in, merged_table, finish_in, finish}
use Rattle.exchange_core.specs.Finished.{IsFinished, clashes_merged, all_held, finished_at, finished_of, finished_in, finished_from}
use Rattle.exchange_core.specs.model.Keeping.{marks_for}
use Rattle.exchange_core.specs.model.Finishing.{IsMergeable, IsMergeOf}
use Rattle.exchange_law.specs.laws.Carried.{some_inj}

abbrev pub answers : List Judged → List Verdict3
answers rulings = map (λ judged. judged.answer) rulings

-- of places that are all full, what they hold

pub held_answers : (rulings : List (Option Judged)) → list_all is_some rulings ≡ true →
    answers (all_held rulings) ≡ map answer_in rulings
held_answers [] full = refl
held_answers (None ∷ rulings) full = cc
held_answers (Some judged ∷ rulings) full = ap (λ (l : List Verdict3). judged.answer ∷ l) (held_answers rulings full)

pub length-held : (rulings : List (Option Judged)) → list_all is_some rulings ≡ true →
    length (all_held rulings) ≡ length rulings
length-held [] full = refl
length-held (None ∷ rulings) full = cc
length-held (Some judged ∷ rulings) full = ap suc (length-held rulings full)

pub held_at : (rulings : List (Option Judged)) → list_all is_some rulings ≡ true → (k : ℕ) (judged : Judged) →
    slice_get (all_held rulings) k ≡ Some judged → slice_get rulings k ≡ Some (Some judged)
held_at [] full k judged e = cc
held_at (None ∷ rulings) full k judged e = cc
held_at (Some held ∷ rulings) full zero judged e = ap Some e
held_at (Some held ∷ rulings) full (suc k) judged e = held_at rulings full k judged e

module _ {id : SideId} {own : Table} {x : Exchange} (m : IsMergeable id own x) where
  same_heard : (heard : Heard) → x.heard ≡ Some heard → m.heard ≡ heard
  same_heard heard is = some_inj (sym m.was_heard ∙ is)

  pub fits : (heard : Heard) → x.heard ≡ Some heard → fit_for id own heard.table ≡ true
  fits heard is = subst (λ (h : Heard). fit_for id own h.table ≡ true) (same_heard heard is) m.fit

  pub merged_so : (heard : Heard) (theirs : List Name) → x.heard ≡ Some heard → x.their_list ≡ Some theirs →
      (rulings : List Judged) (table : Table) → rulings ≡ all_held heard.rulings →
      table ≡ merge_for id own heard.table (answers (all_held heard.rulings)) x.withdrawn theirs →
      IsMergeOf id own x rulings table
  merged_so heard theirs is sent rulings table e t h l is' sent' =
      let here : heard ≡ h = some_inj (sym is ∙ is') in
      let there : theirs ≡ l = some_inj (sym sent ∙ sent') in
      let full : list_all is_some heard.rulings ≡ true =
      subst (λ (h : Heard). list_all is_some h.rulings ≡ true) (same_heard heard is) m.full in
      subst (λ (p : Heard × List Name). (rulings ≡ all_held p.0.rulings)
      × (table ≡ merge_for id own p.0.table (map answer_in p.0.rulings) x.withdrawn p.1)) (λ i. (here i, there i)) (
        e,
        t ∙ ap (λ (a : List Verdict3). merge_for id own heard.table a x.withdrawn theirs)
            (held_answers heard.rulings full),
      )

by_side : (id : SideId) (own : Table) (x : Exchange) (heard : Heard) (theirs : List Name) (rulings : List Judged)
    (table : Table) → fit_for id own heard.table ≡ true →
    length rulings ≡ length (clashes_for id own x.uptime heard.table heard.uptime) →
    ((k : ℕ) (judged : Judged) → slice_get rulings k ≡ Some judged →
    is_lawful (clashes_for id own x.uptime heard.table heard.uptime) x.seed k judged ≡ true) →
    table ≡ merge_for id own heard.table (answers rulings) x.withdrawn theirs →
    IsFinished (finished_at id own x heard theirs rulings table)
by_side A own x heard theirs rulings table fit n lawful t =
    record { fit = fit; one_each = n; lawful = lawful; merged = t }
by_side B own x heard theirs rulings table fit n lawful t =
    record { fit = fit; one_each = n; lawful = lawful; merged = t }

-- its marks are those of the clashes
pub marked_so : (id : SideId) (own : Table) (x : Exchange) (heard : Heard) (theirs : List Name) (rulings : List Judged)
    (table : Table) → (let f = finished_at id own x heard theirs rulings table in
    (marks_for id own x.uptime heard.table heard.uptime).0 ≡ map (has_first f.a) (clashes_merged f))
marked_so A own x heard theirs rulings table = refl
marked_so B own x heard theirs rulings table = refl

-- what the rulings and the table make is finished
pub finished_so : {id : SideId} {own : Table} {x : Exchange} → IsMergeable id own x → (rulings : List Judged)
    (table : Table) → IsMergeOf id own x rulings table → (heard : Heard) (theirs : List Name) → x.heard ≡ Some heard →
    x.their_list ≡ Some theirs → IsFinished (finished_at id own x heard theirs rulings table)
finished_so {id} {own} {x} m rulings table merged heard theirs is sent =
    let same = same_heard m heard is in
    let f = merged heard theirs is sent in
    let full : list_all is_some heard.rulings ≡ true = subst (λ (h : Heard). list_all is_some h.rulings
    ≡ true) same m.full in
    let places : length heard.rulings ≡ length (clashes_for id own x.uptime heard.table heard.uptime) =
    subst (λ (h : Heard). length h.rulings ≡ length (clashes_for id own x.uptime h.table h.uptime)) same m.places in
    let lawful : (k : ℕ) (judged : Judged) → slice_get heard.rulings k ≡ Some (Some judged) →
    is_lawful (clashes_for id own x.uptime heard.table heard.uptime) x.seed k judged ≡ true =
    subst (λ (h : Heard). (k : ℕ) (judged : Judged) → slice_get h.rulings k ≡ Some (Some judged) →
    is_lawful (clashes_for id own x.uptime h.table h.uptime) x.seed k judged ≡ true) same m.lawful in
    by_side id own x heard theirs rulings table (fits m heard is) (ap length f.0 ∙ length-held heard.rulings full
    ∙ places)
    (λ k judged at. lawful k judged (held_at heard.rulings full k judged
    (ap (λ (l : List Judged). slice_get l k) (sym f.0) ∙ at)))
    (f.1 ∙ ap (λ (a : List Verdict3). merge_for id own heard.table a x.withdrawn theirs)
    (sym (ap answers f.0 ∙ held_answers heard.rulings full)))

-- a finish is carried out, and gives what was made

pub finishes : (side : Side) (x : Exchange) (m : IsMergeable side.id side.table x) → side.exchange ≡ Some x →
    finish side ≡ Some (record side { table = merged_table side x m.heard m.theirs; exchange = None })
finishes side x m opened =
    ap (λ (o : Option Exchange). option_and_then (λ (y : Exchange). finish_in side y y.heard y.their_list) o) opened
    ∙ ap (λ (p : Option Heard × Option (List Name)). finish_in side x p.0 p.1) (λ i. (m.was_heard i, m.list_heard i))
    ∙ ap (λ b. if b then Some (record side { table = merged_table side x m.heard m.theirs; exchange = None }) else None)
    (and_from _ _ m.full m.list_closed)

pub gives : (side : Side) (x : Exchange) (m : IsMergeable side.id side.table x) → side.exchange ≡ Some x →
    finished_from side ≡ Some (finished_of side x m.heard m.theirs)
gives side x m opened =
    ap (λ (o : Option Exchange). option_and_then (λ (y : Exchange). finished_in side y y.heard y.their_list) o) opened
    ∙ ap (λ (p : Option Heard × Option (List Name)). finished_in side x p.0 p.1) (λ i. (m.was_heard i, m.list_heard i))
