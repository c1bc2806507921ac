-- The comparison of the two tables that a side's state keeps.
use Rattle.std.proofs.Common.{◌≡◌, ℕ, Option, Some, None, ap, sym, ◌∙◌, option_map, option_and_then}
use Rattle.std.specs.Arc.{arc_value}
use Rattle.clash_record.specs.declared.side_id.SideId.{SideId}
use Rattle.clash_record.specs.declared.side_id.SideId.TheVariants.{A, B}
use Rattle.partition_table.specs.declared.clashing.Compared.{Compared}
use Rattle.partition_table.specs.Tables.{Table}
use Rattle.exchange_core.specs.declared.state.State.TheInside.{Inside}
use Rattle.exchange_core.specs.Views.{state_seen}
use Rattle.exchange_core.specs.model.Keeping.{HasCompared, Marks, marks_of, marks_for, marks_heard}
use Rattle.exchange_core.specs.model.Pairing.{IsComparedFor}
use Rattle.exchange_law.specs.Sides.{Exchange, Heard, clashes_for, clashes_heard}
use Rattle.exchange_law.specs.laws.Carried.{some_inj}

by_parts : (id : SideId) (own : Table) (u : ℕ) (other : Table) (v : ℕ) (found : Compared)
    → arc_value found.clashes ≡ clashes_for id own u other v → marks_of found ≡ marks_for id own u other v
    → IsComparedFor id own u other v found
by_parts A own u other v found list marks = record {
  list = list;
  first_of_a = ap (λ (m : Marks). m.0) marks;
  alone_a = ap (λ (m : Marks). m.1.0) marks;
  alone_b = ap (λ (m : Marks). m.1.1) marks;
}
by_parts B own u other v found list marks = record {
  list = list;
  first_of_a = ap (λ (m : Marks). m.0) marks;
  alone_a = ap (λ (m : Marks). m.1.0) marks;
  alone_b = ap (λ (m : Marks). m.1.1) marks;
}

module _ (s : Inside) (has : HasCompared s) (x : Exchange) (opened : s.exchange ≡ Some x) (h : Heard) (heard : x.heard ≡ Some h) where
  marks_kept : option_map marks_of s.compared ≡ Some (marks_heard (state_seen s) x h)
  marks_kept =
      has.marks
      ∙ ap (λ (o : Option Exchange). option_and_then (λ (x : Exchange). option_map (marks_heard (state_seen s) x) x.heard) o) opened
      ∙ ap (option_map (marks_heard (state_seen s) x)) heard

  clashes_kept : option_map (λ (found : Compared). arc_value found.clashes) s.compared ≡ Some (clashes_heard (state_seen s) x h)
  clashes_kept =
      has.clashes
      ∙ ap (λ (o : Option Exchange). option_and_then (λ (x : Exchange). option_map (clashes_heard (state_seen s) x) x.heard) o) opened
      ∙ ap (option_map (clashes_heard (state_seen s) x)) heard

  -- once the offer was heard, there is one
  pub compared_there : s.compared ≡ None → ⊥
  compared_there none =
      let both : None ≡ Some (marks_heard (state_seen s) x h) = sym (ap (option_map marks_of) none) ∙ marks_kept in absurd (cc)

  module _ (found : Compared) (is : s.compared ≡ Some found) where
    -- its marks are those of the two tables
    pub marks_are : marks_of found ≡ marks_for s.id s.table x.uptime h.table h.uptime
    marks_are = some_inj (sym (ap (option_map marks_of) is) ∙ marks_kept)

    -- and it is one of these
    pub compared_is : IsComparedFor s.id s.table x.uptime h.table h.uptime found
    compared_is = by_parts s.id s.table x.uptime h.table h.uptime found
        (some_inj (sym (ap (option_map (λ (found : Compared). arc_value found.clashes)) is) ∙ clashes_kept)) marks_are
