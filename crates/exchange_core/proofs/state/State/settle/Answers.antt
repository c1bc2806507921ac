use Rattle.std.proofs.Common.{◌≡◌, ℕ, ◌++◌, List, [], Option, Some, None, reverse, sym, ap, ◌∙◌, option_map, option_and_then}
use Rattle.std.specs.Option.{option_map_or}
use Rattle.std.specs.Arc.{arc_value}
use Rattle.partition_table.specs.Tables.{Clash}
use Rattle.partition_table.specs.declared.clashing.Compared.{Compared}
use Rattle.exchange_law.specs.Calls.{Call}
use Rattle.exchange_law.specs.Sides.{Heard, Exchange, Side, clashes_heard, clashes_of, heard_clashes}
use Rattle.exchange_law.specs.laws.Carried.{some_inj}
use Rattle.exchange_core.specs.Journal.{calls_of}
use Rattle.exchange_core.specs.Settling.{lacking_in, lacking_of, number_in, settle_calls}
use Rattle.exchange_core.specs.Views.{state_seen}
use Rattle.exchange_core.specs.model.Settling.{take_calls}
use Rattle.exchange_core.proofs.state.State.settle.Goals as goal

-- the clashes that are there once the offer was heard
all_of : (side : Side) (all : List Clash) → heard_clashes side ≡ Some all → clashes_of side ≡ all
all_of side all e = by_open side.exchange e
  where
    by_heard : (x : Exchange) (h : Option Heard) → option_map (clashes_heard side x) h ≡ Some all →
        option_map_or (clashes_heard side x) h [] ≡ all
    by_heard x None e = cc
    by_heard x (Some h) e = some_inj e

    by_open : (o : Option Exchange) → option_and_then (λ (x : Exchange). option_map (clashes_heard side x) x.heard) o ≡ Some all →
        option_map_or (λ (x : Exchange). option_map_or (clashes_heard side x) x.heard []) o [] ≡ all
    by_open None e = cc
    by_open (Some x) e = by_heard x x.heard e

-- the calls that take the rulings of the open exchange
calls_in : (round : ℕ) (side : Side) (x : Exchange) (all : List Clash) → side.exchange ≡ Some x → heard_clashes side ≡ Some all →
    take_calls x.number (lacking_in round all x) ≡ settle_calls round side
calls_in round side x all opened heard =
    let number : number_in side ≡ x.number = ap (λ (o : Option Exchange). option_map_or (λ (y : Exchange). y.number) o 0) opened in
    let rulings : lacking_of round side ≡ lacking_in round all x =
    ap (λ (o : Option Exchange). option_map_or (lacking_in round (clashes_of side)) o []) opened
    ∙ ap (λ (l : List Clash). lacking_in round l x) (all_of side all heard) in
    λ i. take_calls (sym number i) (sym rulings i)

pub returns-clause-written : goal.returns-clause-written
returns-clause-written c =
    let own = state_seen c.self.inside in
    let heard : heard_clashes own ≡ Some c.deref.result.now =
    sym c.self.invariant.clashes
    ∙ ap (option_map (λ (found : Compared). arc_value found.clashes)) c.in-Some.is
    ∙ ap Some (sym c.deref.ensures) in
    c.settle.ensures.written
    ∙ ap (λ (l : List Call). reverse l ++ calls_of c.args.journal.now.past.value)
    (calls_in c.args.round own c.in-Some-exchange.exchange c.deref.result.now c.in-Some-exchange.is heard
    ∙ ap (settle_calls c.args.round) c.self.view_is)
