-- One telling after another.
use Rattle.std.proofs.Common.{◌≡◌, ℕ, ◌+◌, ◌≤◌, Bool, true, false, if◌then◌else◌, List, [], ◌∷◌, ◌++◌, Option, None, Some, length, refl, sym, ap, ◌∙◌, subst, length-append, arith}
use Rattle.std.proofs.lemmas.List.{append_assoc, map-append}
use Rattle.std.proofs.lemmas.List.Elements.{All-nil, All-cons, All-append, All-weaker}
use Rattle.std.specs.Prelude.{OnOk, OnErr, IfSome, slice_get}
use Rattle.std.specs.Option.{option_and_then, unwrap_or}
use Rattle.std.specs.declared.result.Result.{Result}
use Rattle.std.specs.declared.result.Result.TheVariants.{Ok, Err}
use Rattle.exchange_core.specs.declared.fault.SideFault.{SideFault}
use Rattle.exchange_core.specs.declared.side.Side.{Side}
use Rattle.exchange_law.specs.Sides as sides
use Rattle.exchange_law.specs.Calls.{Call, Take, carried_out}
use Rattle.partition_table.specs.Rulings.{Ruling, ruling_of}
use Rattle.exchange_core.specs.Shown.{shown, calls, IsDone, IsUntouched}
use Rattle.partition_table.specs.Tables.{Clash}
use Rattle.verdict_board.specs.Boards.{Place, Pass, seen, ruling_if, board_ruling, word_seen}
use Rattle.registry_lock.specs.Meeting.{StillSees}
use Rattle.registry_lock.specs.Telling.{all_carried_out, takes_of, HasSeen, IsTold, AreTold}

-- ---- a ruling that a pass has seen is of its clash

pub record IsRulingOf (place : Place) (k : ℕ) (ruling : Ruling) : Type 0 where
  pub of_k : ruling.k ≡ k
  pub clash : slice_get place.clashes k ≡ Some ruling.clash

of_clash : (place : Place) (k word : ℕ) (clash : Clash) (b : Bool)
    (ruling : Ruling) → slice_get place.clashes k ≡ Some clash →
    (if b then Some (ruling_of place.number k word clash) else None) ≡ Some ruling → IsRulingOf place k ruling
of_clash place k word clash true ruling at e =
    subst (λ (r : Ruling). IsRulingOf place k r) (ap (λ (o : Option Ruling). unwrap_or o ruling) e)
    (record { of_k = refl; clash = at })
of_clash place k word clash false ruling at e = absurd (cc)

of_place : (place : Place) (k word : ℕ) (clash : Option Clash)
    (ruling : Ruling) → slice_get place.clashes k ≡ clash →
    option_and_then (ruling_if place.number place.seed place.clashes k word) clash ≡ Some ruling →
    IsRulingOf place k ruling
of_place place k word None ruling at e = absurd (cc)
of_place place k word (Some clash) ruling at e = of_clash place k word clash _ ruling at e

of_word : (place : Place) (k : ℕ) (word : Option ℕ) (ruling : Ruling) →
    option_and_then (board_ruling place.number place.seed place.clashes k) word ≡ Some ruling → IsRulingOf place k ruling
of_word place k None ruling e = absurd (cc)
of_word place k (Some word) ruling e = of_place place k word _ ruling refl e

pub of_seen : (pass : Pass) (k : ℕ) (ruling : Ruling) → Some ruling ≡ seen pass k → IsRulingOf pass.place k ruling
of_seen pass k ruling e = of_word pass.place k (word_seen pass k) ruling (sym e)

pub has_seen : (pass : Pass) (k : ℕ) (ruling : Ruling) → Some ruling ≡ seen pass k → HasSeen pass ruling
has_seen pass k ruling e =
    subst (λ (j : ℕ). seen pass j ≡ Some ruling) (sym (of_seen pass k ruling e).of_k) (sym e)

pub clash_seen : (pass : Pass) (ruling : Ruling) → HasSeen pass ruling →
    slice_get pass.place.clashes ruling.k ≡ Some ruling.clash
clash_seen pass ruling e = (of_seen pass ruling.k ruling (sym e)).clash

-- ---- what a pass has seen it sees still

if_seen : {A : Type 0} (x y : Option A) (r : A) → x ≡ Some r → IfSome x (λ s. y ≡ Some s) → y ≡ Some r
if_seen {A = A} x y r e kept = subst (λ (o : Option A). IfSome o (λ s. y ≡ Some s)) e kept

sees_still : (before after : Pass) → StillSees before after → (ruling : Ruling) → HasSeen before ruling →
    HasSeen after ruling
sees_still before after kept ruling e =
    if_seen (seen before ruling.k) (seen after ruling.k) ruling e (kept.stays ruling.k)

pub told_still : (before after : Pass) (n : ℕ) (old new : Side) → StillSees before after → IsTold before n old new →
    IsTold after n old new
told_still before after n old new kept told = record {
  rulings = told.rulings;
  seen_each = All-weaker (HasSeen before) (HasSeen after) (sees_still before after kept) told.rulings told.seen_each;
  few = told.few;
  carried = told.carried;
  written = told.written;
  same_limit = told.same_limit;
}

-- ---- none, one, and one after another

pub not_told : (pass : Pass) (n : ℕ) (old new : Side) → IsUntouched old new → IsTold pass n old new
not_told pass n old new same = record {
  rulings = [];
  seen_each = All-nil (HasSeen pass);
  few = omega arith;
  carried = ap (λ (s : sides.Side). Some s) (sym same.state);
  written = same.journal;
  same_limit = same.same_limit;
}

pub same_told : (pass : Pass) (n : ℕ) (side : Side) → IsTold pass n side side
same_told pass n side = not_told pass n side side (record { state = refl; journal = refl; same_limit = refl })

one_told : (pass : Pass) (old new : Side) (ruling : Ruling) → HasSeen pass ruling →
    IsDone old (Take ruling.number ruling.k ruling.judged) new → IsTold pass 1 old new
one_told pass old new ruling is_seen done = record {
  rulings = ruling ∷ [];
  seen_each = All-cons (HasSeen pass) ruling [] is_seen (All-nil (HasSeen pass));
  few = omega arith;
  carried = done.carried;
  written = done.written;
  same_limit = done.same_limit;
}

-- a take, carried out or refused
pub told_or_not : {A : Type 0} (pass : Pass) (old new : Side) (ruling : Ruling)
    (r : Result A SideFault) → HasSeen pass ruling →
    OnOk r (IsDone old (Take ruling.number ruling.k ruling.judged) new) → OnErr r (IsUntouched old new) →
    IsTold pass 1 old new
told_or_not pass old new ruling (Ok x) is_seen done same = one_told pass old new ruling is_seen done
told_or_not pass old new ruling (Err e) is_seen done same = not_told pass 1 old new same

-- calls that follow others
then_carried : (s t : sides.Side) (later earlier : List Call) → all_carried_out s earlier ≡ Some t →
    all_carried_out s (later ++ earlier) ≡ all_carried_out t later
then_carried s t [] earlier h = h
then_carried s t (call ∷ later) earlier h =
    ap (option_and_then (λ next. carried_out next call)) (then_carried s t later earlier h)

abbrev take_of : Ruling → Call
take_of ruling = Take ruling.number ruling.k ruling.judged

pub told_on : (pass : Pass) (n m : ℕ) (a b c : Side) → IsTold pass n a b → IsTold pass m b c → IsTold pass (n + m) a c
told_on pass n m a b c first second =
    let both : takes_of (second.rulings ++ first.rulings) ≡ takes_of second.rulings ++ takes_of first.rulings =
    map-append take_of second.rulings first.rulings in record {
      rulings = second.rulings ++ first.rulings;
      seen_each =
          All-append (HasSeen pass) second.rulings first.rulings second.seen_each first.seen_each;
      few = omega (arith, length-append second.rulings first.rulings, first.few, second.few);
      carried = ap (all_carried_out (shown a)) both
          ∙ then_carried (shown a) (shown b) (takes_of second.rulings) (takes_of first.rulings) first.carried
          ∙ second.carried;
      written = second.written ∙ ap (λ (l : List Call). takes_of second.rulings ++ l) first.written
          ∙ sym (append_assoc (takes_of second.rulings) (takes_of first.rulings) (calls a))
          ∙ ap (λ (l : List Call). l ++ calls a) (sym both);
      same_limit = second.same_limit ∙ first.same_limit;
    }

pub told_fewer : (pass : Pass) (n m : ℕ) (old new : Side) → n ≤ m → IsTold pass n old new → IsTold pass m old new
told_fewer pass n m old new le told = record {
  rulings = told.rulings;
  seen_each = told.seen_each;
  few = omega (arith, le, told.few);
  carried = told.carried;
  written = told.written;
  same_limit = told.same_limit;
}

-- ---- both sides

pub both_told : (place : Place) (pass : Pass) (old_a old_b mid_a mid_b new_a new_b : Side) → pass.place ≡ place →
    IsTold pass (length place.clashes) old_a mid_a → IsTold pass (length place.clashes) old_b mid_b → new_a ≡ mid_a →
    new_b ≡ mid_b → AreTold place old_a old_b new_a new_b
both_told place pass old_a old_b mid_a mid_b new_a new_b of_board a b is_a is_b = record {
  pass = pass;
  of_board = of_board;
  first = subst (IsTold pass (length place.clashes) old_a) (sym is_a) a;
  second = subst (IsTold pass (length place.clashes) old_b) (sym is_b) b;
}

-- where no pass could be made
pub none_told : (place : Place) (old_a old_b new_a new_b : Side) → new_a ≡ old_a → new_b ≡ old_b →
    AreTold place old_a old_b new_a new_b
none_told place old_a old_b new_a new_b is_a is_b =
    let unseen : Pass = record { place = place; words = [] } in
    both_told place unseen old_a old_b old_a old_b new_a new_b refl (same_told unseen _ old_a)
    (same_told unseen _ old_b) is_a is_b
