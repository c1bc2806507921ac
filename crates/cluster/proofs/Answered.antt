-- Facts about a side after a call.
use Rattle.std.proofs.Common.{◌≡◌, List, [], ◌∷◌, ◌++◌, Some, append_assoc, refl, sym, ap, ◌∙◌, subst}
use Rattle.std.specs.Prelude.{OnOk, OnErr, IfOk}
use Rattle.std.specs.declared.result.Result.{Result}
use Rattle.std.specs.declared.result.Result.TheVariants.{Ok, Err}
use Rattle.exchange_core.specs.declared.fault.SideFault.{SideFault}
use Rattle.exchange_core.specs.declared.side.Side as code
use Rattle.exchange_law.specs.Sides.{Side}
use Rattle.exchange_law.specs.Calls.{Call, carried_out}
use Rattle.exchange_core.specs.Shown.{shown, IsDone, IsUntouched}
use Rattle.cluster.specs.Clusters.{Standing, Cluster, Extends, standing_of}
use Rattle.cluster.specs.Healing.{Grows, HaveGrown}
use Rattle.cluster.specs.model.Stages.{AddsEvents}

abbrev pub pair : code.Side → code.Side → Cluster
pair a b = record { a = standing_of a; b = standing_of b }

pub was_ok : {X F D : Type 0} (r : Result X F) (x : X) → r ≡ Ok x → OnOk r D → D
was_ok {X} {F} {D} r x e h = subst (λ (s : Result X F). OnOk s D) e h

pub ok_has : {X F : Type 0} (P : X → Type 0) (r : Result X F) (x : X) → r ≡ Ok x → IfOk r P → P x
ok_has {X} {F} P r x e h = subst (λ (s : Result X F). IfOk s P) e h

pub if_ok : {X E : Type 0} {P Q : X → Type 0} (r : Result X E) → ((x : X) → P x → Q x) → IfOk r P → IfOk r Q
if_ok (Ok x) f h = f x h
if_ok (Err e) f h = tt

pub on_ok : {X E P : Type 0} (r : Result X E) → P → OnOk r P
on_ok (Ok x) h = h
on_ok (Err e) h = tt

pub on_err : {X E P : Type 0} (r : Result X E) → P → OnErr r P
on_err (Ok x) h = tt
on_err (Err e) h = h

pub if_refused : {X E P Q : Type 0} (r : Result X E) → (P → Q) → OnErr r P → OnErr r Q
if_refused (Ok x) f h = tt
if_refused (Err e) f h = f h

-- the call was carried out, or nothing changed
pub by_answer : {X : Type 0} (r : Result X SideFault) (old new : code.Side) (call : Call) (P : Side → Type 0) →
    OnOk r (IsDone old call new) → OnErr r (IsUntouched old new) → P (shown old) →
    ((next : Side) → carried_out (shown old) call ≡ Some next → P next) → P (shown new)
by_answer (Ok x) old new call P done same before after = after (shown new) done.carried
by_answer (Err e) old new call P done same before after = subst P (sym same.state) before

pub done_grows : (old new : code.Side) (call : Call) → IsDone old call new → AddsEvents old new
done_grows old new call done =
    record { same_limit = done.same_limit; extends = record { added = call ∷ []; is = done.written } }

pub untouched_grows : (old new : code.Side) → IsUntouched old new → AddsEvents old new
untouched_grows old new same =
    record { same_limit = same.same_limit; extends = record { added = []; is = same.journal } }

pub answer_grows : {X : Type 0} (r : Result X SideFault) (old new : code.Side) (call : Call) →
    OnOk r (IsDone old call new) → OnErr r (IsUntouched old new) → AddsEvents old new
answer_grows (Ok x) old new call done same = done_grows old new call done
answer_grows (Err e) old new call done same = untouched_grows old new same

-- a journal that goes on twice
pub extends_on : (x y z : List Call) → Extends x y → Extends y z → Extends x z
extends_on x y z h k = record {
  added = k.added ++ h.added;
  is = k.is ∙ ap (λ (l : List Call). k.added ++ l) h.is ∙ sym (append_assoc k.added h.added x);
}

pub grows_on : (was old new : Standing) → Grows was old → new.limit ≡ old.limit → Extends old.calls new.calls →
    Grows was new
grows_on was old new h same more = record {
  same_limit = same ∙ h.same_limit;
  kept = λ few. extends_on was.calls old.calls new.calls (h.kept few) more;
}

-- nothing was done yet
pub never_grows : (standing : Standing) → Grows standing standing
never_grows standing = record { same_limit = refl; kept = λ few. record { added = []; is = refl } }

pub adds_on : (was : Standing) (old new : code.Side) → Grows was (standing_of old) → AddsEvents old new →
    Grows was (standing_of new)
adds_on was old new h adds = grows_on was (standing_of old) (standing_of new) h adds.same_limit adds.extends

pub grown_on : (was : Cluster) (old_a old_b new_a new_b : code.Side) → HaveGrown was (pair old_a old_b) →
    AddsEvents old_a new_a → AddsEvents old_b new_b → HaveGrown was (pair new_a new_b)
grown_on was old_a old_b new_a new_b h a b =
    record { a = adds_on was.a old_a new_a h.a a; b = adds_on was.b old_b new_b h.b b }
