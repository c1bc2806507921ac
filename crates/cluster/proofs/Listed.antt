-- Both halves close their lists, and hear each other's.
use Rattle.std.proofs.Common.{◌≡◌, ap, ◌∙◌}
use Rattle.std.specs.Prelude.{OnOk, OnErr, IfOk}
use Rattle.std.specs.declared.result.Result.{Result}
use Rattle.std.specs.declared.result.Result.TheVariants.{Ok}
use Rattle.clash_record.specs.declared.side_id.SideId.TheVariants.{A, B}
use Rattle.exchange_core.specs.declared.fault.SideFault.{SideFault}
use Rattle.exchange_core.specs.declared.side.Side as code
use Rattle.exchange_law.specs.Sides.{Withdrawals}
use Rattle.exchange_law.specs.Worlds.{list_of}
use Rattle.exchange_law.specs.Calls.{Close_list, Hear_list}
use Rattle.exchange_core.specs.Shown.{shown, IsDone, IsUntouched}
use Rattle.cluster.specs.Clusters.{Cluster}
use Rattle.cluster.specs.Healing.{Plan, gone_of_side}
use Rattle.cluster.specs.model.Stages.{no_ruling, AreTrying}
use Rattle.cluster.proofs.Answered.{pair, ok_has}
use Rattle.cluster.proofs.Steps.{listed}
use Rattle.cluster.proofs.Trying.{both_close, both_hear_lists}

pub both_lists : {X Y : Type 0} (close_a close_b : Result Withdrawals SideFault) (hear_a : Result X SideFault)
    (hear_b : Result Y SideFault) (of_a of_b : Withdrawals) (old_a old_b mid_a mid_b new_a new_b : code.Side) →
    close_a ≡ Ok of_a → close_b ≡ Ok of_b → IfOk close_a (λ l. l ≡ list_of (shown old_a)) →
    IfOk close_b (λ l. l ≡ list_of (shown old_b)) → OnOk close_a (IsDone old_a Close_list mid_a) →
    OnErr close_a (IsUntouched old_a mid_a) → OnOk close_b (IsDone old_b Close_list mid_b) →
    OnErr close_b (IsUntouched old_b mid_b) → OnOk hear_a (IsDone mid_a (Hear_list of_b) new_a) →
    OnErr hear_a (IsUntouched mid_a new_a) → OnOk hear_b (IsDone mid_b (Hear_list of_a) new_b) →
    OnErr hear_b (IsUntouched mid_b new_b) → (plan : Plan) (was : Cluster) →
    AreTrying plan was plan.gone (pair old_a old_b) → AreTrying plan was plan.gone (pair new_a new_b)
both_lists close_a close_b hear_a hear_b of_a of_b old_a old_b mid_a mid_b new_a new_b is_a is_b list_a list_b
    closed_a same_a closed_b same_b heard_a kept_a heard_b kept_b plan was trying =
    both_hear_lists hear_a hear_b of_a of_b mid_a mid_b new_a new_b heard_a kept_a heard_b kept_b plan was
    (ap (λ (l : Withdrawals). l.names) (ok_has (λ l. l ≡ list_of (shown old_a)) close_a of_a is_a list_a)
    ∙ listed plan was no_ruling A (gone_of_side A plan.gone) (shown old_a) trying.a)
    (ap (λ (l : Withdrawals). l.names) (ok_has (λ l. l ≡ list_of (shown old_b)) close_b of_b is_b list_b)
    ∙ listed plan was no_ruling B (gone_of_side B plan.gone) (shown old_b) trying.b)
    (both_close close_a close_b old_a old_b mid_a mid_b closed_a same_a closed_b same_b plan was trying)
