use denote.Struct.Struct.{exits_of}
use denote.Struct.Owning.{shape, fields, to}
use denote.Param.Send.{IsSend, AllSend, owning_send, struct_send, sendable}
use Rattle.std.proofs.alloc.Global.TheSendSync as heap
use Rattle.handles.proofs.Crossing.{owned, quiet}
use Rattle.bpf.specs.contracts.sandbox.Sandbox as inner
use Rattle.bpf.proofs.sandbox.Sandbox.TheSendSync.{the_send}
use Rattle.heal_c.specs.contracts.sandbox_handle.HealSandbox.{the_row, the_type}

pub send : IsSend the_row
send =
    let all : AllSend (fields the_type) = (search sendable, (heap.the_field_send, tt)) in
    owning_send the_type all (λ d. owned inner.the_row the_send d.alloc d.at d.sandbox) (λ k. quiet (to the_type) (exits_of k (fields the_type)) ((struct_send (shape the_type) all).leaving k))
