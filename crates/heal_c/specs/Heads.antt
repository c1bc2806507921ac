-- The head of a message for C.
use Rattle.std.specs.Prelude.{◌≡◌, ◌⊎◌, ℕ, List, length, Option, Some, None, Result, Ok, Err}
use Rattle.refusals.specs.Answers.{out_of_memory}
use Rattle.exchange_codec.specs.declared.fault.MessageFault.{MessageFault}
use Rattle.exchange_codec.specs.declared.head.MessageHead.{MessageHead}
use Rattle.exchange_codec.specs.declared.head.MessageKind.{MessageKind}
use Rattle.exchange_codec.specs.declared.head.MessageKind.TheVariants as kind
use Rattle.exchange_codec.specs.Faults.{message_fault_number}
use Rattle.exchange_codec.specs.Peeking.{peeked}
use Rattle.exchange_codec.specs.Reading.{due}
use Rattle.heal_c.specs.declared.head_exports.HealHead.{HealHead}
use Rattle.c_calls.specs.Codes.{side_code}

-- an offer is 1, and a list 2
abbrev pub kind_code : MessageKind → ℕ
kind_code kind.Offer = 1
kind_code kind.Withdrawals = 2

-- the seed of an offer, or 0
abbrev pub seed_code : Option ℕ → ℕ
seed_code (Some seed) = seed
seed_code None = 0

abbrev pub head_code : MessageHead → HealHead
head_code head = record {
  kind = kind_code head.kind;
  version = 1;
  side = side_code head.side;
  reserved = 0;
  number = head.number;
  seed = seed_code head.seed;
}

-- the head that the bytes begin with, or the number of their first fault there
abbrev pub head_in : Result MessageHead MessageFault → Result HealHead ℕ
head_in (Ok head) = Ok (head_code head)
head_in (Err fault) = Err (message_fault_number fault)

abbrev pub peeked_head : List ℕ → Result HealHead ℕ
peeked_head bytes = head_in (due (length bytes) (peeked bytes))
