-- The numbers and the places of the faults of messages.
use Rattle.std.specs.Prelude.{ℕ, Option, Some, None}
use Rattle.refusals.specs.Answers.{out_of_memory}
use Rattle.refusals.specs.declared.Place.{Place}
use Rattle.refusals.specs.declared.Place.TheVariants.{Byte, Item}
use Rattle.exchange_codec.specs.declared.fault.FieldFault.{FieldFault}
use Rattle.exchange_codec.specs.declared.fault.FieldFault.TheVariants.{Cut, Header, Trailing, Count, Side, Name, Resolver, Version}
use Rattle.exchange_codec.specs.declared.fault.ItemFault.{ItemFault}
use Rattle.exchange_codec.specs.declared.fault.ItemFault.TheVariants.{NameAgain, NameOrder, NoProgram, ProgramAgain, Program}
use Rattle.exchange_codec.specs.declared.fault.MessageFault.{MessageFault}
use Rattle.exchange_codec.specs.declared.fault.MessageFault.TheVariants as message

-- the number of a fault of a field
abbrev pub field_fault_number : FieldFault → ℕ
field_fault_number Cut = 70
field_fault_number Header = 71
field_fault_number Trailing = 72
field_fault_number Count = 73
field_fault_number Side = 74
field_fault_number Name = 75
field_fault_number Resolver = 76
field_fault_number Version = 82

-- the number of a fault of a row or a name
abbrev pub item_fault_number : ItemFault → ℕ
item_fault_number NameAgain = 77
item_fault_number NameOrder = 78
item_fault_number NoProgram = 79
item_fault_number ProgramAgain = 80
item_fault_number (Program fault) = 81

abbrev pub message_fault_number : MessageFault → ℕ
message_fault_number (message.Field fault at) = field_fault_number fault
message_fault_number (message.Item fault at) = item_fault_number fault
message_fault_number message.OutOfMemory = out_of_memory

abbrev pub message_fault_place : MessageFault → Option Place
message_fault_place (message.Field fault at) = Some (Byte at)
message_fault_place (message.Item fault at) = Some (Item at)
message_fault_place message.OutOfMemory = None
