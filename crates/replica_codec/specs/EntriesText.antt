-- The text of an entry, without where it lies in memory.
use Rattle.replica_codec.specs.declared.texts.EditText.{EditText}
use Rattle.replica_codec.specs.declared.texts.EditText.TheVariants as declared
use Rattle.replica_codec.specs.declared.texts.EntryText.{EntryText}
use Rattle.replica_codec.specs.Entries as entries

abbrev pub edit_view : EditText → entries.EditText
edit_view (declared.Registers name registration) = entries.Registers name registration
edit_view (declared.Unregisters name) = entries.Unregisters name
edit_view (declared.Uploads code) = entries.Uploads code.now
edit_view (declared.Limits names) = entries.Limits names
edit_view (declared.Begins number) = entries.Begins number

abbrev pub entry_view : EntryText → entries.EntryText
entry_view t = record { at = t.at; edit = edit_view t.edit }
