-- The words of a registration, without where they lie in memory.
use Rattle.std.specs.Prelude.{Result, Ok, Err}
use Rattle.script_text.specs.declared.fault.LineFault.{LineFault}
use Rattle.clash_fields.specs.declared.words.HalfWords as code
use Rattle.clash_fields.specs.Fields.{HalfWords}

abbrev pub words_by : code.HalfWords → HalfWords
words_by w = record {
  owner = w.owner.now;
  stamp = w.stamp.now;
  weight = w.weight.now;
  extra = w.extra.now;
  size = w.size.now;
  uptime = w.uptime.now;
}

abbrev pub right_words : Result code.HalfWords LineFault → Result HalfWords LineFault
right_words (Ok w) = Ok (words_by w)
right_words (Err fault) = Err fault
