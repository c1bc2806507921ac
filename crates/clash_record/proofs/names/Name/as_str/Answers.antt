use Rattle.std.proofs.Common.{IsUtf8, rules}
use Rattle.clash_record.proofs.NameBytes.{name_is_text}
use Rattle.clash_record.proofs.names.Name.as_str.Goals as goal

pub unwrap-requires : goal.unwrap-requires
unwrap-requires c = let text : IsUtf8 c.bytes.result.now = name_is_text _ c.bytes.ensures.named in search rules
