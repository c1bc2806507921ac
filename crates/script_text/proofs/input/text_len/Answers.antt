use Rattle.std.proofs.Common.{length, refl, ◌∙◌}
use Rattle.script_text.proofs.Feeds.{first_feed}
use Rattle.script_text.proofs.input.text_len.Goals as goal

pub returns : goal.returns
returns c =
    c.unwrap_or.ensures ∙ first_feed c.args.bytes.now c.memchr.result (length c.args.bytes.now) refl c.memchr.ensures
