use Rattle.scripts.proofs.Saying.{said}
use Rattle.scripts.proofs.serving.upload.Goals as goal

pub returns : goal.returns
returns g c =
    said _ _ _ _ c.upload_word-reply.result c.say-said.result c.upload_word-reply.ensures c.say-said.ensures.sends
    c.say-said.ensures.status
