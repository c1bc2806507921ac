use Rattle.exchange_codec.proofs.OfferLaws.{head_and_rows, head_and_fault}
use Rattle.exchange_codec.proofs.offers.all.Goals as goal

pub returns-in-Ok-clause-read : goal.returns-in-Ok-clause-read
returns-in-Ok-clause-read c =
    let built = c.in-Ok.ensures.built in (
      built.0,
      head_and_rows c.args.bytes.now c.in_ok-rest.rest.now c.in_ok-head.rest.now c.in_ok-head.head c.in_ok-rest.ensures
          c.in_ok-head.ensures built.0 built.1,
      built.2,
    )

pub returns-in-Err-clause-failed : goal.returns-in-Err-clause-failed
returns-in-Err-clause-failed c =
    head_and_fault c.args.bytes.now c.in_ok-rest.rest.now c.in_ok-head.rest.now c.in_ok-head.head c.in_ok-rest.ensures
    c.in_ok-head.ensures c.in-Err.error c.in-Err.ensures.failed
