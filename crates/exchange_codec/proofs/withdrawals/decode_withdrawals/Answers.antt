use Rattle.std.proofs.Common.{length, arith}
use Rattle.exchange_codec.specs.Withdrawals.{whole_list}
use Rattle.exchange_codec.specs.WithdrawalsText.{list_view}
use Rattle.exchange_codec.proofs.WithdrawalLaws.{list_read, is_spelled, is_read, is_exact, bad_read, bad_exact, few_names}
use Rattle.exchange_codec.proofs.withdrawals.decode_withdrawals.Goals as goal

pub returns-in-Ok : goal.returns-in-Ok
returns-in-Ok c = record {
  spelled = is_spelled c.args.bytes.now (list_view c.in-Ok.text) c.listed.result (λ i. omega (arith, c.type_inv.bytes i)) c.in-Ok.ensures c.listed.ensures;
  taken = λ w s. is_read c.args.bytes.now (list_view c.in-Ok.text) c.listed.result w c.in-Ok.ensures c.listed.ensures s;
  exact = is_exact c.args.bytes.now (list_view c.in-Ok.text) c.listed.result c.in-Ok.ensures c.listed.ensures;
}

pub returns-in-Err : goal.returns-in-Err
returns-in-Err c = record {
  spelled = tt;
  taken = λ w s. rw c.told.ensures (bad_read (length c.args.bytes.now) c.in-Err.error (whole_list c.args.bytes.now) w c.in-Err.ensures (list_read c.args.bytes.now w s));
  exact = rw c.told.ensures (bad_exact (length c.args.bytes.now) c.in-Err.error (whole_list c.args.bytes.now) c.in-Err.ensures);
}

pub listed-requires : goal.listed-requires
listed-requires c = few_names c.args.bytes.now (list_view c.in-Ok.text) (λ i. omega (arith, c.type_inv.bytes i)) c.in-Ok.ensures
