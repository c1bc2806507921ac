use Rattle.std.proofs.Common.{rules, List, ℕ, ◌++◌, refl, ap, ◌∙◌}
use Rattle.std.specs.Int.{w64, to_le_bytes}
use Rattle.exchange_law.specs.Sides.{Withdrawals}
use Rattle.exchange_codec.specs.Withdrawals.{withdrawals_header}
use Rattle.exchange_codec.proofs.WithdrawalLaws.{list_written, names_spelled, spelled_names}
use Rattle.exchange_codec.proofs.withdrawals.spell_withdrawals.Goals as goal

pub returns : goal.returns
returns c =
    let list : Withdrawals = record { side = c.args.side; number = c.args.number; names = c.args.names.now } in
    let header = c.in_ok-push_u64.ensures.written ∙ ap (λ (xs : List ℕ). xs ++ to_le_bytes w64 withdrawals_header) c.new-out.ensures.items in
    let bytes = list_written list c.args.names.now c.min.result c.push_u64.new.out.items c.push_side.new.out.items
    c.push_u64-2.new.out.items c.push_u32.new.out.items c.push_names.new.out.items refl c.min.ensures header (search rules) (search rules) (search rules)
    c.in_ok-push_names.ensures.written in
    record {
      bytes = bytes;
      spelled = names_spelled list c.push_names.new.out.items bytes (search rules) c.in_ok-push_names.ensures.named;
      listed = spelled_names list c.push_names.new.out.items bytes (search rules) c.in_ok-push_names.ensures.named;
    }
