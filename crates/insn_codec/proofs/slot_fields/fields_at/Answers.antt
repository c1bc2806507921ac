use Rattle.std.proofs.Common.{◌≡◌, ◌∙◌, ◌%◌, ◌/◌, get_or, take, drop}
use Rattle.std.specs.Int.{w16, w32, from_le_bytes}
use Rattle.insn_codec.proofs.LittleEndian.{two_bytes, four_bytes}
use Rattle.insn_codec.proofs.slot_fields.fields_at.Goals as goal

pub returns : goal.returns
returns c =
    let bytes = c.args.bytes.now in
    let offset : c.read_u16.result ≡ from_le_bytes w16 (take 2 (drop 2 c.args.bytes.now)) = c.read_u16.ensures
    ∙ two_bytes (take 2 (drop 2 c.args.bytes.now)) in
    let imm : c.read_u32.result ≡ from_le_bytes w32 (take 4 (drop 4 c.args.bytes.now)) = c.read_u32.ensures
    ∙ four_bytes (take 4 (drop 4 c.args.bytes.now)) in
    λ i. record {
      opcode = get_or bytes 0 0;
      dst = get_or bytes 1 0 % 16;
      src = get_or bytes 1 0 / 16;
      offset = offset i;
      imm = imm i;
    }
