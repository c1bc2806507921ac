use Rattle.std.specs.Io.Take.{take_limit, take_inner}
use Rattle.code_file.proofs.WholeFiles.{whole_read}
use Rattle.code_file.proofs.files.read_whole.Goals as goal

pub returns : goal.returns
returns g c =
    whole_read g.R.Read.remaining c.args.reader (take_inner c.take.result) (take_limit c.take.result)
    c.new-bytes.result.items c.read_to_end.new.buf.items
    c.take.ensures.inner c.take.ensures.limit c.new-bytes.ensures.items c.in_ok-read_to_end.ensures.bytes
