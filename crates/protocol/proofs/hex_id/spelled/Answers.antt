use Rattle.protocol.proofs.HexDigits.{spelled_by}
use Rattle.protocol.proofs.hex_id.spelled.Goals as goal

pub returns : goal.returns
returns c = rw c.ok.ensures.value (spelled_by c.args.text.now _ c.from_hex.ensures)
