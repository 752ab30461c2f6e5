use Rattle.wire.proofs.nsec.Blocks.{bit_shifted}
use Rattle.wire.proofs.nsec.names_type.Goals as goal

pub returns : goal.returns
returns c = bit_shifted c.args.block.now c.args.rtype _ c.byte-bits.ensures
