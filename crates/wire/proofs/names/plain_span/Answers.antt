use lib.ListN.{length}
use Rattle.wire.proofs.names.plain_span.Goals as goal

pub returns : goal.returns
returns c = let n = length c.args.s.now in
    λ i. record { end = n; len = n; labels = c.labels_in.ensures i; first = c.byte.ensures i }
