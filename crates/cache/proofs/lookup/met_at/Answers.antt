use Rattle.cache.proofs.lookup.met_at.Goals as goal

pub returns : goal.returns
returns c = λ i. record { slot = c.args.slot; labels = (c.plain_span-span.ensures i).labels; first = (c.plain_span-span.ensures i).first }
