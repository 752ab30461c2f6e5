use Rattle.claims.specs.declared.records.Claim.TheVariants.{Instance, Host}
use native.Mathlib.Omega.{arith}
use Rattle.wire.specs.message.Readable.{message_in}
use Rattle.facts.proofs.Types.{quiet_claim}
use Rattle.facts.proofs.Said.{says-response}
use Rattle.facts.proofs.chains.Walked.{not_noted}
use Rattle.facts.proofs.facts.Goals as goal

pub returns-then-is_quiet : goal.returns-then-is_quiet
unfolding message_in
returns-then-is_quiet c = let a = c.args in
    let quiet = c.is_quiet.ensures c.if-is_quiet.true in
    says-response a.setup (message_in a.p.now a.l) _ _ _ _ _ quiet.0 c.no_record.ensures c.no_record-then-is_quiet.ensures c.no_record-then-is_quiet-2.ensures
    (quiet_claim a.setup a.p.now a.l quiet.1 Instance) (quiet_claim a.setup a.p.now a.l quiet.1 Host)

pub noted_facts-requires : goal.noted_facts-requires
noted_facts-requires c = c.is_read.ensures c.if-is_read.true

pub facts_by-requires : goal.facts_by-requires
facts_by-requires c = not_noted _ _ _ (omega arith)
