use borrow.Author.Tests.{eq-eqb, ne_eqb}
use Rattle.responder.specs.address.Address.{address_of}
use Rattle.responder.proofs.address.address_of.Goals as goal

pub returns-then-bytes-eq16 : goal.returns-then-bytes-eq16
unfolding address_of
returns-then-bytes-eq16 c = simp
    (eq-eqb _ 16 c.if-bytes-eq16.true, c.be32-first.ensures, c.be32-second.ensures, c.be32-third.ensures, c.be32-fourth.ensures)

pub returns-then-bytes-eq4 : goal.returns-then-bytes-eq4
unfolding address_of
returns-then-bytes-eq4 c = simp (ne_eqb _ 16 c.if-bytes-eq16.false, eq-eqb _ 4 c.if-bytes-eq4.true, c.be32.ensures)

pub returns-else-bytes-eq4 : goal.returns-else-bytes-eq4
unfolding address_of
returns-else-bytes-eq4 c = simp (ne_eqb _ 16 c.if-bytes-eq16.false, ne_eqb _ 4 c.if-bytes-eq4.false)
