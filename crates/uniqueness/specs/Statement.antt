-- Demand 3 about our functions, proved as `demand-3` in proofs/Lawful.antt. `responder` is made of the definitions that the contracts of start, receive and
-- tick give outright (crates/responder/specs/Calls.antt): `start_of`, `receiveOf`, `tickOf`, and the packet that is laid over the out buffer. That `responder`
-- is what a caller of those functions, and of the exported ones on a state in bytes, sees is what the functions of crates/demand3 ensure. Assumes nothing.
use Rattle.link.specs.Demand3.{Demand3}
use Rattle.link.specs.Joined.{Joined, TwoFloorsJoined}
use Rattle.link.specs.Contention.{ContentionEnds, OneIsLeft, LastExists}
use Rattle.uniqueness.specs.Responder.{responder}
use Rattle.uniqueness.specs.Tiebreak.{tiebreak}

abbrev pub Theorem : Type 0
Theorem = Demand3 responder

-- Two links joined, of the same responder: `links-joined` there, and in the request's own words `two-floors-joined`
abbrev pub JoinedTheorem : Type 0
JoinedTheorem = Joined responder

abbrev pub FloorsTheorem : Type 0
FloorsTheorem = TwoFloorsJoined responder

-- Contention ends, of the same responder: `contention-ends` in proofs/Candid.antt; how soon for all, `one-is-left`; and that of finitely many one has the
-- latest records, `last-exists`
abbrev pub ContentionTheorem : Type 0
ContentionTheorem = ContentionEnds responder tiebreak

abbrev pub OneIsLeftTheorem : Type 0
OneIsLeftTheorem = OneIsLeft responder tiebreak

abbrev pub LastTheorem : Type 0
LastTheorem = LastExists responder tiebreak
