-- What the tiebreak of our responder sees (`Tiebreak` of `link`): the tests that receive makes, of a message and of two set-ups. Assumes nothing: these are
-- definitions.
use Rattle.std.specs.Prelude.{Bool}
use Rattle.own.specs.declared.records.Setup.{Setup}
use Rattle.facts.specs.tiebreak.Later.{tie, is_later}
use Rattle.facts.specs.probe.Probe.{is_probe}
use Rattle.facts.specs.Facts.{ours}
use Rattle.link.specs.Responder.{Claim}
use Rattle.link.specs.Contention.{Tiebreak}
use Rattle.uniqueness.specs.Responder.{own_claim, responder}

-- "Later": the own list of the first against that of the second
unfoldable pub later : Setup → Setup → Claim → Bool
later s t k = is_later (tie (ours s (own_claim k)) (ours t (own_claim k)))

abbrev pub tiebreak : Tiebreak responder
tiebreak = record { probes = λ m n. is_probe n m; later = later }
