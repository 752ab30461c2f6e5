use native.Mathlib.Omega.{arith}
use mathlib.Core.Path.{ap, ◌∙◌}
use lib.ListN.{replicate}
use lib.Seq.{sets}
use Rattle.own.proofs.records.Laying.{own_srv}
use Rattle.own.proofs.records.srv_rdata.Goals as goal

pub returns : goal.returns
returns c = own_srv _ _ _ _ (omega arith) (c.put.ensures ∙ ap (sets (replicate 400 0) 4) c.to_be_bytes.ensures) c.put_host_name-len.ensures
