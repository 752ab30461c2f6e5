-- The own names and rdata as parts of the arrays that hold them. Assumes nothing.
use mathlib.Core.Path.{◌≡◌, refl, ap, ◌∙◌}
use mathlib.Core.List.{List}
use Prim.Native.Nat.{ℕ, ◌-◌}
use lib.ListN.{length, take, drop, replicate}
use lib.Seq.{take_at}
use Rattle.own.specs.declared.records.OwnBytes.{OwnBytes}
use Rattle.own.specs.records.Records.{own_of}

pub own_part : (o : OwnBytes) (bs : List ℕ) → o ≡ own_of bs → take o.len (drop 0 o.bytes) ≡ bs
own_part o bs h = ap (λ (y : OwnBytes). take y.len y.bytes) h ∙ take_at bs (replicate (400 - length bs) 0) (length bs) refl
