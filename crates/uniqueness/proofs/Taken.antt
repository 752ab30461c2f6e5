-- What our responder sends is taken by any other: whatever state sends it, a packet of an accepted call is never refused as 4, 5 or 6 by a packet received
-- call that gets it from port 5353. Assumes nothing.
use mathlib.Core.Path.{◌≡◌, refl, subst, sym, ap, ◌∙◌}
use mathlib.Core.Logic.{◌≢◌, ◌⊎◌, inl, inr}
use mathlib.Core.Bool.{Bool, true, false, cond, and-false}
use mathlib.Core.Option.{some}
use mathlib.Core.List.{List, [], ◌∷◌}
use Prim.Native.Nat.{ℕ, ◌≤◌}
use native.Mathlib.Omega.{arith}
use Rattle.wire.specs.message.Message.{Message, is_response}
use Rattle.wire.specs.message.Layout.{Reads, read, refused, message_at, read_of, refusal_of}
use Rattle.wire.specs.octets.Octets.{word16}
use Rattle.wire.specs.message.Refusals.{message_refusal}
use Rattle.wire.proofs.message.Refused.{from-there}
use Rattle.claims.specs.Refusals.{wrong_time, wrong_draws}
use Rattle.responder.specs.Refusals.{small_buffers, wrong_state, receive_refusal}
use Rattle.responder.specs.declared.State.{State}
use Rattle.responder.proofs.Refusals.{in_order_lem, receive-accepted, tick-accepted}
use Rattle.link.specs.Responder as link
use Rattle.link.specs.Responder.{Parcel}
use Rattle.link.specs.Premises.{Among}
use Rattle.link.specs.Laws as law
use Rattle.link.specs.Laws.{Sent, ReadAs}
use Rattle.responder.specs.Handed.{Arrival, Tick}
use Rattle.uniqueness.specs.Responder.{tick, receive, message_of, read_as, responder}
use Rattle.uniqueness.specs.Rules.{Of, Ready, rules}
use Rattle.uniqueness.proofs.Lists.{clash}
use Rattle.uniqueness.proofs.Calls.{right_setup, tick_is, receive-is, ticked, received}

-- "4: message under 12 or over 8,972 bytes", "5: opcode or RCODE not zero, or source port not 5353" (of a response), "6: message malformed"
abbrev pub Taken : List ℕ → Type 0
Taken p = (z : State) (a : Arrival) (n : ℕ) → a.port ≡ 5353 → a.packet ≡ p → receive_refusal z a ≡ n → 4 ≤ n → n ≤ 6 → ⊥

no_refusal : (r : Reads) (m : Message) → message_of r ≡ some m → refusal_of (read_of r) ≡ 0
no_refusal (read l n) m e = refl
no_refusal (refused n) m e = clash (cc)

-- a packet that is read is refused from another port only
from-port : (p : List ℕ) (m : Message) → read_as p ≡ some m → message_refusal 5353 p ≡ 0
from-port p m e = from-there p 5353 (and-false (is_response (word16 p 2))) ∙ no_refusal (message_at p) m e

read_taken : (p : List ℕ) (m : Message) → read_as p ≡ some m → Taken p
read_taken p m e z a n i j h lo hi =
    let none : message_refusal a.port a.packet ≡ 0 = ap (λ (v : ℕ). message_refusal v a.packet) i ∙ ap (message_refusal 5353) j ∙ from-port p m e in
    go (wrong_time z.progress a.time) (wrong_draws a.draw a.hold) (small_buffers a) (wrong_state z) (rw none at (sym (in_order_lem z a) ∙ h))
  where
    go : (t d b w : Bool) → cond t 1 (cond d 2 (cond b 3 (cond w 7 0))) ≡ n → ⊥
    go true d b w f = omega (arith, f)
    go false true b w f = omega (arith, f)
    go false false true w f = omega (arith, f)
    go false false false true f = omega (arith, f)
    go false false false false f = omega (arith, f)

all-taken : (ps : List Parcel) (ms : List (Sent Message)) → ReadAs read_as ps ms → (p : Parcel) → Among p ps → Taken p.bytes
all-taken [] ms r p h = absurd h
all-taken (q ∷ qs) [] r p h = absurd r
all-taken (q ∷ qs) (m ∷ ms) r p (inl e) = subst (λ (v : Parcel). Taken v.bytes) (sym e) (read_taken q.bytes m.message r.0.1)
all-taken (q ∷ qs) (m ∷ ms) r p (inr h) = all-taken qs ms r.1 p h

pub ticked-taken : (x : State) (t : Tick) (y : State) (ps : List Parcel) → tick x t ≡ link.accepted y ps → (p : Parcel) → Among p ps → Taken p.bytes
ticked-taken x t y ps e p h =
    let a = tick-accepted x t (tick_is x t y ps e).none-refused in
    let of : Of x x.setup = record { setup = refl; valid = right_setup x a.right } in
    all-taken ps _ (ticked x.setup x t y ps of e).1.reads p h

pub received-taken :
    (x : State) (a : Arrival) (y : State) (ps : List Parcel) → receive x a ≡ link.accepted y ps → (p : Parcel) → Among p ps → Taken p.bytes
received-taken x a y ps e p h =
    let g = receive-accepted x a (receive-is x a y ps e).none-refused in
    let of : Of x x.setup = record { setup = refl; valid = right_setup x g.right } in
    let r = received x.setup x a y ps of e in
    go r.0 r.2
  where
    go : (m : Message)
        → ((a.port ≡ 5353) × Ready x x.setup (law.hears a m) × law.Does responder rules x y ps (law.hears a m))
        ⊎ ((a.port ≢ 5353) × Ready x x.setup (law.serves a m) × law.Does responder rules x y ps (law.serves a m)) → Taken p.bytes
    go m (inl w) = all-taken ps _ w.2.reads p h
    go m (inr w) = all-taken ps _ w.2.reads p h
