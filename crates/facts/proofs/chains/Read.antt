-- The sections of a message that was read. Assumes nothing.
use Rattle.std.specs.Prelude.{Result, Ok}
use mathlib.Core.Path.{◌≡◌}
use mathlib.Core.List.{List}
use Prim.Native.Nat.{ℕ, ◌≤◌}
use lib.ListN.{length}
use Rattle.wire.specs.declared.refusals.Refusal.{Refusal}
use Rattle.wire.specs.message.Layout.{message_at, read_of}
use Rattle.wire.specs.declared.message.Layout.{Layout}
use Rattle.wire.proofs.message.Cursor.{as_read, sections}
use Rattle.facts.specs.chains.Chains.{WholeLayout}

pub sections_read : (p : List ℕ) (l : Layout) (a : Result Layout Refusal) → a ≡ read_of (message_at p) → (k : Layout) → a ≡ Ok k → length p ≤ 8972
    → l.questions ≡ k.questions → l.answers ≡ k.answers → l.authorities ≡ k.authorities → l.additionals ≡ k.additionals → WholeLayout p l
sections_read p l a is k e fit q an au ad =
    let r = as_read (message_at p) a k is e in
    let s = sections p k r.0 r.1 in
    record {
      fits = fit;
      questions = rw (q) (r.0.questions, (k.answers.at, s.questions));
      answers = rw (an) (r.0.answers, (k.authorities.at, s.answers));
      authorities = rw (au) (r.0.authorities, (k.additionals.at, s.authorities));
      additionals = rw (ad) (r.0.additionals, (k.end, s.additionals));
    }
