-- A record as it lies in a message, and as it lies in the cache. Assumes nothing.
use Rattle.std.specs.Prelude.{Option, Some, None, Result, Ok}
use mathlib.Core.Path.{◌≡◌, refl, sym, ap, ap₂, ◌∙◌}
use mathlib.Core.List.{List, ◌++◌}
use mathlib.Core.Bool.{Bool, true, false, cond}
use Prim.Native.Nat.{ℕ, ◌-◌, ◌≤◌}
use native.Mathlib.Omega.{arith}
use lib.ListN.{length, take, drop, replicate, length-append}
use lib.Seq.{take_at}
use lib.Dec.{ltb}
use Rattle.wire.specs.names.Names.{name_at}
use Rattle.wire.specs.names.Answers.{expanded}
use Rattle.wire.specs.declared.names.Expanded.{Expanded}
use Rattle.wire.specs.rdata.Rdata.{rdata, rdata_at}
use Rattle.wire.specs.rdata.Answers.{fits}
use Rattle.wire.specs.expansion.Opened.{opened_at, view_of}
use Rattle.wire.specs.declared.expansion.Opened.{Opened}
use Rattle.wire.specs.message.Message.{record_of, class_of}
use Rattle.wire.specs.message.Layout.{record_at}
use Rattle.wire.specs.message.Readable.{whole_read, record_shown}
use Rattle.wire.specs.declared.message.RecordAt.{RecordAt}
use Rattle.wire.specs.declared.refusals.Refusal.{Refusal}
use Rattle.wire.specs.refusals.Numbers.{refused_by}
use Rattle.wire.proofs.message.Walk.{RecordMet, record_found, record_broken}
use Rattle.wire.proofs.expansion.Views.{view_is}
use Rattle.cache.specs.entries.Entries.{is_live}
use Rattle.cache.specs.declared.entries.Entry.{Entry}
use Rattle.proxy.specs.domains.Domains.{Domains, unless_refused}
use Rattle.proxy.specs.records.Records.{is_whole, owner_out, rdata_out, capped, mapped, record_tests, passed_record, record_out, none_out, item_out}
use Rattle.proxy.specs.records.Held.{left_of, held_record, held_tests, held_out}
use Rattle.proxy.specs.declared.records.Passed.{Passed}

abbrev Out : Type 0
Out = Result (Option Passed) Refusal

-- in a message
pub none-lying : (d : Domains) (p : List ℕ) (at : ℕ) → whole_read p at ≡ None → (r : Out) → r ≡ none_out d → r ≡ item_out d (record_at p at)
none-lying d p at e r h = h ∙ ap (item_out d) (sym (record_broken p at (whole_read p at) refl e))

module _ (p : List ℕ) (at : ℕ) (f : RecordAt) (e : whole_read p at ≡ Some f) (x : Expanded)
    (xi : x ≡ expanded (name_at p f.owner)) where
  met : RecordMet p at f
  met = record_found p at (whole_read p at) refl f e

  abbrev owner : List ℕ
  owner = (record_shown p f).owner

  bytes_are : x.bytes ≡ owner ++ replicate (255 - length owner) 0
  bytes_are = ap (λ (y : Expanded). y.bytes) (xi ∙ ap expanded met.owner)

  pub span_within_lem : f.span.len ≤ length x.bytes
  span_within_lem = omega (arith, met.span, ap length bytes_are, length-append owner (replicate (255 - length owner) 0))

  owner_is : take f.span.len x.bytes ≡ owner
  owner_is = ap (take f.span.len) bytes_are ∙ take_at owner (replicate (255 - length owner) 0) f.span.len (sym met.span)

  pub span_long : f.span.len ≡ length (take f.span.len x.bytes)
  span_long = met.span ∙ sym (ap length owner_is)

  pub record_lying : (o : Opened) → o ≡ opened_at p f → (seen : List ℕ) → seen ≡ view_of p o.bytes o.len f → (d : Domains) (r : Out)
      → r ≡ record_out d (record_of (take f.span.len x.bytes) f.rtype f.class f.ttl seen) → r ≡ item_out d (record_at p at)
  record_lying o oi seen s d r h =
      let fit : fits (rdata_at p f) ≡ true = ap fits met.content in
      let same : rdata seen ≡ rdata (record_shown p f).rdata = ap rdata s ∙ sym (view_is p f fit o oi) ∙ met.content in
      let bytes : seen ≡ (record_shown p f).rdata = cc in
      h ∙ ap₂ (λ (l m : List ℕ). record_out d (record_of l f.rtype f.class f.ttl m)) owner_is bytes ∙ ap (item_out d) (sym met.here)

-- in the cache

-- a TTL that was capped already is capped no further
capped-twice : (n : ℕ) → capped (capped n) ≡ capped n
capped-twice n = go (ltb 10 n) refl
  where
    go : (b : Bool) → ltb 10 n ≡ b → capped (capped n) ≡ capped n
    go true e = ap (λ (b : Bool). capped (cond b 10 n)) e ∙ sym (ap (λ (b : Bool). cond b 10 n) e)
    go false e = ap (λ (b : Bool). capped (cond b 10 n)) e

pub capped-first : (d : Domains) (owner : List ℕ) (rtype class n : ℕ) (content : List ℕ)
    → record_out d (record_of owner rtype class (capped n) content) ≡ record_out d (record_of owner rtype class n content)
unfolding record_out mapped
capped-first d owner rtype class n content = ap with-ttl (capped-twice n)
  where
    with-ttl : ℕ → Out
    with-ttl k =
        unless_refused (refused_by (record_tests d (record_of owner rtype class 0 content)))
        (Ok (cond (is_whole owner rtype content) (Some (passed_record (record_of (owner_out d rtype owner) rtype (class_of class) k (rdata_out d rtype content)))) None))

pub held-live : (d : Domains) (time : ℕ) (e : Entry) (slot : List ℕ) → refused_by (held_tests time e slot) ≡ Ok tt → is_live time e ≡ true
    → (owner content : List ℕ) (ttl : ℕ) → owner ≡ take e.owner (drop 0 slot) → content ≡ take e.rdata (drop 256 slot) → ttl ≡ capped (left_of time e.expiry)
    → (r : Out) → r ≡ record_out d (record_of owner e.rtype 1 ttl content) → r ≡ held_out d time e slot
unfolding held_out
held-live d time e slot z l owner content ttl o c t r h =
    let whole : record_out d (record_of owner e.rtype 1 ttl content) ≡ record_out d (held_record time e slot) =
    ap (λ (k : ℕ). record_out d (record_of owner e.rtype 1 k content)) t ∙ capped-first d owner e.rtype 1 (left_of time e.expiry) content
    ∙ ap₂ (λ (x y : List ℕ). record_out d (record_of x e.rtype 1 (left_of time e.expiry) y)) o c in
    h ∙ whole ∙ sym (simp (z, l))
