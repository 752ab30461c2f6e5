-- A set-up with new data: the names and every other record stay, the updated one has the new rdata, and it keeps the rules exactly where the new data do.
-- Assumes nothing.
use Prim.Native.Nat.{ℕ, ◌+◌, ◌/◌, ◌%◌, ◌≤◌}
use mathlib.Core.Path.{◌≡◌, refl, sym, ap, ◌∙◌}
use mathlib.Core.List.{List, ◌∷◌}
use mathlib.Core.Bool.{Bool, true, false, ◌&&◌}
use native.Mathlib.Omega.{arith}
use borrow.Author.Tests.{leb-true, eq-eqb}
use lib.ListN.{length, take, drop, replicate, length-replicate}
use lib.Dec.{leb, eqb}
use lib.Seq.{sets, sets-eq, length-sets, take_at}
use Rattle.wire.specs.labels.Labels.{encode}
use Rattle.wire.specs.rdata.Rdata.{strings_fill}
use Rattle.claims.specs.records.Own.{has}
use Rattle.claims.specs.records.Sets.{only}
use Rattle.claims.specs.declared.records.Own.{Own}
use Rattle.claims.specs.declared.records.Own.TheVariants.{Ptr, Srv, Txt, A, Aaaa, InstanceNsec, HostNsec}
use Rattle.claims.specs.changes.Changes.{changed_record}
use Rattle.claims.proofs.records.Sets.{by-record}
use Rattle.own.specs.declared.records.Setup.{Setup}
use Rattle.own.specs.declared.records.Strings.{Strings}
use Rattle.own.specs.records.Setups.{txt_fits, valid_setup, service_labels, instance_labels, host_labels, instance_fits, service_fits, protocol_fits, label_fits, domain_fits}
use Rattle.own.specs.records.Records.{has_record, own_labels, own_name, own_rdata, srv_rdata}
use Rattle.own.specs.changes.Changes.{NewData, new_port, new_txt, strings_of, with_port, with_txt, revised, change_of, valid_data}

clash : {A : Type 0} → ◌≡◌ {A = Bool} true false → A
clash h = let z : ◌≡◌ {A = ℕ} 0 1 = cc in absurd (omega arith)

-- ---- what stays

pub labels-stay : (s : Setup) (d : NewData) → (service_labels (revised s d) ≡ service_labels s) × (instance_labels (revised s d) ≡ instance_labels s) × (host_labels (revised s d) ≡ host_labels s)
unfolding service_labels instance_labels host_labels
labels-stay s (new_port port) = (refl, refl, refl)
labels-stay s (new_txt txt) = (refl, refl, refl)

pub name-stays : (s : Setup) (d : NewData) (o : Own) → own_name (revised s d) o ≡ own_name s o
unfolding own_name own_labels service_labels instance_labels host_labels
name-stays s (new_port port) = by-record (λ o. own_name (with_port s port) o ≡ own_name s o) refl refl refl refl refl refl refl
name-stays s (new_txt txt) = by-record (λ o. own_name (with_txt s txt) o ≡ own_name s o) refl refl refl refl refl refl refl

pub record_stays : (s : Setup) (d : NewData) (o : Own) → has_record (revised s d) o ≡ has_record s o
unfolding has_record
record_stays s (new_port port) o = refl
record_stays s (new_txt txt) o = refl

pub aaaa-stays : (s : Setup) (d : NewData) → (revised s d).hasaaaa ≡ s.hasaaaa
aaaa-stays s (new_port port) = refl
aaaa-stays s (new_txt txt) = refl

-- the rdata of every record but the updated one
pub rdata-stays : (s : Setup) (d : NewData) (o : Own) → has o (only (changed_record (change_of d))) ≡ false → own_rdata (revised s d) o ≡ own_rdata s o
unfolding own_rdata srv_rdata service_labels instance_labels host_labels only
rdata-stays s (new_port port) Ptr h = refl
rdata-stays s (new_port port) Srv h = clash h
rdata-stays s (new_port port) Txt h = refl
rdata-stays s (new_port port) A h = refl
rdata-stays s (new_port port) Aaaa h = refl
rdata-stays s (new_port port) InstanceNsec h = refl
rdata-stays s (new_port port) HostNsec h = refl
rdata-stays s (new_txt txt) Ptr h = refl
rdata-stays s (new_txt txt) Srv h = refl
rdata-stays s (new_txt txt) Txt h = clash h
rdata-stays s (new_txt txt) A h = refl
rdata-stays s (new_txt txt) Aaaa h = refl
rdata-stays s (new_txt txt) InstanceNsec h = refl
rdata-stays s (new_txt txt) HostNsec h = refl

-- ---- what is new

pub port-new : (s : Setup) (port : ℕ) → own_rdata (with_port s port) Srv ≡ 0 ∷ 0 ∷ 0 ∷ 0 ∷ (port / 256) ∷ (port % 256) ∷ encode (host_labels s)
unfolding own_rdata srv_rdata host_labels
port-new s port = refl

pub strings-laid : (txt o : List ℕ) (n : ℕ) → o ≡ sets (replicate 400 0) 0 txt → n ≡ length txt → ◌≡◌ {A = Strings} (record { bytes = o; len = n }) (strings_of txt)
strings-laid txt o n e h = λ i. record { bytes = e i; len = h i }

laid-front : (n : ℕ) (bs : List ℕ) → length bs ≤ n → take (length bs) (sets (replicate n 0) 0 bs) ≡ bs
laid-front n bs h =
    ap (take (length bs)) (sets-eq bs (replicate n 0) 0 (omega (arith, length-replicate {A = ℕ} n 0)))
    ∙ take_at bs (drop (0 + length bs) (replicate n 0)) (length bs) refl

pub txt-new : (s : Setup) (txt : List ℕ) → length txt ≤ 400 → own_rdata (with_txt s txt) Txt ≡ txt
unfolding own_rdata
txt-new s txt h = laid-front 400 txt h

-- ---- which set-ups keep the rules

-- a port may be any
pub port-valid : (s : Setup) (port : ℕ) → valid_setup (with_port s port) ≡ valid_setup s
unfolding valid_setup
port-valid s port = refl

strings-fit : (txt : List ℕ) → txt_fits (strings_of txt) ≡ valid_data (new_txt txt)
unfolding txt_fits valid_data
strings-fit txt = go (leb 1 (length txt)) (leb (length txt) 400) refl
  where
    laid : eqb (length (sets (replicate 400 0) 0 txt)) 400 ≡ true
    laid = eq-eqb _ _ (length-sets (replicate 400 0) 0 txt ∙ length-replicate {A = ℕ} 400 0)

    go : (a b : Bool) → leb (length txt) 400 ≡ b
        → ((a && b && eqb (length (sets (replicate 400 0) 0 txt)) 400) && strings_fill 0 (take (length txt) (sets (replicate 400 0) 0 txt)))
        ≡ (a && (b && strings_fill 0 txt))
    go true true e = rw (laid, laid-front 400 txt (leb-true (length txt) 400 e)) refl
    go true false e = refl
    go false b e = refl

-- what the rules ask but for TXT
others : (s : Setup) (txt : List ℕ) → valid_setup s ≡ true → valid_setup (with_txt s txt) ≡ txt_fits (strings_of txt)
unfolding valid_setup
others s txt =
    go (instance_fits s.instance) (service_fits s.service) (protocol_fits s.protocol) (label_fits s.host) (domain_fits s.domain) (txt_fits s.txt)
    (eqb (length s.a) 4 && eqb (length s.aaaa) 16) (txt_fits (strings_of txt))
  where
    go : (a b c d e f g x : Bool) → (a && (b && (c && (d && (e && (f && g)))))) ≡ true → (a && (b && (c && (d && (e && (x && g)))))) ≡ x
    go true true true true true true true true k = refl
    go true true true true true true true false k = refl
    go true true true true true true false x k = clash (sym k)
    go true true true true true false g x k = clash (sym k)
    go true true true true false f g x k = clash (sym k)
    go true true true false e f g x k = clash (sym k)
    go true true false d e f g x k = clash (sym k)
    go true false c d e f g x k = clash (sym k)
    go false b c d e f g x k = clash (sym k)

-- a set-up that keeps the rules keeps them with new data that do, and with no others
pub revised-valid : (s : Setup) (d : NewData) → valid_setup s ≡ true → valid_setup (revised s d) ≡ valid_data d
unfolding valid_data
revised-valid s (new_port port) h = port-valid s port ∙ h
revised-valid s (new_txt txt) h = others s txt h ∙ strings-fit txt
