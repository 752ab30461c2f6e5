-- "The largest packet must still fit 1,452 bytes": what own records take with their names whole. Assumes nothing.
use mathlib.Core.Path.{◌≡◌, refl, ap, ap₂, ◌∙◌}
use mathlib.Core.List.{List, [], ◌∷◌}
use mathlib.Core.Bool.{Bool, true, false, cond, ◌&&◌}
use Prim.Native.Nat.{ℕ, ◌+◌, ◌≤◌}
use native.Mathlib.Omega.{arith}
use lib.ListN.{length, length-append}
use Rattle.wire.specs.labels.Labels.{encode}
use Rattle.wire.specs.labels.Counted.{labels_in}
use Rattle.wire.specs.nsec.Nsec.{names, is_block}
use Rattle.wire.proofs.labels.Encoded.{is_name_lem}
use Rattle.writer.proofs.compression.Written.{labels_in_lem}
use Rattle.claims.specs.records.Own.{all, first_of, claimed, has}
use Rattle.claims.specs.records.Sets.{picked, with_data}
use Rattle.claims.specs.declared.records.Claim.{Claim}
use Rattle.claims.specs.declared.records.Claim.TheVariants.{Instance, Host}
use Rattle.claims.specs.declared.records.Own.{Own}
use Rattle.claims.specs.declared.records.Own.TheVariants.{Ptr, Srv, Txt, A, Aaaa, InstanceNsec, HostNsec}
use Rattle.claims.specs.declared.records.Set.{Set}
use Rattle.claims.proofs.records.Sets.{by-record}
use Rattle.own.specs.declared.records.Setup.{Setup}
use Rattle.own.specs.records.Setups.{service_labels, instance_labels, host_labels}
use Rattle.own.specs.records.Records.{has_record, own_labels, own_name, own_rdata, srv_rdata, instance_types, host_types}
use Rattle.own.proofs.records.Valid.{Valid, service-most, instance-most, host-most, service-name, instance-name, host-name}
use Rattle.wire.specs.rdata.Rdata.{form_of}
use Rattle.writer.specs.Fit.{form_for}
use Rattle.writer.specs.Writer.{labels_for}
use Rattle.writer.proofs.Rdata.{held-rest}
use Rattle.writer.proofs.Fitting.{again-labels}
use Rattle.writer.specs.own_packets.Own.{response_records, probe_records, plain_records}
use Rattle.writer.specs.own_packets.Ready.{size_of, labels_of, sizes, label_counts}

-- the types of an own NSEC are a window block
pub instance-block : is_block instance_types ≡ true
unfolding is_block names
instance-block = refl

pub host-block : (aaaa : Bool) → is_block (host_types aaaa) ≡ true
unfolding is_block names
host-block true = refl
host-block false = refl

-- picking leaves out
sizes-picked : (s : Setup) (f : Own → Bool) (is : List Own) → sizes s (picked f is) ≤ sizes s is
unfolding sizes picked
sizes-picked s f [] = omega arith
sizes-picked s f (i ∷ is) = go (f i) (sizes-picked s f is)
  where
    go : (b : Bool) → sizes s (picked f is) ≤ sizes s is → sizes s (cond b (i ∷ picked f is) (picked f is)) ≤ size_of s i + sizes s is
    go true h = omega arith
    go false h = omega arith

labels-picked : (s : Setup) (f : Own → Bool) (is : List Own) → label_counts s (picked f is) ≤ label_counts s is
unfolding label_counts picked
labels-picked s f [] = omega arith
labels-picked s f (i ∷ is) = go (f i) (labels-picked s f is)
  where
    go : (b : Bool) → label_counts s (picked f is) ≤ label_counts s is → label_counts s (cond b (i ∷ picked f is) (picked f is)) ≤ labels_of s i + label_counts s is
    go true h = omega arith
    go false h = omega arith

module _ (s : Setup) (ok : Valid s) where
  ptr_size : size_of s Ptr ≤ 132
  unfolding own_name own_labels own_rdata
  ptr_size = omega (arith, service-most s ok, instance-most s ok)

  srv_size : size_of s Srv ≤ 180
  unfolding own_name own_labels own_rdata srv_rdata
  srv_size = omega (arith, instance-most s ok, host-most s ok)

  txt-size : size_of s Txt ≤ 503
  unfolding own_name own_labels own_rdata
  txt-size = omega (arith, instance-most s ok, ok.txt.1)

  a-size : size_of s A ≤ 85
  unfolding own_name own_labels own_rdata
  a-size = omega (arith, host-most s ok, ok.four)

  aaaa-size : size_of s Aaaa ≤ 97
  unfolding own_name own_labels own_rdata
  aaaa-size = omega (arith, host-most s ok, ok.sixteen)

  instance-nsec_size : size_of s InstanceNsec ≤ 203
  unfolding own_name own_labels own_rdata
  instance-nsec_size = omega (arith, instance-most s ok, length-append (encode (instance_labels s)) instance_types)

  host-types : (aaaa : Bool) → length (host_types aaaa) ≤ 6
  host-types true = omega arith
  host-types false = omega arith

  host-nsec_size : size_of s HostNsec ≤ 158
  unfolding own_name own_labels own_rdata
  host-nsec_size = omega (arith, host-most s ok, host-types s.hasaaaa, length-append (encode (host_labels s)) (host_types s.hasaaaa))

  pub own_size : (o : Own) → size_of s o ≤ 503
  own_size =
      by-record (λ o. size_of s o ≤ 503) (omega (arith, ptr_size)) (omega (arith, srv_size)) txt-size (omega (arith, a-size)) (omega (arith, aaaa-size))
      (omega (arith, instance-nsec_size)) (omega (arith, host-nsec_size))

  instance-labels : labels_in (encode (instance_labels s)) ≡ 4
  unfolding instance_labels service_labels
  instance-labels = labels_in_lem 0 (instance-name s ok).labels

  service-labels : labels_in (encode (service_labels s)) ≡ 3
  unfolding service_labels
  service-labels = labels_in_lem 0 (service-name s ok).labels

  host-labels : labels_in (encode (host_labels s)) ≡ 2
  unfolding host_labels
  host-labels = labels_in_lem 0 (host-name s ok).labels

  ptr_labels : labels_of s Ptr ≡ 7
  unfolding own_name own_labels own_rdata form_for labels_for
  ptr_labels = omega (arith, service-labels, instance-labels, ap labels_in (held-rest (form_of 12) (encode (instance_labels s)) refl))

  srv_labels : labels_of s Srv ≡ 6
  unfolding own_name own_labels own_rdata form_for labels_for srv_rdata
  srv_labels = omega (arith, instance-labels, host-labels, ap labels_in (held-rest (form_of 33) (srv_rdata s) refl))

  txt-labels : labels_of s Txt ≡ 4
  unfolding own_name own_labels own_rdata form_for labels_for
  txt-labels = omega (arith, instance-labels)

  a-labels : labels_of s A ≡ 2
  unfolding own_name own_labels own_rdata form_for labels_for
  a-labels = omega (arith, host-labels)

  aaaa-labels : labels_of s Aaaa ≡ 2
  unfolding own_name own_labels own_rdata form_for labels_for
  aaaa-labels = omega (arith, host-labels)

  instance-nsec_labels : labels_of s InstanceNsec ≡ 8
  unfolding own_name own_labels own_rdata
  instance-nsec_labels =
      let name : List ℕ = encode (instance_labels s) in
      ap₂ (λ (x y : ℕ). x + y) instance-labels (again-labels name instance_types (is_name_lem (instance-name s ok)) instance-block ∙ instance-labels)

  host-nsec_labels : labels_of s HostNsec ≡ 4
  unfolding own_name own_labels own_rdata
  host-nsec_labels =
      let name : List ℕ = encode (host_labels s) in
      ap₂ (λ (x y : ℕ). x + y) host-labels
      (again-labels name (host_types s.hasaaaa) (is_name_lem (host-name s ok)) (host-block s.hasaaaa) ∙ host-labels)

  -- all of them, with their names whole
  pub response_size : (chosen : Set) → sizes s (response_records s chosen) ≤ 1358
  unfolding response_records sizes
  response_size chosen =
      omega (
        arith,
        sizes-picked s (λ (o : Own). has o chosen && has_record s o) all,
        ptr_size,
        srv_size,
        txt-size,
        a-size,
        aaaa-size,
        instance-nsec_size,
        host-nsec_size,
      )

  pub response_labels : (chosen : Set) → label_counts s (response_records s chosen) ≤ 33
  unfolding response_records label_counts
  response_labels chosen =
      omega (
        arith,
        labels-picked s (λ (o : Own). has o chosen && has_record s o) all,
        ptr_labels,
        srv_labels,
        txt-labels,
        a-labels,
        aaaa-labels,
        instance-nsec_labels,
        host-nsec_labels,
      )

  -- those that carry data
  abbrev five : List Own
  five = Ptr ∷ Srv ∷ Txt ∷ A ∷ Aaaa ∷ []

  of_five : (chosen : Set) → plain_records s chosen ≡ picked (λ o. has o (with_data chosen) && has_record s o) five
  unfolding plain_records response_records picked with_data
  of_five chosen = refl

  pub plain_size : (chosen : Set) → sizes s (plain_records s chosen) ≤ 997
  unfolding sizes
  plain_size chosen =
      rw (of_five chosen)
      (omega (arith, sizes-picked s (λ (o : Own). has o (with_data chosen) && has_record s o) five, ptr_size, srv_size, txt-size, a-size, aaaa-size))

  pub plain-labels : (chosen : Set) → label_counts s (plain_records s chosen) ≤ 21
  unfolding label_counts
  plain-labels chosen =
      rw (of_five chosen)
      (omega (arith, labels-picked s (λ (o : Own). has o (with_data chosen) && has_record s o) five, ptr_labels, srv_labels, txt-labels, a-labels, aaaa-labels))

  pub probe-size : (claim : Claim) → sizes s (probe_records s claim) ≤ 683
  unfolding probe_records sizes
  probe-size Instance = omega (arith, sizes-picked s (has_record s) (claimed Instance), srv_size, txt-size)
  probe-size Host = omega (arith, sizes-picked s (has_record s) (claimed Host), a-size, aaaa-size)

  pub probe-labels : (claim : Claim) → label_counts s (probe_records s claim) ≤ 10
  unfolding probe_records label_counts
  probe-labels Instance = omega (arith, labels-picked s (has_record s) (claimed Instance), srv_labels, txt-labels)
  probe-labels Host = omega (arith, labels-picked s (has_record s) (claimed Host), a-labels, aaaa-labels)

  pub claim_size_lem : (claim : Claim) → length (own_name s (first_of claim)) ≤ 93
  unfolding own_name own_labels
  claim_size_lem Instance = instance-most s ok
  claim_size_lem Host = omega (arith, host-most s ok)

  pub claim_labels : (claim : Claim) → labels_in (own_name s (first_of claim)) ≤ 4
  unfolding own_name own_labels
  claim_labels Instance = omega (arith, instance-labels)
  claim_labels Host = omega (arith, host-labels)
