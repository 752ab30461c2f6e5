-- Cases that meet the premises of the theorems, evaluated: so none of them is empty. The domains are "rich.example" and "ldh.example". Assumes nothing.
use Rattle.std.specs.Prelude.{Option, Some, None, Result, Ok, Err}
use mathlib.Core.Path.{◌≡◌, refl}
use mathlib.Core.List.{List, [], ◌∷◌, ◌++◌}
use mathlib.Core.Bool.{true, false}
use Prim.Native.Nat.{ℕ}
use lib.ListN.{length, replicate}
use Rattle.wire.specs.declared.refusals.Refusal.{Refusal}
use Rattle.wire.specs.declared.refusals.Refusal.TheVariants.{Time, TooLong}
use Rattle.wire.specs.refusals.Numbers.{number_in}
use Rattle.wire.specs.case_folding.Fold.{same_name}
use Rattle.wire.specs.name_pieces.Pieces.{piece_at}
use Rattle.wire.specs.names.Names.{name_at, from_run, read_from, labels_fill, is_name}
use Rattle.wire.specs.rdata.Rdata.{strings_fill, form_of, rdata_in, rdata_at}
use Rattle.wire.specs.message.Message.{Record, record_of}
use Rattle.wire.specs.message.Layout.{item, record_read, record_at}
use Rattle.cache.specs.declared.entries.Entry.{Entry}
use Rattle.cache.specs.entries.Cache.{entry_for, slot_for}
use Rattle.proxy.specs.domains.Under.{starts_at, is_under, moved, is_overlong}
use Rattle.proxy.specs.domains.Domains.{Domains, domains, are_domains, setup_refusal, local}
use Rattle.proxy.specs.questions.Questions.{is_below, inward, is_apex_type, is_negative, question_of}
use Rattle.proxy.specs.records.Records.{is_address, fits_type, outward, target_out, rdata_out, mapped, record_out, none_out}
use Rattle.proxy.specs.records.Held.{held_out}
use Rattle.proxy.specs.laws.Passing.{is_five}
use Rattle.proxy.specs.declared.domains.Moved.{Moved}
use Rattle.proxy.specs.declared.records.Fields.{Fields}
use Rattle.proxy.specs.declared.records.Passed.{Passed}

-- the fields of what is passed on, and the length of the name that is asked for
abbrev fields_of : Result (Option Passed) Refusal → Result (Option Fields) Refusal
fields_of (Ok (Some x)) = Ok (Some x.fields)
fields_of (Ok None) = Ok None
fields_of (Err refusal) = Err refusal

abbrev length_of : Result (Option Moved) Refusal → Result (Option ℕ) Refusal
length_of (Ok (Some m)) = Ok (Some m.len)
length_of (Ok None) = Ok None
length_of (Err refusal) = Err refusal

-- "example", "rich.example", "ldh.example"
abbrev example : List ℕ
example = 7 ∷ 101 ∷ 120 ∷ 97 ∷ 109 ∷ 112 ∷ 108 ∷ 101 ∷ 0 ∷ []

abbrev rich : List ℕ
rich = 4 ∷ 114 ∷ 105 ∷ 99 ∷ 104 ∷ example

abbrev ldh : List ℕ
ldh = 3 ∷ 108 ∷ 100 ∷ 104 ∷ example

abbrev d : Domains
d = domains rich ldh

-- the label "dock", and "LOCAL" as another device may spell it
abbrev dock : List ℕ
dock = 4 ∷ 100 ∷ 111 ∷ 99 ∷ 107 ∷ []

abbrev LOCAL : List ℕ
LOCAL = 5 ∷ 76 ∷ 79 ∷ 67 ∷ 65 ∷ 76 ∷ 0 ∷ []

-- the two are domains; one with itself, with one under it, and with the root, are not
set-up : (are_domains d ≡ true) × (setup_refusal (domains rich rich) ≡ 7) × (setup_refusal (domains example ldh) ≡ 7) × (setup_refusal (domains rich (0 ∷ [])) ≡ 7)
unfolding are_domains setup_refusal is_under starts_at same_name labels_fill
set-up = (refl, refl, refl, refl)

-- `at_most_one`: "dock.rich.example" lies under the one and not under the other
one_only : (is_name (dock ++ rich) ≡ true) × (is_under rich (dock ++ rich) ≡ true) × (is_under ldh (dock ++ rich) ≡ false)
unfolding is_under starts_at same_name labels_fill
one_only = (refl, refl, refl)

-- `out-and-back`: "dock.LOCAL" goes out and comes back as "dock.local"
out_back : (is_name (dock ++ LOCAL) ≡ true) × (is_under local (dock ++ LOCAL) ≡ true) × (is_overlong (outward d true (dock ++ LOCAL)) ≡ false)
    × (outward d true (dock ++ LOCAL) ≡ dock ++ ldh) × (outward d false (dock ++ LOCAL) ≡ dock ++ rich) × (inward d (dock ++ ldh) ≡ dock ++ local) ×
    (inward d (dock ++ rich) ≡ dock ++ local)
unfolding is_under starts_at same_name labels_fill outward inward moved
out_back = (refl, refl, refl, refl, refl, refl, refl)

-- `others-stay`: "dock.example", and "local" itself, stay
stay : (is_under local (dock ++ example) ≡ false) × (is_under local local ≡ false) × (is_below d (dock ++ example) ≡ false)
unfolding is_under starts_at same_name is_below
stay = (refl, refl, refl)

-- `only-whole`: an A of 120 seconds with the cache flush bit
an_a : Record
an_a = record_of (dock ++ local) 1 32769 120 (10 ∷ 0 ∷ 0 ∷ 7 ∷ [])

a-passes : fields_of (record_out d an_a) ≡ Ok (Some (record { owner = 18; rtype = 1; class = 1; ttl = 10; rdata = 4 }))
unfolding record_out mapped fits_type target_out rdata_out outward moved is_address are_domains is_under starts_at same_name
    labels_fill an_a
a-passes = refl

-- an SRV, whose target goes under the one domain and whose owner goes under the other
srv_passes : fields_of (record_out d (record_of (dock ++ local) 33 1 7 (0 ∷ 0 ∷ 0 ∷ 0 ∷ 15 ∷ 160 ∷ (dock ++ local))))
    ≡ Ok (Some (record { owner = 19; rtype = 33; class = 1; ttl = 7; rdata = 24 }))
unfolding record_out mapped fits_type target_out rdata_out outward moved is_address are_domains is_under starts_at same_name
    labels_fill
srv_passes = refl

-- an A of 5 bytes, and an NSEC, are left out
left_out_lem : (record_out d (record_of (dock ++ local) 1 1 120 (10 ∷ 0 ∷ 0 ∷ 7 ∷ 0 ∷ [])) ≡ Ok None) × (record_out d (record_of (dock ++ local) 47 1 120 []) ≡ Ok None)
unfolding record_out mapped fits_type target_out rdata_out outward moved is_address are_domains is_under starts_at same_name
    labels_fill
left_out_lem = (refl, refl)

-- `only-live`: 3,999 ms before it expires an entry's record is passed on for 3 seconds; at its expiry it is left out
heard : Record
heard = record_of (dock ++ local) 1 1 120 (10 ∷ 0 ∷ 0 ∷ 8 ∷ [])

entry : Entry
entry = entry_for 1000 heard

slot : List ℕ
slot = slot_for heard

held-passes : (fields_of (held_out d 117001 entry slot) ≡ Ok (Some (record { owner = 18; rtype = 1; class = 1; ttl = 3; rdata = 4 })))
    × (held_out d 121000 entry slot ≡ Ok None) × (held_out d 999 entry slot ≡ Err Time) × (number_in (held_out d 999 entry slot) ≡ 1)
unfolding held_out none_out record_out mapped fits_type target_out rdata_out outward moved
    is_address are_domains is_under starts_at same_name labels_fill heard entry slot
held-passes = (refl, refl, refl, refl)

-- `negative-exactly`: an SOA below an apex is answered at once; at the apex it is asked for, and so is an A below it
answers : (question_of d (dock ++ rich) 6 ≡ Ok None) × (length_of (question_of d rich 6) ≡ Ok (Some 14)) × (length_of (question_of d (dock ++ rich) 1) ≡ Ok (Some 12))
unfolding question_of is_negative is_apex_type is_below inward moved are_domains is_under starts_at same_name labels_fill
answers = (refl, refl, refl)

-- 13: four labels of 60 bytes under "local", 251 bytes, are too long under "rich.example"
long : List ℕ
long = (60 ∷ replicate 60 97) ++ ((60 ∷ replicate 60 97) ++ ((60 ∷ replicate 60 97) ++ (60 ∷ replicate 60 97)))

too_long_lem : (is_name (long ++ local) ≡ true) × (is_overlong (outward d false (long ++ local)) ≡ true)
    × (record_out d (record_of (long ++ local) 16 1 120 []) ≡ Err TooLong) × (number_in (record_out d (record_of (long ++ local) 16 1 120 [])) ≡ 13)
unfolding record_out mapped fits_type target_out rdata_out outward moved is_address are_domains is_under starts_at same_name
    labels_fill strings_fill long
too_long_lem = (refl, refl, refl, refl)

-- `read_whole`: an A as it lies in an announcement, 38 bytes
announced : List ℕ
announced = (0 ∷ 0 ∷ 132 ∷ 0 ∷ 0 ∷ 0 ∷ 0 ∷ 1 ∷ 0 ∷ 0 ∷ 0 ∷ 0 ∷ dock ++ local) ++ (0 ∷ 1 ∷ 128 ∷ 1 ∷ 0 ∷ 0 ∷ 0 ∷ 120 ∷ 0 ∷ 4 ∷ 10 ∷ 0 ∷ 0 ∷ 7 ∷ [])

lying : (record_at announced 12 ≡ item an_a 38) × (is_five 1 ≡ true)
unfolding record_at record_read name_at from_run read_from piece_at rdata_at rdata_in is_five announced an_a
lying = (refl, refl)

-- `data-kept`: TXT (16) holds no name, and SRV (33) six bytes before its name, which an SRV for "dock.LOCAL" has
data_forms : ((form_of 16).named ≡ false) × ((form_of 33).before ≡ 6) × (length (replicate 6 0 ++ (dock ++ LOCAL)) ≡ 18)
data_forms = (refl, refl, refl)
