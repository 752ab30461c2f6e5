-- Where an item of a section, or a section, ends. Assumes nothing: these are definitions.
use Rattle.std.specs.Prelude.{None, Option, Some}
use Rattle.std.specs.Prelude.{ℕ}
use Rattle.wire.specs.message.Layout.{Item, item, broken, Listing, listing, cut}

abbrev pub past_item : {A : Type 0} → Item A → Option ℕ
past_item (item x next) = Some next
past_item broken = None

abbrev pub past_list : {A : Type 0} → Listing A → Option ℕ
past_list (listing xs end) = Some end
past_list cut = None
