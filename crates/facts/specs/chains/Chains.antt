-- Where chains of pointers end, as it is noted of a message that was read, and what the private functions ask of such a table. Assumes nothing: these are
-- definitions.
use Rattle.std.specs.Prelude.{ℕ, ◌<◌, ◌≤◌, ◌≡◌, List, length, get_or}
use Rattle.wire.specs.names.Answers.{Chased, or_later}
use Rattle.wire.specs.message.Layout.{Item, item, listing, list_from, question_at, record_at}
use Rattle.wire.specs.declared.message.Layout.{Layout}

-- what is noted of an offset: where the chain from there ends, and 0, or no entry, where nothing is
unfoldable pub end_of : List ℕ → ℕ → ℕ
end_of ends t = or_later (get_or ends t 0) t

-- a name goes on alike at each offset and at the end that is noted of it
pub record Ends (p ends : List ℕ) : Type 0 where
  pub at : (t used : ℕ) → Chased p used t (end_of ends t)

-- something of a section stands at an offset
abbrev pub Stands : {A : Type 0} → (ℕ → Item A) → ℕ → Type 0
Stands {A} part at = (x : A) × ((next : ℕ) × (part at ≡ item x next))

-- a section is well formed to its end
abbrev pub Complete : {A : Type 0} → (ℕ → Item A) → ℕ → ℕ → Type 0
Complete {A} part n at = (xs : List A) × ((e : ℕ) × (list_from part n at ≡ listing xs e))

-- where a table has entries the section is
abbrev pub Whole : {A : Type 0} → (ℕ → Item A) → List ℕ → ℕ → ℕ → Type 0
Whole part ends n at = 0 < length ends → Complete part n at

-- the four sections are, in a packet that a table has entries enough for
pub record WholeLayout (p : List ℕ) (l : Layout) : Type 0 where
  pub fits : length p ≤ 8972
  pub questions : Complete (question_at p) l.questions.count l.questions.at
  pub answers : Complete (record_at p) l.answers.count l.answers.at
  pub authorities : Complete (record_at p) l.authorities.count l.authorities.at
  pub additionals : Complete (record_at p) l.additionals.count l.additionals.at

-- a table of a packet, and the sections that are walked with it
pub record Walkable (p ends : List ℕ) (l : Layout) : Type 0 where
  pub noted : Ends p ends
  pub questions : Whole (question_at p) ends l.questions.count l.questions.at
  pub answers : Whole (record_at p) ends l.answers.count l.answers.at
  pub authorities : Whole (record_at p) ends l.authorities.count l.authorities.at
  pub additionals : Whole (record_at p) ends l.additionals.count l.additionals.at
