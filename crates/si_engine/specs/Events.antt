-- Events as short items, beside which the others are kept whole.
use Rattle.std.specs.Prelude.{ℕ, ◌+◌, ◌^◌, ◌<◌, ⊤, List, [], ◌∷◌, Option, Some, None}
use Rattle.si_engine.specs.declared.event.Event.{Event}
use Rattle.si_engine.specs.declared.event.Event.TheVariants.{Begin, BeginAt, Step, Commit, Abort, Vacuum}
use Rattle.si_engine.specs.declared.input.events.Item.{Item}
use Rattle.si_engine.specs.declared.input.events.Item.TheVariants as item
use Rattle.si_engine.specs.declared.input.events.NextEvent.{NextEvent}
use Rattle.si_engine.specs.declared.input.events.NextEvent.TheVariants as next

-- the event that an item says, if it isn't kept whole
abbrev pub said_by : Item → Option Event
said_by (item.Step instance) = Some (Step instance)
said_by (item.Commit instance) = Some (Commit instance)
said_by (item.Abort instance) = Some (Abort instance)
said_by item.Vacuum = Some Vacuum
said_by item.Kept = None

-- an event has an item of its own: it is no begin, and its instance's number has room in 32 bits
abbrev pub HasItem : Event → Type 0
HasItem (Step instance) = instance < 2 ^ 32
HasItem (Commit instance) = instance < 2 ^ 32
HasItem (Abort instance) = instance < 2 ^ 32
HasItem Vacuum = ⊤
HasItem (Begin program args) = ⊥
HasItem (BeginAt start program args) = ⊥

-- an event before others, or else the first of those that are kept
abbrev pub before_others : Option Event → (List Event → List Event) → (kept : List Event) → List Event
before_others (Some event) others kept = event ∷ others kept
before_others None others (event ∷ kept) = event ∷ others kept
before_others None others [] = []

-- the events that items stand for, in their order: where an item says none, it is the next of those that are kept
abbrev pub events_by : List Item → (kept : List Event) → List Event
events_by [] kept = []
events_by (item ∷ items) kept = before_others (said_by item) (events_by items) kept

-- how many events of an item are kept
abbrev pub kept_beside : Option Event → ℕ
kept_beside (Some event) = 0
kept_beside None = 1

-- how many events of items are kept
abbrev pub kept_by : List Item → ℕ
kept_by [] = 0
kept_by (item ∷ items) = kept_beside (said_by item) + kept_by items

-- the event that comes next
abbrev pub next_event : NextEvent → Event
next_event (next.Made event) = event
next_event (next.Kept event) = event.now
